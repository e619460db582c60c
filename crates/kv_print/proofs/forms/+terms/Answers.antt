use Rattle.std.proofs.Common.{◌≡◌, ◌<◌, List, [], ◌∷◌, ◌++◌, length, refl, arith}
use Rattle.std.specs.Prelude.{codes}
use Rattle.std.proofs.lemmas.Bool.Decides.{nat_tests}
use Rattle.std.proofs.lemmas.Grind.{common_steps}
use Rattle.kv_raw.specs.RawBridge.{raw_terms}
use Rattle.kv_raw.specs.declared.raws.RawTerm.{RawTerm}
use Rattle.kv_print.specs.Forms.{in_brackets, terms_pieces}
use Rattle.kv_print.specs.Pieces.{Piece}
use Rattle.kv_print.specs.Pieces.Piece.{Mark}
use Rattle.kv_print.proofs.Spelling.{spell_append}
use Rattle.kv_print.proofs.forms.+terms.Goals as goal

some_terms : (ts : List RawTerm) (inner : List Piece) → 0 < length ts → in_brackets (raw_terms ts) inner ≡ Mark (codes "(") ∷ (inner ++ (Mark (codes ")") ∷ []))
some_terms [] inner some = absurd (omega arith)
some_terms (t ∷ ts) inner some = refl

pub push_arguments-returns : goal.push_arguments-returns
push_arguments-returns t c =
    let some : 0 < length c.args.args.now = grind (arith, nat_tests) in
    let e = some_terms c.args.args.now (terms_pieces (raw_terms c.args.args.now)) some in
    rw e (grind (arith, common_steps, spell_append))

use Rattle.std.proofs.Common.{rules, List, map}
use Rattle.std.specs.Prelude.{Err}
use Rattle.std.specs.Borrow.{Bor}
use Rattle.kv_lex.specs.declared.token.Token.{Token}
use Rattle.kv_table.specs.Keywords as word
use Rattle.kv_syn.specs.ProjectBridge.{plain_proof, plain_theorem, plain_unit}
use Rattle.kv_pexpr.specs.Gives.{kinds}
use Rattle.kv_punit.specs.Gives.{seen, Finds}
use Rattle.kv_punit.specs.Ends.{WholeUnit}
use Rattle.kv_punit.proofs.Runs.{no_head, no_theorems, no_proofs, theorem_behind, whole_found, word_there, word_gone}
use Rattle.kv_punit.proofs.units.whole_unit.Goals as goal

pub returns-in_err-unit-clause-reads : goal.returns-in_err-unit-clause-reads
returns-in_err-unit-clause-reads c =
    let h : Finds (seen plain_unit) (WholeUnit (kinds c.args.tokens.now)) (Err c.in_err-unit.field-0.0) = no_head (kinds c.args.tokens.now) (seen plain_unit) (seen plain_unit) c.in_err-unit.field-0.0 c.in_err-unit.ensures.reads in
    search rules

pub returns-in_err-theorems-clause-reads : goal.returns-in_err-theorems-clause-reads
returns-in_err-theorems-clause-reads c =
    let h : Finds (seen plain_unit) (WholeUnit (kinds c.args.tokens.now)) (Err c.in_err-theorems.field-0.0) = no_theorems (kinds c.args.tokens.now) (plain_unit c.in_ok-unit.unit) (kinds c.in_ok-unit.rest.now) c.in_ok-unit.ensures.reads (seen (map plain_theorem)) (seen plain_unit) c.in_err-theorems.field-0.0 c.in_err-theorems.ensures in
    search rules

pub returns-in_err-proofs-clause-reads : goal.returns-in_err-proofs-clause-reads
returns-in_err-proofs-clause-reads c =
    let h : Finds (seen plain_unit) (WholeUnit (kinds c.args.tokens.now)) (Err c.in_err-proofs.field-0.0) = no_proofs (kinds c.args.tokens.now) (plain_unit c.in_ok-unit.unit) (kinds c.in_ok-unit.rest.now) c.in_ok-unit.ensures.reads
    (map plain_theorem c.in_ok-theorems.theorems) (kinds c.in_ok-theorems.rest.now) c.in_ok-theorems.ensures (seen (map plain_proof)) (seen plain_unit) c.in_err-proofs.field-0.0 c.in_err-proofs.ensures in
    search rules

pub returns-then-is_some-clause-reads : goal.returns-then-is_some-clause-reads
returns-then-is_some-clause-reads c =
    theorem_behind (kinds c.args.tokens.now) (plain_unit c.in_ok-unit.unit) (kinds c.in_ok-unit.rest.now) c.in_ok-unit.ensures.reads
    (map plain_theorem c.in_ok-theorems.theorems) (kinds c.in_ok-theorems.rest.now) c.in_ok-theorems.ensures (map plain_proof c.in_ok-proofs.proofs) (kinds c.in_ok-proofs.rest.now) c.in_ok-proofs.ensures (word_there (λ (rest : Bor (List Token)). kinds rest.now) c.eat_word.result word.THEOREM (kinds c.in_ok-proofs.rest.now) c.eat_word.ensures (search rules))

pub returns-clause-reads : goal.returns-clause-reads
returns-clause-reads c =
    whole_found (kinds c.args.tokens.now) (plain_unit c.in_ok-unit.unit) (kinds c.in_ok-unit.rest.now) c.in_ok-unit.ensures.reads
    (map plain_theorem c.in_ok-theorems.theorems) (kinds c.in_ok-theorems.rest.now) c.in_ok-theorems.ensures (map plain_proof c.in_ok-proofs.proofs) (kinds c.in_ok-proofs.rest.now) c.in_ok-proofs.ensures (word_gone (λ (rest : Bor (List Token)). kinds rest.now) c.eat_word.result word.THEOREM (kinds c.in_ok-proofs.rest.now) c.eat_word.ensures (search rules))

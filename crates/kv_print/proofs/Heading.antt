-- The first line of a project, and the units behind it.
use Rattle.std.proofs.Common.{◌≡◌, ℕ, List, [], ◌∷◌, ◌++◌, refl, ap, ◌∙◌, sym, map, arith}
use Rattle.std.specs.Prelude.{codes, flat_map}
use Rattle.std.proofs.lemmas.Fmt.{decimal_digit}
use Rattle.kv_syn.specs.Projects as P
use Rattle.kv_syn.specs.ProjectBridge.{plain_unit}
use Rattle.kv_syn.specs.declared.units.Unit.{Unit as UnitTree}
use Rattle.kv_print.specs.Layout.{project_text, unit_pieces}
use Rattle.kv_print.specs.Pieces.{spell}

heading : (project : P.Project) → project_text project ≡ (codes "project 1" ++ 10 ∷ []) ++ spell (flat_map unit_pieces project)
heading project = rw (decimal_digit 1 (omega arith)) refl

pub whole_text : (text first : List ℕ) (units same : List UnitTree) → text ≡ first ++ spell (flat_map unit_pieces (map plain_unit same)) → same ≡ units → first ≡ codes "project 1" ++ 10 ∷ []
    → text ≡ project_text (map plain_unit units)
whole_text text first units same e f g =
    e ∙ ap (λ (us : List UnitTree). first ++ spell (flat_map unit_pieces (map plain_unit us))) f ∙ ap (λ (line : List ℕ). line ++ spell (flat_map unit_pieces (map plain_unit units))) g
    ∙ sym (heading (map plain_unit units))

use Rattle.std.proofs.Common.{◌≡◌, drop, map}
use Rattle.std.specs.List.{list_any}
use Rattle.std.specs.Str.{bytes_eq}
use Rattle.kv_sig.specs.FreeNames.{free_forms}
use Rattle.kv_names.specs.declared.symbols.Var.{Var}
use Rattle.kv_goal.specs.Goals.{plain_known}
use Rattle.kv_goal.proofs.goals.have_variable.Given as goal

abbrev pub invariant-loop-known : goal.invariant-loop-known
invariant-loop-known l = list_any (λ (y : Var). bytes_eq y.name l.name) (free_forms (map plain_known (drop l.known-index l.knowns))) ≡ list_any (λ (y : Var). bytes_eq y.name l.name) (free_forms (map plain_known l.knowns))

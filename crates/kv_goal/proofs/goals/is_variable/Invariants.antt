use Rattle.std.proofs.Common.{◌≡◌, drop}
use Rattle.std.specs.List.{list_any}
use Rattle.std.specs.Str.{bytes_eq}
use Rattle.kv_names.specs.declared.symbols.Var.{Var}
use Rattle.kv_goal.proofs.goals.is_variable.Given as goal

abbrev pub invariant-loop-variable : goal.invariant-loop-variable
invariant-loop-variable l = list_any (λ (y : Var). bytes_eq y.name l.name) (drop l.variable-index l.variables) ≡ list_any (λ (y : Var). bytes_eq y.name l.name) l.variables

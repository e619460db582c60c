use Rattle.std.proofs.Common.{ℕ, List, drop}
use Rattle.std.specs.Borrow.{Bor}
use Rattle.std.specs.Str.{bytes_eq}
use Rattle.kv_names.specs.declared.symbols.Var.{Var}
use Rattle.kv_goal.proofs.Keys.{Names, names_agree}
use Rattle.kv_goal.proofs.Seen.{SoFar}
use Rattle.kv_goal.proofs.once.variables_once.Given as goal

abbrev pub invariant-loop-variable : goal.invariant-loop-variable
invariant-loop-variable l = SoFar (λ (k q : Bor (List ℕ)). bytes_eq k.now q.now) (λ (x y : Var). bytes_eq x.name y.name) (Names (λ (x : Var). x.name)) (names_agree (λ (x : Var). x.name)) l.names l.free (drop l.variable-index l.all) l.all

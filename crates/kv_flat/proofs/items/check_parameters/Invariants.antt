use Rattle.std.proofs.Common.{drop, map}
use Rattle.std.specs.Borrow.{Bor}
use Rattle.kv_names.specs.declared.symbols.Var.{Var}
use Rattle.kv_flat.proofs.Parameters.{SoFar}
use Rattle.kv_flat.proofs.items.check_parameters.Given as goal

abbrev pub invariant-loop-parameter : goal.invariant-loop-parameter
invariant-loop-parameter l = SoFar l.sig l.before (map (λ (x : Bor Var). x.now) (drop l.parameter-index l.parameters)) (map (λ (x : Bor Var). x.now) l.parameters)

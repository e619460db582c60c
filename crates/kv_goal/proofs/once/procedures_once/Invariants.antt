use Rattle.std.proofs.Common.{ℕ, List, drop}
use Rattle.std.specs.Borrow.{Bor}
use Rattle.std.specs.Str.{bytes_eq}
use Rattle.kv_names.specs.Names.{Name}
use Rattle.kv_names.specs.declared.symbols.Profile.{Profile}
use Rattle.kv_goal.proofs.Keys.{Names, names_agree}
use Rattle.kv_goal.proofs.Seen.{SoFar}
use Rattle.kv_goal.proofs.once.procedures_once.Given as goal

abbrev pub invariant-loop-procedure : goal.invariant-loop-procedure
invariant-loop-procedure l = SoFar (λ (k q : Bor (List ℕ)). bytes_eq k.now q.now) (λ (x y : Name × Profile). bytes_eq x.0 y.0) (Names (λ (x : Name × Profile). x.0)) (names_agree (λ (x : Name × Profile). x.0)) l.names l.assumed (drop l.procedure-index l.all) l.all

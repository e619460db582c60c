use Rattle.std.proofs.Common.{ℕ, List, drop}
use Rattle.std.specs.Borrow.{Bor}
use Rattle.std.specs.Str.{bytes_eq}
use Rattle.kv_names.specs.Names.{Name}
use Rattle.kv_goal.proofs.Keys.{Names, names_agree}
use Rattle.kv_goal.proofs.Seen.{SoFar}
use Rattle.kv_script.proofs.once.labels_once.Given as goal

abbrev pub invariant-loop-label : goal.invariant-loop-label
invariant-loop-label l = SoFar (λ (k q : Bor (List ℕ)). bytes_eq k.now q.now) bytes_eq (Names (λ (n : Name). n)) (names_agree (λ (n : Name). n)) l.before l.seen (drop l.label-index l.labels) l.labels

use Rattle.std.proofs.Common.{◌≡◌, ℕ, List, take, map}
use Rattle.std.specs.Borrow.{Bor}
use Rattle.std.specs.HashSet as bag
use Rattle.std.specs.List.{IsDistinct, list_any}
use Rattle.std.specs.Str.{bytes_eq}
use Rattle.kv_punit.proofs.names.are_different.Given as goal

abbrev pub invariant-loop-name : goal.invariant-loop-name
invariant-loop-name l = record {
  differ : IsDistinct bytes_eq (map (λ (n : Bor (List ℕ)). n.now) (take l.name-index l.names));
  seen : (q : Bor (List ℕ)) → bag.contains (λ (a b : Bor (List ℕ)). bytes_eq a.now b.now) l.seen q ≡ list_any (bytes_eq q.now) (map (λ (n : Bor (List ℕ)). n.now) (take l.name-index l.names));
}

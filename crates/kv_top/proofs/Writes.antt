-- Pieces that are written one after another.
use Rattle.std.proofs.Common.{◌≤◌, ◌+◌, ℕ, List, [], Option, Some, None, ◌++◌, take, drop, length, sym, ap, ◌∙◌, append_assoc, arith}
use Rattle.std.proofs.Math.Seq.{take-add}
use Rattle.std.proofs.lemmas.List.{append-nil, length-drop}
use Rattle.kv_io.specs.Outside.{Adds, AddsFront}

pub adds-more : {old mid new : Option (List ℕ)} {p q : List ℕ} → Adds old p mid → Adds mid q new → Adds old (p ++ q) new
adds-more {old} {mid} {new} {p} {q} a b = elim old as (λ o. Adds o p mid → Adds o (p ++ q) new) [
  | None ↦ λ a. record { told = tt }
  | (Some bytes) ↦ λ a. record { told = (rw a.told at b).told ∙ ap Some (append_assoc bytes p q) }
] a

pub adds-front : {old mid new : Option (List ℕ)} (bytes : List ℕ) (at : ℕ) → at ≤ length bytes → Adds old (take at bytes) mid → AddsFront mid (drop at bytes) new → AddsFront old bytes new
adds-front {old} {mid} {new} bytes at h a b = elim old as (λ o. Adds o (take at bytes) mid → AddsFront o bytes new) [
  | None ↦ λ a. record { told = tt }
  | (Some all) ↦ λ a. let (n, within, e) = (rw a.told at b).told in
      record { told = (at + n, omega (arith, length-drop at bytes), e ∙ ap Some (append_assoc all (take at bytes) (take n (drop at bytes)) ∙ ap (λ r. all ++ r) (sym (take-add at n bytes)))) }
] a

pub adds-none : (wrote : Option (List ℕ)) → Adds wrote [] wrote
adds-none None = record { told = tt }
adds-none (Some bytes) = record { told = ap Some (sym (append-nil bytes)) }

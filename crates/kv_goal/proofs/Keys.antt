-- Keys that stand for what has a name.
use Rattle.std.proofs.Common.{◌≡◌, ℕ, List, ap₂, ◌∙◌}
use Rattle.std.proofs.lemmas.Cmp.{nat_list_eq_equiv}
use Rattle.std.specs.Borrow.{Bor}
use Rattle.std.specs.Str.{bytes_eq}
use Rattle.kv_names.specs.Names.{Name}

-- bytes stand for the item that they name
abbrev pub Names : {T : Type 0} → (T → Name) → Bor (List ℕ) → T → Type 0
Names name key x = key.now ≡ name x

pub names_agree : {T : Type 0} (name : T → Name) (k q : Bor (List ℕ)) (x z : T) → Names name k x → Names name q z → bytes_eq k.now q.now ≡ bytes_eq (name z) (name x)
names_agree name k q x z e f = ap₂ bytes_eq e f ∙ nat_list_eq_equiv.symm (name x) (name z)

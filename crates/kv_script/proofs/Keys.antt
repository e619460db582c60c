-- Keys that stand for looks.
use Rattle.std.proofs.Common.{◌≡◌, Bool, refl, ap₂, ◌∙◌}
use Rattle.std.proofs.lemmas.Cmp.{nat_list_eq_equiv}
use Rattle.kv_syn.specs.declared.outcomes.Look.{Look}
use Rattle.kv_script.specs.Keys.{look_of}
use Rattle.kv_script.specs.Once.{look_eq}
use Rattle.kv_script.specs.contracts.once.AskedPartialEq.TheImpl as derived
use Rattle.kv_script.specs.declared.once.Asked.{Asked}
use Rattle.kv_script.specs.declared.once.Asked.TheVariants as asked

abbrev pub asked_eq : Asked → Asked → Bool
asked_eq = derived.eq-value.it

-- a key stands for its look
abbrev pub Asks : Asked → Look → Type 0
Asks key x = look_of key ≡ x

keys_agree : (k q : Asked) → asked_eq k q ≡ look_eq (look_of q) (look_of k)
keys_agree (asked.Symbol a) (asked.Symbol b) = nat_list_eq_equiv.symm a.now b.now
keys_agree (asked.Label a) (asked.Label b) = nat_list_eq_equiv.symm a.now b.now
keys_agree (asked.Generation a) (asked.Generation b) = nat_list_eq_equiv.symm a.now b.now
keys_agree (asked.Body a) (asked.Body b) = nat_list_eq_equiv.symm a.now b.now
keys_agree asked.Rules asked.Rules = refl
keys_agree _ _ = refl

pub asks_agree : (k q : Asked) (x z : Look) → Asks k x → Asks q z → asked_eq k q ≡ look_eq z x
asks_agree k q x z e f = keys_agree k q ∙ ap₂ look_eq f e

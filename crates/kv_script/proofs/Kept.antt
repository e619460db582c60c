-- What is asked is all told, each look once.
use Rattle.std.proofs.Common.{true, List, ◌≡◌, refl, ap}
use Rattle.std.proofs.lemmas.Slice.Eq.{bytes_eq-Decides}
use Rattle.kv_calc.proofs.Members.{every_in, every_of}
use Rattle.kv_script.proofs.Onces.{once_in}
use Rattle.kv_script.specs.Once.{look_eq, looks_once}
use Rattle.kv_sig.specs.Members.{Every}
use Rattle.kv_syn.specs.declared.outcomes.Look.{Look}
use Rattle.kv_syn.specs.declared.outcomes.Look.TheVariants.{Symbol, Label, Generation, Body, Rules}

look_is : (x y : Look) → look_eq x y ≡ true → x ≡ y
look_is (Symbol a) (Symbol b) e = ap Symbol ((bytes_eq-Decides a b).0 e)
look_is (Label a) (Label b) e = ap Label ((bytes_eq-Decides a b).0 e)
look_is (Generation a) (Generation b) e = ap Generation ((bytes_eq-Decides a b).0 e)
look_is (Body a) (Body b) e = ap Body ((bytes_eq-Decides a b).0 e)
look_is Rules Rules e = refl
look_is _ _ e = cc

pub every_asked : (P : Look → Type 0) (xs : List Look) → Every P (looks_once xs) → Every P xs
every_asked P xs e = every_of P xs (λ x i. every_in P (looks_once xs) e x (once_in look_eq look_is xs x i))

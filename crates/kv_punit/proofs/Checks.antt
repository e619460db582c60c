-- What the tests of the reader say.
use Rattle.std.proofs.Common.{ℕ, ◌≡◌, ◌≤◌, List, [], ◌∷◌, refl, inl, inr}
use Rattle.std.specs.Prelude.{Bool, true, false, ◌&&◌, nat_le}
use Rattle.std.specs.List.{All, list_all}
use Rattle.std.proofs.lemmas.Bool.{le-leb}
use Rattle.std.proofs.lemmas.Bool.Decides.{leb_tells}
use Rattle.std.proofs.lemmas.List.Elements.{All-nil, All-cons, All-head, All-tail}
use Rattle.kv_syn.specs.Projects as P
use Rattle.kv_punit.specs.Commands.{Command, HasShortScript}
use Rattle.kv_punit.specs.Limits.{HasFewSteps, script_steps}
use Rattle.kv_punit.specs.Tests as test

pub and_true : (a b : Bool) → (a && b) ≡ true → (a ≡ true) × (b ≡ true)
and_true true b e = (refl, e)
and_true false b e = cc

pub le_from : (a b : ℕ) → nat_le a b ≡ true → a ≤ b
le_from a b e = elim (leb_tells a b) [ inl l ↦ l.1 | inr l ↦ absurd (let f = l.0 in cc) ]

abbrev Short : P.Proof → Type 0
Short proof = script_steps proof.script ≤ 50000

steps_from : (ps : List P.Proof) → list_all (λ (proof : P.Proof). nat_le (script_steps proof.script) 50000) ps ≡ true → All Short ps
steps_from [] e = All-nil Short
steps_from (p ∷ ps) e =
    let both = and_true (nat_le (script_steps p.script) 50000) (list_all (λ (proof : P.Proof). nat_le (script_steps proof.script) 50000) ps) e in
    All-cons Short p ps (le_from (script_steps p.script) 50000 both.0) (steps_from ps both.1)

steps_test : (ps : List P.Proof) → All Short ps → list_all (λ (proof : P.Proof). nat_le (script_steps proof.script) 50000) ps ≡ true
steps_test [] all = refl
steps_test (p ∷ ps) all = rw (le-leb (script_steps p.script) 50000 (All-head Short p ps all), steps_test ps (All-tail Short p ps all))

abbrev ShortProofs : P.Unit → Type 0
ShortProofs unit = All Short unit.proofs

pub few_from : (units : P.Project) → test.has_few_steps units ≡ true → HasFewSteps units
few_from [] e = All-nil ShortProofs
few_from (u ∷ us) e =
    let both = and_true (test.is_short u) (test.has_few_steps us) e in
    All-cons ShortProofs u us (steps_from u.proofs both.0) (few_from us both.1)

few_test : (units : P.Project) → HasFewSteps units → test.has_few_steps units ≡ true
few_test [] all = refl
few_test (u ∷ us) all = rw (steps_test u.proofs (All-head ShortProofs u us all), few_test us (All-tail ShortProofs u us all))

pub few_not : (units : P.Project) → test.has_few_steps units ≡ false → HasFewSteps units → ⊥
few_not units e few = absurd (let f = few_test units few in cc)

pub le_not : (a b : ℕ) → nat_le a b ≡ false → a ≤ b → ⊥
le_not a b e below = absurd (let f = le-leb a b below in cc)

-- the script of a command
pub short_from : (c : Command) → test.has_short_script c ≡ true → HasShortScript c
short_from (Command.Proof unit proof) e = le_from (script_steps proof.script) 50000 e
short_from other e = tt

pub short_not : (c : Command) → test.has_short_script c ≡ false → HasShortScript c → ⊥
short_not (Command.Proof unit proof) e short = le_not (script_steps proof.script) 50000 e short
short_not other e short = absurd (cc)

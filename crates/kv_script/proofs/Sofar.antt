-- What was told of the premises before a place, and what is left.
use Rattle.std.proofs.Common.{ℕ, ◌+◌, ◌^◌, ◌<◌, ◌≤◌, List, [], ◌∷◌, ◌++◌, length, map, get_or, drop, ◌≡◌, refl, sym, ap, ap₂, ◌∙◌, subst, arith, append_assoc}
use Rattle.std.proofs.Math.ListN.{drop_of_length-le}
use Rattle.std.proofs.lemmas.List.{append-nil}
use Rattle.kv_goal.specs.Goals.{plain_goal}
use Rattle.kv_goal.specs.declared.goals.Goal.{Goal}
use Rattle.kv_script.specs.Events.{Event, child_path, events, events_below, visits}
use Rattle.kv_script.specs.Tallies.{Told}
use Rattle.kv_script.specs.declared.tally.Tally.{Tally}
use Rattle.kv_script.proofs.Paths.{drop_here}
use Rattle.kv_script.proofs.Told.{visits_append, told_append, told_nothing}
use Rattle.kv_sig.specs.Views.{View}
use Rattle.kv_syn.specs.ScriptBridge.{plain_script, plain_scripts}
use Rattle.kv_syn.specs.Scripts.{Scripts}
use Rattle.kv_syn.specs.declared.scripts.Script.{Script}

-- the events from the place i on
abbrev pub rest_from : View → List ℕ → List Goal → List Script → ℕ → List Event
rest_from v path premises children i = events_below v path i (map plain_goal (drop i premises)) (plain_scripts (drop i children))

pub record Sofar (v : View) (path : List ℕ) (premises : List Goal) (children : List Script) (i : ℕ) (before now : Tally) (s0 s1 : ℕ) : Type 0 where
  pub done : List Event
  pub whole : done ++ rest_from v path premises children i ≡ rest_from v path premises children 0
  pub told : Told before now done
  pub steps : s1 ≡ s0 + visits done

pub sofar_start : (v : View) (path : List ℕ) (premises : List Goal) (children : List Script) (a : Tally) (s : ℕ) → a.goals < 2 ^ 64 → Sofar v path premises children 0 a a s s
sofar_start v path premises children a s h = record { done = []; whole = refl; told = told_nothing a h; steps = omega arith }

below_none : (v : View) (path : List ℕ) (i : ℕ) (children : Scripts) → events_below v path i [] children ≡ []
below_none v path i Scripts.none = refl
below_none v path i (Scripts.more k rest) = refl

module _ (v : View) (path : List ℕ) (ps : List Goal) (ks : List Script) (i : ℕ) (p : Goal) (first : drop i ps ≡ p ∷ drop (i + 1) ps) where
  -- a premise without a child is first in the rest
  pub rest_goal : length ks ≤ i → rest_from v path ps ks i ≡ Event.open_goal (child_path path i) (plain_goal p) ∷ rest_from v path ps ks (i + 1)
  rest_goal past =
      let d2 = drop_of_length-le ks {i = i} past in
      let d3 = drop_of_length-le ks {i = i + 1} (omega arith) in
      ap₂ (λ x y. events_below v path i (map plain_goal x) (plain_scripts y)) first d2
      ∙ sym (ap (λ y. Event.open_goal (child_path path i) (plain_goal p) ∷ events_below v path (i + 1) (map plain_goal (drop (i + 1) ps)) (plain_scripts y)) d3)

  -- a premise with a child is first in the rest
  pub rest_child : (k : Script) → i < length ks → k ≡ get_or ks i k → rest_from v path ps ks i ≡ events v (plain_goal p) (child_path path i) (plain_script k) ++ rest_from v path ps ks (i + 1)
  rest_child k there is' =
      ap₂ (λ x y. events_below v path i (map plain_goal x) (plain_scripts y)) first (drop_here ks i k there is')

-- one place on
pub sofar_more : (v : View) (path : List ℕ) (ps : List Goal) (ks : List Script) (i : ℕ) (a b c : Tally) (s0 s1 s2 : ℕ) (es : List Event) → rest_from v path ps ks i ≡ es ++ rest_from v path ps ks (i + 1) → Sofar v path ps ks i a b s0 s1 → Told b c es → s2 ≡ s1 + visits es → Sofar v path ps ks (i + 1) a c s0 s2
sofar_more v path ps ks i a b c s0 s1 s2 es e s t n = record {
  done = s.done ++ es;
  whole = append_assoc s.done es (rest_from v path ps ks (i + 1)) ∙ sym (ap (λ r. s.done ++ r) e) ∙ s.whole;
  told = told_append a b c s.done es s.told t;
  steps = omega (arith, s.steps, n, visits_append s.done es);
}

-- no more steps than in the whole, before and within the next child
pub sofar_most : (v : View) (path : List ℕ) (ps : List Goal) (ks : List Script) (i : ℕ) (a b : Tally) (s0 s1 : ℕ) → Sofar v path ps ks i a b s0 s1 → s1 ≤ s0 + visits (rest_from v path ps ks 0)
sofar_most v path ps ks i a b s0 s1 s = omega (arith, s.steps, ap visits s.whole, visits_append s.done (rest_from v path ps ks i))

pub sofar_child_most : (v : View) (path : List ℕ) (ps : List Goal) (ks : List Script) (i : ℕ) (a b : Tally) (s0 s1 s2 : ℕ) (es : List Event) → rest_from v path ps ks i ≡ es ++ rest_from v path ps ks (i + 1) → Sofar v path ps ks i a b s0 s1 → s2 ≤ s1 + visits es → s2 ≤ s0 + visits (rest_from v path ps ks 0)
sofar_child_most v path ps ks i a b s0 s1 s2 es e s n =
    omega (arith, s.steps, ap visits s.whole, visits_append s.done (rest_from v path ps ks i), ap visits e, visits_append es (rest_from v path ps ks (i + 1)))

-- past the last premise all is told
pub sofar_end : (v : View) (path : List ℕ) (ps : List Goal) (ks : List Script) (i : ℕ) (a b : Tally) (s0 s1 : ℕ) → Sofar v path ps ks i a b s0 s1 → length ps ≤ i → Told a b (rest_from v path ps ks 0) × (s1 ≡ s0 + visits (rest_from v path ps ks 0))
sofar_end v path ps ks i a b s0 s1 s h =
    let d = drop_of_length-le ps {i = i} h in
    let none : rest_from v path ps ks i ≡ [] = ap (λ x. events_below v path i (map plain_goal x) (plain_scripts (drop i ks))) d ∙ below_none v path i (plain_scripts (drop i ks)) in
    let e : s.done ≡ rest_from v path ps ks 0 = sym (append-nil s.done) ∙ sym (ap (λ r. s.done ++ r) none) ∙ s.whole in
    (subst (λ es. Told a b es) e s.told, s.steps ∙ ap (λ es. s0 + visits es) e)

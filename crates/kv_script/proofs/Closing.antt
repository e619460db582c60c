-- A closed replay gives a derivation.
use Rattle.std.proofs.Common.{ℕ, ◌+◌, Bool, true, false, ◌==◌, if◌then◌else◌, List, [], ◌∷◌, ◌++◌, length, Option, Some, None, Ok, Err, ◌≡◌, refl, sym, ap, ◌∙◌, subst, arith, append_assoc}
use Rattle.std.specs.Prelude.{nat_lt, is_none}
use Rattle.std.proofs.lemmas.Bool.{eqb-true}
use Rattle.kv_syn.specs.Scripts.{Script, Scripts, Step}
use Rattle.kv_trees.specs.Trees.{Form, Sequent}
use Rattle.kv_syn.specs.declared.outcomes.Fault.{Fault}
use Rattle.kv_syn.specs.declared.outcomes.Reason.{Reason}
use Rattle.kv_trees.proofs.Same.{parts}
use Rattle.kv_sig.specs.Members.{Every}
use Rattle.kv_sig.specs.Signatures.{profile_of}
use Rattle.kv_sig.specs.Steps.{TypedText}
use Rattle.kv_sig.specs.Views.{View}
use Rattle.kv_elab.specs.Typed.{Typed}
use Rattle.kv_calc.specs.Calculus.{Theory, Good, Rule, Deriv, Derivs, roots_of, AllValid, Derivable, alone}
use Rattle.kv_prop.specs.Premises.{Premises, premises}
use Rattle.kv_script.specs.Answers.{Answer, typed_text, typed_step, reasoned, answer_where, step_answer, count, with_children, answer}
use Rattle.kv_script.specs.Events.{Event, child_path, all_open, on_premises, events, events_below, replay_events, goal_count, first_fault, uses_of, used_labels, is_closed}
use Rattle.kv_script.specs.Reasons.{surplus_reason}
use Rattle.kv_script.proofs.Decoded.{of_step}
use Rattle.kv_script.proofs.Instances.{Instance}
use Rattle.kv_script.proofs.Inversions.{okay}
use Rattle.kv_script.proofs.Lemmas.{IsGiven}
use Rattle.kv_script.proofs.Texts.{text_fits}

-- no goal is open and no step is refused
abbrev pub Closed : List Event → Type 0
Closed [] = Unit {0}
Closed (Event.open_goal path S ∷ es) = ⊥
Closed (Event.visit path S step (Ok ps) ∷ es) = Closed es
Closed (Event.visit path S step (Err reason) ∷ es) = ⊥

-- ---- events that were joined

closed_front : (xs ys : List Event) → Closed (xs ++ ys) → Closed xs
closed_front [] ys h = tt
closed_front (Event.open_goal path S ∷ xs) ys h = h
closed_front (Event.visit path S step (Ok ps) ∷ xs) ys h = closed_front xs ys h
closed_front (Event.visit path S step (Err reason) ∷ xs) ys h = h

closed_back : (xs ys : List Event) → Closed (xs ++ ys) → Closed ys
closed_back [] ys h = h
closed_back (Event.open_goal path S ∷ xs) ys h = absurd h
closed_back (Event.visit path S step (Ok ps) ∷ xs) ys h = closed_back xs ys h
closed_back (Event.visit path S step (Err reason) ∷ xs) ys h = absurd h

none_open : (path : List ℕ) (i : ℕ) (ps : List Sequent) → Closed (all_open path i ps) → [] ≡ ps
none_open path i [] h = refl
none_open path i (p ∷ ps) h = absurd h

-- ---- what an answer says

abbrev granted : List Sequent → Answer
granted ps = Ok ps

abbrev refused : Reason → Answer
refused reason = Err reason

children_ok : (n : ℕ) (answer : Answer) (ps : List Sequent) → with_children n answer ≡ granted ps → answer ≡ granted ps
children_ok n (Err r) ps e = cc
children_ok n (Ok qs) ps e = few (nat_lt (length qs) n) e
  where
    few : (b : Bool) → (if b then refused surplus_reason else granted qs) ≡ granted ps → granted qs ≡ granted ps
    few true e' = cc
    few false e' = e'

reasoned_ok : (answer : Premises) (ps : List Sequent) → reasoned answer ≡ granted ps → answer ≡ okay ps
reasoned_ok (Ok qs) ps e = cc
reasoned_ok (Err r) ps e = cc

typed_ok : (v : View) (S : Sequent) (step : Step) (text : Typed TypedText) (ps : List Sequent) → answer_where v S step text ≡ granted ps
    → (typed : TypedText) × (text ≡ Ok typed) × (premises v S (typed_step step typed) ≡ okay ps)
typed_ok v S step (Ok typed) ps e = (typed, refl, reasoned_ok (premises v S (typed_step step typed)) ps e)
typed_ok v S step (Err fault) ps e = cc

answer_ok : (v : View) (T : Theory) → v.symbol ≡ profile_of T.signature → (S : Sequent) → Good T S → (step : Step) (children : Scripts) (ps : List Sequent)
    → Every (IsGiven v T) (uses_of step.text) → answer v S step children ≡ granted ps → Instance T S ps
answer_ok v T symbols S g step children ps given e =
    let t = typed_ok v S step (typed_text v S step.text) ps (children_ok (count children) (step_answer v S step) ps e) in
    of_step v T S g symbols (typed_step step t.0) (text_fits T S g v symbols step.text t.0 given t.1) ps t.2

-- ---- the derivation, step by step

-- each label that a step of these events uses is given
abbrev pub AllGiven : View → Theory → List Event → Type 0
AllGiven v T es = Every (IsGiven v T) (used_labels es)

used_append : (es fs : List Event) → used_labels (es ++ fs) ≡ used_labels es ++ used_labels fs
used_append [] fs = refl
used_append (Event.open_goal path S ∷ es) fs = used_append es fs
used_append (Event.visit path S step (Ok ps) ∷ es) fs = ap (λ ls. uses_of step.text ++ ls) (used_append es fs) ∙ sym (append_assoc (uses_of step.text) (used_labels es) (used_labels fs))
used_append (Event.visit path S step (Err reason) ∷ es) fs = used_append es fs

every_front : {A : Type 0} (P : A → Type 0) (xs ys : List A) → Every P (xs ++ ys) → Every P xs
every_front P [] ys e = tt
every_front P (x ∷ xs) ys e = (e.0, every_front P xs ys e.1)

every_back : {A : Type 0} (P : A → Type 0) (xs ys : List A) → Every P (xs ++ ys) → Every P ys
every_back P [] ys e = e
every_back P (x ∷ xs) ys e = every_back P xs ys e.1

module _ (v : View) (T : Theory) (symbols : v.symbol ≡ profile_of T.signature) where
  -- derivations of all of these
  abbrev Derivations : List Sequent → Type 0
  Derivations ps = (ds : Derivs) × AllValid T ds × (roots_of ds ≡ ps)

  -- a step whose premises have derivations
  step_derivable : (step : Step) (children : Scripts) (S : Sequent) (path : List ℕ) (below : List Sequent → List Event) → Good T S
      → ((ps : List Sequent) → Every (Good T) ps → Closed (below ps) → AllGiven v T (below ps) → Derivations ps) → (a : Answer) → answer v S step children ≡ a
      → Closed (Event.visit path S step a ∷ on_premises a below) → AllGiven v T (Event.visit path S step a ∷ on_premises a below) → Derivable T S
  step_derivable step children S path below g rest (Err reason) e k given = absurd k
  step_derivable step children S path below g rest (Ok ps) e k given =
      let asked = uses_of step.text in
      let instance = answer_ok v T symbols S g step children ps (every_front (IsGiven v T) asked (used_labels (below ps)) given) e in
      let ds = rest ps instance.good k (every_back (IsGiven v T) asked (used_labels (below ps)) given) in
      (Deriv.node instance.step S ds.0, record { valid = (g, subst (λ qs. Rule T instance.step S qs) (sym ds.2) instance.rule, ds.1); root = refl })

  mutual
    pub closed_derivable : (script : Script) (S : Sequent) (path : List ℕ) → Good T S → Closed (events v S path script) → AllGiven v T (events v S path script) → Derivable T S
    closed_derivable Script.Hole S path g h given = absurd h
    closed_derivable (Script.Node step children) S path g h given =
        step_derivable step children S path (λ ps. events_below v path 0 ps children) g (λ ps gs k all. closed_below children ps path 0 gs k all) (answer v S step children) refl h given

    pub closed_below : (children : Scripts) (ps : List Sequent) (path : List ℕ) (i : ℕ) → Every (Good T) ps → Closed (events_below v path i ps children)
        → AllGiven v T (events_below v path i ps children) → Derivations ps
    closed_below Scripts.none ps path i gs h given = (Derivs.none, tt, none_open path i ps h)
    closed_below (Scripts.more s rest) [] path i gs h given = (Derivs.none, tt, refl)
    closed_below (Scripts.more s rest) (p ∷ ps) path i gs h given =
        let one = events v p (child_path path i) s in
        let others = events_below v path (i + 1) ps rest in
        let all = subst (Every (IsGiven v T)) (used_append one others) given in
        let d = closed_derivable s p (child_path path i) gs.0 (closed_front one others h) (every_front (IsGiven v T) (used_labels one) (used_labels others) all) in
        let ds = closed_below rest ps path (i + 1) gs.1 (closed_back one others h) (every_back (IsGiven v T) (used_labels one) (used_labels others) all) in
        (Derivs.more d.0 ds.0, (d.1.valid, ds.1), ap (λ q. q ∷ roots_of ds.0) d.1.root ∙ ap (λ qs. p ∷ qs) ds.2)

-- ---- the outcome

no_goal : (es : List Event) → goal_count es + 1 ≡ 0 → ⊥
no_goal es e = omega (arith, e)

closed_from : (es : List Event) → goal_count es ≡ 0 → first_fault es ≡ None → Closed es
closed_from [] goals fault = tt
closed_from (Event.open_goal path S ∷ es) goals fault = no_goal es goals
closed_from (Event.visit path S step (Ok ps) ∷ es) goals fault = closed_from es goals fault
closed_from (Event.visit path S step (Err reason) ∷ es) goals fault = cc

is_none_is : (o : Option Fault) → is_none o ≡ true → o ≡ None
is_none_is None e = refl
is_none_is (Some fault) e = cc

closed_is : (es : List Event) → is_closed es ≡ true → Closed es
closed_is es e =
    let both = parts (goal_count es == 0) (is_none (first_fault es)) e in
    closed_from es (eqb-true (goal_count es) 0 both.0) (is_none_is (first_fault es) both.1)

-- a replay that is closed stands for a derivation
pub closing : (v : View) (T : Theory) → v.symbol ≡ profile_of T.signature → (goal : Form) (script : Script) → Good T (alone goal) → is_closed (replay_events v goal script) ≡ true
    → AllGiven v T (replay_events v goal script) → Derivable T (alone goal)
closing v T symbols goal script g closed given = closed_derivable v T symbols script (alone goal) [] g (closed_is (replay_events v goal script) closed) given

-- A theorem that is shown as proved has a derivation.
use Rattle.std.proofs.Common.{◌≡◌, ℕ, zero, suc, ◌-◌, ◌^◌, ◌==◌, ◌&&◌, min, true, false, List, [], ◌∷◌, ◌++◌, Option, Some, None, is_none, Result, Ok, Err, refl, sym, ap, ◌∙◌, arith, map, inl, inr}
use Rattle.std.specs.Prelude.{filter}
use Rattle.std.proofs.lemmas.Bool.{cases_Bool, cond-true, cond-false, ne_eqb}
use Rattle.std.proofs.Math.Logic.{⊎_elim}
use Rattle.kv_calc.specs.Calculus.{Good, Theory, alone}
use Rattle.kv_calc.proofs.Members.{in_either}
use Rattle.kv_elab.specs.Elab.{elab_form}
use Rattle.kv_elab.specs.Typed.{Typed}
use Rattle.kv_elab.proofs.Typings.{form_typed}
use Rattle.kv_elab.proofs.Within.{form_closed}
use Rattle.kv_script.proofs.Closing.{closing}
use Rattle.kv_script.proofs.Lemmas.{IsGiven}
use Rattle.kv_flat.specs.Units.{signature_of}
use Rattle.kv_fresh.specs.Backing.{AreProvedTheorems, AreTheoremsBacked, IsBacked, IsOfTheorem, Backing, theory_over}
use Rattle.kv_script.specs.Reasons.{reason_with}
use Rattle.kv_prop.specs.Limits.{is_small}
use Rattle.kv_trees.specs.Count.{form_nodes, form_depth}
use Rattle.kv_fresh.specs.States.{goal_of, idle_row, idle_rows, ill_row, is_idle, nothing_around, row_of, row_where, rows_of, rows_where, script_of, shown, small_goal, theorem_rows, view_over}
use Rattle.kv_script.specs.Events.{first_fault, goal_count, is_closed, replay_events, used_labels}
use Rattle.kv_sig.specs.Views.{View}
use Rattle.kv_sig.specs.FreeNames.{free_form, assumed_form}
use Rattle.kv_sig.specs.Members.{Every, In, here, there}
use Rattle.kv_syn.specs.Projects as P
use Rattle.kv_syn.specs.Scripts.{Script}
use Rattle.kv_names.specs.Names.{Name}
use Rattle.kv_trees.specs.Trees.{Form}
use Rattle.kv_syn.specs.declared.outcomes.Fault.{Fault}
use Rattle.kv_syn.specs.declared.outcomes.Reason.{Reason}
use Rattle.kv_syn.specs.declared.outcomes.Row.{Row}
use Rattle.kv_syn.specs.declared.outcomes.State.TheVariants.{Ill, Open, Proved, Idle}
use Rattle.kv_names.specs.declared.symbols.Symbol.{Symbol}
use Rattle.kv_table.specs.Reasons as reason

-- what is shown as proved is closed
closed_when : (fault : Option Fault) (n : ℕ) → shown fault (min n (2 ^ 64 - 1)) ≡ Proved → (n == 0 && is_none fault) ≡ true
closed_when (Some fault) n h = cc
closed_when None zero h = refl
closed_when None (suc n) h =
    let e : (min (suc n) (2 ^ 64 - 1) == 0) ≡ false = ne_eqb (min (suc n) (2 ^ 64 - 1)) 0 (λ z. omega arith) in
    let left : Open (min (suc n) (2 ^ 64 - 1)) ≡ Proved = sym (cond-false (min (suc n) (2 ^ 64 - 1) == 0) Proved (Open (min (suc n) (2 ^ 64 - 1))) e) ∙ h in
    cc

closed_row : (view : View) (unit name : Name) (script : Script) (goal : Result Form Reason) → (row_where view unit name script goal).state ≡ Proved
    → (f : Form) × (goal ≡ Ok f) × (is_closed (replay_events view f script) ≡ true)
closed_row view unit name script (Err fault) h = let e : Ill fault ≡ Proved = h in cc
closed_row view unit name script (Ok f) h = (f, refl, closed_when (first_fault (replay_events view f script)) (goal_count (replay_events view f script)) h)

-- a goal is a formula that typing gave
typed_goal : (t : Typed Form) (f : Form) → small_goal t ≡ Ok f → t ≡ Ok f
typed_goal (Err fault) f e = cc
typed_goal (Ok g) f e =
    let small : Result Form Reason = Ok g in
    let large : Result Form Reason = Err (reason_with reason.LARGE []) in
    ⊎_elim
    (λ y. let same : small ≡ Ok f = sym (cond-true (is_small (form_nodes g) (form_depth g)) small large y) ∙ e in cc)
    (λ n. let other : large ≡ Ok f = sym (cond-false (is_small (form_nodes g) (form_depth g)) small large n) ∙ e in cc)
    (cases_Bool (is_small (form_nodes g) (form_depth g)))

no_member : {A : Type 0} {x : A} (xs : List A) → xs ≡ [] → In x (xs ++ []) → ⊥
no_member [] e i = elim i [ ]
no_member (x ∷ xs) e i = absurd (let f : (x ∷ xs) ≡ [] = e in cc)

-- a goal alone on the right is a good sequent of its unit's theory
pub good_goal : (signature : List Symbol) (theorem : P.Theorem) (f : Form) → goal_of signature theorem ≡ Ok f → Good (theory_over signature) (alone f)
good_goal signature theorem f e =
    let typed = typed_goal (elab_form signature nothing_around theorem.form) f e in
    let closed = form_closed signature nothing_around theorem.form f refl refl typed in
    record {
      lawful = tt;
      consistent = record {
        sorts = λ x y i j same. absurd (no_member (free_form f) closed.variables i);
        profiles = λ p q i j same. absurd (no_member (assumed_form f) closed.procedures i);
      };
      lefts = tt;
      rights = (form_typed signature nothing_around theorem.form f (record { free = tt; bound = tt; assumed = tt }) typed, tt);
    }

-- where there is no entry, each used one is given
none_missing : (view : View) (theory : Theory) (labels : List Name) → ((label : Name) → view.entry label ≡ None) → Every (IsGiven view theory) labels
none_missing view theory [] none = tt
none_missing view theory (label ∷ labels) none = ((λ f e. absurd (let no : Some f ≡ None = sym e ∙ none label in cc)), none_missing view theory labels none)

theorems_backed : (project : P.Project) → AreTheoremsBacked project
theorems_backed project unit in_project theorem in_unit signature is shown_proved =
    let script = script_of unit.proofs theorem.name in
    let (f, goal, closed) = closed_row (view_over signature) unit.name theorem.name script (goal_of signature theorem) shown_proved in
    let view = view_over signature in
    (f, goal, closing view (theory_over signature) refl f script (good_goal signature theorem f goal) closed (none_missing view (theory_over signature) (used_labels (replay_events view f script)) (λ label. refl)))

-- ---- rows that are shown as proved

-- what an item of a mapped list comes from
mapped_from : {A B : Type 0} (f : A → B) (xs : List A) (y : B) → In y (map f xs) → (x : A) × In x xs × (y ≡ f x)
mapped_from f [] y i = elim i [ ]
mapped_from f (x ∷ xs) y here = (x, here, refl)
mapped_from f (x ∷ xs) y (there i) = let (z, j, is) = mapped_from f xs y i in (z, there j, is)

-- the row of an idle proof isn't shown as proved
idle_unproved : (unit : P.Unit) (row : Row) → In row (idle_rows unit) → row.state ≡ Proved → ⊥
idle_unproved unit row i shown_proved =
    let (proof, _, is) = mapped_from (idle_row unit.name) (filter (is_idle unit.theorems) unit.proofs) row i in
    let idle : Idle ≡ Proved = sym (ap (λ (r : Row). r.state) is) ∙ shown_proved in cc

-- among the rows of a unit's theorems, those that are shown as proved have a signature
theorem_proved : (unit : P.Unit) (found : Result (List Symbol) Reason) → signature_of unit ≡ found → (row : Row) → In row (theorem_rows unit found) → row.state ≡ Proved
    → (units : List P.Unit) → IsOfTheorem (unit ∷ units) row
theorem_proved unit (Ok signature) good row i shown_proved units =
    let (theorem, in_unit, is) = mapped_from (row_of unit.name signature unit.proofs) unit.theorems row i in
    record { unit = unit; in_project = here; theorem = theorem; in_unit = in_unit; signature = signature; good = good; row_is = is }
theorem_proved unit (Err fault) bad row i shown_proved units =
    let (theorem, _, is) = mapped_from (λ (t : P.Theorem). ill_row unit.name t.name (reason_with reason.UNIT [])) unit.theorems row i in
    let ill : Ill (reason_with reason.UNIT []) ≡ Proved = sym (ap (λ (r : Row). r.state) is) ∙ shown_proved in absurd (cc)

proved_theorems : (project : P.Project) → AreProvedTheorems project
proved_theorems [] row i shown_proved = elim i [ ]
proved_theorems (unit ∷ units) row i shown_proved = elim (in_either (rows_where unit (signature_of unit)) (rows_of units) i) [
  | inl own ↦ elim (in_either (theorem_rows unit (signature_of unit)) (idle_rows unit) own) [
    | inl j ↦ theorem_proved unit (signature_of unit) refl row j shown_proved units
    | inr j ↦ absurd (idle_unproved unit row j shown_proved)
  ]
  | inr j ↦
      let of = proved_theorems units row j shown_proved in
      record { unit = of.unit; in_project = there of.in_project; theorem = of.theorem; in_unit = of.in_unit; signature = of.signature; good = of.good; row_is = of.row_is }
]

pub backing : Backing
unfolding IsBacked
backing project = (theorems_backed project, proved_theorems project)

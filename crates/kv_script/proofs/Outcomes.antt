-- The outcome of a whole replay.
use Rattle.std.proofs.Common.{ℕ, Bool, zero, suc, ◌-◌, ◌^◌, min, List, [], Option, None, is_none, ◌==◌, ◌&&◌, ◌≡◌, sym, subst, ap, ap₂, ◌∙◌, arith}
use Rattle.std.specs.Prelude.{Result, Ok, Err, IfOk}
use Rattle.std.proofs.lemmas.Bool.{ne_eqb}
use Rattle.kv_script.specs.Events.{Event, outcome_of, first_fault, goal_count, is_closed}
use Rattle.kv_script.specs.Once.{names_once, looks_once}
use Rattle.kv_script.specs.Tallies.{Told, tally_outcome}
use Rattle.kv_script.specs.declared.tally.Tally.{Tally}
use Rattle.kv_names.specs.Names.{Name}
use Rattle.kv_syn.specs.declared.outcomes.Look.{Look}
use Rattle.kv_syn.specs.declared.outcomes.Fault.{Fault}
use Rattle.kv_syn.specs.declared.outcomes.Outcome.{Outcome}

abbrev pub at_start : Tally
at_start = record { goals = 0; broken = None; uses = []; looks = [] }

-- nothing was used and asked at the start
pub started : (us : List Name) (ls : List Look) (t : Tally) (es : List Event) → us ≡ [] → ls ≡ [] → Told (record { goals = 0; broken = None; uses = us; looks = ls }) t es → Told at_start t es
started us ls t es u l told = subst (λ (us' : List Name). Told (record { goals = 0; broken = None; uses = us'; looks = [] }) t es) u
    (subst (λ (ls' : List Look). Told (record { goals = 0; broken = None; uses = us; looks = ls' }) t es) l told)

-- a count that stands at a greatest value is 0 exactly where the number is
none_alike : (n m : ℕ) → m ≡ min n (2 ^ 64 - 1) → (m == 0) ≡ (n == 0)
none_alike zero m h =
    let e : m ≡ 0 = omega arith in
    ap (λ x. x == 0) e
none_alike (suc n) m h = ne_eqb m 0 (λ (e : m ≡ 0). omega arith) ∙ sym (ne_eqb (suc n) 0 (λ (e : suc n ≡ 0). omega arith))

abbrev outcome : Bool → ℕ → Option Fault → List Name → List Look → Outcome
outcome closed goals broken uses looks = record { closed = closed; goals = goals; broken = broken; uses = uses; looks = looks }

pub told_outcome : (o : Outcome) (t : Tally) (es : List Event) → o ≡ tally_outcome t → Told at_start t es → o ≡ outcome_of es
told_outcome o t es is told =
    let count : t.goals ≡ min (goal_count es) (2 ^ 64 - 1) = omega (arith, told.goals) in
    let closed : (t.goals == 0 && is_none t.broken) ≡ is_closed es = ap₂ (λ b (f : Option Fault). b && is_none f) (none_alike (goal_count es) t.goals count) told.broken in
    is
    ∙ ap (λ b. outcome b t.goals t.broken (names_once t.uses) (looks_once t.looks)) closed
    ∙ ap (λ n. outcome (is_closed es) n t.broken (names_once t.uses) (looks_once t.looks)) count
    ∙ ap (λ f. outcome (is_closed es) (min (goal_count es) (2 ^ 64 - 1)) f (names_once t.uses) (looks_once t.looks)) told.broken
    ∙ ap₂ (λ us ls. outcome (is_closed es) (min (goal_count es) (2 ^ 64 - 1)) (first_fault es) (names_once us) (looks_once ls)) told.uses told.looks

pub where_ok : {A E : Type 0} {P Q : A → Type 0} (result : Result A E) → IfOk result P → ((x : A) → P x → Q x) → IfOk result Q
where_ok (Ok x) told next = next x told
where_ok (Err e) told next = tt

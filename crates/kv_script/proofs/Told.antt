-- Events told one after another.
use Rattle.std.proofs.Common.{ℕ, ◌+◌, ◌-◌, ◌^◌, ◌<◌, min, List, [], ◌∷◌, ◌++◌, Option, Some, None, Ok, Err, ◌≡◌, refl, sym, ap, ◌∙◌, arith, append_assoc}
use Rattle.std.proofs.lemmas.List.{append-nil}
use Rattle.kv_script.specs.Events.{Event, goal_count, first_fault, used_labels, asked_looks, uses_of, visits}
use Rattle.kv_script.specs.Answers.{text_looks}
use Rattle.kv_script.specs.Tallies.{or_first, Told}
use Rattle.kv_script.specs.declared.tally.Tally.{Tally}
use Rattle.kv_syn.specs.Scripts.{Step}
use Rattle.kv_trees.specs.Trees.{Sequent}
use Rattle.kv_syn.specs.declared.outcomes.Fault.{Fault}
use Rattle.kv_syn.specs.declared.outcomes.Reason.{Reason}

goals_append : (es fs : List Event) → goal_count (es ++ fs) ≡ goal_count es + goal_count fs
goals_append [] fs = omega arith
goals_append (Event.open_goal path s ∷ es) fs = omega (arith, goals_append es fs)
goals_append (Event.visit path s step a ∷ es) fs = goals_append es fs

pub visits_append : (es fs : List Event) → visits (es ++ fs) ≡ visits es + visits fs
visits_append [] fs = omega arith
visits_append (Event.open_goal path s ∷ es) fs = visits_append es fs
visits_append (Event.visit path s step a ∷ es) fs = omega (arith, visits_append es fs)

fault_append : (es fs : List Event) → first_fault (es ++ fs) ≡ or_first (first_fault es) (first_fault fs)
fault_append [] fs = refl
fault_append (Event.open_goal path s ∷ es) fs = fault_append es fs
fault_append (Event.visit path s step (Ok ps) ∷ es) fs = fault_append es fs
fault_append (Event.visit path s step (Err reason) ∷ es) fs = refl

or_first_assoc : (a b c : Option Fault) → or_first (or_first a b) c ≡ or_first a (or_first b c)
or_first_assoc None b c = refl
or_first_assoc (Some f) b c = refl

or_first_none : (o : Option Fault) → o ≡ or_first o None
or_first_none None = refl
or_first_none (Some f) = refl

uses_append : (es fs : List Event) → used_labels (es ++ fs) ≡ used_labels es ++ used_labels fs
uses_append [] fs = refl
uses_append (Event.open_goal path s ∷ es) fs = uses_append es fs
uses_append (Event.visit path s step (Ok ps) ∷ es) fs = ap (λ ls. uses_of step.text ++ ls) (uses_append es fs) ∙ sym (append_assoc (uses_of step.text) (used_labels es) (used_labels fs))
uses_append (Event.visit path s step (Err reason) ∷ es) fs = uses_append es fs

looks_append : (es fs : List Event) → asked_looks (es ++ fs) ≡ asked_looks es ++ asked_looks fs
looks_append [] fs = refl
looks_append (Event.open_goal path s ∷ es) fs = looks_append es fs
looks_append (Event.visit path s step a ∷ es) fs = ap (λ ls. text_looks step.text ++ ls) (looks_append es fs) ∙ sym (append_assoc (text_looks step.text) (asked_looks es) (asked_looks fs))

-- two things added one after another
two_added : {A : Type 0} (a b c es fs : List A) → b ≡ a ++ es → c ≡ b ++ fs → c ≡ a ++ (es ++ fs)
two_added a b c es fs p q = q ∙ ap (λ l. l ++ fs) p ∙ append_assoc a es fs

pub told_append : (a b c : Tally) (es fs : List Event) → Told a b es → Told b c fs → Told a c (es ++ fs)
told_append a b c es fs p q = record {
  goals = omega (arith, p.goals, q.goals, goals_append es fs);
  broken = q.broken ∙ ap (λ o. or_first o (first_fault fs)) p.broken ∙ or_first_assoc a.broken (first_fault es) (first_fault fs) ∙ sym (ap (or_first a.broken) (fault_append es fs));
  uses = two_added a.uses b.uses c.uses (used_labels es) (used_labels fs) p.uses q.uses ∙ sym (ap (λ ls. a.uses ++ ls) (uses_append es fs));
  looks = two_added a.looks b.looks c.looks (asked_looks es) (asked_looks fs) p.looks q.looks ∙ sym (ap (λ ls. a.looks ++ ls) (looks_append es fs));
}

none_added : {A : Type 0} (a b : List A) → b ≡ a → b ≡ a ++ []
none_added a b e = e ∙ sym (append-nil a)

pub told_nothing : (a : Tally) → a.goals < 2 ^ 64 → Told a a []
told_nothing a h = record { goals = omega arith; broken = or_first_none a.broken; uses = none_added a.uses a.uses refl; looks = none_added a.looks a.looks refl }

pub told_goal : (a b : Tally) (path : List ℕ) (s : Sequent) → b.goals ≡ min (a.goals + 1) (2 ^ 64 - 1) → b.broken ≡ a.broken → b.uses ≡ a.uses → b.looks ≡ a.looks
    → Told a b (Event.open_goal path s ∷ [])
told_goal a b path s hg hb hu hl = record { goals = hg; broken = hb ∙ or_first_none a.broken; uses = none_added a.uses b.uses hu; looks = none_added a.looks b.looks hl }

-- a step asks, and is refused
pub told_refusal : (a b c : Tally) (path : List ℕ) (s : Sequent) (step : Step) (reason : Reason) → a.goals < 2 ^ 64
    → b.goals ≡ a.goals → b.broken ≡ a.broken → b.uses ≡ a.uses → b.looks ≡ a.looks ++ text_looks step.text
    → c.goals ≡ b.goals → c.broken ≡ or_first b.broken (Some (record { path = path; rule = step.rule; reason = reason })) → c.uses ≡ b.uses → c.looks ≡ b.looks
    → Told a c (Event.visit path s step (Err reason) ∷ [])
told_refusal a b c path s step reason h bg bb bu bl cg cb cu cl = record {
  goals = omega (arith, bg, cg);
  broken = cb ∙ ap (λ o. or_first o (Some (record { path = path; rule = step.rule; reason = reason }))) bb;
  uses = none_added a.uses c.uses (cu ∙ bu);
  looks = cl ∙ bl ∙ ap (λ ls. a.looks ++ ls) (sym (append-nil (text_looks step.text)));
}

-- a step asks, uses its label, and then comes what stands below it
pub told_visit : (a b c d : Tally) (path : List ℕ) (s : Sequent) (step : Step) (ps : List Sequent) (es : List Event)
    → b.goals ≡ a.goals → b.broken ≡ a.broken → b.uses ≡ a.uses → b.looks ≡ a.looks ++ text_looks step.text
    → c.goals ≡ b.goals → c.broken ≡ b.broken → c.uses ≡ b.uses ++ uses_of step.text → c.looks ≡ b.looks
    → Told c d es → Told a d (Event.visit path s step (Ok ps) ∷ es)
told_visit a b c d path s step ps es bg bb bu bl cg cb cu cl t = record {
  goals = t.goals ∙ ap (λ n. min (n + goal_count es) (2 ^ 64 - 1)) (cg ∙ bg);
  broken = t.broken ∙ ap (λ o. or_first o (first_fault es)) (cb ∙ bb);
  uses = two_added a.uses c.uses d.uses (uses_of step.text) (used_labels es) (cu ∙ ap (λ ls. ls ++ uses_of step.text) bu) t.uses;
  looks = two_added a.looks c.looks d.looks (text_looks step.text) (asked_looks es) (cl ∙ bl) t.looks;
}

-- Answers to steps, by what the typing of their texts and their rules answer.
use Rattle.std.proofs.Common.{◌≡◌, ◌<◌, ◌≤◌, if◌then◌else◌, List, length, Some, Result, Ok, Err, refl, sym, ap, ◌∙◌}
use Rattle.std.proofs.lemmas.Bool.{lt-ltb, le-ltb}
use Rattle.std.specs.Option.{option_map}
use Rattle.kv_elab.specs.Elab.{elab_term, elab_form}
use Rattle.kv_elab.specs.Typed as typing
use Rattle.kv_elab.specs.Typed.{Typed, and_then}
use Rattle.kv_elab.specs.declared.contexts.Context.{Context}
use Rattle.kv_elab.specs.Faults.{TypeFault, plain_fault}
use Rattle.kv_elab.specs.declared.errors.TypeError.{TypeError}
use Rattle.kv_elab.specs.declared.errors.TypeError.TheVariants.{Unknown, Arity, Sort, Duplicate, Program, NoMemory}
use Rattle.kv_elab.proofs.ByNames.{typed_by_names}
use Rattle.kv_elab.proofs.Outcomes.{from_some}
use Rattle.kv_prop.specs.Premises.{Gives, premises}
use Rattle.kv_prop.specs.Refusals.{Refusal, plain_refusal}
use Rattle.kv_script.specs.Answers.{context_of, typed_text, typed_step, reasoned, answer_where, step_answer, count, with_children, answer}
use Rattle.kv_script.specs.Reasons.{refusal_reason, surplus_reason, typing_reason}
use Rattle.kv_script.proofs.Scripts.{count_of}
use Rattle.kv_sig.specs.Steps.{TypedText, plain_typed_text}
use Rattle.kv_sig.specs.Views.{View, view_of}
use Rattle.kv_sig.specs.declared.flats.Flat.{Flat}
use Rattle.kv_sig.specs.declared.refusals.StepError.{StepError}
use Rattle.kv_sig.specs.declared.refusals.StepError.TheVariants as error
use Rattle.kv_trees.specs.Bridge.{plain_term, plain_form}
use Rattle.kv_raw.specs.RawTrees.{RawTerm, RawForm}
use Rattle.kv_syn.specs.Scripts.{Step, StepText}
use Rattle.kv_names.specs.Names.{Name}
use Rattle.kv_trees.specs.Trees.{Term, Form, Sequent}
use Rattle.kv_syn.specs.ScriptBridge.{plain_scripts}
use Rattle.kv_syn.specs.declared.outcomes.Reason.{Reason}
use Rattle.kv_syn.specs.declared.scripts.Script.{Script}
use Rattle.kv_trees.specs.declared.trees.Term.{Term as TermTree}

-- where a refusal has a reason, it is the one that the rule wants
pub refusal_is : {T S : Type 0} (see : T → S) (e : StepError) (want : Result S Refusal) → Gives see (Err e) want → (reason : Reason)
    → option_map refusal_reason (plain_refusal e) ≡ Some reason → (refusal : Refusal) × (want ≡ Err refusal) × (refusal_reason refusal ≡ reason)
refusal_is see error.Position want given reason is = (Refusal.Position, given, from_some _ _ is)
refusal_is see error.Shape want given reason is = (Refusal.Shape, given, from_some _ _ is)
refusal_is see (error.Sort w g) want given reason is = (Refusal.Sort w g, given, from_some _ _ is)
refusal_is see (error.NoLabel l) want given reason is = (Refusal.NoLabel l, given, from_some _ _ is)
refusal_is see (error.NoBody n) want given reason is = (Refusal.NoBody n, given, from_some _ _ is)
refusal_is see (error.NoGeneration s) want given reason is = (Refusal.NoGeneration s, given, from_some _ _ is)
refusal_is see (error.NotFresh n) want given reason is = (Refusal.NotFresh n, given, from_some _ _ is)
refusal_is see error.Captured want given reason is = (Refusal.Captured, given, from_some _ _ is)
refusal_is see error.Large want given reason is = (Refusal.Large, given, from_some _ _ is)
refusal_is see error.NoMemory want given reason is = cc

-- where a fault has a reason, it is the one that typing finds
pub fault_is : {T S : Type 0} (see : T → S) (e : TypeError) (want : Typed S) → typing.Gives see (Err e) want → (reason : Reason)
    → option_map typing_reason (plain_fault e) ≡ Some reason → (fault : TypeFault) × (want ≡ Err fault) × (typing_reason fault ≡ reason)
fault_is see (Unknown name) want given reason is = (TypeFault.Unknown name, given, from_some _ _ is)
fault_is see (Arity name) want given reason is = (TypeFault.Arity name, given, from_some _ _ is)
fault_is see (Sort w g) want given reason is = (TypeFault.Sort w g, given, from_some _ _ is)
fault_is see (Duplicate name) want given reason is = (TypeFault.Duplicate name, given, from_some _ _ is)
fault_is see Program want given reason is = (TypeFault.Program, given, from_some _ _ is)
fault_is see NoMemory want given reason is = cc

-- ---- a text that is typed over the whole signature

module _ (flat : Flat) (s : Sequent) where
  pub text_term : (t : RawTerm) (typed : Typed (Term × Name)) → elab_term flat.sig (context_of s) t ≡ typed
      → typed_text (view_of flat) s (StepText.OfTerm t) ≡ and_then typed (λ p. Ok (TypedText.OfTerm p.0))
  text_term t typed is = ap (λ (r : Typed (Term × Name)). and_then r (λ p. Ok (TypedText.OfTerm p.0))) (typed_by_names.of_term flat.sig (context_of s) t ∙ is)

  pub text_form : (f : RawForm) (typed : Typed Form) → elab_form flat.sig (context_of s) f ≡ typed
      → typed_text (view_of flat) s (StepText.OfForm f) ≡ and_then typed (λ h. Ok (TypedText.OfForm h))
  text_form f typed is = ap (λ (r : Typed Form). and_then r (λ h. Ok (TypedText.OfForm h))) (typed_by_names.of_form flat.sig (context_of s) f ∙ is)

  pub term_faulty : (t : RawTerm) (around : Context) → around ≡ context_of s → (e : TypeError) → typing.Gives (λ (p : TermTree × Name). (plain_term p.0, p.1)) (Err e) (elab_term flat.sig around t)
      → typing.Gives plain_typed_text (Err e) (typed_text (view_of flat) s (StepText.OfTerm t))
  term_faulty t around is (Unknown n) e = text_term t (Err (TypeFault.Unknown n)) (ap (λ (c : Context). elab_term flat.sig c t) (sym is) ∙ e)
  term_faulty t around is (Arity n) e = text_term t (Err (TypeFault.Arity n)) (ap (λ (c : Context). elab_term flat.sig c t) (sym is) ∙ e)
  term_faulty t around is (Sort w g) e = text_term t (Err (TypeFault.Sort w g)) (ap (λ (c : Context). elab_term flat.sig c t) (sym is) ∙ e)
  term_faulty t around is (Duplicate n) e = text_term t (Err (TypeFault.Duplicate n)) (ap (λ (c : Context). elab_term flat.sig c t) (sym is) ∙ e)
  term_faulty t around is Program e = text_term t (Err TypeFault.Program) (ap (λ (c : Context). elab_term flat.sig c t) (sym is) ∙ e)
  term_faulty t around is NoMemory e = tt

  pub form_faulty : (f : RawForm) (around : Context) → around ≡ context_of s → (e : TypeError) → typing.Gives plain_form (Err e) (elab_form flat.sig around f)
      → typing.Gives plain_typed_text (Err e) (typed_text (view_of flat) s (StepText.OfForm f))
  form_faulty f around is (Unknown n) e = text_form f (Err (TypeFault.Unknown n)) (ap (λ (c : Context). elab_form flat.sig c f) (sym is) ∙ e)
  form_faulty f around is (Arity n) e = text_form f (Err (TypeFault.Arity n)) (ap (λ (c : Context). elab_form flat.sig c f) (sym is) ∙ e)
  form_faulty f around is (Sort w g) e = text_form f (Err (TypeFault.Sort w g)) (ap (λ (c : Context). elab_form flat.sig c f) (sym is) ∙ e)
  form_faulty f around is (Duplicate n) e = text_form f (Err (TypeFault.Duplicate n)) (ap (λ (c : Context). elab_form flat.sig c f) (sym is) ∙ e)
  form_faulty f around is Program e = text_form f (Err TypeFault.Program) (ap (λ (c : Context). elab_form flat.sig c f) (sym is) ∙ e)
  form_faulty f around is NoMemory e = tt

  pub term_given : (t : RawTerm) (around : Context) → around ≡ context_of s → (term : Term) (sort : Name) → elab_term flat.sig around t ≡ Ok (term, sort)
      → typed_text (view_of flat) s (StepText.OfTerm t) ≡ Ok (TypedText.OfTerm term)
  term_given t around is term sort e = text_term t (Ok (term, sort)) (ap (λ (c : Context). elab_term flat.sig c t) (sym is) ∙ e)

  pub form_given : (f : RawForm) (around : Context) → around ≡ context_of s → (form : Form) → elab_form flat.sig around f ≡ Ok form
      → typed_text (view_of flat) s (StepText.OfForm f) ≡ Ok (TypedText.OfForm form)
  form_given f around is form e = text_form f (Ok form) (ap (λ (c : Context). elab_form flat.sig c f) (sym is) ∙ e)

-- ---- a step

module _ (v : View) (s : Sequent) (step : Step) where
  pub step_faulty : (fault : TypeFault) → typed_text v s step.text ≡ Err fault → step_answer v s step ≡ Err (typing_reason fault)
  step_faulty fault is = ap (answer_where v s step) is

  module _ (text : TypedText) (typed : typed_text v s step.text ≡ Ok text) where
    pub step_refused : (refusal : Refusal) → premises v s (typed_step step text) ≡ Err refusal → step_answer v s step ≡ Err (refusal_reason refusal)
    step_refused refusal is = ap (answer_where v s step) typed ∙ ap reasoned is

    pub step_given : (ps : List Sequent) → premises v s (typed_step step text) ≡ Ok ps → step_answer v s step ≡ Ok ps
    step_given ps is = ap (answer_where v s step) typed ∙ ap reasoned is

  module _ (children : List Script) where
    pub answer_refused : (reason : Reason) → step_answer v s step ≡ Err reason → answer v s step (plain_scripts children) ≡ Err reason
    answer_refused reason is = ap (with_children (count (plain_scripts children))) is

    by_count : (ps : List Sequent) → step_answer v s step ≡ Ok ps → answer v s step (plain_scripts children) ≡ with_children (length children) (Ok ps)
    by_count ps is = ap (with_children (count (plain_scripts children))) is ∙ ap (λ n. with_children n (Ok ps)) (count_of children)

    pub answer_surplus : (ps : List Sequent) → step_answer v s step ≡ Ok ps → length ps < length children → answer v s step (plain_scripts children) ≡ Err surplus_reason
    answer_surplus ps is h = by_count ps is ∙ ap (λ b. if b then Err surplus_reason else Ok ps) (lt-ltb (length ps) (length children) h)

    pub answer_premises : (ps : List Sequent) → step_answer v s step ≡ Ok ps → length children ≤ length ps → answer v s step (plain_scripts children) ≡ Ok ps
    answer_premises ps is h = by_count ps is ∙ ap (λ b. if b then Err surplus_reason else Ok ps) (le-ltb (length ps) (length children) h)

-- What a step of a script answers at a sequent: its premises, or why it is refused.
use Rattle.std.specs.Prelude.{ℕ, suc, nat_lt, if◌then◌else◌, List, [], ◌∷◌, length, map, Result, Ok, Err}
use Rattle.kv_elab.specs.Elab.{elab_form, elab_term}
use Rattle.kv_elab.specs.Names.{form_names, term_names, symbols_named}
use Rattle.kv_elab.specs.Typed.{Typed, and_then}
use Rattle.kv_elab.specs.declared.contexts.Context.{Context}
use Rattle.kv_prop.specs.Premises.{Premises, premises}
use Rattle.kv_script.specs.Reasons.{refusal_reason, surplus_reason, typing_reason}
use Rattle.kv_goal.specs.ByName.{variables_by_name, procedures_by_name}
use Rattle.kv_sig.specs.Steps.{TypedText, TypedStep}
use Rattle.kv_sig.specs.Views.{View}
use Rattle.kv_syn.specs.Scripts.{Scripts, Step, StepText}
use Rattle.kv_trees.specs.Trees.{Sequent}
use Rattle.kv_syn.specs.declared.outcomes.Look.{Look}
use Rattle.kv_syn.specs.declared.outcomes.Look.TheVariants.{Symbol, Label}
use Rattle.kv_syn.specs.declared.outcomes.Reason.{Reason}

-- ---- the text of a step

-- a text may name these
abbrev pub context_of : Sequent → Context
context_of s = record { free = variables_by_name s; bound = []; assumed = procedures_by_name s }

-- the text after typing, or its first fault
abbrev pub typed_text : View → Sequent → StepText → Typed TypedText
typed_text v s StepText.Nothing = Ok TypedText.Nothing
typed_text v s (StepText.Fresh x) = Ok (TypedText.Fresh x)
typed_text v s (StepText.OfTerm t) = and_then (elab_term (symbols_named v.symbol (term_names t)) (context_of s) t) (λ typed. Ok (TypedText.OfTerm typed.0))
typed_text v s (StepText.OfForm f) = and_then (elab_form (symbols_named v.symbol (form_names f)) (context_of s) f) (λ typed. Ok (TypedText.OfForm typed))
typed_text v s (StepText.OfLabel l) = Ok (TypedText.OfLabel l)

abbrev pub typed_step : Step → TypedText → TypedStep
typed_step step text = record { rule = step.rule; side = step.side; numbers = step.numbers; text = text }

-- what the step asks of the environment: each name of its text, be it a symbol or not, and its label
abbrev pub text_looks : StepText → List Look
text_looks StepText.Nothing = []
text_looks (StepText.Fresh x) = Symbol x ∷ []
text_looks (StepText.OfTerm t) = map Symbol (term_names t)
text_looks (StepText.OfForm f) = map Symbol (form_names f)
text_looks (StepText.OfLabel l) = Label l ∷ []

-- ---- the answer

-- the premises, or the reason of the refusal
abbrev pub Answer : Type 0
Answer = Result (List Sequent) Reason

abbrev pub reasoned : Premises → Answer
reasoned (Ok ps) = Ok ps
reasoned (Err refusal) = Err (refusal_reason refusal)

-- first the fault of the text counts, and then the refusal of the rule
abbrev pub answer_where : View → Sequent → Step → Typed TypedText → Answer
answer_where v s step (Err fault) = Err (typing_reason fault)
answer_where v s step (Ok text) = reasoned (premises v s (typed_step step text))

abbrev pub step_answer : View → Sequent → Step → Answer
step_answer v s step = answer_where v s step (typed_text v s step.text)

abbrev pub count : Scripts → ℕ
count Scripts.none = 0
count (Scripts.more s rest) = suc (count rest)

-- after all other refusals, more children than premises are one too
abbrev pub with_children : ℕ → Answer → Answer
with_children n (Ok ps) = if nat_lt (length ps) n then Err surplus_reason else Ok ps
with_children n (Err reason) = Err reason

-- the answer to a step with these children
abbrev pub answer : View → Sequent → Step → Scripts → Answer
answer v s step children = with_children (count children) (step_answer v s step)

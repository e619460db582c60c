-- Views that answer alike give the same replay.
use Rattle.std.proofs.Common.{ℕ, ◌+◌, Bool, true, false, ◌==◌, if◌then◌else◌, List, [], ◌∷◌, ◌++◌, map, Option, Some, None, Ok, Err, length, ◌≡◌, refl, sym, ap, ap₂, ◌∙◌, subst, append_assoc}
use Rattle.kv_elab.specs.Elab.{elab_term, elab_form, elab_name, elab_args, terms_count}
use Rattle.kv_elab.specs.Names.{term_names, form_names, symbol_where, symbols_named}
use Rattle.kv_elab.specs.Scopes.{place_of}
use Rattle.kv_elab.specs.Typed.{Typed, and_then}
use Rattle.kv_elab.specs.declared.contexts.Context.{Context}
use Rattle.kv_prop.proofs.Alike.{same_premises}
use Rattle.kv_prop.specs.Premises.{needs, head_looks}
use Rattle.kv_script.proofs.Kept.{every_asked}
use Rattle.kv_script.specs.Answers.{Answer, context_of, typed_text, typed_step, text_looks, reasoned, answer_where, step_answer, count, with_children, answer}
use Rattle.kv_script.specs.Events.{Event, child_path, on_premises, events, events_below, asked_looks, goal_sequent, replay_events}
use Rattle.kv_script.specs.Laws.{SameReplays}
use Rattle.kv_sig.specs.Members.{Every}
use Rattle.kv_sig.specs.Signatures.{profile_of}
use Rattle.kv_sig.specs.Steps.{TypedText}
use Rattle.kv_sig.specs.Views.{View, AnswersAlike}
use Rattle.kv_raw.specs.RawTrees.{RawTerm}
use Rattle.kv_syn.specs.Scripts.{Script, Scripts, Step, StepText}
use Rattle.kv_names.specs.Names.{Name}
use Rattle.kv_trees.specs.Trees.{Term, Terms, Sequent}
use Rattle.kv_syn.specs.declared.outcomes.Look.{Look}
use Rattle.kv_syn.specs.declared.outcomes.Look.TheVariants.{Symbol}
use Rattle.kv_names.specs.declared.symbols.Profile.{Profile}
use Rattle.kv_names.specs.declared.symbols.Profile.TheVariants.{Sort, Fun, Pred, Proc}
use Rattle.kv_names.specs.declared.symbols.Symbol.{Symbol as SymbolRow}
use Rattle.kv_trees.specs.declared.trees.Ref.{Ref}

every_front : {A : Type 0} (P : A → Type 0) (xs ys : List A) → Every P (xs ++ ys) → Every P xs
every_front P [] ys e = tt
every_front P (x ∷ xs) ys e = (e.0, every_front P xs ys e.1)

every_back : {A : Type 0} (P : A → Type 0) (xs ys : List A) → Every P (xs ++ ys) → Every P ys
every_back P [] ys e = e
every_back P (x ∷ xs) ys e = every_back P xs ys e.1

-- it holds of what was typed, where there is no fault
abbrev OnTyped : {A : Type 0} → (A → Type 0) → Typed A → Type 0
OnTyped P (Ok x) = P x
OnTyped P (Err fault) = Unit {0}

if_typed : {A : Type 0} (P : A → Type 0) (b : Bool) (x y : Typed A) → OnTyped P x → OnTyped P y → OnTyped P (if b then x else y)
if_typed P true x y p q = p
if_typed P false x y p q = q

then_typed : {A B : Type 0} (P : B → Type 0) (r : Typed A) (next : A → Typed B) → ((x : A) → OnTyped P (next x)) → OnTyped P (and_then r next)
then_typed P (Ok x) next h = h x
then_typed P (Err fault) next h = tt

-- a typed term has the name of the raw one at its head, or is a variable
module _ (Q : Look → Type 0) (f : Name) (q : Q (Symbol f)) where
  abbrev Head : Term × Name → Type 0
  Head t = Every Q (head_looks t.0)

  head_name : (place : Option (Ref × Name)) (profile : Option Profile) (n : ℕ) (args : List Name → Typed Terms) → OnTyped Head (elab_name f place profile n args)
  head_name (Some place) profile n args = if_typed Head (n == 0) _ _ tt tt
  head_name None (Some (Fun wants sort)) n args = if_typed Head (n == length wants) _ _ (then_typed Head (args wants) _ (λ us. (q, tt))) tt
  head_name None None n args = tt
  head_name None (Some Sort) n args = tt
  head_name None (Some (Pred wants)) n args = tt
  head_name None (Some (Proc values refs)) n args = tt

head_term : (Q : Look → Type 0) (sig : List SymbolRow) (c : Context) (t : RawTerm) → Every Q (map Symbol (term_names t)) → OnTyped (λ (p : Term × Name). Every Q (head_looks p.0)) (elab_term sig c t)
head_term Q sig c (RawTerm.App f ts) e = head_name Q f e.0 (place_of c f) (profile_of sig f) (terms_count ts) (λ wants. elab_args sig c wants ts)

text_term : (Q : Look → Type 0) (r : Typed (Term × Name)) → OnTyped (λ (p : Term × Name). Every Q (head_looks p.0)) r
    → OnTyped (λ (text : TypedText). Every Q (needs text)) (and_then r (λ typed. Ok (TypedText.OfTerm typed.0)))
text_term Q (Ok p) h = h
text_term Q (Err fault) h = tt

-- ---- one step

module _ (v w : View) where
  abbrev Alike : Look → Type 0
  Alike = AnswersAlike v w

  same_symbols : (ns : List Name) → Every Alike (map Symbol ns) → symbols_named v.symbol ns ≡ symbols_named w.symbol ns
  same_symbols [] e = refl
  same_symbols (n ∷ ns) e = ap₂ (λ xs ys. xs ++ ys) (ap (symbol_where n) e.0) (same_symbols ns e.1)

  same_text : (s : Sequent) (text : StepText) → Every Alike (text_looks text) → typed_text v s text ≡ typed_text w s text
  same_text s StepText.Nothing e = refl
  same_text s (StepText.Fresh x) e = refl
  same_text s (StepText.OfTerm t) e = ap (λ (sig : List SymbolRow). and_then (elab_term sig (context_of s) t) (λ typed. Ok (TypedText.OfTerm typed.0))) (same_symbols (term_names t) e)
  same_text s (StepText.OfForm f) e = ap (λ (sig : List SymbolRow). and_then (elab_form sig (context_of s) f) (λ typed. Ok (TypedText.OfForm typed))) (same_symbols (form_names f) e)
  same_text s (StepText.OfLabel l) e = refl

  needed : (s : Sequent) (text : StepText) → Every Alike (text_looks text) → OnTyped (λ (typed : TypedText). Every Alike (needs typed)) (typed_text v s text)
  needed s StepText.Nothing e = tt
  needed s (StepText.Fresh x) e = e
  needed s (StepText.OfTerm t) e =
      let sig = symbols_named v.symbol (term_names t) in
      text_term Alike (elab_term sig (context_of s) t) (head_term Alike sig (context_of s) t e)
  needed s (StepText.OfForm f) e = then_typed (λ (typed : TypedText). Every Alike (needs typed)) (elab_form (symbols_named v.symbol (form_names f)) (context_of s) f) _ (λ typed. tt)
  needed s (StepText.OfLabel l) e = e

  same_where : (s : Sequent) (step : Step) (text : Typed TypedText) → OnTyped (λ (typed : TypedText). Every Alike (needs typed)) text → answer_where v s step text ≡ answer_where w s step text
  same_where s step (Err fault) e = refl
  same_where s step (Ok text) e = ap reasoned (same_premises v w s (typed_step step text) e)

  pub same_step : (s : Sequent) (step : Step) → Every Alike (text_looks step.text) → step_answer v s step ≡ step_answer w s step
  same_step s step e = same_where s step (typed_text v s step.text) (needed s step.text e) ∙ ap (answer_where w s step) (same_text s step.text e)

-- ---- all that is met

asked_append : (xs ys : List Event) → asked_looks (xs ++ ys) ≡ asked_looks xs ++ asked_looks ys
asked_append [] ys = refl
asked_append (Event.open_goal path s ∷ xs) ys = asked_append xs ys
asked_append (Event.visit path s step a ∷ xs) ys =
    ap (λ ls. text_looks step.text ++ ls) (asked_append xs ys) ∙ sym (append_assoc (text_looks step.text) (asked_looks xs) (asked_looks ys))

on_same : (Q : Look → Type 0) (a : Answer) (f g : List Sequent → List Event) → ((ps : List Sequent) → Every Q (asked_looks (f ps)) → f ps ≡ g ps)
    → Every Q (asked_looks (on_premises a f)) → on_premises a f ≡ on_premises a g
on_same Q (Ok ps) f g h e = h ps e
on_same Q (Err reason) f g h e = refl

module _ (v w : View) where
  mutual
    same_events : (k : Script) (s : Sequent) (path : List ℕ) → Every (AnswersAlike v w) (asked_looks (events v s path k)) → events v s path k ≡ events w s path k
    same_events Script.Hole s path e = refl
    same_events (Script.Node step children) s path e =
        let asked = text_looks step.text in
        let below = λ (u : View) (ps : List Sequent). events_below u path 0 ps children in
        let a = answer v s step children in
        let same : a ≡ answer w s step children = ap (with_children (count children)) (same_step v w s step (every_front (AnswersAlike v w) asked (asked_looks (on_premises a (below v))) e)) in
        let rest = on_same (AnswersAlike v w) a (below v) (below w) (λ ps h. same_below children ps path 0 h) (every_back (AnswersAlike v w) asked (asked_looks (on_premises a (below v))) e) in
        ap (λ es. Event.visit path s step a ∷ es) rest ∙ ap (λ b. Event.visit path s step b ∷ on_premises b (below w)) same

    same_below : (ks : Scripts) (ps : List Sequent) (path : List ℕ) (i : ℕ) → Every (AnswersAlike v w) (asked_looks (events_below v path i ps ks)) → events_below v path i ps ks ≡ events_below w path i ps ks
    same_below Scripts.none ps path i e = refl
    same_below (Scripts.more k rest) [] path i e = refl
    same_below (Scripts.more k rest) (p ∷ ps) path i e =
        let one = events v p (child_path path i) k in
        let others = events_below v path (i + 1) ps rest in
        let split = subst (Every (AnswersAlike v w)) (asked_append one others) e in
        ap₂ (λ xs ys. xs ++ ys)
        (same_events k p (child_path path i) (every_front (AnswersAlike v w) (asked_looks one) (asked_looks others) split))
        (same_below rest ps path (i + 1) (every_back (AnswersAlike v w) (asked_looks one) (asked_looks others) split))

pub same_replays : SameReplays
same_replays v w goal script e = same_events v w script (goal_sequent goal) [] (every_asked (AnswersAlike v w) (asked_looks (replay_events v goal script)) e)

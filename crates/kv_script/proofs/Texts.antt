-- What typing tells of a step's text at a good sequent.
use Rattle.std.proofs.Common.{List, [], ◌∷◌, Ok, ◌≡◌, sym, ap, ◌∙◌, subst}
use Rattle.std.specs.Str.{bytes_eq}
use Rattle.kv_raw.specs.RawTrees.{RawTerm, RawForm}
use Rattle.kv_syn.specs.Scripts.{StepText}
use Rattle.kv_names.specs.Names.{Name}
use Rattle.kv_trees.specs.Trees.{Term, Form, Sequent}
use Rattle.kv_names.specs.declared.symbols.Profile.{Profile}
use Rattle.kv_names.specs.declared.symbols.Var.{Var}
use Rattle.kv_names.specs.declared.symbols.Symbol.{Symbol as SymbolRow}
use Rattle.kv_sig.specs.FreeNames.{free_term, free_form, free_forms, free_sequent, assumed_form, assumed_forms, assumed_sequent}
use Rattle.kv_sig.specs.Members.{In, Every}
use Rattle.kv_sig.specs.Signatures.{profile_of}
use Rattle.kv_sig.specs.Steps.{TypedText}
use Rattle.kv_sig.specs.Typing.{IsTerm, IsForm}
use Rattle.kv_sig.specs.Views.{View}
use Rattle.kv_elab.specs.Elab.{elab_term, elab_form}
use Rattle.kv_elab.specs.Lawful.{IsLawful}
use Rattle.kv_elab.specs.Names.{term_names, form_names, symbols_named}
use Rattle.kv_elab.proofs.ByNames.{typed_by_names}
use Rattle.kv_elab.proofs.Outcomes.{Answers, from_ok, from_one}
use Rattle.kv_elab.proofs.Typings.{term_typed, form_typed}
use Rattle.kv_elab.proofs.Within.{term_within, form_within}
use Rattle.kv_calc.specs.Calculus.{Theory, Good}
use Rattle.kv_calc.proofs.Members.{Sub, every_in, every_of, every_append}
use Rattle.kv_calc.proofs.Parts.{Part}
use Rattle.kv_script.specs.Answers.{context_of, typed_text}
use Rattle.kv_script.specs.Events.{uses_of}
use Rattle.kv_script.proofs.Lemmas.{IsGiven}
use Rattle.kv_script.proofs.Onces.{in_once}
use Rattle.kv_script.proofs.Sorts.{HasSort, OverSorts, form_sorts, form_over}

-- ---- the context of a good sequent

forms_sorts : (sig : List SymbolRow) (fs : List Form) → Every (IsForm sig []) fs → Every (HasSort sig) (free_forms fs)
forms_sorts sig [] e = tt
forms_sorts sig (f ∷ fs) e = every_append (HasSort sig) (free_form f) (free_forms fs) (form_sorts sig [] f e.0) (forms_sorts sig fs e.1)

forms_over : (sig : List SymbolRow) (fs : List Form) → Every (IsForm sig []) fs → Every (OverSorts sig) (assumed_forms fs)
forms_over sig [] e = tt
forms_over sig (f ∷ fs) e = every_append (OverSorts sig) (assumed_form f) (assumed_forms fs) (form_over sig [] f e.0) (forms_over sig fs e.1)

-- what stands in the context stands in the sequent
free_there : (S : Sequent) → Sub (context_of S).free (free_sequent S)
free_there S x i = in_once (λ (y z : Var). bytes_eq y.name z.name) (free_sequent S) x i

assumed_there : (S : Sequent) → Sub (context_of S).assumed (assumed_sequent S)
assumed_there S p i = in_once (λ (q r : Name × Profile). bytes_eq q.0 r.0) (assumed_sequent S) p i

-- each of these is one of those, as the sublist
sub_of : {A : Type 0} (xs ys zs : List A) → Every (λ (x : A). In x ys) xs → Sub ys zs → Sub xs zs
sub_of xs ys zs e s x i = s x (every_in (λ z. In z ys) xs e x i)

module _ (T : Theory) (S : Sequent) (g : Good T S) where
  lawful : IsLawful T.signature (context_of S)
  lawful = record {
    free = every_of (HasSort T.signature) (context_of S).free (λ x i. every_in (HasSort T.signature) (free_sequent S) sorts x (free_there S x i));
    bound = tt;
    assumed = every_of (OverSorts T.signature) (context_of S).assumed (λ p i. every_in (OverSorts T.signature) (assumed_sequent S) profiles p (assumed_there S p i));
  } where
    sorts : Every (HasSort T.signature) (free_sequent S)
    sorts = every_append (HasSort T.signature) (free_forms S.left) (free_forms S.right) (forms_sorts T.signature S.left g.lefts) (forms_sorts T.signature S.right g.rights)

    profiles : Every (OverSorts T.signature) (assumed_sequent S)
    profiles = every_append (OverSorts T.signature) (assumed_forms S.left) (assumed_forms S.right) (forms_over T.signature S.left g.lefts) (forms_over T.signature S.right g.rights)

  -- ---- a typed text

  -- a typed term over names of the sequent, a part of it, and a label whose formula is given
  abbrev pub Fits : View → TypedText → Type 0
  Fits v TypedText.Nothing = Unit {0}
  Fits v (TypedText.Fresh x) = Unit {0}
  Fits v (TypedText.OfTerm t) = (s : Name) × IsTerm T.signature [] t s × Sub (free_term t) (free_sequent S)
  Fits v (TypedText.OfForm f) = Part T S f
  Fits v (TypedText.OfLabel l) = IsGiven v T l

  module _ (v : View) (symbols : v.symbol ≡ profile_of T.signature) where
    term_known : (t : RawTerm) (p : Term × Name) → Answers (elab_term (symbols_named v.symbol (term_names t)) (context_of S) t) p → Answers (elab_term T.signature (context_of S) t) p
    term_known t p e =
        sym (ap (λ look. elab_term (symbols_named look (term_names t)) (context_of S) t) symbols ∙ typed_by_names.of_term T.signature (context_of S) t) ∙ e

    form_known : (f : RawForm) (g : Form) → Answers (elab_form (symbols_named v.symbol (form_names f)) (context_of S) f) g → Answers (elab_form T.signature (context_of S) f) g
    form_known f h e =
        sym (ap (λ look. elab_form (symbols_named look (form_names f)) (context_of S) f) symbols ∙ typed_by_names.of_form T.signature (context_of S) f) ∙ e

    of_term : (t : RawTerm) (p : Term × Name) → Answers (elab_term T.signature (context_of S) t) p → Fits v (TypedText.OfTerm p.0)
    of_term t p e = (
      p.1,
      term_typed T.signature (context_of S) t p lawful e,
      sub_of (free_term p.0) (context_of S).free (free_sequent S) (term_within T.signature (context_of S) t p e) (free_there S),
    )

    of_form : (f : RawForm) (h : Form) → Answers (elab_form T.signature (context_of S) f) h → Part T S h
    of_form f h e =
        let within = form_within T.signature (context_of S) f h e in
        record {
          typed = form_typed T.signature (context_of S) f h lawful e;
          variables = sub_of (free_form h) (context_of S).free (free_sequent S) within.free (free_there S);
          procedures = sub_of (assumed_form h) (context_of S).assumed (assumed_sequent S) within.assumed (assumed_there S);
        }

    pub text_fits : (text : StepText) (typed : TypedText) → Every (IsGiven v T) (uses_of text) → typed_text v S text ≡ Ok typed → Fits v typed
    text_fits StepText.Nothing typed given e = subst (Fits v) (from_ok TypedText.Nothing typed e) tt
    text_fits (StepText.Fresh x) typed given e = subst (Fits v) (from_ok (TypedText.Fresh x) typed e) tt
    text_fits (StepText.OfTerm t) typed given e =
        from_one (Fits v) (λ (p : Term × Name). TypedText.OfTerm p.0) (elab_term (symbols_named v.symbol (term_names t)) (context_of S) t) typed e (λ p is. of_term t p (term_known t p is))
    text_fits (StepText.OfForm f) typed given e =
        from_one (Fits v) TypedText.OfForm (elab_form (symbols_named v.symbol (form_names f)) (context_of S) f) typed e (λ h is. of_form f h (form_known f h is))
    text_fits (StepText.OfLabel l) typed given e = subst (Fits v) (from_ok (TypedText.OfLabel l) typed e) given.0

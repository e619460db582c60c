-- The free names of a typed tree are over sorts of the signature.
use Rattle.std.proofs.Common.{List, [], ◌∷◌, ◌++◌, sym, subst}
use Rattle.kv_names.specs.Names.{Name}
use Rattle.kv_trees.specs.Trees.{Term, Terms, Form, Prog}
use Rattle.kv_names.specs.declared.symbols.Callee.{Callee}
use Rattle.kv_names.specs.declared.symbols.Callee.TheVariants.{Symbol, Assumed}
use Rattle.kv_names.specs.declared.symbols.Profile.{Profile}
use Rattle.kv_names.specs.declared.symbols.Symbol.{Symbol as SymbolRow}
use Rattle.kv_names.specs.declared.symbols.Var.{Var}
use Rattle.kv_trees.specs.declared.trees.Ref.{Ref}
use Rattle.kv_trees.specs.declared.trees.Ref.TheVariants.{Free, Bound}
use Rattle.kv_sig.specs.FreeNames.{free_ref, free_refs, free_term, free_terms, free_form, free_prog, assumed_callee, assumed_form, assumed_prog}
use Rattle.kv_sig.specs.Members.{Every}
use Rattle.kv_sig.specs.Typing.{IsSort, IsVariable, IsTerm, AreTerms, AreVariables, IsProcedure, IsForm, IsProg}
use Rattle.kv_elab.specs.Lawful.{HasSorts}
use Rattle.kv_calc.proofs.Members.{every_append}

module _ (sig : List SymbolRow) where
  abbrev pub HasSort : Var → Type 0
  HasSort x = IsSort sig x.sort

  abbrev pub OverSorts : Name × Profile → Type 0
  OverSorts p = HasSorts sig p.1

  joined : (xs ys : List Var) → Every HasSort xs → Every HasSort ys → Every HasSort (xs ++ ys)
  joined xs ys h k = every_append HasSort xs ys h k

  called : (ps qs : List (Name × Profile)) → Every OverSorts ps → Every OverSorts qs → Every OverSorts (ps ++ qs)
  called ps qs h k = every_append OverSorts ps qs h k

  ref_sorts : (binders : List Name) (r : Ref) (s : Name) → IsVariable sig binders r s → Every HasSort (free_ref r)
  ref_sorts binders (Free x) s h = (subst (IsSort sig) (sym h.0) h.1, tt)
  ref_sorts binders (Bound n) s h = tt

  refs_sorts : (binders : List Name) (rs : List Ref) (sorts : List Name) → AreVariables sig binders rs sorts → Every HasSort (free_refs rs)
  refs_sorts binders [] sorts h = tt
  refs_sorts binders (r ∷ rs) [] h = absurd h
  refs_sorts binders (r ∷ rs) (s ∷ sorts) h = joined (free_ref r) (free_refs rs) (ref_sorts binders r s h.0) (refs_sorts binders rs sorts h.1)

  mutual
    term_sorts : (binders : List Name) (t : Term) (s : Name) → IsTerm sig binders t s → Every HasSort (free_term t)
    term_sorts binders (Term.Place r) s h = ref_sorts binders r s h
    term_sorts binders (Term.App f ts) s h = terms_sorts binders ts h.0 h.2

    terms_sorts : (binders : List Name) (ts : Terms) (sorts : List Name) → AreTerms sig binders ts sorts → Every HasSort (free_terms ts)
    terms_sorts binders Terms.none sorts h = tt
    terms_sorts binders (Terms.more t ts) [] h = absurd h
    terms_sorts binders (Terms.more t ts) (s ∷ sorts) h = joined (free_term t) (free_terms ts) (term_sorts binders t s h.0) (terms_sorts binders ts sorts h.1)

  mutual
    pub form_sorts : (binders : List Name) (f : Form) → IsForm sig binders f → Every HasSort (free_form f)
    form_sorts binders Form.True h = tt
    form_sorts binders Form.False h = tt
    form_sorts binders (Form.Atom p ts) h = terms_sorts binders ts h.0 h.2
    form_sorts binders (Form.Equal s t) h = joined (free_term s) (free_term t) (term_sorts binders s h.0 h.1) (term_sorts binders t h.0 h.2)
    form_sorts binders (Form.Not f) h = form_sorts binders f h
    form_sorts binders (Form.And f g) h = joined (free_form f) (free_form g) (form_sorts binders f h.0) (form_sorts binders g h.1)
    form_sorts binders (Form.Or f g) h = joined (free_form f) (free_form g) (form_sorts binders f h.0) (form_sorts binders g h.1)
    form_sorts binders (Form.Imp f g) h = joined (free_form f) (free_form g) (form_sorts binders f h.0) (form_sorts binders g h.1)
    form_sorts binders (Form.Iff f g) h = joined (free_form f) (free_form g) (form_sorts binders f h.0) (form_sorts binders g h.1)
    form_sorts binders (Form.All s f) h = form_sorts (s ∷ binders) f h.1
    form_sorts binders (Form.Ex s f) h = form_sorts (s ∷ binders) f h.1
    form_sorts binders (Form.After a f) h = joined (free_prog a) (free_form f) (prog_sorts binders a h.0) (form_sorts binders f h.1)
    form_sorts binders (Form.Can a f) h = joined (free_prog a) (free_form f) (prog_sorts binders a h.0) (form_sorts binders f h.1)

    prog_sorts : (binders : List Name) (a : Prog) → IsProg sig binders a → Every HasSort (free_prog a)
    prog_sorts binders Prog.Skip h = tt
    prog_sorts binders Prog.Abort h = tt
    prog_sorts binders (Prog.Assign x t) h = joined (free_ref x) (free_term t) (ref_sorts binders x h.0 h.1) (term_sorts binders t h.0 h.2)
    prog_sorts binders (Prog.Seq a b) h = joined (free_prog a) (free_prog b) (prog_sorts binders a h.0) (prog_sorts binders b h.1)
    prog_sorts binders (Prog.If e a b) h =
        joined (free_form e) (free_prog a ++ free_prog b) (form_sorts binders e h.1) (joined (free_prog a) (free_prog b) (prog_sorts binders a h.2) (prog_sorts binders b h.3))
    prog_sorts binders (Prog.While e a) h = joined (free_form e) (free_prog a) (form_sorts binders e h.1) (prog_sorts binders a h.2)
    prog_sorts binders (Prog.Local s t a) h = joined (free_term t) (free_prog a) (term_sorts binders t s h.1) (prog_sorts (s ∷ binders) a h.2)
    prog_sorts binders (Prog.Call p ts rs) h = joined (free_terms ts) (free_refs rs) (terms_sorts binders ts h.0 h.3) (refs_sorts binders rs h.1 h.4)
    prog_sorts binders (Prog.Choice a b) h = joined (free_prog a) (free_prog b) (prog_sorts binders a h.0) (prog_sorts binders b h.1)

  callee_over : (p : Callee) (values refs : List Name) → IsProcedure sig p values refs → Every OverSorts (assumed_callee p)
  callee_over (Symbol p) values refs h = tt
  callee_over (Assumed p profile) values refs h = (subst (HasSorts sig) (sym h.0) (h.1, h.2), tt)

  mutual
    pub form_over : (binders : List Name) (f : Form) → IsForm sig binders f → Every OverSorts (assumed_form f)
    form_over binders Form.True h = tt
    form_over binders Form.False h = tt
    form_over binders (Form.Atom p ts) h = tt
    form_over binders (Form.Equal s t) h = tt
    form_over binders (Form.Not f) h = form_over binders f h
    form_over binders (Form.And f g) h = called (assumed_form f) (assumed_form g) (form_over binders f h.0) (form_over binders g h.1)
    form_over binders (Form.Or f g) h = called (assumed_form f) (assumed_form g) (form_over binders f h.0) (form_over binders g h.1)
    form_over binders (Form.Imp f g) h = called (assumed_form f) (assumed_form g) (form_over binders f h.0) (form_over binders g h.1)
    form_over binders (Form.Iff f g) h = called (assumed_form f) (assumed_form g) (form_over binders f h.0) (form_over binders g h.1)
    form_over binders (Form.All s f) h = form_over (s ∷ binders) f h.1
    form_over binders (Form.Ex s f) h = form_over (s ∷ binders) f h.1
    form_over binders (Form.After a f) h = called (assumed_prog a) (assumed_form f) (prog_over binders a h.0) (form_over binders f h.1)
    form_over binders (Form.Can a f) h = called (assumed_prog a) (assumed_form f) (prog_over binders a h.0) (form_over binders f h.1)

    prog_over : (binders : List Name) (a : Prog) → IsProg sig binders a → Every OverSorts (assumed_prog a)
    prog_over binders Prog.Skip h = tt
    prog_over binders Prog.Abort h = tt
    prog_over binders (Prog.Assign x t) h = tt
    prog_over binders (Prog.Seq a b) h = called (assumed_prog a) (assumed_prog b) (prog_over binders a h.0) (prog_over binders b h.1)
    prog_over binders (Prog.If e a b) h =
        called (assumed_form e) (assumed_prog a ++ assumed_prog b) (form_over binders e h.1) (called (assumed_prog a) (assumed_prog b) (prog_over binders a h.2) (prog_over binders b h.3))
    prog_over binders (Prog.While e a) h = called (assumed_form e) (assumed_prog a) (form_over binders e h.1) (prog_over binders a h.2)
    prog_over binders (Prog.Local s t a) h = prog_over (s ∷ binders) a h.2
    prog_over binders (Prog.Call p ts rs) h = callee_over p h.0 h.1 h.2
    prog_over binders (Prog.Choice a b) h = called (assumed_prog a) (assumed_prog b) (prog_over binders a h.0) (prog_over binders b h.1)

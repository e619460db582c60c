-- The body that a replacement stands for is typed under a binder of the sort of the term that it takes away.
use Rattle.std.proofs.Common.{◌≡◌, ℕ, zero, suc, ◌+◌, List, [], ◌∷◌, ◌++◌, length, Some, refl, sym, ap, ◌∙◌, subst, arith}
use Rattle.std.specs.List.{slice_get}
use Rattle.std.specs.Prelude.{Bool, true, false, if◌then◌else◌}
use Rattle.kv_names.specs.Names.{Name}
use Rattle.kv_names.specs.declared.symbols.Symbol.{Symbol}
use Rattle.kv_prop.specs.Replacing.{touches}
use Rattle.kv_script.proofs.Marks.{marked_term, marked_terms, marked_form}
use Rattle.kv_script.proofs.Raised.{back}
use Rattle.kv_script.proofs.Replaced.{behind_typed, one_sort}
use Rattle.kv_sig.specs.Typing.{IsVariable, IsTerm, AreTerms, IsForm, IsProg}
use Rattle.kv_subst.proofs.Refs.{form_refs, prog_refs}
use Rattle.kv_calc.proofs.Typed.{form_typed, prog_typed}
use Rattle.kv_calc.proofs.TypedPlaces.{closed_typed, term_lifted}
use Rattle.kv_subst.specs.Changing.{changed_form, changed_prog, changed_ref, variable_or}
use Rattle.kv_subst.specs.Opening.{opened, raised, raised_term, raised_var}
use Rattle.kv_trees.proofs.Same.{term_is}
use Rattle.kv_trees.specs.Same.{term_eq}
use Rattle.kv_trees.specs.Trees.{Term, Terms, Form, Prog}
use Rattle.kv_trees.specs.declared.trees.Ref.{Ref}
use Rattle.kv_trees.specs.declared.trees.Ref.TheVariants.{Free, Bound}

-- the sort of the binder behind the inner ones
behind_inner : (inner outer : List Name) (s : Name) (i : ℕ) → i ≡ length inner → slice_get (inner ++ s ∷ outer) i ≡ Some s
behind_inner [] outer s i n = ap (slice_get (s ∷ outer)) n
behind_inner (x ∷ inner) outer s zero n = absurd (omega arith)
behind_inner (x ∷ inner) outer s (suc i) n = behind_inner inner outer s i (omega arith)

-- no condition on references
abbrev Any : ℕ → Ref → Type 0
Any k r = Unit {0}

module _ (sig : List Symbol) (outer : List Name) (sort : Name) where
  -- ---- what is raised by one, for a binder more

  place_raised : (k : ℕ) (inner : List Name) (r : Ref) (s : Name) → k ≡ length inner → IsVariable sig (inner ++ outer) r s → IsTerm sig (inner ++ sort ∷ outer) (raised 1 k r) s
  place_raised k inner (Free x) s n h = h
  place_raised k inner (Bound m) s n h = closed_typed sig outer (record { name = []; sort = sort }) k inner (Bound m) s n h

  abbrev lowered : ℕ → Ref → Ref
  lowered k = changed_ref (opened (Term.Place (Bound 0)) k)

  undone : (k : ℕ) (r : Ref) → Any k r → lowered k (changed_ref (raised 1 k) r) ≡ r
  undone k r v = ap (variable_or (raised_var 1 k r)) (back (Term.Place (Bound 0)) k r)

  form_raised : (k : ℕ) (inner : List Name) (f : Form) → k ≡ length inner → IsForm sig (inner ++ outer) f → IsForm sig (inner ++ sort ∷ outer) (changed_form (raised 1) k f)
  form_raised k inner f n h = form_typed sig outer (sort ∷ outer) (raised 1) Any lowered place_raised (λ k r v. tt) undone k inner f n (form_refs Any (λ k r. tt) k f) h

  prog_raised : (k : ℕ) (inner : List Name) (a : Prog) → k ≡ length inner → IsProg sig (inner ++ outer) a → IsProg sig (inner ++ sort ∷ outer) (changed_prog (raised 1) k a)
  prog_raised k inner a n h = prog_typed sig outer (sort ∷ outer) (raised 1) Any lowered place_raised (λ k r v. tt) undone k inner a n (prog_refs Any (λ k r. tt) k a) h

  -- ---- what is marked

  module _ (t u : Term) (old : IsTerm sig outer t sort) where
    module _ (k : ℕ) (inner : List Name) (n : k ≡ length inner) where
      abbrev here : Term
      here = raised_term k t

      -- at a place that is equal to t, or isn't
      place_where : (v w : Term) (s : Name) (b : Bool) → term_eq v here ≡ b → IsTerm sig (inner ++ outer) v s → IsTerm sig (inner ++ sort ∷ outer) w s
          → IsTerm sig (inner ++ sort ∷ outer) (if b then Term.Place (Bound k) else w) s
      place_where v w s true e h m =
          let is = subst (λ z. IsTerm sig (inner ++ outer) z s) (term_is v here e) h in
          behind_inner inner outer sort k n ∙ ap Some (one_sort sig (inner ++ outer) here sort s (term_lifted sig outer k inner t sort n old) is)
      place_where v w s false e h m = m

      mutual
        term_marked : (v : Term) (s : Name) → IsTerm sig (inner ++ outer) v s → IsTerm sig (inner ++ sort ∷ outer) (marked_term here k v) s
        term_marked (Term.Place r) s h = place_where (Term.Place r) (Term.Place (raised_var 1 k r)) s (term_eq (Term.Place r) here) refl h (place_raised k inner r s n h)
        term_marked (Term.App f ts) s h =
            place_where (Term.App f ts) (Term.App f (marked_terms here k ts)) s (term_eq (Term.App f ts) here) refl h (h.0, h.1, terms_marked ts h.0 h.2)

        terms_marked : (ts : Terms) (sorts : List Name) → AreTerms sig (inner ++ outer) ts sorts → AreTerms sig (inner ++ sort ∷ outer) (marked_terms here k ts) sorts
        terms_marked Terms.none [] h = tt
        terms_marked Terms.none (s ∷ sorts) h = absurd h
        terms_marked (Terms.more v ts) [] h = absurd h
        terms_marked (Terms.more v ts) (s ∷ sorts) h = (term_marked v s h.0, terms_marked ts sorts h.1)

    more : (k : ℕ) (s : Name) (inner : List Name) → k ≡ length inner → k + 1 ≡ length (s ∷ inner)
    more k s inner n = omega arith

    pub form_marked : (k : ℕ) (inner : List Name) (f : Form) → k ≡ length inner → IsForm sig (inner ++ outer) f → IsForm sig (inner ++ sort ∷ outer) (marked_form t u k f)
    form_marked k inner Form.True n h = tt
    form_marked k inner Form.False n h = tt
    form_marked k inner (Form.Atom p ts) n h = (h.0, h.1, terms_marked k inner n ts h.0 h.2)
    form_marked k inner (Form.Equal v w) n h = (h.0, term_marked k inner n v h.0 h.1, term_marked k inner n w h.0 h.2)
    form_marked k inner (Form.Not f) n h = form_marked k inner f n h
    form_marked k inner (Form.And f g) n h = (form_marked k inner f n h.0, form_marked k inner g n h.1)
    form_marked k inner (Form.Or f g) n h = (form_marked k inner f n h.0, form_marked k inner g n h.1)
    form_marked k inner (Form.Imp f g) n h = (form_marked k inner f n h.0, form_marked k inner g n h.1)
    form_marked k inner (Form.Iff f g) n h = (form_marked k inner f n h.0, form_marked k inner g n h.1)
    form_marked k inner (Form.All s f) n h = (h.0, form_marked (k + 1) (s ∷ inner) f (more k s inner n) h.1)
    form_marked k inner (Form.Ex s f) n h = (h.0, form_marked (k + 1) (s ∷ inner) f (more k s inner n) h.1)
    form_marked k inner (Form.After a f) n h = (
      prog_raised k inner a n h.0,
      behind_typed sig (inner ++ sort ∷ outer) (touches t u k a) (changed_form (raised 1) k f) (marked_form t u k f) (form_raised k inner f n h.1) (form_marked k inner f n h.1),
    )
    form_marked k inner (Form.Can a f) n h = (
      prog_raised k inner a n h.0,
      behind_typed sig (inner ++ sort ∷ outer) (touches t u k a) (changed_form (raised 1) k f) (marked_form t u k f) (form_raised k inner f n h.1) (form_marked k inner f n h.1),
    )

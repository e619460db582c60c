-- Which variables are free in a changed tree, and which a changed program modifies: r there, where `mix` says so of s and t before.
use Rattle.std.proofs.Common.{◌≡◌, ℕ, ◌+◌, List, [], ◌∷◌, map, sym, ◌∙◌}
use Rattle.std.specs.Prelude.{Bool, false, ◌||◌}
use Rattle.kv_trees.specs.Same.{ref_eq}
use Rattle.kv_trees.specs.Trees.{Term, Terms, Form, Prog}
use Rattle.kv_trees.specs.declared.trees.Ref.{Ref}
use Rattle.kv_trees.specs.Variables.{raised_ref, term_has, terms_have, refs_have, form_has, prog_has, modifies}
use Rattle.kv_subst.specs.Changing.{Change, changed_term, changed_terms, changed_ref, changed_form, changed_prog}
use Rattle.kv_subst.specs.Fitting.{AllRefs, FormRefs, ProgRefs}

module _ (c : Change) (r s t : Ref) (mix : Bool → Bool → Bool) (none : mix false false ≡ false)
    (joined : (x x' y y' : Bool) → mix (x || x') (y || y') ≡ (mix x y || mix x' y')) (P : ℕ → Ref → Type 0)
    (at_place : (k : ℕ) (q : Ref) → term_has (raised_ref k r) (c k q) ≡ mix (ref_eq q (raised_ref k s)) (ref_eq q (raised_ref k t)))
    (at_ref : (k : ℕ) (q : Ref) → P k q → ref_eq (changed_ref (c k) q) (raised_ref k r) ≡ mix (ref_eq q (raised_ref k s)) (ref_eq q (raised_ref k t))) where
  both : {a b x x' y y' : Bool} → a ≡ mix x y → b ≡ mix x' y' → (a || b) ≡ mix (x || x') (y || y')
  both {a} {b} {x} {x'} {y} {y'} p q = (λ i. p i || q i) ∙ sym (joined x x' y y')

  neither : false ≡ mix false false
  neither = sym none

  mutual
    term_found : (k : ℕ) (u : Term) → term_has (raised_ref k r) (changed_term (c k) u) ≡ mix (term_has (raised_ref k s) u) (term_has (raised_ref k t) u)
    term_found k (Term.Place q) = at_place k q
    term_found k (Term.App f us) = terms_found k us

    terms_found : (k : ℕ) (us : Terms) → terms_have (raised_ref k r) (changed_terms (c k) us) ≡ mix (terms_have (raised_ref k s) us) (terms_have (raised_ref k t) us)
    terms_found k Terms.none = neither
    terms_found k (Terms.more u us) = both (term_found k u) (terms_found k us)

  refs_found : (k : ℕ) (qs : List Ref) → AllRefs (P k) qs → refs_have (raised_ref k r) (map (changed_ref (c k)) qs) ≡ mix (refs_have (raised_ref k s) qs) (refs_have (raised_ref k t) qs)
  refs_found k [] v = neither
  refs_found k (q ∷ qs) v = both (at_ref k q v.0) (refs_found k qs v.1)

  mutual
    pub form_found : (k : ℕ) (f : Form) → FormRefs P k f → form_has r k (changed_form c k f) ≡ mix (form_has s k f) (form_has t k f)
    form_found k Form.True v = neither
    form_found k Form.False v = neither
    form_found k (Form.Atom p us) v = terms_found k us
    form_found k (Form.Equal u w) v = both (term_found k u) (term_found k w)
    form_found k (Form.Not f) v = form_found k f v
    form_found k (Form.And f g) v = both (form_found k f v.0) (form_found k g v.1)
    form_found k (Form.Or f g) v = both (form_found k f v.0) (form_found k g v.1)
    form_found k (Form.Imp f g) v = both (form_found k f v.0) (form_found k g v.1)
    form_found k (Form.Iff f g) v = both (form_found k f v.0) (form_found k g v.1)
    form_found k (Form.All q f) v = form_found (k + 1) f v
    form_found k (Form.Ex q f) v = form_found (k + 1) f v
    form_found k (Form.After a f) v = both (prog_found k a v.0) (form_found k f v.1)
    form_found k (Form.Can a f) v = both (prog_found k a v.0) (form_found k f v.1)

    pub prog_found : (k : ℕ) (a : Prog) → ProgRefs P k a → prog_has r k (changed_prog c k a) ≡ mix (prog_has s k a) (prog_has t k a)
    prog_found k Prog.Skip v = neither
    prog_found k Prog.Abort v = neither
    prog_found k (Prog.Assign x u) v = both (at_ref k x v) (term_found k u)
    prog_found k (Prog.Seq a b) v = both (prog_found k a v.0) (prog_found k b v.1)
    prog_found k (Prog.If e a b) v = both (form_found k e v.0) (both (prog_found k a v.1) (prog_found k b v.2))
    prog_found k (Prog.While e a) v = both (form_found k e v.0) (prog_found k a v.1)
    prog_found k (Prog.Local q u a) v = both (term_found k u) (prog_found (k + 1) a v)
    prog_found k (Prog.Call p us qs) v = both (terms_found k us) (refs_found k qs v)
    prog_found k (Prog.Choice a b) v = both (prog_found k a v.0) (prog_found k b v.1)

  pub mod_found : (k : ℕ) (a : Prog) → ProgRefs P k a → modifies r k (changed_prog c k a) ≡ mix (modifies s k a) (modifies t k a)
  mod_found k Prog.Skip v = neither
  mod_found k Prog.Abort v = neither
  mod_found k (Prog.Assign x u) v = at_ref k x v
  mod_found k (Prog.Seq a b) v = both (mod_found k a v.0) (mod_found k b v.1)
  mod_found k (Prog.If e a b) v = both (mod_found k a v.1) (mod_found k b v.2)
  mod_found k (Prog.While e a) v = mod_found k a v.1
  mod_found k (Prog.Local q u a) v = mod_found (k + 1) a v
  mod_found k (Prog.Call p us qs) v = refs_found k qs v
  mod_found k (Prog.Choice a b) v = both (mod_found k a v.0) (mod_found k b v.1)

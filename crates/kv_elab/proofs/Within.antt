-- What typing answers names only what the context has.
use Rattle.std.proofs.Common.{◌≡◌, List, [], ◌∷◌, ◌++◌, Option, Some, None, length, refl, ap, subst}
use Rattle.kv_names.specs.Names.{Name}
use Rattle.kv_trees.specs.Trees.{Term, Terms, Form, Prog}
use Rattle.kv_raw.specs.RawTrees.{RawTerm, RawTerms, RawForm, RawProg}
use Rattle.kv_names.specs.declared.symbols.Profile.{Profile}
use Rattle.kv_names.specs.declared.symbols.Profile.TheVariants.{Proc}
use Rattle.kv_names.specs.declared.symbols.Symbol.{Symbol}
use Rattle.kv_names.specs.declared.symbols.Callee.{Callee}
use Rattle.kv_names.specs.declared.symbols.Var.{Var}
use Rattle.kv_sig.specs.Members.{In, Every}
use Rattle.kv_sig.specs.Signatures.{profile_of}
use Rattle.kv_sig.specs.FreeNames.{free_ref, free_refs, free_term, free_terms, free_form, free_prog, assumed_callee, assumed_form, assumed_prog, IsClosed}
use Rattle.kv_elab.specs.declared.contexts.Context.{Context}
use Rattle.kv_elab.specs.Typed.{and_then, both}
use Rattle.kv_elab.specs.Scopes.{under, place_of, assumed_of}
use Rattle.kv_elab.specs.Elab.{terms_count, of_sort, elab_term, elab_args, elab_sort, elab_place, elab_refs, callee_where, elab_condition, elab_form, elab_prog}
use Rattle.kv_elab.specs.Lawful.{HasNames, IsWithin}
use Rattle.kv_elab.proofs.Outcomes.{Answers, from_some, from_ok, from_then, from_both, from_one}
use Rattle.kv_elab.proofs.Members.{every_append, none_of}
use Rattle.kv_elab.proofs.Places.{place_names, place_within, assumed_in}
use Rattle.kv_elab.proofs.References.{refs_within}
use Rattle.kv_elab.proofs.Cases.{from_sorted, from_name, from_atom, from_pair, from_place, from_call, from_condition}

abbrev HasFree : Context → List Var → Type 0
HasFree c xs = Every (λ (x : Var). In x c.free) xs

abbrev HasAssumed : Context → List (Name × Profile) → Type 0
HasAssumed c ps = Every (λ (p : Name × Profile). In p c.assumed) ps

abbrev HasProg : Context → Prog → Type 0
HasProg c a = HasNames c (free_prog a) (assumed_prog a)

free_both : (c : Context) (xs ys : List Var) → HasFree c xs → HasFree c ys → HasFree c (xs ++ ys)
free_both c xs ys h g = every_append (λ (x : Var). In x c.free) xs ys h g

-- names that stand in variables alone
only_free : {c : Context} {xs : List Var} → HasFree c xs → HasNames c xs []
only_free h = record { free = h; assumed = tt }

joined : {c : Context} {xs ys : List Var} {ps qs : List (Name × Profile)} → HasNames c xs ps → HasNames c ys qs → HasNames c (xs ++ ys) (ps ++ qs)
joined {c = c} {xs = xs} {ys = ys} {ps = ps} {qs = qs} h g = record {
  free = free_both c xs ys h.free g.free;
  assumed = every_append (λ (p : Name × Profile). In p c.assumed) ps qs h.assumed g.assumed;
}

-- binders are no names of the context
out : (c : Context) (x : Var) {xs : List Var} {ps : List (Name × Profile)} → HasNames (under c x) xs ps → HasNames c xs ps
out c x h = record { free = h.free; assumed = h.assumed }

mutual
  pub term_within : (sig : List Symbol) (c : Context) (raw : RawTerm) (t : Term × Name) → Answers (elab_term sig c raw) t → HasFree c (free_term t.0)
  term_within sig c (RawTerm.App f ts) t e =
      from_name (λ (p : Term × Name). HasFree c (free_term p.0)) f (place_of c f) (profile_of sig f) (terms_count ts) (λ wants. elab_args sig c wants ts) t e
      (λ p is. place_within c f p.0 p.1 (place_names c f p is))
      (λ wants sort us known n typed. args_within sig c wants ts us typed)

  args_within : (sig : List Symbol) (c : Context) (wants : List Name) (raw : RawTerms) (us : Terms) → Answers (elab_args sig c wants raw) us → HasFree c (free_terms us)
  args_within sig c [] RawTerms.none us e = subst (λ z. HasFree c (free_terms z)) (from_ok Terms.none us e) tt
  args_within sig c (want ∷ wants) RawTerms.none us e = subst (λ z. HasFree c (free_terms z)) (from_ok Terms.none us e) tt
  args_within sig c [] (RawTerms.more t ts) us e = subst (λ z. HasFree c (free_terms z)) (from_ok Terms.none us e) tt
  args_within sig c (want ∷ wants) (RawTerms.more t ts) us e =
      from_both (λ z. HasFree c (free_terms z)) Terms.more (and_then (elab_term sig c t) (of_sort want)) (elab_args sig c wants ts) us e (λ u rest first last.
      free_both c (free_term u) (free_terms rest) (from_sorted (λ x. HasFree c (free_term x)) (elab_term sig c t) want u first (λ p is same. term_within sig c t p is))
      (args_within sig c wants ts rest last))

callee_within : (c : Context) (p : Name) (assumed there : Option Profile) (callee : Callee) (profile : Profile) →
    ((profile_2 : Profile) → assumed ≡ Some profile_2 → In (p, profile_2) c.assumed) →
    callee_where p assumed there ≡ Some (callee, profile) → HasAssumed c (assumed_callee callee)
callee_within c p (Some there) other callee profile is e =
    let same : (Callee.Assumed p there, there) ≡ (callee, profile) = from_some (Callee.Assumed p there, there) (callee, profile) e in
    subst (λ z. HasAssumed c (assumed_callee z)) (ap (λ q. q.0) same) (is there refl, tt)
callee_within c p None (Some there) callee profile is e =
    let same : (Callee.Symbol p, there) ≡ (callee, profile) = from_some (Callee.Symbol p, there) (callee, profile) e in
    subst (λ z. HasAssumed c (assumed_callee z)) (ap (λ q. q.0) same) tt
callee_within c p None None callee profile is e = cc

mutual
  pub form_within : (sig : List Symbol) (c : Context) (raw : RawForm) (f : Form) → Answers (elab_form sig c raw) f → IsWithin c f
  form_within sig c RawForm.True f e = subst (IsWithin c) (from_ok Form.True f e) (only_free tt)
  form_within sig c RawForm.False f e = subst (IsWithin c) (from_ok Form.False f e) (only_free tt)
  form_within sig c (RawForm.Atom p ts) f e =
      from_atom (IsWithin c) p (place_of c p) (profile_of sig p) (terms_count ts) (λ wants. elab_args sig c wants ts) f e (λ wants us known n typed. only_free (args_within sig c wants ts us typed))
  form_within sig c (RawForm.Equal s t) f e =
      from_pair (IsWithin c) Form.Equal (elab_term sig c s) (elab_term sig c t) f e (λ p q first last same.
      only_free (free_both c (free_term p.0) (free_term q.0) (term_within sig c s p first) (term_within sig c t q last)))
  form_within sig c (RawForm.Not g) f e = from_one (IsWithin c) Form.Not (elab_form sig c g) f e (λ x is. form_within sig c g x is)
  form_within sig c (RawForm.And g h) f e = from_both (IsWithin c) Form.And (elab_form sig c g) (elab_form sig c h) f e (λ x y p q. joined (form_within sig c g x p) (form_within sig c h y q))
  form_within sig c (RawForm.Or g h) f e = from_both (IsWithin c) Form.Or (elab_form sig c g) (elab_form sig c h) f e (λ x y p q. joined (form_within sig c g x p) (form_within sig c h y q))
  form_within sig c (RawForm.Imp g h) f e = from_both (IsWithin c) Form.Imp (elab_form sig c g) (elab_form sig c h) f e (λ x y p q. joined (form_within sig c g x p) (form_within sig c h y q))
  form_within sig c (RawForm.Iff g h) f e = from_both (IsWithin c) Form.Iff (elab_form sig c g) (elab_form sig c h) f e (λ x y p q. joined (form_within sig c g x p) (form_within sig c h y q))
  form_within sig c (RawForm.All x g) f e = from_both (IsWithin c) Form.All (elab_sort sig x.sort) (elab_form sig (under c x) g) f e (λ s y p q. out c x (form_within sig (under c x) g y q))
  form_within sig c (RawForm.Ex x g) f e = from_both (IsWithin c) Form.Ex (elab_sort sig x.sort) (elab_form sig (under c x) g) f e (λ s y p q. out c x (form_within sig (under c x) g y q))
  form_within sig c (RawForm.After a g) f e = from_both (IsWithin c) Form.After (elab_prog sig c a) (elab_form sig c g) f e (λ x y p q. joined (prog_within sig c a x p) (form_within sig c g y q))
  form_within sig c (RawForm.Can a g) f e = from_both (IsWithin c) Form.Can (elab_prog sig c a) (elab_form sig c g) f e (λ x y p q. joined (prog_within sig c a x p) (form_within sig c g y q))

  prog_within : (sig : List Symbol) (c : Context) (raw : RawProg) (a : Prog) → Answers (elab_prog sig c raw) a → HasProg c a
  prog_within sig c RawProg.Skip a e = subst (HasProg c) (from_ok Prog.Skip a e) (only_free tt)
  prog_within sig c RawProg.Abort a e = subst (HasProg c) (from_ok Prog.Abort a e) (only_free tt)
  prog_within sig c (RawProg.Assign x t) a e =
      from_pair (HasProg c) Prog.Assign (elab_place x (place_of c x)) (elab_term sig c t) a e (λ p q first last same.
      only_free (free_both c (free_ref p.0) (free_term q.0) (place_within c x p.0 p.1 (place_names c x p (from_place x (place_of c x) p first))) (term_within sig c t q last)))
  prog_within sig c (RawProg.Seq b d) a e = from_both (HasProg c) Prog.Seq (elab_prog sig c b) (elab_prog sig c d) a e (λ x y p q. joined (prog_within sig c b x p) (prog_within sig c d y q))
  prog_within sig c (RawProg.If g b d) a e =
      from_then (HasProg c) (elab_condition g (elab_form sig c g)) (λ h. both (Prog.If h) (elab_prog sig c b) (elab_prog sig c d)) a e (λ h first rest.
      from_both (HasProg c) (Prog.If h) (elab_prog sig c b) (elab_prog sig c d) a rest (λ x y p q.
      joined (form_within sig c g h (from_condition g (elab_form sig c g) h first).1) (joined (prog_within sig c b x p) (prog_within sig c d y q))))
  prog_within sig c (RawProg.While g b) a e =
      from_both (HasProg c) Prog.While (elab_condition g (elab_form sig c g)) (elab_prog sig c b) a e (λ h x first p.
      joined (form_within sig c g h (from_condition g (elab_form sig c g) h first).1) (prog_within sig c b x p))
  prog_within sig c (RawProg.Local x t b) a e =
      from_then (HasProg c) (elab_sort sig x.sort) (λ s. both (Prog.Local s) (and_then (elab_term sig c t) (of_sort s)) (elab_prog sig (under c x) b)) a e (λ s first rest.
      from_both (HasProg c) (Prog.Local s) (and_then (elab_term sig c t) (of_sort s)) (elab_prog sig (under c x) b) a rest (λ u y p q.
      joined (only_free (from_sorted (λ z. HasFree c (free_term z)) (elab_term sig c t) s u p (λ r typed same. term_within sig c t r typed))) (out c x (prog_within sig (under c x) b y q))))
  prog_within sig c (RawProg.Call p ts xs) a e =
      from_call (HasProg c) p (callee_where p (assumed_of c.assumed p) (profile_of sig p)) (terms_count ts) (length xs) (λ wants. elab_args sig c wants ts) (λ wants. elab_refs c [] wants xs) a e
      (λ callee values refs us rs is n m first last. record {
        free = free_both c (free_terms us) (free_refs rs) (args_within sig c values ts us first) (refs_within c [] refs xs rs last);
        assumed = callee_within c p (assumed_of c.assumed p) (profile_of sig p) callee (Proc values refs) (assumed_in c.assumed p) is;
      })
  prog_within sig c (RawProg.Choice b d) a e = from_both (HasProg c) Prog.Choice (elab_prog sig c b) (elab_prog sig c d) a e (λ x y p q. joined (prog_within sig c b x p) (prog_within sig c d y q))

-- in a context without free variables and assumed procedures the formula is closed
pub form_closed : (sig : List Symbol) (c : Context) (raw : RawForm) (f : Form) → c.free ≡ [] → c.assumed ≡ [] → Answers (elab_form sig c raw) f → IsClosed f
form_closed sig c raw f no_free no_assumed e =
    let within = form_within sig c raw f e in
    record { variables = none_of (free_form f) c.free no_free within.free; procedures = none_of (assumed_form f) c.assumed no_assumed within.assumed }

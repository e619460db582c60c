-- What typing answers is typed.
use Rattle.std.proofs.Common.{◌≡◌, true, false, ◌||◌, List, [], ◌∷◌, Option, Some, None, length, refl, ap, subst, ◌∙◌, arith}
use Rattle.std.proofs.Math.Path.{ap₂}
use Rattle.kv_names.specs.Names.{Name}
use Rattle.kv_trees.specs.Trees.{Term, Terms, Form, Prog}
use Rattle.kv_raw.specs.RawTrees.{RawTerm, RawTerms, RawForm, RawProg}
use Rattle.kv_names.specs.declared.symbols.Profile.{Profile}
use Rattle.kv_names.specs.declared.symbols.Profile.TheVariants.{Proc}
use Rattle.kv_names.specs.declared.symbols.Symbol.{Symbol}
use Rattle.kv_names.specs.declared.symbols.Callee.{Callee}
use Rattle.kv_names.specs.declared.symbols.Var.{Var}
use Rattle.kv_sig.specs.Signatures.{profile_of}
use Rattle.kv_sig.specs.Typing.{IsSort, IsTerm, AreTerms, IsProcedure, IsForm, IsProg}
use Rattle.kv_sig.specs.Typing.{has_program as has_program_typed}
use Rattle.kv_elab.specs.declared.contexts.Context.{Context}
use Rattle.kv_elab.specs.Typed.{and_then, both}
use Rattle.kv_elab.specs.Scopes.{under, place_of, assumed_of}
use Rattle.kv_elab.specs.Elab.{terms_count, of_sort, elab_term, elab_args, elab_sort, elab_place, elab_refs, callee_where, has_program, elab_condition, elab_form, elab_prog}
use Rattle.kv_elab.specs.Lawful.{sorts_of, HasSorts, IsLawful}
use Rattle.kv_elab.proofs.Outcomes.{Answers, from_some, from_ok, from_then, from_both, from_one}
use Rattle.kv_elab.proofs.Members.{every_in, every_append}
use Rattle.kv_elab.proofs.Places.{place_names, place_typed, sorts_under, assumed_in}
use Rattle.kv_elab.proofs.References.{refs_typed, refs_distinct}
use Rattle.kv_elab.proofs.Cases.{from_sorted, from_name, from_sort, from_atom, from_pair, from_place, from_call, from_condition}

mutual
  pub term_typed : (sig : List Symbol) (c : Context) (raw : RawTerm) (t : Term × Name) → IsLawful sig c → Answers (elab_term sig c raw) t → IsTerm sig (sorts_of c) t.0 t.1
  term_typed sig c (RawTerm.App f ts) t law e =
      from_name (λ (p : Term × Name). IsTerm sig (sorts_of c) p.0 p.1) f (place_of c f) (profile_of sig f) (terms_count ts) (λ wants. elab_args sig c wants ts) t e
      (λ p is. place_typed sig c f p.0 p.1 law (place_names c f p is))
      (λ wants sort us known n typed. (wants, known, args_typed sig c wants ts us law n typed))

  pub args_typed : (sig : List Symbol) (c : Context) (wants : List Name) (raw : RawTerms) (us : Terms) → IsLawful sig c → terms_count raw ≡ length wants →
      Answers (elab_args sig c wants raw) us → AreTerms sig (sorts_of c) us wants
  args_typed sig c [] RawTerms.none us law n e = subst (λ z. AreTerms sig (sorts_of c) z []) (from_ok Terms.none us e) tt
  args_typed sig c (want ∷ wants) RawTerms.none us law n e = absurd (omega arith)
  args_typed sig c [] (RawTerms.more t ts) us law n e = absurd (omega arith)
  args_typed sig c (want ∷ wants) (RawTerms.more t ts) us law n e =
      from_both (λ z. AreTerms sig (sorts_of c) z (want ∷ wants)) Terms.more (and_then (elab_term sig c t) (of_sort want)) (elab_args sig c wants ts) us e (λ u rest first last. (
        from_sorted (λ x. IsTerm sig (sorts_of c) x want) (elab_term sig c t) want u first (λ p is same. subst (IsTerm sig (sorts_of c) p.0) same (term_typed sig c t p law is)),
        args_typed sig c wants ts rest law (omega arith) last,
      ))

-- the sort of a binder, and the binders inside it
sort_typed : (sig : List Symbol) (c : Context) (x : Var) (s : Name) → Answers (elab_sort sig x.sort) s → IsSort sig s × IsSort sig x.sort × (sorts_of (under c x) ≡ s ∷ sorts_of c)
sort_typed sig c x s e =
    let is = from_sort x.sort (profile_of sig x.sort) s e in
    (subst (IsSort sig) is.0 is.1, is.1, sorts_under c x ∙ ap (λ z. z ∷ sorts_of c) is.0)

-- inside a binder over a sort of the signature
law_under : (sig : List Symbol) (c : Context) (x : Var) → IsLawful sig c → IsSort sig x.sort → IsLawful sig (under c x)
law_under sig c x law s = record { free = law.free; bound = every_append (λ (y : Var). IsSort sig y.sort) c.bound (x ∷ []) law.bound (s, tt); assumed = law.assumed }

callee_typed : (sig : List Symbol) (p : Name) (assumed there : Option Profile) (callee : Callee) (values refs : List Name) →
    ((profile : Profile) → assumed ≡ Some profile → HasSorts sig profile) → profile_of sig p ≡ there →
    callee_where p assumed there ≡ Some (callee, Proc values refs) → IsProcedure sig callee values refs
callee_typed sig p (Some profile) there callee values refs over known e =
    let same : (Callee.Assumed p profile, profile) ≡ (callee, Proc values refs) = from_some (Callee.Assumed p profile, profile) (callee, Proc values refs) e in
    let sorts : HasSorts sig (Proc values refs) = subst (HasSorts sig) (ap (λ q. q.1) same) (over profile refl) in
    subst (λ z. IsProcedure sig z values refs) (ap (λ q. q.0) same) (ap (λ q. q.1) same, sorts.0, sorts.1)
callee_typed sig p None (Some profile) callee values refs over known e =
    let same : (Callee.Symbol p, profile) ≡ (callee, Proc values refs) = from_some (Callee.Symbol p, profile) (callee, Proc values refs) e in
    subst (λ z. IsProcedure sig z values refs) (ap (λ q. q.0) same) (known ∙ ap (λ q. Some q.1) same)
callee_typed sig p None None callee values refs over known e = cc

-- a box or a diamond stands in the typed formula where one stands in the raw one
program_kept : (sig : List Symbol) (c : Context) (raw : RawForm) (f : Form) → Answers (elab_form sig c raw) f → has_program_typed f ≡ has_program raw
program_kept sig c RawForm.True f e = subst (λ z. has_program_typed z ≡ false) (from_ok Form.True f e) refl
program_kept sig c RawForm.False f e = subst (λ z. has_program_typed z ≡ false) (from_ok Form.False f e) refl
program_kept sig c (RawForm.Atom p ts) f e = from_atom (λ z. has_program_typed z ≡ false) p (place_of c p) (profile_of sig p) (terms_count ts) (λ wants. elab_args sig c wants ts) f e (λ wants us known n typed. refl)
program_kept sig c (RawForm.Equal s t) f e = from_pair (λ z. has_program_typed z ≡ false) Form.Equal (elab_term sig c s) (elab_term sig c t) f e (λ p q first last same. refl)
program_kept sig c (RawForm.Not g) f e = from_one (λ z. has_program_typed z ≡ has_program g) Form.Not (elab_form sig c g) f e (λ x is. program_kept sig c g x is)
program_kept sig c (RawForm.And g h) f e = from_both (λ z. has_program_typed z ≡ (has_program g || has_program h)) Form.And (elab_form sig c g) (elab_form sig c h) f e (λ x y p q. ap₂ ◌||◌ (program_kept sig c g x p) (program_kept sig c h y q))
program_kept sig c (RawForm.Or g h) f e = from_both (λ z. has_program_typed z ≡ (has_program g || has_program h)) Form.Or (elab_form sig c g) (elab_form sig c h) f e (λ x y p q. ap₂ ◌||◌ (program_kept sig c g x p) (program_kept sig c h y q))
program_kept sig c (RawForm.Imp g h) f e = from_both (λ z. has_program_typed z ≡ (has_program g || has_program h)) Form.Imp (elab_form sig c g) (elab_form sig c h) f e (λ x y p q. ap₂ ◌||◌ (program_kept sig c g x p) (program_kept sig c h y q))
program_kept sig c (RawForm.Iff g h) f e = from_both (λ z. has_program_typed z ≡ (has_program g || has_program h)) Form.Iff (elab_form sig c g) (elab_form sig c h) f e (λ x y p q. ap₂ ◌||◌ (program_kept sig c g x p) (program_kept sig c h y q))
program_kept sig c (RawForm.All x g) f e = from_both (λ z. has_program_typed z ≡ has_program g) Form.All (elab_sort sig x.sort) (elab_form sig (under c x) g) f e (λ s y p q. program_kept sig (under c x) g y q)
program_kept sig c (RawForm.Ex x g) f e = from_both (λ z. has_program_typed z ≡ has_program g) Form.Ex (elab_sort sig x.sort) (elab_form sig (under c x) g) f e (λ s y p q. program_kept sig (under c x) g y q)
program_kept sig c (RawForm.After a g) f e = from_both (λ z. has_program_typed z ≡ true) Form.After (elab_prog sig c a) (elab_form sig c g) f e (λ x y p q. refl)
program_kept sig c (RawForm.Can a g) f e = from_both (λ z. has_program_typed z ≡ true) Form.Can (elab_prog sig c a) (elab_form sig c g) f e (λ x y p q. refl)

mutual
  pub form_typed : (sig : List Symbol) (c : Context) (raw : RawForm) (f : Form) → IsLawful sig c → Answers (elab_form sig c raw) f → IsForm sig (sorts_of c) f
  form_typed sig c RawForm.True f law e = subst (IsForm sig (sorts_of c)) (from_ok Form.True f e) tt
  form_typed sig c RawForm.False f law e = subst (IsForm sig (sorts_of c)) (from_ok Form.False f e) tt
  form_typed sig c (RawForm.Atom p ts) f law e =
      from_atom (IsForm sig (sorts_of c)) p (place_of c p) (profile_of sig p) (terms_count ts) (λ wants. elab_args sig c wants ts) f e (λ wants us known n typed.
      (wants, known, args_typed sig c wants ts us law n typed))
  form_typed sig c (RawForm.Equal s t) f law e =
      from_pair (IsForm sig (sorts_of c)) Form.Equal (elab_term sig c s) (elab_term sig c t) f e (λ p q first last same.
      (p.1, term_typed sig c s p law first, subst (IsTerm sig (sorts_of c) q.0) same (term_typed sig c t q law last)))
  form_typed sig c (RawForm.Not g) f law e = from_one (IsForm sig (sorts_of c)) Form.Not (elab_form sig c g) f e (λ x is. form_typed sig c g x law is)
  form_typed sig c (RawForm.And g h) f law e = from_both (IsForm sig (sorts_of c)) Form.And (elab_form sig c g) (elab_form sig c h) f e (λ x y p q. (form_typed sig c g x law p, form_typed sig c h y law q))
  form_typed sig c (RawForm.Or g h) f law e = from_both (IsForm sig (sorts_of c)) Form.Or (elab_form sig c g) (elab_form sig c h) f e (λ x y p q. (form_typed sig c g x law p, form_typed sig c h y law q))
  form_typed sig c (RawForm.Imp g h) f law e = from_both (IsForm sig (sorts_of c)) Form.Imp (elab_form sig c g) (elab_form sig c h) f e (λ x y p q. (form_typed sig c g x law p, form_typed sig c h y law q))
  form_typed sig c (RawForm.Iff g h) f law e = from_both (IsForm sig (sorts_of c)) Form.Iff (elab_form sig c g) (elab_form sig c h) f e (λ x y p q. (form_typed sig c g x law p, form_typed sig c h y law q))
  form_typed sig c (RawForm.All x g) f law e =
      from_both (IsForm sig (sorts_of c)) Form.All (elab_sort sig x.sort) (elab_form sig (under c x) g) f e (λ s y p q.
      let is = sort_typed sig c x s p in (is.0, subst (λ bs. IsForm sig bs y) is.2 (form_typed sig (under c x) g y (law_under sig c x law is.1) q)))
  form_typed sig c (RawForm.Ex x g) f law e =
      from_both (IsForm sig (sorts_of c)) Form.Ex (elab_sort sig x.sort) (elab_form sig (under c x) g) f e (λ s y p q.
      let is = sort_typed sig c x s p in (is.0, subst (λ bs. IsForm sig bs y) is.2 (form_typed sig (under c x) g y (law_under sig c x law is.1) q)))
  form_typed sig c (RawForm.After a g) f law e = from_both (IsForm sig (sorts_of c)) Form.After (elab_prog sig c a) (elab_form sig c g) f e (λ x y p q. (prog_typed sig c a x law p, form_typed sig c g y law q))
  form_typed sig c (RawForm.Can a g) f law e = from_both (IsForm sig (sorts_of c)) Form.Can (elab_prog sig c a) (elab_form sig c g) f e (λ x y p q. (prog_typed sig c a x law p, form_typed sig c g y law q))

  pub prog_typed : (sig : List Symbol) (c : Context) (raw : RawProg) (a : Prog) → IsLawful sig c → Answers (elab_prog sig c raw) a → IsProg sig (sorts_of c) a
  prog_typed sig c RawProg.Skip a law e = subst (IsProg sig (sorts_of c)) (from_ok Prog.Skip a e) tt
  prog_typed sig c RawProg.Abort a law e = subst (IsProg sig (sorts_of c)) (from_ok Prog.Abort a e) tt
  prog_typed sig c (RawProg.Assign x t) a law e =
      from_pair (IsProg sig (sorts_of c)) Prog.Assign (elab_place x (place_of c x)) (elab_term sig c t) a e (λ p q first last same.
      (p.1, place_typed sig c x p.0 p.1 law (place_names c x p (from_place x (place_of c x) p first)), subst (IsTerm sig (sorts_of c) q.0) same (term_typed sig c t q law last)))
  prog_typed sig c (RawProg.Seq b d) a law e = from_both (IsProg sig (sorts_of c)) Prog.Seq (elab_prog sig c b) (elab_prog sig c d) a e (λ x y p q. (prog_typed sig c b x law p, prog_typed sig c d y law q))
  prog_typed sig c (RawProg.If g b d) a law e =
      from_then (IsProg sig (sorts_of c)) (elab_condition g (elab_form sig c g)) (λ h. both (Prog.If h) (elab_prog sig c b) (elab_prog sig c d)) a e (λ h first rest.
      from_both (IsProg sig (sorts_of c)) (Prog.If h) (elab_prog sig c b) (elab_prog sig c d) a rest (λ x y p q.
      let is = from_condition g (elab_form sig c g) h first in
      (program_kept sig c g h is.1 ∙ is.0, form_typed sig c g h law is.1, prog_typed sig c b x law p, prog_typed sig c d y law q)))
  prog_typed sig c (RawProg.While g b) a law e =
      from_both (IsProg sig (sorts_of c)) Prog.While (elab_condition g (elab_form sig c g)) (elab_prog sig c b) a e (λ h x first p.
      let is = from_condition g (elab_form sig c g) h first in
      (program_kept sig c g h is.1 ∙ is.0, form_typed sig c g h law is.1, prog_typed sig c b x law p))
  prog_typed sig c (RawProg.Local x t b) a law e =
      from_then (IsProg sig (sorts_of c)) (elab_sort sig x.sort) (λ s. both (Prog.Local s) (and_then (elab_term sig c t) (of_sort s)) (elab_prog sig (under c x) b)) a e (λ s first rest.
      from_both (IsProg sig (sorts_of c)) (Prog.Local s) (and_then (elab_term sig c t) (of_sort s)) (elab_prog sig (under c x) b) a rest (λ u y p q.
      let is = sort_typed sig c x s first in (
        is.0,
        from_sorted (λ z. IsTerm sig (sorts_of c) z s) (elab_term sig c t) s u p (λ r typed same. subst (IsTerm sig (sorts_of c) r.0) same (term_typed sig c t r law typed)),
        subst (λ bs. IsProg sig bs y) is.2 (prog_typed sig (under c x) b y (law_under sig c x law is.1) q),
      )))
  prog_typed sig c (RawProg.Call p ts xs) a law e =
      from_call (IsProg sig (sorts_of c)) p (callee_where p (assumed_of c.assumed p) (profile_of sig p)) (terms_count ts) (length xs) (λ wants. elab_args sig c wants ts) (λ wants. elab_refs c [] wants xs) a e
      (λ callee values refs us rs is n m first last. (
        values,
        refs,
        callee_typed sig p (assumed_of c.assumed p) (profile_of sig p) callee values refs
            (λ profile there. every_in (λ (q : Name × Profile). HasSorts sig q.1) (p, profile) c.assumed law.assumed (assumed_in c.assumed p profile there)) refl is,
        args_typed sig c values ts us law n first,
        refs_typed sig c [] refs xs rs law m last,
        refs_distinct c [] refs xs rs last,
      ))
  prog_typed sig c (RawProg.Choice b d) a law e = from_both (IsProg sig (sorts_of c)) Prog.Choice (elab_prog sig c b) (elab_prog sig c d) a e (λ x y p q. (prog_typed sig c b x law p, prog_typed sig c d y law q))

-- Typing needs no other symbols than those that the tree's names stand for.
use Rattle.std.specs.Prelude.{cond}
use Rattle.std.proofs.Common.{ℕ, Bool, true, false, ◌==◌, ◌&&◌, if◌then◌else◌, List, [], ◌∷◌, ◌++◌, Option, Some, None, Ok, Err, length, ◌≡◌, refl, sym, ap, ap₂, ◌∙◌, subst}
use Rattle.std.specs.List.{find}
use Rattle.std.specs.Option.{option_map}
use Rattle.std.specs.Str.{bytes_eq}
use Rattle.kv_trees.proofs.Same.{name_is, name_same}
use Rattle.kv_sig.specs.Members.{In, here, there, Every}
use Rattle.kv_sig.specs.Signatures.{profile_of}
use Rattle.kv_raw.specs.RawTrees.{RawTerm, RawTerms, RawForm, RawProg}
use Rattle.kv_names.specs.Names.{Name}
use Rattle.kv_trees.specs.Trees.{Term, Terms, Form, Prog}
use Rattle.kv_names.specs.declared.symbols.Callee.{Callee}
use Rattle.kv_names.specs.declared.symbols.Profile.{Profile}
use Rattle.kv_names.specs.declared.symbols.Profile.TheVariants.{Sort, Fun, Pred, Proc}
use Rattle.kv_names.specs.declared.symbols.Symbol.{Symbol}
use Rattle.kv_trees.specs.declared.trees.Ref.{Ref}
use Rattle.kv_elab.specs.declared.contexts.Context.{Context}
use Rattle.kv_elab.specs.Faults.{TypeFault}
use Rattle.kv_elab.specs.Typed.{Typed, and_then, both}
use Rattle.kv_elab.specs.Scopes.{under, place_of, assumed_of}
use Rattle.kv_elab.specs.Elab.{terms_count, of_sort, elab_name, elab_term, elab_args, elab_sort_where, elab_sort, elab_atom, elab_place, elab_refs, callee_where, elab_call, elab_condition, elab_form, elab_prog}
use Rattle.kv_elab.specs.Names.{term_names, terms_names, form_names, prog_names, symbol_where, symbols_named, TypedByNames}

every_front : {A : Type 0} (P : A → Type 0) (xs ys : List A) → Every P (xs ++ ys) → Every P xs
every_front P [] ys e = tt
every_front P (x ∷ xs) ys e = (e.0, every_front P xs ys e.1)

every_back : {A : Type 0} (P : A → Type 0) (xs ys : List A) → Every P (xs ++ ys) → Every P ys
every_back P [] ys e = e
every_back P (x ∷ xs) ys e = every_back P xs ys e.1

-- ---- parts that are asked for under a profile

name_agrees : (f : Name) (place : Option (Ref × Name)) (profile : Option Profile) (n : ℕ) (args others : List Name → Typed Terms)
    → ((wants : List Name) → args wants ≡ others wants) → elab_name f place profile n args ≡ elab_name f place profile n others
name_agrees f (Some place) profile n args others h = refl
name_agrees f None (Some (Fun wants sort)) n args others h =
    ap (λ (r : Typed Terms). if n == length wants then and_then r (λ us. Ok (Term.App f us, sort)) else Err (TypeFault.Arity f)) (h wants)
name_agrees f None None n args others h = refl
name_agrees f None (Some Sort) n args others h = refl
name_agrees f None (Some (Pred wants)) n args others h = refl
name_agrees f None (Some (Proc values refs)) n args others h = refl

atom_agrees : (p : Name) (place : Option (Ref × Name)) (profile : Option Profile) (n : ℕ) (args others : List Name → Typed Terms)
    → ((wants : List Name) → args wants ≡ others wants) → elab_atom p place profile n args ≡ elab_atom p place profile n others
atom_agrees p (Some place) profile n args others h = refl
atom_agrees p None (Some (Pred wants)) n args others h =
    ap (λ (r : Typed Terms). if n == length wants then and_then r (λ us. Ok (Form.Atom p us)) else Err (TypeFault.Arity p)) (h wants)
atom_agrees p None None n args others h = refl
atom_agrees p None (Some Sort) n args others h = refl
atom_agrees p None (Some (Fun wants sort)) n args others h = refl
atom_agrees p None (Some (Proc values refs)) n args others h = refl

call_agrees : (p : Name) (found : Option (Callee × Profile)) (n m : ℕ) (args others : List Name → Typed Terms) (refs : List Name → Typed (List Ref))
    → ((wants : List Name) → args wants ≡ others wants) → elab_call p found n m args refs ≡ elab_call p found n m others refs
call_agrees p None n m args others refs h = refl
call_agrees p (Some (callee, Proc values names)) n m args others refs h =
    ap (λ (r : Typed Terms). if n == length values && m == length names then both (Prog.Call callee) r (refs names) else Err (TypeFault.Arity p)) (h values)
call_agrees p (Some (callee, Sort)) n m args others refs h = refl
call_agrees p (Some (callee, Fun wants sort)) n m args others refs h = refl
call_agrees p (Some (callee, Pred wants)) n m args others refs h = refl

-- ---- two signatures that agree on the tree's names

module _ (a b : List Symbol) where
  abbrev Agree : Name → Type 0
  Agree n = profile_of a n ≡ profile_of b n

  mutual
    term_agrees : (c : Context) (t : RawTerm) → Every Agree (term_names t) → elab_term a c t ≡ elab_term b c t
    term_agrees c (RawTerm.App f ts) e =
        ap (λ (p : Option Profile). elab_name f (place_of c f) p (terms_count ts) (λ wants. elab_args a c wants ts)) e.0
        ∙ name_agrees f (place_of c f) (profile_of b f) (terms_count ts) (λ wants. elab_args a c wants ts) (λ wants. elab_args b c wants ts) (λ wants. args_agree c wants ts e.1)

    args_agree : (c : Context) (wants : List Name) (ts : RawTerms) → Every Agree (terms_names ts) → elab_args a c wants ts ≡ elab_args b c wants ts
    args_agree c [] RawTerms.none e = refl
    args_agree c [] (RawTerms.more t ts) e = refl
    args_agree c (want ∷ wants) RawTerms.none e = refl
    args_agree c (want ∷ wants) (RawTerms.more t ts) e =
        ap₂ (λ (x : Typed (Term × Name)) (y : Typed Terms). both Terms.more (and_then x (of_sort want)) y)
        (term_agrees c t (every_front Agree (term_names t) (terms_names ts) e)) (args_agree c wants ts (every_back Agree (term_names t) (terms_names ts) e))

  sort_agrees : (s : Name) → Agree s → elab_sort a s ≡ elab_sort b s
  sort_agrees s e = ap (elab_sort_where s) e

  -- two parts, by what each of them is
  two_agree : {A B C : Type 0} (join : Typed A → Typed B → Typed C) (x y : Typed A) (z w : Typed B) → x ≡ y → z ≡ w → join x z ≡ join y w
  two_agree join x y z w e f = ap₂ join e f

  mutual
    form_agrees : (c : Context) (f : RawForm) → Every Agree (form_names f) → elab_form a c f ≡ elab_form b c f
    form_agrees c RawForm.True e = refl
    form_agrees c RawForm.False e = refl
    form_agrees c (RawForm.Atom p ts) e =
        ap (λ (q : Option Profile). elab_atom p (place_of c p) q (terms_count ts) (λ wants. elab_args a c wants ts)) e.0
        ∙ atom_agrees p (place_of c p) (profile_of b p) (terms_count ts) (λ wants. elab_args a c wants ts) (λ wants. elab_args b c wants ts) (λ wants. args_agree c wants ts e.1)
    form_agrees c (RawForm.Equal s t) e =
        ap₂ (λ (x y : Typed (Term × Name)). and_then x (λ p. and_then (and_then y (of_sort p.1)) (λ u. Ok (Form.Equal p.0 u))))
        (term_agrees c s (every_front Agree (term_names s) (term_names t) e)) (term_agrees c t (every_back Agree (term_names s) (term_names t) e))
    form_agrees c (RawForm.Not f) e = ap (λ (x : Typed Form). and_then x (λ h. Ok (Form.Not h))) (form_agrees c f e)
    form_agrees c (RawForm.And f g) e = ap₂ (both Form.And) (form_agrees c f (every_front Agree (form_names f) (form_names g) e)) (form_agrees c g (every_back Agree (form_names f) (form_names g) e))
    form_agrees c (RawForm.Or f g) e = ap₂ (both Form.Or) (form_agrees c f (every_front Agree (form_names f) (form_names g) e)) (form_agrees c g (every_back Agree (form_names f) (form_names g) e))
    form_agrees c (RawForm.Imp f g) e = ap₂ (both Form.Imp) (form_agrees c f (every_front Agree (form_names f) (form_names g) e)) (form_agrees c g (every_back Agree (form_names f) (form_names g) e))
    form_agrees c (RawForm.Iff f g) e = ap₂ (both Form.Iff) (form_agrees c f (every_front Agree (form_names f) (form_names g) e)) (form_agrees c g (every_back Agree (form_names f) (form_names g) e))
    form_agrees c (RawForm.All x f) e = ap₂ (both Form.All) (sort_agrees x.sort e.1.0) (form_agrees (under c x) f e.1.1)
    form_agrees c (RawForm.Ex x f) e = ap₂ (both Form.Ex) (sort_agrees x.sort e.1.0) (form_agrees (under c x) f e.1.1)
    form_agrees c (RawForm.After p f) e = ap₂ (both Form.After) (prog_agrees c p (every_front Agree (prog_names p) (form_names f) e)) (form_agrees c f (every_back Agree (prog_names p) (form_names f) e))
    form_agrees c (RawForm.Can p f) e = ap₂ (both Form.Can) (prog_agrees c p (every_front Agree (prog_names p) (form_names f) e)) (form_agrees c f (every_back Agree (prog_names p) (form_names f) e))

    prog_agrees : (c : Context) (p : RawProg) → Every Agree (prog_names p) → elab_prog a c p ≡ elab_prog b c p
    prog_agrees c RawProg.Skip e = refl
    prog_agrees c RawProg.Abort e = refl
    prog_agrees c (RawProg.Assign x t) e =
        ap (λ (y : Typed (Term × Name)). and_then (elab_place x (place_of c x)) (λ p. and_then (and_then y (of_sort p.1)) (λ u. Ok (Prog.Assign p.0 u)))) (term_agrees c t e.1)
    prog_agrees c (RawProg.Seq p q) e = ap₂ (both Prog.Seq) (prog_agrees c p (every_front Agree (prog_names p) (prog_names q) e)) (prog_agrees c q (every_back Agree (prog_names p) (prog_names q) e))
    prog_agrees c (RawProg.If h p q) e =
        let rest = every_back Agree (form_names h) (prog_names p ++ prog_names q) e in
        ap (λ (x : Typed Form). and_then (elab_condition h x) (λ g. both (Prog.If g) (elab_prog a c p) (elab_prog a c q))) (form_agrees c h (every_front Agree (form_names h) (prog_names p ++ prog_names q) e))
        ∙ ap₂ (λ (x y : Typed Prog). and_then (elab_condition h (elab_form b c h)) (λ g. both (Prog.If g) x y))
        (prog_agrees c p (every_front Agree (prog_names p) (prog_names q) rest)) (prog_agrees c q (every_back Agree (prog_names p) (prog_names q) rest))
    prog_agrees c (RawProg.While h p) e =
        ap₂ (λ (x : Typed Form) (y : Typed Prog). both Prog.While (elab_condition h x) y) (form_agrees c h (every_front Agree (form_names h) (prog_names p) e)) (prog_agrees c p (every_back Agree (form_names h) (prog_names p) e))
    prog_agrees c (RawProg.Local x t p) e =
        let rest = e.1.1 in
        ap (λ (y : Typed Name). and_then y (λ s. both (Prog.Local s) (and_then (elab_term a c t) (of_sort s)) (elab_prog a (under c x) p))) (sort_agrees x.sort e.1.0)
        ∙ ap₂ (λ (y : Typed (Term × Name)) (z : Typed Prog). and_then (elab_sort b x.sort) (λ s. both (Prog.Local s) (and_then y (of_sort s)) z))
        (term_agrees c t (every_front Agree (term_names t) (prog_names p) rest)) (prog_agrees (under c x) p (every_back Agree (term_names t) (prog_names p) rest))
    prog_agrees c (RawProg.Call p ts rs) e =
        ap (λ (q : Option Profile). elab_call p (callee_where p (assumed_of c.assumed p) q) (terms_count ts) (length rs) (λ wants. elab_args a c wants ts) (λ wants. elab_refs c [] wants rs)) e.0
        ∙ call_agrees p (callee_where p (assumed_of c.assumed p) (profile_of b p)) (terms_count ts) (length rs) (λ wants. elab_args a c wants ts) (λ wants. elab_args b c wants ts)
        (λ wants. elab_refs c [] wants rs) (λ wants. args_agree c wants ts (every_front Agree (terms_names ts) rs e.1))
    prog_agrees c (RawProg.Choice p q) e = ap₂ (both Prog.Choice) (prog_agrees c p (every_front Agree (prog_names p) (prog_names q) e)) (prog_agrees c q (every_back Agree (prog_names p) (prog_names q) e))

-- ---- the symbols that the names stand for

module _ (look : Name → Option Profile) (n : Name) where
  -- one name more in front
  ahead : (m : Name) (o : Option Profile) (rest : List Symbol) → bytes_eq m n ≡ false → profile_of (symbol_where m o ++ rest) n ≡ profile_of rest n
  ahead m None rest e = refl
  ahead m (Some p) rest e = ap (λ (b : Bool). option_map (λ (x : Symbol). x.profile) (cond b (Some (record { name = m; profile = p })) (find (λ (x : Symbol). bytes_eq x.name n) rest))) e

  found : (o : Option Profile) (rest : List Symbol) → (o ≡ None → profile_of rest n ≡ None) → profile_of (symbol_where n o ++ rest) n ≡ o
  found None rest none = none refl
  found (Some p) rest none = ap (λ (b : Bool). option_map (λ (x : Symbol). x.profile) (cond b (Some (record { name = n; profile = p })) (find (λ (x : Symbol). bytes_eq x.name n) rest))) (name_same n)

  -- by whether the name in front is this one
  front_is : (P : Option Profile → Type 0) (m : Name) (rest : List Symbol) (b : Bool) → bytes_eq m n ≡ b
      → (m ≡ n → P (profile_of (symbol_where n (look n) ++ rest) n)) → P (profile_of rest n) → P (profile_of (symbol_where m (look m) ++ rest) n)
  front_is P m rest true e first later = let same = name_is m n e in subst (λ k. P (profile_of (symbol_where k (look k) ++ rest) n)) (sym same) (first same)
  front_is P m rest false e first later = subst P (sym (ahead m (look m) rest e)) later

  none_named : (ns : List Name) → look n ≡ None → profile_of (symbols_named look ns) n ≡ None
  none_named [] e = refl
  none_named (m ∷ ms) e =
      let rest = symbols_named look ms in
      front_is (λ o. o ≡ None) m rest (bytes_eq m n) refl (λ same. found (look n) rest (λ f. none_named ms e) ∙ e) (none_named ms e)

  one_named : (ns : List Name) → In n ns → profile_of (symbols_named look ns) n ≡ look n
  one_named [] i = elim i [ ]
  one_named (m ∷ ms) here = found (look n) (symbols_named look ms) (none_named ms)
  one_named (m ∷ ms) (there i) =
      let rest = symbols_named look ms in
      front_is (λ o. o ≡ look n) m rest (bytes_eq m n) refl (λ same. found (look n) rest (none_named ms)) (one_named ms i)

all_named : (look : Name → Option Profile) (ns ms : List Name) → ((n : Name) → In n ms → In n ns) → Every (λ n. profile_of (symbols_named look ns) n ≡ look n) ms
all_named look ns [] h = tt
all_named look ns (m ∷ ms) h = (one_named look m ns (h m here), all_named look ns ms (λ n i. h n (there i)))

pub typed_by_names : TypedByNames
typed_by_names = record {
  of_term = λ sig c t. term_agrees (symbols_named (profile_of sig) (term_names t)) sig c t (all_named (profile_of sig) (term_names t) (term_names t) (λ n i. i));
  of_form = λ sig c f. form_agrees (symbols_named (profile_of sig) (form_names f)) sig c f (all_named (profile_of sig) (form_names f) (form_names f) (λ n i. i));
  of_prog = λ sig c a. prog_agrees (symbols_named (profile_of sig) (prog_names a)) sig c a (all_named (profile_of sig) (prog_names a) (prog_names a) (λ n i. i));
}

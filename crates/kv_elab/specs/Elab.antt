-- Typing: the typed tree of a raw tree, or its first fault from left to right.
use Rattle.std.specs.Prelude.{ℕ, Bool, true, false, ◌&&◌, ◌||◌, ◌+◌, ◌==◌, if◌then◌else◌, List, [], ◌∷◌, ◌++◌, Option, Some, None, Ok, Err, length}
use Rattle.std.specs.Str.{bytes_eq}
use Rattle.std.specs.List.{list_any}
use Rattle.kv_names.specs.Names.{Name}
use Rattle.kv_trees.specs.Trees.{Term, Terms, Form, Prog}
use Rattle.kv_raw.specs.RawTrees.{RawTerm, RawTerms, RawForm, RawProg}
use Rattle.kv_names.specs.declared.symbols.Profile.{Profile}
use Rattle.kv_names.specs.declared.symbols.Profile.TheVariants.{Sort, Fun, Pred, Proc}
use Rattle.kv_names.specs.declared.symbols.Symbol.{Symbol}
use Rattle.kv_names.specs.declared.symbols.Callee.{Callee}
use Rattle.kv_trees.specs.declared.trees.Ref.{Ref}
use Rattle.kv_sig.specs.Signatures.{profile_of}
use Rattle.kv_elab.specs.declared.contexts.Context.{Context}
use Rattle.kv_elab.specs.Faults.{TypeFault}
use Rattle.kv_elab.specs.Typed.{Typed, and_then, both}
use Rattle.kv_elab.specs.Scopes.{under, place_of, assumed_of}

abbrev pub terms_count : RawTerms → ℕ
terms_count RawTerms.none = 0
terms_count (RawTerms.more t ts) = terms_count ts + 1

-- a term that has the wanted sort
abbrev pub of_sort : Name → Term × Name → Typed Term
of_sort want t = if bytes_eq want t.1 then Ok t.0 else Err (TypeFault.Sort want t.1)

-- a name with so many arguments, as a term: a variable takes none, and hides a function
abbrev pub elab_name : Name → Option (Ref × Name) → Option Profile → ℕ → (List Name → Typed Terms) → Typed (Term × Name)
elab_name f (Some place) profile count args = if count == 0 then Ok (Term.Place place.0, place.1) else Err (TypeFault.Unknown f)
elab_name f None (Some (Fun wants sort)) count args =
    if count == length wants then and_then (args wants) (λ us. Ok (Term.App f us, sort)) else Err (TypeFault.Arity f)
elab_name f None _ count args = Err (TypeFault.Unknown f)

abbrev mutual
  pub elab_term : List Symbol → Context → RawTerm → Typed (Term × Name)
  elab_term sig c (RawTerm.App f ts) = elab_name f (place_of c f) (profile_of sig f) (terms_count ts) (λ wants. elab_args sig c wants ts)

  pub elab_args : List Symbol → Context → List Name → RawTerms → Typed Terms
  elab_args sig c (want ∷ wants) (RawTerms.more t ts) = both Terms.more (and_then (elab_term sig c t) (of_sort want)) (elab_args sig c wants ts)
  elab_args sig c _ _ = Ok Terms.none

abbrev pub elab_sort_where : Name → Option Profile → Typed Name
elab_sort_where s (Some Sort) = Ok s
elab_sort_where s _ = Err (TypeFault.Unknown s)

-- the sort of that name, which no variable hides
abbrev pub elab_sort : List Symbol → Name → Typed Name
elab_sort sig s = elab_sort_where s (profile_of sig s)

-- a name with so many arguments, as a formula: a variable of that name hides a predicate
abbrev pub elab_atom : Name → Option (Ref × Name) → Option Profile → ℕ → (List Name → Typed Terms) → Typed Form
elab_atom p None (Some (Pred wants)) count args =
    if count == length wants then and_then (args wants) (λ us. Ok (Form.Atom p us)) else Err (TypeFault.Arity p)
elab_atom p _ _ count args = Err (TypeFault.Unknown p)

-- a variable that is written, with its sort
abbrev pub elab_place : Name → Option (Ref × Name) → Typed (Ref × Name)
elab_place x (Some place) = Ok place
elab_place x None = Err (TypeFault.Unknown x)

-- a reference of a call, where the names before it are these
abbrev pub elab_ref : List Name → Name → Name → Ref × Name → Typed Ref
elab_ref before want x place =
    if list_any (λ y. bytes_eq y x) before then Err (TypeFault.Duplicate x)
    else (if bytes_eq want place.1 then Ok place.0 else Err (TypeFault.Sort want place.1))

abbrev pub elab_refs : Context → List Name → List Name → List Name → Typed (List Ref)
elab_refs c before (want ∷ wants) (x ∷ xs) =
    both ◌∷◌ (and_then (elab_place x (place_of c x)) (elab_ref before want x)) (elab_refs c (before ++ x ∷ []) wants xs)
elab_refs c before _ _ = Ok []

-- what a call of that name calls, with its profile: an assumed procedure comes before a symbol
abbrev pub callee_where : Name → Option Profile → Option Profile → Option (Callee × Profile)
callee_where p (Some profile) there = Some (Callee.Assumed p profile, profile)
callee_where p None (Some profile) = Some (Callee.Symbol p, profile)
callee_where p None None = None

abbrev pub elab_call : Name → Option (Callee × Profile) → ℕ → ℕ → (List Name → Typed Terms) → (List Name → Typed (List Ref)) → Typed Prog
elab_call p (Some (callee, Proc values refs)) count count_2 args names =
    if count == length values && count_2 == length refs then both (Prog.Call callee) (args values) (names refs) else Err (TypeFault.Arity p)
elab_call p _ count count_2 args names = Err (TypeFault.Unknown p)

abbrev pub has_program : RawForm → Bool
has_program RawForm.True = false
has_program RawForm.False = false
has_program (RawForm.Atom p ts) = false
has_program (RawForm.Equal s t) = false
has_program (RawForm.Not f) = has_program f
has_program (RawForm.And f g) = has_program f || has_program g
has_program (RawForm.Or f g) = has_program f || has_program g
has_program (RawForm.Imp f g) = has_program f || has_program g
has_program (RawForm.Iff f g) = has_program f || has_program g
has_program (RawForm.All x f) = has_program f
has_program (RawForm.Ex x f) = has_program f
has_program (RawForm.After a f) = true
has_program (RawForm.Can a f) = true

-- a condition has no box and no diamond, before all else
abbrev pub elab_condition : RawForm → Typed Form → Typed Form
elab_condition e typed = if has_program e then Err TypeFault.Program else typed

abbrev mutual
  pub elab_form : List Symbol → Context → RawForm → Typed Form
  elab_form sig c RawForm.True = Ok Form.True
  elab_form sig c RawForm.False = Ok Form.False
  elab_form sig c (RawForm.Atom p ts) = elab_atom p (place_of c p) (profile_of sig p) (terms_count ts) (λ wants. elab_args sig c wants ts)
  elab_form sig c (RawForm.Equal s t) = and_then (elab_term sig c s) (λ p. and_then (and_then (elab_term sig c t) (of_sort p.1)) (λ u. Ok (Form.Equal p.0 u)))
  elab_form sig c (RawForm.Not f) = and_then (elab_form sig c f) (λ h. Ok (Form.Not h))
  elab_form sig c (RawForm.And f g) = both Form.And (elab_form sig c f) (elab_form sig c g)
  elab_form sig c (RawForm.Or f g) = both Form.Or (elab_form sig c f) (elab_form sig c g)
  elab_form sig c (RawForm.Imp f g) = both Form.Imp (elab_form sig c f) (elab_form sig c g)
  elab_form sig c (RawForm.Iff f g) = both Form.Iff (elab_form sig c f) (elab_form sig c g)
  elab_form sig c (RawForm.All x f) = both Form.All (elab_sort sig x.sort) (elab_form sig (under c x) f)
  elab_form sig c (RawForm.Ex x f) = both Form.Ex (elab_sort sig x.sort) (elab_form sig (under c x) f)
  elab_form sig c (RawForm.After a f) = both Form.After (elab_prog sig c a) (elab_form sig c f)
  elab_form sig c (RawForm.Can a f) = both Form.Can (elab_prog sig c a) (elab_form sig c f)

  pub elab_prog : List Symbol → Context → RawProg → Typed Prog
  elab_prog sig c RawProg.Skip = Ok Prog.Skip
  elab_prog sig c RawProg.Abort = Ok Prog.Abort
  elab_prog sig c (RawProg.Assign x t) = and_then (elab_place x (place_of c x)) (λ p. and_then (and_then (elab_term sig c t) (of_sort p.1)) (λ u. Ok (Prog.Assign p.0 u)))
  elab_prog sig c (RawProg.Seq a b) = both Prog.Seq (elab_prog sig c a) (elab_prog sig c b)
  elab_prog sig c (RawProg.If e a b) = and_then (elab_condition e (elab_form sig c e)) (λ h. both (Prog.If h) (elab_prog sig c a) (elab_prog sig c b))
  elab_prog sig c (RawProg.While e a) = both Prog.While (elab_condition e (elab_form sig c e)) (elab_prog sig c a)
  elab_prog sig c (RawProg.Local x t a) = and_then (elab_sort sig x.sort) (λ s. both (Prog.Local s) (and_then (elab_term sig c t) (of_sort s)) (elab_prog sig (under c x) a))
  elab_prog sig c (RawProg.Call p ts xs) = elab_call p (callee_where p (assumed_of c.assumed p) (profile_of sig p)) (terms_count ts) (length xs) (λ wants. elab_args sig c wants ts) (λ wants. elab_refs c [] wants xs)
  elab_prog sig c (RawProg.Choice a b) = both Prog.Choice (elab_prog sig c a) (elab_prog sig c b)

-- Typed trees: each name is used as the signature says, and each variable at its sort. The sorts of the binders that
-- stand around a tree are listed from the innermost on, as Bound numbers count them.
use Rattle.std.specs.Prelude.{◌≡◌, Bool, true, false, ◌||◌, List, [], ◌∷◌, Some}
use Rattle.std.specs.List.{slice_get}
use Rattle.kv_names.specs.Names.{Name}
use Rattle.kv_trees.specs.Trees.{Term, Terms, Form, Prog}
use Rattle.kv_names.specs.declared.symbols.Profile.TheVariants.{Sort, Fun, Pred, Proc}
use Rattle.kv_names.specs.declared.symbols.Symbol.{Symbol as SymbolRow}
use Rattle.kv_names.specs.declared.symbols.Callee.{Callee}
use Rattle.kv_names.specs.declared.symbols.Callee.TheVariants.{Symbol, Assumed}
use Rattle.kv_trees.specs.declared.trees.Ref.{Ref}
use Rattle.kv_trees.specs.declared.trees.Ref.TheVariants.{Free, Bound}
use Rattle.kv_sig.specs.Members.{Every, Distinct}
use Rattle.kv_sig.specs.Signatures.{profile_of}

abbrev pub IsSort : List SymbolRow → Name → Type 0
IsSort sig s = profile_of sig s ≡ Some Sort

-- a variable of that sort: a free one says its sort, a bound one has that of its binder
abbrev pub IsVariable : List SymbolRow → List Name → Ref → Name → Type 0
IsVariable sig binders (Free x) s = (x.sort ≡ s) × IsSort sig s
IsVariable sig binders (Bound n) s = slice_get binders n ≡ Some s

abbrev mutual
  -- a term of that sort
  pub IsTerm : List SymbolRow → List Name → Term → Name → Type 0
  IsTerm sig binders (Term.Place r) s = IsVariable sig binders r s
  IsTerm sig binders (Term.App f ts) s = (sorts : List Name) × (profile_of sig f ≡ Some (Fun sorts s)) × AreTerms sig binders ts sorts

  -- terms of those sorts, one of each
  pub AreTerms : List SymbolRow → List Name → Terms → List Name → Type 0
  AreTerms sig binders Terms.none [] = Unit {0}
  AreTerms sig binders (Terms.more t ts) (s ∷ sorts) = IsTerm sig binders t s × AreTerms sig binders ts sorts
  AreTerms sig binders _ _ = ⊥

-- variables of those sorts, one of each
abbrev pub AreVariables : List SymbolRow → List Name → List Ref → List Name → Type 0
AreVariables sig binders [] [] = Unit {0}
AreVariables sig binders (r ∷ rs) (s ∷ sorts) = IsVariable sig binders r s × AreVariables sig binders rs sorts
AreVariables sig binders _ _ = ⊥

-- a box or a diamond stands in the formula
abbrev pub has_program : Form → Bool
has_program Form.True = false
has_program Form.False = false
has_program (Form.Atom p ts) = false
has_program (Form.Equal s t) = false
has_program (Form.Not f) = has_program f
has_program (Form.And f g) = has_program f || has_program g
has_program (Form.Or f g) = has_program f || has_program g
has_program (Form.Imp f g) = has_program f || has_program g
has_program (Form.Iff f g) = has_program f || has_program g
has_program (Form.All s f) = has_program f
has_program (Form.Ex s f) = has_program f
has_program (Form.After a f) = true
has_program (Form.Can a f) = true

-- a procedure with these values and references: a symbol, or an assumed one over sorts of the signature
abbrev pub IsProcedure : List SymbolRow → Callee → List Name → List Name → Type 0
IsProcedure sig (Symbol p) values refs = profile_of sig p ≡ Some (Proc values refs)
IsProcedure sig (Assumed p profile) values refs = (profile ≡ Proc values refs) × Every (IsSort sig) values × Every (IsSort sig) refs

abbrev mutual
  pub IsForm : List SymbolRow → List Name → Form → Type 0
  IsForm sig binders Form.True = Unit {0}
  IsForm sig binders Form.False = Unit {0}
  IsForm sig binders (Form.Atom p ts) = (sorts : List Name) × (profile_of sig p ≡ Some (Pred sorts)) × AreTerms sig binders ts sorts
  IsForm sig binders (Form.Equal s t) = (sort : Name) × IsTerm sig binders s sort × IsTerm sig binders t sort
  IsForm sig binders (Form.Not f) = IsForm sig binders f
  IsForm sig binders (Form.And f g) = IsForm sig binders f × IsForm sig binders g
  IsForm sig binders (Form.Or f g) = IsForm sig binders f × IsForm sig binders g
  IsForm sig binders (Form.Imp f g) = IsForm sig binders f × IsForm sig binders g
  IsForm sig binders (Form.Iff f g) = IsForm sig binders f × IsForm sig binders g
  IsForm sig binders (Form.All s f) = IsSort sig s × IsForm sig (s ∷ binders) f
  IsForm sig binders (Form.Ex s f) = IsSort sig s × IsForm sig (s ∷ binders) f
  IsForm sig binders (Form.After a f) = IsProg sig binders a × IsForm sig binders f
  IsForm sig binders (Form.Can a f) = IsProg sig binders a × IsForm sig binders f

  pub IsProg : List SymbolRow → List Name → Prog → Type 0
  IsProg sig binders Prog.Skip = Unit {0}
  IsProg sig binders Prog.Abort = Unit {0}
  IsProg sig binders (Prog.Assign x t) = (sort : Name) × IsVariable sig binders x sort × IsTerm sig binders t sort
  IsProg sig binders (Prog.Seq a b) = IsProg sig binders a × IsProg sig binders b
  IsProg sig binders (Prog.If e a b) = (has_program e ≡ false) × IsForm sig binders e × IsProg sig binders a × IsProg sig binders b
  IsProg sig binders (Prog.While e a) = (has_program e ≡ false) × IsForm sig binders e × IsProg sig binders a
  IsProg sig binders (Prog.Local s t a) = IsSort sig s × IsTerm sig binders t s × IsProg sig (s ∷ binders) a
  IsProg sig binders (Prog.Call p ts rs) = (values : List Name) × (refs : List Name) × IsProcedure sig p values refs
      × AreTerms sig binders ts values × AreVariables sig binders rs refs × Distinct rs
  IsProg sig binders (Prog.Choice a b) = IsProg sig binders a × IsProg sig binders b

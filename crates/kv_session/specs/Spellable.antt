-- The projects that a text can spell: what the tokens, the grammar and the limits ask of each part.
use Rattle.std.specs.Prelude.{ℕ, suc, ◌≡◌, ◌≤◌, ◌<◌, ◌^◌, false, List, [], ◌∷◌, ◌++◌, Some, None}
use Rattle.std.specs.List.{All}
use Rattle.std.specs.Str.{chars, IsUtf8}
use Rattle.kv_lex.specs.Tokens.{token_at}
use Rattle.kv_lex.specs.declared.token.TokenKind.TheVariants.{Ident}
use Rattle.kv_pexpr.specs.Grammar.{tree_height}
use Rattle.kv_punit.specs.Grammar.{path_steps}
use Rattle.kv_punit.specs.Limits.{IsWellformed, HasFewSteps, HasFewUnits, HasFewTheorems, most_steps, script_steps}
use Rattle.kv_punit.specs.Steps.{takes, numbered, with_name, with_term, with_form, sided}
use Rattle.kv_punit.specs.declared.steps.Takes.TheVariants as take
use Rattle.kv_session.specs.Edits.{Edit}
use Rattle.kv_syn.specs.Projects.{Theorem, Proof, Item, Kind}
use Rattle.kv_syn.specs.Projects as P
use Rattle.kv_raw.specs.RawCount.{raw_form_depth, raw_term_depth}
use Rattle.kv_raw.specs.RawTrees.{RawTerm, RawTerms, RawForm}
use Rattle.kv_syn.specs.Scripts.{Step, Script, Scripts}
use Rattle.kv_names.specs.Names.{Name}
use Rattle.kv_syn.specs.declared.scripts.Side.{Side}
use Rattle.kv_names.specs.declared.symbols.Var.{Var}

-- a text that reads as one name, and so as no keyword
pub record IsName (name : Name) : Type 0 where
  pub text : IsUtf8 name
  pub reads : token_at (chars name) ≡ Some (Ident name, [])

-- names with full stops between
pub data IsLabel : Name → Type 0 where
  name : {n : Name} → IsName n → IsLabel n
  dot : {n l : Name} → IsName n → IsLabel l → IsLabel (n ++ (46 ∷ l))

-- at most nine digits
abbrev pub IsNumber : ℕ → Type 0
IsNumber n = n < 10 ^ 9

-- a variable with its sort
pub record IsVar (x : Var) : Type 0 where
  pub name : IsName x.name
  pub sort : IsName x.sort

-- terms over such names
mutual
  pub data IsTerm : RawTerm → Type 0 where
    app : {f : Name} {args : RawTerms} → IsName f → AreTerms args → IsTerm (RawTerm.App f args)

  pub data AreTerms : RawTerms → Type 0 where
    none : AreTerms RawTerms.none
    more : {t : RawTerm} {rest : RawTerms} → IsTerm t → AreTerms rest → AreTerms (RawTerms.more t rest)

-- formulas without programs
pub data IsForm : RawForm → Type 0 where
  truth : IsForm RawForm.True
  falsehood : IsForm RawForm.False
  atom : {p : Name} {args : RawTerms} → IsName p → AreTerms args → IsForm (RawForm.Atom p args)
  equal : {t u : RawTerm} → IsTerm t → IsTerm u → IsForm (RawForm.Equal t u)
  not : {f : RawForm} → IsForm f → IsForm (RawForm.Not f)
  and : {f g : RawForm} → IsForm f → IsForm g → IsForm (RawForm.And f g)
  or : {f g : RawForm} → IsForm f → IsForm g → IsForm (RawForm.Or f g)
  imp : {f g : RawForm} → IsForm f → IsForm g → IsForm (RawForm.Imp f g)
  iff : {f g : RawForm} → IsForm f → IsForm g → IsForm (RawForm.Iff f g)
  all : {x : Var} {f : RawForm} → IsVar x → IsForm f → IsForm (RawForm.All x f)
  ex : {x : Var} {f : RawForm} → IsVar x → IsForm f → IsForm (RawForm.Ex x f)

-- steps with what their rule takes
pub data IsStep : Step → Type 0 where
  one : {row i : ℕ} → takes row ≡ Some take.One → IsNumber i → IsStep (numbered row (i ∷ []))
  two : {row i j : ℕ} → takes row ≡ Some take.Two → IsNumber i → IsNumber j → IsStep (numbered row (i ∷ j ∷ []))
  name : {row i : ℕ} {x : Name} → takes row ≡ Some take.Name → IsNumber i → IsName x → IsStep (with_name row i x)
  term : {row i : ℕ} {t : RawTerm} → takes row ≡ Some take.Term → IsNumber i → IsTerm t → raw_term_depth t ≤ tree_height → IsStep (with_term row i t)
  form : {row : ℕ} {f : RawForm} → takes row ≡ Some take.Form → IsForm f → raw_form_depth f ≤ tree_height → IsStep (with_form row f)
  side : {row i : ℕ} {s : Side} → takes row ≡ Some take.Side → IsNumber i → IsStep (sided row s (i ∷ []))
  two_sided : {row i j : ℕ} {s : Side} → takes row ≡ Some take.TwoSided → IsNumber i → IsNumber j → IsStep (sided row s (i ∷ j ∷ []))

-- scripts with at most so many steps on a path
mutual
  pub data IsScript : ℕ → Script → Type 0 where
    hole : {n : ℕ} → IsScript n Script.Hole
    node : {n : ℕ} {step : Step} {children : Scripts} → IsStep step → AreScripts n children → IsScript (suc n) (Script.Node step children)

  pub data AreScripts : ℕ → Scripts → Type 0 where
    none : {n : ℕ} → AreScripts n Scripts.none
    more : {n : ℕ} {s : Script} {rest : Scripts} → IsScript n s → AreScripts n rest → AreScripts n (Scripts.more s rest)

-- sorts, functions, predicates, and procedures without a body
pub data IsItem : Item → Type 0 where
  sort : {n : Name} → IsName n → IsItem (Item.Sort n)
  function : {f r : Name} {args : List Name} → IsName f → All IsName args → IsName r → IsItem (Item.Fun f args r)
  predicate : {p : Name} {args : List Name} → IsName p → All IsName args → IsItem (Item.Pred p args)
  procedure : {p : Name} {values refs : List Var} → IsName p → All IsVar values → All IsVar refs → IsItem (Item.Proc p values refs None)

pub record IsTheorem (theorem : Theorem) : Type 0 where
  pub name : IsName theorem.name
  pub unmarked : theorem.simp ≡ false
  pub form : IsForm theorem.form
  pub low : raw_form_depth theorem.form ≤ tree_height

pub record IsProof (proof : Proof) : Type 0 where
  pub name : IsLabel proof.name
  pub script : IsScript path_steps proof.script

pub data IsKind : Kind → Type 0 where
  basic : {items : List Item} → All IsItem items → IsKind (Kind.Basic items)

pub record IsUnit (unit : P.Unit) : Type 0 where
  pub name : IsName unit.name
  pub kind : IsKind unit.kind
  pub theorems : All IsTheorem unit.theorems
  pub proofs : All IsProof unit.proofs

pub record IsSpellable (project : P.Project) : Type 0 where
  pub units : All IsUnit project
  pub wellformed : IsWellformed project
  pub few_steps : HasFewSteps project
  pub few_units : HasFewUnits project
  pub few_theorems : HasFewTheorems project

-- a unit without theorems and proofs
pub record IsHead (unit : P.Unit) : Type 0 where
  pub name : IsName unit.name
  pub kind : IsKind unit.kind
  pub no_theorems : unit.theorems ≡ []
  pub no_proofs : unit.proofs ≡ []

-- what an edit brings in can be spelt as a command
abbrev pub IsSpellableEdit : Edit → Type 0
IsSpellableEdit (Edit.Add unit) = IsHead unit
IsSpellableEdit (Edit.Theorem unit theorem) = IsTheorem theorem
IsSpellableEdit (Edit.Proof unit proof) = IsProof proof × (script_steps proof.script ≤ most_steps)

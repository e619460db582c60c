-- The calculus: theories, the schemas of rules, and derivations.
use Rattle.std.specs.Prelude.{◌≡◌, ◌≢◌, ℕ, List, [], ◌∷◌, ◌++◌, Some}
use Rattle.kv_names.specs.Names.{Name}
use Rattle.kv_trees.specs.Trees.{Term, Form, Prog, Sequent}
use Rattle.kv_syn.specs.declared.scripts.Side.{Side}
use Rattle.kv_syn.specs.declared.scripts.Side.TheVariants.{L, R}
use Rattle.kv_names.specs.declared.symbols.Profile.{Profile}
use Rattle.kv_names.specs.declared.symbols.Symbol.{Symbol}
use Rattle.kv_names.specs.declared.symbols.Var.{Var}
use Rattle.kv_trees.specs.Variables.{variable}
use Rattle.kv_syn.specs.declared.units.Gen.{Gen}
use Rattle.kv_sig.specs.Members.{In, Every}
use Rattle.kv_sig.specs.Typing.{IsForm, IsTerm}
use Rattle.kv_sig.specs.FreeNames.{free_sequent, assumed_sequent, IsClosed, IsConsistent}
use Rattle.kv_sig.specs.Places.{item_at}
pub use Rattle.kv_sig.specs.Sequents.{sequent}
use Rattle.kv_sig.specs.Sequents.{side_of, in_place, two_in_place, at_end, without}
use Rattle.kv_subst.specs.Opening.{open_form}

-- what a procedure does, with its parameters as Bound numbers
pub record Body : Type 0 where
  pub name : Name
  pub prog : Prog

-- the symbols, the formulas that a derivation may take as given, the generation clauses, and the bodies of procedures
pub record Theory : Type 0 where
  pub signature : List Symbol
  pub formulas : List Form
  pub clauses : List Gen
  pub bodies : List Body

-- the theory with more formulas
abbrev pub adding : List Form → Theory → Theory
adding forms T = record { signature = T.signature; formulas = T.formulas ++ forms; clauses = T.clauses; bodies = T.bodies }

-- each formula that may be taken as given is typed over the signature, and closed
abbrev pub IsLawful : Theory → Type 0
IsLawful T = Every (λ (f : Form). IsForm T.signature [] f × IsClosed f) T.formulas

-- the theory is lawful, each free name has one meaning, and each formula is typed over the signature
pub record Good (T : Theory) (S : Sequent) : Type 0 where
  pub lawful : IsLawful T
  pub consistent : IsConsistent S
  pub lefts : Every (IsForm T.signature []) S.left
  pub rights : Every (IsForm T.signature []) S.right

-- the formula alone on the right
abbrev pub alone : Form → Sequent
alone f = sequent [] (f ∷ [])

-- a schema with its choices: places of formulas, counted from 1 on their side, a side, a name, a term or a formula
pub data Step : Type 0 where
  close : (i j : ℕ) → Step
  false_left : (i : ℕ) → Step
  true_right : (i : ℕ) → Step
  not_left : (i : ℕ) → Step
  not_right : (i : ℕ) → Step
  and_left : (i : ℕ) → Step
  and_right : (i : ℕ) → Step
  or_left : (i : ℕ) → Step
  or_right : (i : ℕ) → Step
  imp_left : (i : ℕ) → Step
  imp_right : (i : ℕ) → Step
  iff_left : (i : ℕ) → Step
  iff_right : (i : ℕ) → Step
  drop_left : (i : ℕ) → Step
  drop_right : (i : ℕ) → Step
  cut : (f : Form) → Step
  all_left : (i : ℕ) → (t : Term) → Step
  all_right : (i : ℕ) → (x : Name) → Step
  ex_left : (i : ℕ) → (x : Name) → Step
  ex_right : (i : ℕ) → (t : Term) → Step
  reflexive : (i : ℕ) → Step
  swap : (side : Side) → (i : ℕ) → Step
  replace : (i : ℕ) → (side : Side) → (j : ℕ) → (body : Form) → Step
  axiom_of : (f : Form) → Step
  -- what names no schema
  other : Step

-- neither a free variable nor an assumed procedure of the sequent has the name
pub record IsNew (x : Name) (S : Sequent) : Type 0 where
  pub variables : (y : Var) → In y (free_sequent S) → y.name ≢ x
  pub procedures : (p : Name × Profile) → In p (assumed_sequent S) → p.0 ≢ x

-- the j-th on that side isn't the i-th on the left
abbrev pub IsElsewhere : ℕ → Side → ℕ → Type 0
IsElsewhere i L j = i ≢ j
IsElsewhere i R j = Unit {0}

-- an instance of a schema: the sequent that it shows, and the sequents from which it shows it
abbrev pub Rule : Theory → Step → Sequent → List Sequent → Type 0
-- close i j: the i-th on the left is the j-th on the right; nothing is left to show
Rule T (Step.close i j) S premises = (f : Form) × (item_at S.left i ≡ Some f) × (item_at S.right j ≡ Some f) × (premises ≡ [])
-- false_left i: the i-th on the left is `false`
Rule T (Step.false_left i) S premises = (item_at S.left i ≡ Some Form.False) × (premises ≡ [])
-- true_right i: the i-th on the right is `true`
Rule T (Step.true_right i) S premises = (item_at S.right i ≡ Some Form.True) × (premises ≡ [])
-- not_left i: `not a` on the left goes, and a is to be shown at the end of the right; not_right i: the other way round
Rule T (Step.not_left i) S premises = (a : Form) × (item_at S.left i ≡ Some (Form.Not a))
    × (premises ≡ at_end R a (without L i S) ∷ [])
Rule T (Step.not_right i) S premises = (a : Form) × (item_at S.right i ≡ Some (Form.Not a))
    × (premises ≡ at_end L a (without R i S) ∷ [])
-- and_left i: the i-th on the left is `a and b`; a and then b take its place
Rule T (Step.and_left i) S premises = (a : Form) × (b : Form) × (item_at S.left i ≡ Some (Form.And a b))
    × (premises ≡ two_in_place L i a b S ∷ [])
-- and_right i: the i-th on the right is `a and b`; a is to be shown in its place, and so is b
Rule T (Step.and_right i) S premises = (a : Form) × (b : Form) × (item_at S.right i ≡ Some (Form.And a b))
    × (premises ≡ in_place R i a S ∷ in_place R i b S ∷ [])
-- or_left i: the i-th on the left is `a or b`; first a takes its place, and then b does
Rule T (Step.or_left i) S premises = (a : Form) × (b : Form) × (item_at S.left i ≡ Some (Form.Or a b))
    × (premises ≡ in_place L i a S ∷ in_place L i b S ∷ [])
-- or_right i: the i-th on the right is `a or b`; a and then b take its place
Rule T (Step.or_right i) S premises = (a : Form) × (b : Form) × (item_at S.right i ≡ Some (Form.Or a b))
    × (premises ≡ two_in_place R i a b S ∷ [])
-- imp_left i: the i-th on the left is `a -> b`; in the first premise it is taken away and a is to be shown at the end of the
-- right, in the second b stands in its place
Rule T (Step.imp_left i) S premises = (a : Form) × (b : Form) × (item_at S.left i ≡ Some (Form.Imp a b))
    × (premises ≡ at_end R a (without L i S) ∷ in_place L i b S ∷ [])
-- imp_right i: the i-th on the right is `a -> b`; a goes to the end of the left, and b stays in place
Rule T (Step.imp_right i) S premises = (a : Form) × (b : Form) × (item_at S.right i ≡ Some (Form.Imp a b))
    × (premises ≡ at_end L a (in_place R i b S) ∷ [])
-- iff_left i: the i-th on the left is `a <-> b`; `a -> b` and then `b -> a` take its place
Rule T (Step.iff_left i) S premises = (a : Form) × (b : Form) × (item_at S.left i ≡ Some (Form.Iff a b))
    × (premises ≡ two_in_place L i (Form.Imp a b) (Form.Imp b a) S ∷ [])
-- iff_right i: the i-th on the right is `a <-> b`; `a -> b` is to be shown in its place, and so is `b -> a`
Rule T (Step.iff_right i) S premises = (a : Form) × (b : Form) × (item_at S.right i ≡ Some (Form.Iff a b))
    × (premises ≡ in_place R i (Form.Imp a b) S ∷ in_place R i (Form.Imp b a) S ∷ [])
-- drop_left i: the i-th on the left is taken away; drop_right i: that on the right
Rule T (Step.drop_left i) S premises = (f : Form) × (item_at S.left i ≡ Some f) × (premises ≡ without L i S ∷ [])
Rule T (Step.drop_right i) S premises = (f : Form) × (item_at S.right i ≡ Some f) × (premises ≡ without R i S ∷ [])
-- cut f: f is shown at the end of the right, and then used at the end of the left
Rule T (Step.cut f) S premises = premises ≡ at_end R f S ∷ at_end L f S ∷ []
-- all_right i x, ex_left i x: the body at a new variable takes the place of the formula
Rule T (Step.all_right i x) S premises = (s : Name) × (a : Form) × (b : Form) × (item_at S.right i ≡ Some (Form.All s a))
    × IsNew x S × (open_form a (variable x s) ≡ Some b) × (premises ≡ in_place R i b S ∷ [])
Rule T (Step.ex_left i x) S premises = (s : Name) × (a : Form) × (b : Form) × (item_at S.left i ≡ Some (Form.Ex s a))
    × IsNew x S × (open_form a (variable x s) ≡ Some b) × (premises ≡ in_place L i b S ∷ [])
-- all_left i t, ex_right i t: the body at a term of its sort comes to the end of that side, and the formula stays
Rule T (Step.all_left i t) S premises = (s : Name) × (a : Form) × (b : Form) × (item_at S.left i ≡ Some (Form.All s a))
    × IsTerm T.signature [] t s × (open_form a t ≡ Some b) × (premises ≡ at_end L b S ∷ [])
Rule T (Step.ex_right i t) S premises = (s : Name) × (a : Form) × (b : Form) × (item_at S.right i ≡ Some (Form.Ex s a))
    × IsTerm T.signature [] t s × (open_form a t ≡ Some b) × (premises ≡ at_end R b S ∷ [])
-- reflexive i: the i-th on the right is `t = t`
Rule T (Step.reflexive i) S premises = (t : Term) × (item_at S.right i ≡ Some (Form.Equal t t)) × (premises ≡ [])
-- swap side i: of `t = u` the sides change
Rule T (Step.swap side i) S premises = (t : Term) × (u : Term) × (item_at (side_of side S) i ≡ Some (Form.Equal t u))
    × (premises ≡ in_place side i (Form.Equal u t) S ∷ [])
-- replace i side j body: the i-th on the left is `t = u`; another formula, which is the body at t, becomes the body at u. The body
-- stands under a binder of the sort of t
Rule T (Step.replace i side j body) S premises = (t : Term) × (u : Term) × (s : Name) × (a : Form) × (b : Form)
    × (item_at S.left i ≡ Some (Form.Equal t u)) × (item_at (side_of side S) j ≡ Some a) × IsElsewhere i side j
    × IsTerm T.signature [] t s × IsForm T.signature (s ∷ []) body × (open_form body t ≡ Some a) × (open_form body u ≡ Some b) × (premises ≡ in_place side j b S ∷ [])
-- axiom_of f: f is a formula of the theory, and is used at the end of the left
Rule T (Step.axiom_of f) S premises = In f T.formulas × (premises ≡ at_end L f S ∷ [])
Rule T Step.other S premises = ⊥

mutual
  pub data Deriv : Type 0 where
    node : (step : Step) → (root : Sequent) → (children : Derivs) → Deriv

  pub data Derivs : Type 0 where
    none : Derivs
    more : (d : Deriv) → (rest : Derivs) → Derivs

-- the sequent that a derivation shows
abbrev pub root_of : Deriv → Sequent
root_of (Deriv.node step root children) = root

abbrev pub roots_of : Derivs → List Sequent
roots_of Derivs.none = []
roots_of (Derivs.more d rest) = root_of d ∷ roots_of rest

-- at each node a good sequent, and an instance of a schema with the children's sequents as premises
abbrev mutual
  pub Valid : Theory → Deriv → Type 0
  Valid T (Deriv.node step root children) = Good T root × Rule T step root (roots_of children) × AllValid T children

  pub AllValid : Theory → Derivs → Type 0
  AllValid T Derivs.none = Unit {0}
  AllValid T (Derivs.more d rest) = Valid T d × AllValid T rest

-- the tree is a derivation of the sequent
pub record IsDeriv (T : Theory) (d : Deriv) (S : Sequent) : Type 0 where
  pub valid : Valid T d
  pub root : root_of d ≡ S

abbrev pub Derivable : Theory → Sequent → Type 0
Derivable T S = (d : Deriv) × IsDeriv T d S

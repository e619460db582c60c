-- What a step makes of a sequent: the premises, or the first refusal. Each row asks from left to right, and so refusals come in
-- this order: position, shape, sort, label, fresh, captured, large.
use Rattle.std.specs.Prelude.{ℕ, ◌≡◌, Bool, false, not, ◌&&◌, ◌==◌, nat_le, if◌then◌else◌, List, [], ◌∷◌, Option, Some, None, Result, Ok, Err, is_none}
use Rattle.std.specs.List.{list_any}
use Rattle.std.specs.Str.{bytes_eq}
use Rattle.kv_sig.specs.declared.refusals.StepError.{StepError}
use Rattle.kv_sig.specs.declared.refusals.StepError.TheVariants as error
use Rattle.kv_sig.specs.FreeNames.{free_sequent, assumed_sequent}
use Rattle.kv_sig.specs.Places.{item_at}
use Rattle.kv_sig.specs.Sequents.{side_of, in_place, two_in_place, at_end, without}
use Rattle.kv_sig.specs.Steps.{TypedText, TypedStep}
use Rattle.kv_sig.specs.Views.{View}
use Rattle.kv_subst.specs.Opening.{open_form}
use Rattle.kv_trees.specs.Count.{sequent_nodes, sequent_depth}
use Rattle.kv_trees.specs.Same.{form_eq, term_eq}
use Rattle.kv_names.specs.Names.{Name}
use Rattle.kv_trees.specs.Trees.{Term, Form, Sequent}
use Rattle.kv_syn.specs.declared.outcomes.Look.{Look}
use Rattle.kv_syn.specs.declared.outcomes.Look.TheVariants.{Symbol, Label}
use Rattle.kv_syn.specs.declared.scripts.Side.{Side}
use Rattle.kv_syn.specs.declared.scripts.Side.TheVariants.{L, R}
use Rattle.kv_names.specs.declared.symbols.Profile.{Profile}
use Rattle.kv_names.specs.declared.symbols.Profile.TheVariants.{Fun}
use Rattle.kv_names.specs.declared.symbols.Var.{Var}
use Rattle.kv_trees.specs.declared.trees.Ref.TheVariants.{Free, Bound}
use Rattle.kv_trees.specs.Variables.{variable}
use Rattle.kv_prop.specs.Refusals.{Refusal, Position, Shape, Sort, NoLabel, NoBody, NoGeneration, NotFresh, Captured, Large}
use Rattle.kv_prop.specs.Replacing.{replaced_form}
use Rattle.kv_prop.specs.Rows.{Row, row_of}
use Rattle.kv_prop.specs.Limits.{is_small}

-- the premises in order, or the refusal
abbrev pub Premises : Type 0
Premises = Result (List Sequent) Refusal

-- ---- position

abbrev pub or_position : Option Form → (Form → Premises) → Premises
or_position (Some f) next = next f
or_position None next = Err Position

-- the formula at a place of a side
abbrev pub at_place : Side → ℕ → Sequent → (Form → Premises) → Premises
at_place side i s next = or_position (item_at (side_of side s) i) next

-- the place of the j-th on a side is that of the i-th on the left
abbrev pub is_left_place : ℕ → Side → ℕ → Bool
is_left_place i L j = i == j
is_left_place i R j = false

abbrev pub elsewhere : ℕ → Side → ℕ → Premises → Premises
elsewhere i side j next = if is_left_place i side j then Err Position else next

-- ---- shape

abbrev pub or_shape : Bool → Premises → Premises
or_shape fits next = if fits then next else Err Shape

abbrev pub as_false : Form → Premises → Premises
as_false Form.False next = next
as_false _ next = Err Shape

abbrev pub as_true : Form → Premises → Premises
as_true Form.True next = next
as_true _ next = Err Shape

abbrev pub as_not : Form → (Form → Premises) → Premises
as_not (Form.Not a) next = next a
as_not _ next = Err Shape

abbrev pub as_and : Form → (Form → Form → Premises) → Premises
as_and (Form.And a b) next = next a b
as_and _ next = Err Shape

abbrev pub as_or : Form → (Form → Form → Premises) → Premises
as_or (Form.Or a b) next = next a b
as_or _ next = Err Shape

abbrev pub as_imp : Form → (Form → Form → Premises) → Premises
as_imp (Form.Imp a b) next = next a b
as_imp _ next = Err Shape

abbrev pub as_iff : Form → (Form → Form → Premises) → Premises
as_iff (Form.Iff a b) next = next a b
as_iff _ next = Err Shape

-- the sort of the quantifier, and its body
abbrev pub as_all : Form → (Name → Form → Premises) → Premises
as_all (Form.All s a) next = next s a
as_all _ next = Err Shape

abbrev pub as_ex : Form → (Name → Form → Premises) → Premises
as_ex (Form.Ex s a) next = next s a
as_ex _ next = Err Shape

abbrev pub as_equal : Form → (Term → Term → Premises) → Premises
as_equal (Form.Equal t u) next = next t u
as_equal _ next = Err Shape

-- u for t changes the formula
abbrev pub changed : Term → Term → Form → (Form → Premises) → Premises
changed t u f next = or_shape (not (form_eq (replaced_form t u 0 f) f)) (next (replaced_form t u 0 f))

-- ---- sort

abbrev pub result_of : Option Profile → Option Name
result_of (Some (Fun args sort)) = Some sort
result_of _ = None

-- the sort of a term: that of its variable, or the result of its function
abbrev pub sort_of : View → Term → Option Name
sort_of v (Term.Place (Free x)) = Some x.sort
sort_of v (Term.Place (Bound n)) = None
sort_of v (Term.App f ts) = result_of (v.symbol f)

-- a term that is typed has a sort
abbrev pub or_sort : Name → Option Name → Premises → Premises
or_sort want (Some got) next = if bytes_eq want got then next else Err (Sort want got)
or_sort want None next = Err Shape

-- ---- label

abbrev pub or_label : Name → Option Form → (Form → Premises) → Premises
or_label l (Some f) next = next f
or_label l None next = Err (NoLabel l)

-- ---- fresh

-- no free variable, no assumed procedure and no symbol has the name
abbrev pub is_fresh : View → Sequent → Name → Bool
is_fresh v s x =
    not (list_any (λ (y : Var). bytes_eq y.name x) (free_sequent s))
    && not (list_any (λ (p : Name × Profile). bytes_eq p.0 x) (assumed_sequent s))
    && is_none (v.symbol x)

abbrev pub or_fresh : Name → Bool → Premises → Premises
or_fresh x fresh next = if fresh then next else Err (NotFresh x)

-- ---- captured

abbrev pub or_captured : Option Form → (Form → Premises) → Premises
or_captured (Some f) next = next f
or_captured None next = Err Captured

-- ---- large

abbrev pub fits : Sequent → Bool
fits s = is_small (sequent_nodes s) (sequent_depth s)

-- the sequent alone, and two sequents, where all keep the limits
abbrev pub one : Sequent → Premises
one s = if fits s then Ok (s ∷ []) else Err Large

abbrev pub two : Sequent → Sequent → Premises
two s t = if fits s && fits t then Ok (s ∷ t ∷ []) else Err Large

-- nothing is left to show
abbrev pub nothing : Premises
nothing = Ok []

-- ---- the rows

-- the body of a quantifier at a new variable, and at a term of its sort
abbrev pub at_new : View → Sequent → Name → Name → Form → (Form → Premises) → Premises
at_new v s x sort a next = or_fresh x (is_fresh v s x) (or_captured (open_form a (variable x sort)) next)

abbrev pub at_term : View → Term → Name → Form → (Form → Premises) → Premises
at_term v t sort a next = or_sort sort (sort_of v t) (or_captured (open_form a t) next)

abbrev pub premises_of : View → Sequent → Row → Premises
-- close i j: the i-th on the left equals the j-th on the right
premises_of v s (Row.close i j) = at_place L i s (λ a. at_place R j s (λ b. or_shape (form_eq a b) nothing))
-- falseL i, trueR i
premises_of v s (Row.false_left i) = at_place L i s (λ f. as_false f nothing)
premises_of v s (Row.true_right i) = at_place R i s (λ f. as_true f nothing)
-- notL i, notR i: `not A` goes, and A comes to the end of the other side
premises_of v s (Row.not_left i) = at_place L i s (λ f. as_not f (λ a. one (at_end R a (without L i s))))
premises_of v s (Row.not_right i) = at_place R i s (λ f. as_not f (λ a. one (at_end L a (without R i s))))
-- andL i, orR i: both parts in place
premises_of v s (Row.and_left i) = at_place L i s (λ f. as_and f (λ a b. one (two_in_place L i a b s)))
premises_of v s (Row.or_right i) = at_place R i s (λ f. as_or f (λ a b. one (two_in_place R i a b s)))
-- andR i, orL i: first A in place, then B in place
premises_of v s (Row.and_right i) = at_place R i s (λ f. as_and f (λ a b. two (in_place R i a s) (in_place R i b s)))
premises_of v s (Row.or_left i) = at_place L i s (λ f. as_or f (λ a b. two (in_place L i a s) (in_place L i b s)))
-- impL i: first `A -> B` goes and A comes to the right end; then B in place
premises_of v s (Row.imp_left i) = at_place L i s (λ f. as_imp f (λ a b. two (at_end R a (without L i s)) (in_place L i b s)))
-- impR i: A at the left end, B in place
premises_of v s (Row.imp_right i) = at_place R i s (λ f. as_imp f (λ a b. one (at_end L a (in_place R i b s))))
-- iffL i: `A -> B`, `B -> A` in place; iffR i: first the one, then the other
premises_of v s (Row.iff_left i) = at_place L i s (λ f. as_iff f (λ a b. one (two_in_place L i (Form.Imp a b) (Form.Imp b a) s)))
premises_of v s (Row.iff_right i) = at_place R i s (λ f. as_iff f (λ a b. two (in_place R i (Form.Imp a b) s) (in_place R i (Form.Imp b a) s)))
-- dropL i, dropR i
premises_of v s (Row.drop_left i) = at_place L i s (λ f. one (without L i s))
premises_of v s (Row.drop_right i) = at_place R i s (λ f. one (without R i s))
-- cut F: first F at the right end, then F at the left end
premises_of v s (Row.cut f) = two (at_end R f s) (at_end L f s)
-- allR i as x, exL i as x: the body at the new variable x, in place
premises_of v s (Row.all_right i x) = at_place R i s (λ f. as_all f (λ sort a. at_new v s x sort a (λ b. one (in_place R i b s))))
premises_of v s (Row.ex_left i x) = at_place L i s (λ f. as_ex f (λ sort a. at_new v s x sort a (λ b. one (in_place L i b s))))
-- allL i with t, exR i with t: the body at t at that side's end; the formula stays
premises_of v s (Row.all_left i t) = at_place L i s (λ f. as_all f (λ sort a. at_term v t sort a (λ b. one (at_end L b s))))
premises_of v s (Row.ex_right i t) = at_place R i s (λ f. as_ex f (λ sort a. at_term v t sort a (λ b. one (at_end R b s))))
-- refl i: `t = t` on the right
premises_of v s (Row.reflexive i) = at_place R i s (λ f. as_equal f (λ t u. or_shape (term_eq t u) nothing))
-- swap S i: `u = t` in place of `t = u`
premises_of v s (Row.swap side i) = at_place side i s (λ f. as_equal f (λ t u. one (in_place side i (Form.Equal u t) s)))
-- subst i S j: the i-th on the left is `t = u`, and u comes for t in another formula
premises_of v s (Row.replace i side j) =
    elsewhere i side j (at_place L i s (λ e. at_place side j s (λ f. as_equal e (λ t u. changed t u f (λ g. one (in_place side j g s))))))
-- use LABEL: the entry's formula at the left end
premises_of v s (Row.lemma_of l) = or_label l (v.entry l) (λ f. one (at_end L f s))
premises_of v s Row.other = Err Shape

abbrev pub premises : View → Sequent → TypedStep → Premises
premises v s step = premises_of v s (row_of step)

-- ---- what a step asks of its view

abbrev pub head_looks : Term → List Look
head_looks (Term.Place r) = []
head_looks (Term.App f ts) = Symbol f ∷ []

-- whether a new name is a symbol, what the function of a term gives, and an entry
abbrev pub needs : TypedText → List Look
needs TypedText.Nothing = []
needs (TypedText.Fresh x) = Symbol x ∷ []
needs (TypedText.OfTerm t) = head_looks t
needs (TypedText.OfForm f) = []
needs (TypedText.OfLabel l) = Label l ∷ []

-- what a call answers, as `see` shows it: the value or the very refusal, but for want of memory
abbrev pub Gives : {T S : Type 0} → (T → S) → Result T StepError → Result S Refusal → Type 0
Gives see (Ok x) want = want ≡ Ok (see x)
Gives see (Err error.NoMemory) want = Unit {0}
Gives see (Err error.Position) want = want ≡ Err Position
Gives see (Err error.Shape) want = want ≡ Err Shape
Gives see (Err (error.Sort w g)) want = want ≡ Err (Sort w g)
Gives see (Err (error.NoLabel l)) want = want ≡ Err (NoLabel l)
Gives see (Err (error.NoBody n)) want = want ≡ Err (NoBody n)
Gives see (Err (error.NoGeneration s)) want = want ≡ Err (NoGeneration s)
Gives see (Err (error.NotFresh n)) want = want ≡ Err (NotFresh n)
Gives see (Err error.Captured) want = want ≡ Err Captured
Gives see (Err error.Large) want = want ≡ Err Large

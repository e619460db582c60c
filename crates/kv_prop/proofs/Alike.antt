-- The premises of a step are the same where what it needs is answered alike.
use Rattle.std.proofs.Common.{ℕ, Bool, true, false, ◌&&◌, ◌==◌, not, if◌then◌else◌, List, [], ◌∷◌, Option, Some, None, is_none, ◌≡◌, refl, ap}
use Rattle.std.specs.List.{list_any}
use Rattle.std.specs.Str.{bytes_eq}
use Rattle.kv_sig.specs.FreeNames.{free_sequent, assumed_sequent}
use Rattle.kv_sig.specs.Members.{Every}
use Rattle.kv_sig.specs.Sequents.{in_place, at_end}
use Rattle.kv_sig.specs.Steps.{TypedText, TypedStep}
use Rattle.kv_sig.specs.Views.{View, AnswersAlike}
use Rattle.kv_subst.specs.Opening.{open_form}
use Rattle.kv_names.specs.Names.{Name}
use Rattle.kv_trees.specs.Trees.{Term, Form, Sequent}
use Rattle.kv_syn.specs.declared.scripts.Side.{Side}
use Rattle.kv_syn.specs.declared.scripts.Side.TheVariants.{L, R}
use Rattle.kv_names.specs.declared.symbols.Profile.{Profile}
use Rattle.kv_names.specs.declared.symbols.Var.{Var}
use Rattle.kv_trees.specs.declared.trees.Ref.TheVariants.{Free, Bound}
use Rattle.kv_table.specs.Rules as rule
use Rattle.kv_prop.specs.Laws.{SamePremises}
use Rattle.kv_trees.specs.Variables.{variable}
use Rattle.kv_prop.specs.Premises.{at_place, as_all, as_ex, or_fresh, or_captured, or_sort, or_label, result_of, sort_of, one, premises_of, needs}
use Rattle.kv_prop.specs.Rows.{Row, beside, number_rows, name_rows, term_rows, row_where, row_on, row_by}

pub if_is : {A : Type 0} (P : A → Type 0) (b : Bool) (x y : A) → P x → P y → P (if b then x else y)
if_is P true x y p q = p
if_is P false x y p q = q

-- what holds of all that a table has holds of what is found in it
pub beside_is : {A : Type 0} (P : A → Type 0) (row : ℕ) (rs : List (ℕ × A)) (none : A) → Every (λ (r : ℕ × A). P r.1) rs → P none → P (beside row rs none)
beside_is P row [] none e p = p
beside_is P row (r ∷ rs) none e p = if_is P (row == r.0) r.1 (beside row rs none) e.0 (beside_is P row rs none e.1 p)

module _ (v w : View) (s : Sequent) where
  abbrev Same : Row → Type 0
  Same row = premises_of v s row ≡ premises_of w s row

  same_one : (row i : ℕ) → Same (beside row number_rows (λ i. Row.other) i)
  same_one row = beside_is (λ (f : ℕ → Row). (i : ℕ) → Same (f i)) row number_rows (λ i. Row.other)
      ((λ i. refl), ((λ i. refl), ((λ i. refl), ((λ i. refl), ((λ i. refl), ((λ i. refl), ((λ i. refl), ((λ i. refl), ((λ i. refl), ((λ i. refl), ((λ i. refl), ((λ i. refl), ((λ i. refl), ((λ i. refl), ((λ i. refl), tt))))))))))))))) (λ i. refl)

  -- whether the name is fresh, by what the view tells of it
  abbrev fresh : Name → Option Profile → Bool
  fresh x p = not (list_any (λ (y : Var). bytes_eq y.name x) (free_sequent s)) && not (list_any (λ (q : Name × Profile). bytes_eq q.0 x) (assumed_sequent s)) && is_none p

  same_new : (i : ℕ) (x : Name) → v.symbol x ≡ w.symbol x → Same (Row.all_right i x) × Same (Row.ex_left i x)
  same_new i x e = (
    ap (λ (p : Option Profile). at_place R i s (λ f. as_all f (λ sort a. or_fresh x (fresh x p) (or_captured (open_form a (variable x sort)) (λ b. one (in_place R i b s)))))) e,
    ap (λ (p : Option Profile). at_place L i s (λ f. as_ex f (λ sort a. or_fresh x (fresh x p) (or_captured (open_form a (variable x sort)) (λ b. one (in_place L i b s)))))) e,
  )

  same_sort : (t : Term) → Every (AnswersAlike v w) (needs (TypedText.OfTerm t)) → sort_of v t ≡ sort_of w t
  same_sort (Term.Place (Free x)) e = refl
  same_sort (Term.Place (Bound n)) e = refl
  same_sort (Term.App f ts) e = ap result_of e.0

  same_at : (i : ℕ) (t : Term) → sort_of v t ≡ sort_of w t → Same (Row.all_left i t) × Same (Row.ex_right i t)
  same_at i t e = (
    ap (λ (o : Option Name). at_place L i s (λ f. as_all f (λ sort a. or_sort sort o (or_captured (open_form a t) (λ b. one (at_end L b s)))))) e,
    ap (λ (o : Option Name). at_place R i s (λ f. as_ex f (λ sort a. or_sort sort o (or_captured (open_form a t) (λ b. one (at_end R b s)))))) e,
  )

  same_where : (row : ℕ) (numbers : List ℕ) (text : TypedText) → Every (AnswersAlike v w) (needs text) → Same (row_where row numbers text)
  same_where row [] TypedText.Nothing e = refl
  same_where row (i ∷ []) TypedText.Nothing e = same_one row i
  same_where row (i ∷ j ∷ []) TypedText.Nothing e = if_is Same (row == rule.CLOSE) (Row.close i j) Row.other refl refl
  same_where row (i ∷ j ∷ k ∷ more) TypedText.Nothing e = refl
  same_where row [] (TypedText.Fresh x) e = refl
  same_where row (i ∷ []) (TypedText.Fresh x) e =
      beside_is (λ (f : ℕ → Name → Row). (i : ℕ) → Same (f i x)) row name_rows (λ i y. Row.other) ((λ j. (same_new j x e.0).0), ((λ j. (same_new j x e.0).1), tt)) (λ j. refl) i
  same_where row (i ∷ j ∷ []) (TypedText.Fresh x) e = refl
  same_where row (i ∷ j ∷ k ∷ more) (TypedText.Fresh x) e = refl
  same_where row [] (TypedText.OfTerm t) e = refl
  same_where row (i ∷ []) (TypedText.OfTerm t) e =
      beside_is (λ (f : ℕ → Term → Row). (i : ℕ) → Same (f i t)) row term_rows (λ i u. Row.other) ((λ j. (same_at j t (same_sort t e)).0), ((λ j. (same_at j t (same_sort t e)).1), tt)) (λ j. refl) i
  same_where row (i ∷ j ∷ []) (TypedText.OfTerm t) e = refl
  same_where row (i ∷ j ∷ k ∷ more) (TypedText.OfTerm t) e = refl
  same_where row [] (TypedText.OfForm f) e = if_is Same (row == rule.CUT) (Row.cut f) Row.other refl refl
  same_where row (i ∷ []) (TypedText.OfForm f) e = refl
  same_where row (i ∷ j ∷ []) (TypedText.OfForm f) e = refl
  same_where row (i ∷ j ∷ k ∷ more) (TypedText.OfForm f) e = refl
  same_where row [] (TypedText.OfLabel l) e =
      if_is Same (row == rule.USE) (Row.lemma_of l) Row.other (ap (λ (o : Option Form). or_label l o (λ f. one (at_end L f s))) e.0) refl
  same_where row (i ∷ []) (TypedText.OfLabel l) e = refl
  same_where row (i ∷ j ∷ []) (TypedText.OfLabel l) e = refl
  same_where row (i ∷ j ∷ k ∷ more) (TypedText.OfLabel l) e = refl

  same_on : (row : ℕ) (side : Side) (numbers : List ℕ) (text : TypedText) → Same (row_on row side numbers text)
  same_on row side [] text = refl
  same_on row side (i ∷ []) TypedText.Nothing = if_is Same (row == rule.SWAP) (Row.swap side i) Row.other refl refl
  same_on row side (i ∷ j ∷ []) TypedText.Nothing = if_is Same (row == rule.SUBST) (Row.replace i side j) Row.other refl refl
  same_on row side (i ∷ j ∷ k ∷ more) text = refl
  same_on row side (i ∷ []) (TypedText.Fresh x) = refl
  same_on row side (i ∷ j ∷ []) (TypedText.Fresh x) = refl
  same_on row side (i ∷ []) (TypedText.OfTerm t) = refl
  same_on row side (i ∷ j ∷ []) (TypedText.OfTerm t) = refl
  same_on row side (i ∷ []) (TypedText.OfForm f) = refl
  same_on row side (i ∷ j ∷ []) (TypedText.OfForm f) = refl
  same_on row side (i ∷ []) (TypedText.OfLabel l) = refl
  same_on row side (i ∷ j ∷ []) (TypedText.OfLabel l) = refl

  same_by : (step : TypedStep) (side : Option Side) → Every (AnswersAlike v w) (needs step.text) → Same (row_by step side)
  same_by step None e = same_where step.rule step.numbers step.text e
  same_by step (Some side) e = same_on step.rule side step.numbers step.text

pub same_premises : SamePremises
same_premises v w s step e = same_by v w s step step.side e

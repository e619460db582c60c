-- A step that isn't refused is an instance of a schema, and its premises are good.
use Rattle.std.proofs.Common.{ℕ, ◌==◌, List, [], ◌∷◌, Option, Some, None, ◌≡◌}
use Rattle.kv_names.specs.Names.{Name}
use Rattle.kv_trees.specs.Trees.{Term, Sequent}
use Rattle.kv_syn.specs.declared.scripts.Side.{Side}
use Rattle.kv_sig.specs.Signatures.{profile_of}
use Rattle.kv_sig.specs.Steps.{TypedText, TypedStep}
use Rattle.kv_sig.specs.Views.{View}
use Rattle.kv_table.specs.Rules as rule
use Rattle.kv_calc.specs.Calculus.{Theory, Good}
use Rattle.kv_prop.proofs.Alike.{if_is, beside_is}
use Rattle.kv_prop.specs.Premises.{premises_of, premises}
use Rattle.kv_prop.specs.Rows.{Row, beside, number_rows, name_rows, term_rows, row_where, row_on, row_by}
use Rattle.kv_script.proofs.Connectives.{of_close, of_false_left, of_true_right, of_not_left, of_not_right, of_and_left, of_or_right, of_and_right, of_or_left, of_imp_left, of_imp_right, of_iff_left, of_iff_right, of_drop_left, of_drop_right}
use Rattle.kv_script.proofs.Equations.{of_reflexive, of_swap, of_replace}
use Rattle.kv_script.proofs.Inversions.{okay}
use Rattle.kv_script.proofs.Instances.{Instance}
use Rattle.kv_script.proofs.Lemmas.{of_cut, of_lemma}
use Rattle.kv_script.proofs.Quantifiers.{of_all_right, of_ex_left, of_all_left, of_ex_right}
use Rattle.kv_script.proofs.Texts.{Fits}

module _ (v : View) (T : Theory) (S : Sequent) (g : Good T S) (symbols : v.symbol ≡ profile_of T.signature) where
  abbrev Shown : Row → Type 0
  Shown row = (ps : List Sequent) → premises_of v S row ≡ okay ps → Instance T S ps

  of_other : Shown Row.other
  of_other ps e = cc

  of_number : (row i : ℕ) → Shown (beside row number_rows (λ i. Row.other) i)
  of_number row = beside_is (λ (f : ℕ → Row). (i : ℕ) → Shown (f i)) row number_rows (λ i. Row.other) (
    of_false_left v T S g,
    (
      of_true_right v T S g,
      (
        of_not_left v T S g,
        (
          of_not_right v T S g,
          (
            of_and_left v T S g,
            (
              of_or_right v T S g,
              (
                of_and_right v T S g,
                (
                  of_or_left v T S g,
                  (of_imp_left v T S g, (of_imp_right v T S g, (of_iff_left v T S g, (of_iff_right v T S g, (of_drop_left v T S g, (of_drop_right v T S g, (of_reflexive v T S g, tt))))))),
                ),
              ),
            ),
          ),
        ),
      ),
    ),
  )
      (λ i. of_other)

  of_new : (row i : ℕ) (x : Name) → Shown (beside row name_rows (λ i y. Row.other) i x)
  of_new row i x = beside_is (λ (f : ℕ → Name → Row). (i : ℕ) → Shown (f i x)) row name_rows (λ i y. Row.other) ((λ j. of_all_right v T S g j x), ((λ j. of_ex_left v T S g j x), tt)) (λ j. of_other) i

  of_term : (row i : ℕ) (t : Term) → Fits T S g v (TypedText.OfTerm t) → Shown (beside row term_rows (λ i u. Row.other) i t)
  of_term row i t fits =
      beside_is (λ (f : ℕ → Term → Row). (i : ℕ) → Shown (f i t)) row term_rows (λ i u. Row.other)
      (of_all_left v T S g symbols t fits.0 fits.1 fits.2, (of_ex_right v T S g symbols t fits.0 fits.1 fits.2, tt)) (λ j. of_other) i

  shown_where : (row : ℕ) (numbers : List ℕ) (text : TypedText) → Fits T S g v text → Shown (row_where row numbers text)
  shown_where row [] TypedText.Nothing fits = of_other
  shown_where row (i ∷ []) TypedText.Nothing fits = of_number row i
  shown_where row (i ∷ j ∷ []) TypedText.Nothing fits = if_is Shown (row == rule.CLOSE) (Row.close i j) Row.other (of_close v T S g i j) of_other
  shown_where row (i ∷ j ∷ k ∷ more) TypedText.Nothing fits = of_other
  shown_where row [] (TypedText.Fresh x) fits = of_other
  shown_where row (i ∷ []) (TypedText.Fresh x) fits = of_new row i x
  shown_where row (i ∷ j ∷ []) (TypedText.Fresh x) fits = of_other
  shown_where row (i ∷ j ∷ k ∷ more) (TypedText.Fresh x) fits = of_other
  shown_where row [] (TypedText.OfTerm t) fits = of_other
  shown_where row (i ∷ []) (TypedText.OfTerm t) fits = of_term row i t fits
  shown_where row (i ∷ j ∷ []) (TypedText.OfTerm t) fits = of_other
  shown_where row (i ∷ j ∷ k ∷ more) (TypedText.OfTerm t) fits = of_other
  shown_where row [] (TypedText.OfForm f) fits = if_is Shown (row == rule.CUT) (Row.cut f) Row.other (λ ps. of_cut v T S g f ps fits) of_other
  shown_where row (i ∷ []) (TypedText.OfForm f) fits = of_other
  shown_where row (i ∷ j ∷ []) (TypedText.OfForm f) fits = of_other
  shown_where row (i ∷ j ∷ k ∷ more) (TypedText.OfForm f) fits = of_other
  shown_where row [] (TypedText.OfLabel l) fits = if_is Shown (row == rule.USE) (Row.lemma_of l) Row.other (λ ps. of_lemma v T S g l ps fits) of_other
  shown_where row (i ∷ []) (TypedText.OfLabel l) fits = of_other
  shown_where row (i ∷ j ∷ []) (TypedText.OfLabel l) fits = of_other
  shown_where row (i ∷ j ∷ k ∷ more) (TypedText.OfLabel l) fits = of_other

  shown_on : (row : ℕ) (side : Side) (numbers : List ℕ) (text : TypedText) → Shown (row_on row side numbers text)
  shown_on row side [] text = of_other
  shown_on row side (i ∷ []) TypedText.Nothing = if_is Shown (row == rule.SWAP) (Row.swap side i) Row.other (of_swap v T S g side i) of_other
  shown_on row side (i ∷ j ∷ []) TypedText.Nothing = if_is Shown (row == rule.SUBST) (Row.replace i side j) Row.other (of_replace v T S g i side j) of_other
  shown_on row side (i ∷ j ∷ k ∷ more) text = of_other
  shown_on row side (i ∷ []) (TypedText.Fresh x) = of_other
  shown_on row side (i ∷ j ∷ []) (TypedText.Fresh x) = of_other
  shown_on row side (i ∷ []) (TypedText.OfTerm t) = of_other
  shown_on row side (i ∷ j ∷ []) (TypedText.OfTerm t) = of_other
  shown_on row side (i ∷ []) (TypedText.OfForm f) = of_other
  shown_on row side (i ∷ j ∷ []) (TypedText.OfForm f) = of_other
  shown_on row side (i ∷ []) (TypedText.OfLabel l) = of_other
  shown_on row side (i ∷ j ∷ []) (TypedText.OfLabel l) = of_other

  shown_by : (step : TypedStep) (side : Option Side) → Fits T S g v step.text → Shown (row_by step side)
  shown_by step None fits = shown_where step.rule step.numbers step.text fits
  shown_by step (Some side) fits = shown_on step.rule side step.numbers step.text

  pub of_step : (step : TypedStep) → Fits T S g v step.text → (ps : List Sequent) → premises v S step ≡ okay ps → Instance T S ps
  of_step step fits = shown_by step step.side fits

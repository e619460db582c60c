-- The steps `cut` and `use`: each is an instance of its schema, with good premises.
use Rattle.std.proofs.Common.{List, [], Some, ◌≡◌, refl, subst}
use Rattle.kv_names.specs.Names.{Name}
use Rattle.kv_trees.specs.Trees.{Form, Sequent}
use Rattle.kv_syn.specs.declared.scripts.Side.TheVariants.{L, R}
use Rattle.kv_sig.specs.FreeNames.{IsClosed}
use Rattle.kv_sig.specs.Members.{In}
use Rattle.kv_sig.specs.Sequents.{at_end}
use Rattle.kv_sig.specs.Typing.{IsForm}
use Rattle.kv_sig.specs.Views.{View}
use Rattle.kv_calc.specs.Calculus.{Theory, Good}
use Rattle.kv_calc.specs.Calculus as c
use Rattle.kv_calc.proofs.Parts.{Part}
use Rattle.kv_calc.proofs.Wholes.{whole_at_end}
use Rattle.kv_prop.specs.Premises.{premises_of}
use Rattle.kv_prop.specs.Rows.{Row}
use Rattle.kv_script.proofs.Inversions.{okay, label_ok}
use Rattle.kv_script.proofs.Instances.{Instance, by_one, by_two, all_of_it}

-- the formula of the label, if there is one, is closed, typed, and one of the theory
abbrev pub IsGiven : View → Theory → Name → Type 0
IsGiven v T l = (f : Form) → v.entry l ≡ Some f → In f T.formulas × IsForm T.signature [] f × IsClosed f

module _ (v : View) (T : Theory) (S : Sequent) (g : Good T S) where
  pub of_cut : (f : Form) (ps : List Sequent) → Part T S f → premises_of v S (Row.cut f) ≡ okay ps → Instance T S ps
  of_cut f ps p e = by_two T S g (c.Step.cut f) (at_end R f S) (at_end L f S) ps e refl (whole_at_end T S R f S p (all_of_it T S g)) (whole_at_end T S L f S p (all_of_it T S g))

  closed_part : (f : Form) → IsForm T.signature [] f → IsClosed f → Part T S f
  closed_part f typed closed = record {
    typed = typed;
    variables = λ x i. elim (subst (In x) closed.variables i) [ ];
    procedures = λ q i. elim (subst (In q) closed.procedures i) [ ];
  }

  pub of_lemma : (l : Name) (ps : List Sequent) → IsGiven v T l → premises_of v S (Row.lemma_of l) ≡ okay ps → Instance T S ps
  of_lemma l ps given e =
      let x = label_ok l (v.entry l) _ ps e in
      let f = x.0 in
      let h = given f x.1 in
      by_one T S g (c.Step.axiom_of f) (at_end L f S) ps x.2 (h.0, refl) (whole_at_end T S L f S (closed_part f h.1 h.2) (all_of_it T S g))

-- The trees of the code as plain data.
use Rattle.std.specs.Prelude.{List, [], ◌∷◌, map}
use Rattle.kv_trees.specs.Trees as P
use Rattle.kv_trees.specs.declared.trees.Term.{Term, fold-Term}
use Rattle.kv_trees.specs.declared.trees.Term.TheOpen.{Term-F, Place, App}
use Rattle.kv_trees.specs.declared.trees.Form.{Form, fold-Form}
use Rattle.kv_trees.specs.declared.trees.Prog.{Prog, fold-Prog}
use Rattle.kv_trees.specs.declared.trees.Form.TheOpen.{Form-F, True, False, Atom, Equal, Not, And, Or, Imp, Iff, All, Ex, After, Can, Prog-F, Skip, Abort, Assign, Seq, If, While, Local, Call, Choice}
use Rattle.kv_trees.specs.declared.trees.Sequent.{Sequent}

abbrev pub terms_of : List P.Term → P.Terms
terms_of [] = P.Terms.none
terms_of (t ∷ ts) = P.Terms.more t (terms_of ts)

abbrev pub plain_term_step : Term-F P.Term → P.Term
plain_term_step (Place r) = P.Term.Place r
plain_term_step (App f ts) = P.Term.App f (terms_of ts)

abbrev pub plain_term : Term → P.Term
plain_term = fold-Term P.Term plain_term_step

abbrev pub plain_terms : List Term → P.Terms
plain_terms ts = terms_of (map plain_term ts)

abbrev pub plain_form_step : Form-F P.Form P.Prog → P.Form
plain_form_step True = P.Form.True
plain_form_step False = P.Form.False
plain_form_step (Atom p ts) = P.Form.Atom p (plain_terms ts)
plain_form_step (Equal s t) = P.Form.Equal (plain_term s) (plain_term t)
plain_form_step (Not f) = P.Form.Not f
plain_form_step (And f g) = P.Form.And f g
plain_form_step (Or f g) = P.Form.Or f g
plain_form_step (Imp f g) = P.Form.Imp f g
plain_form_step (Iff f g) = P.Form.Iff f g
plain_form_step (All s f) = P.Form.All s f
plain_form_step (Ex s f) = P.Form.Ex s f
plain_form_step (After a f) = P.Form.After a f
plain_form_step (Can a f) = P.Form.Can a f

abbrev pub plain_prog_step : Prog-F P.Form P.Prog → P.Prog
plain_prog_step Skip = P.Prog.Skip
plain_prog_step Abort = P.Prog.Abort
plain_prog_step (Assign x t) = P.Prog.Assign x (plain_term t)
plain_prog_step (Seq a b) = P.Prog.Seq a b
plain_prog_step (If e a b) = P.Prog.If e a b
plain_prog_step (While e a) = P.Prog.While e a
plain_prog_step (Local s t a) = P.Prog.Local s (plain_term t) a
plain_prog_step (Call p ts rs) = P.Prog.Call p (plain_terms ts) rs
plain_prog_step (Choice a b) = P.Prog.Choice a b

abbrev pub plain_form : Form → P.Form
plain_form = fold-Form P.Form P.Prog plain_form_step plain_prog_step

abbrev pub plain_prog : Prog → P.Prog
plain_prog = fold-Prog P.Form P.Prog plain_form_step plain_prog_step

abbrev pub plain_sequent : Sequent → P.Sequent
plain_sequent s = record { left = map plain_form s.left; right = map plain_form s.right }

-- The raw trees of the code as plain data.
use Rattle.std.specs.Prelude.{List, [], ◌∷◌, map}
use Rattle.kv_raw.specs.RawTrees as P
use Rattle.kv_raw.specs.declared.raws.RawTerm.{RawTerm, fold-RawTerm}
use Rattle.kv_raw.specs.declared.raws.RawTerm.TheOpen.{RawTerm-F, App}
use Rattle.kv_raw.specs.declared.raws.RawForm.{RawForm, fold-RawForm}
use Rattle.kv_raw.specs.declared.raws.RawProg.{RawProg, fold-RawProg}
use Rattle.kv_raw.specs.declared.raws.RawForm.TheOpen.{RawForm-F, True, False, Atom, Equal, Not, And, Or, Imp, Iff, All, Ex, After, Can, RawProg-F, Skip, Abort, Assign, Seq, If, While, Local, Call, Choice}

abbrev pub raw_terms_of : List P.RawTerm → P.RawTerms
raw_terms_of [] = P.RawTerms.none
raw_terms_of (t ∷ ts) = P.RawTerms.more t (raw_terms_of ts)

abbrev pub raw_term_step : RawTerm-F P.RawTerm → P.RawTerm
raw_term_step (App f ts) = P.RawTerm.App f (raw_terms_of ts)

abbrev pub raw_term : RawTerm → P.RawTerm
raw_term = fold-RawTerm P.RawTerm raw_term_step

abbrev pub raw_terms : List RawTerm → P.RawTerms
raw_terms ts = raw_terms_of (map raw_term ts)

abbrev pub raw_form_step : RawForm-F P.RawForm P.RawProg → P.RawForm
raw_form_step True = P.RawForm.True
raw_form_step False = P.RawForm.False
raw_form_step (Atom p ts) = P.RawForm.Atom p (raw_terms ts)
raw_form_step (Equal s t) = P.RawForm.Equal (raw_term s) (raw_term t)
raw_form_step (Not f) = P.RawForm.Not f
raw_form_step (And f g) = P.RawForm.And f g
raw_form_step (Or f g) = P.RawForm.Or f g
raw_form_step (Imp f g) = P.RawForm.Imp f g
raw_form_step (Iff f g) = P.RawForm.Iff f g
raw_form_step (All x f) = P.RawForm.All x f
raw_form_step (Ex x f) = P.RawForm.Ex x f
raw_form_step (After a f) = P.RawForm.After a f
raw_form_step (Can a f) = P.RawForm.Can a f

abbrev pub raw_prog_step : RawProg-F P.RawForm P.RawProg → P.RawProg
raw_prog_step Skip = P.RawProg.Skip
raw_prog_step Abort = P.RawProg.Abort
raw_prog_step (Assign x t) = P.RawProg.Assign x (raw_term t)
raw_prog_step (Seq a b) = P.RawProg.Seq a b
raw_prog_step (If e a b) = P.RawProg.If e a b
raw_prog_step (While e a) = P.RawProg.While e a
raw_prog_step (Local x t a) = P.RawProg.Local x (raw_term t) a
raw_prog_step (Call p ts rs) = P.RawProg.Call p (raw_terms ts) rs
raw_prog_step (Choice a b) = P.RawProg.Choice a b

abbrev pub raw_form : RawForm → P.RawForm
raw_form = fold-RawForm P.RawForm P.RawProg raw_form_step raw_prog_step

abbrev pub raw_prog : RawProg → P.RawProg
raw_prog = fold-RawProg P.RawForm P.RawProg raw_form_step raw_prog_step

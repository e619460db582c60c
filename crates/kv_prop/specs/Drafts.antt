-- Premises that aren't built yet, and how large they would be.
use Rattle.std.specs.Prelude.{List, [], ◌∷◌, ◌++◌, Option, Some, None, map}
use Rattle.kv_sig.specs.Sequents.{sequent}
use Rattle.kv_subst.specs.Changing.{changed_form}
use Rattle.kv_subst.specs.Opening.{opened}
use Rattle.kv_trees.specs.Bridge.{plain_term, plain_form}
use Rattle.kv_trees.specs.Trees.{Form, Sequent}
use Rattle.kv_goal.specs.Goals.{plain_known}
use Rattle.kv_prop.specs.Replacing.{replaced_form}
use Rattle.kv_prop.specs.declared.drafts.Draft.{Draft}
use Rattle.kv_prop.specs.declared.drafts.New.{New}
use Rattle.kv_prop.specs.declared.drafts.New.TheVariants.{Copied, Imp, Equal, Opened, Replaced}
use Rattle.kv_prop.specs.declared.drafts.Part.{Part}

-- the formula that is to be built
abbrev pub form_of : New → Form
form_of (Copied f) = plain_form f.now
form_of (Imp f g) = Form.Imp (plain_form f.now) (plain_form g.now)
form_of (Equal t u) = Form.Equal (plain_term t.now) (plain_term u.now)
form_of (Opened o) = changed_form (opened (plain_term o.at.now)) 0 (plain_form o.body.now)
form_of (Replaced r) = replaced_form (plain_term r.from.now) (plain_term r.to.now) 0 (plain_form r.form.now)

abbrev pub forms_of : Option New → List Form
forms_of None = []
forms_of (Some f) = form_of f ∷ []

-- the formulas of a side
abbrev pub part_of : Part → List Form
part_of p = map plain_known p.front.now ++ (forms_of p.first ++ (forms_of p.second ++ map plain_known p.back.now))

abbrev pub draft_of : Draft → Sequent
draft_of d = sequent (part_of d.left) (part_of d.right)

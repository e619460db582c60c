use Rattle.std.proofs.Common.{◌+◌, ap, ◌∙◌}
use Rattle.std.specs.Prelude.{not, ◌&&◌, ◌||◌}
use Rattle.kv_trees.specs.Bridge.{plain_form, plain_prog}
use Rattle.kv_trees.specs.declared.trees.Form.{Form}
use Rattle.kv_trees.specs.declared.trees.Prog.{Prog}
use Rattle.kv_trees.specs.declared.trees.Ref.TheVariants.{Bound}
use Rattle.kv_trees.specs.Variables.{term_any, form_has, prog_has, modifies}
use Rattle.kv_subst.specs.Opening.{form_keeps, prog_keeps}
use Rattle.kv_subst.specs.TermAt.{term_at}
use Rattle.kv_subst.proofs.Judged.{of_either, of_branches, of_loop, of_box}
use Rattle.kv_subst.proofs.capture.+form_judged.Goals as goal

pub form_judged-returns-in-After-clause-stands : goal.form_judged-returns-in-After-clause-stands
form_judged-returns-in-After-clause-stands t c =
    let k = c.args.depth in
    let at = term_at c.args.at.now in
    let p = c.prog_judged.ensures in
    let f = c.form_judged-in-After.ensures in
    let prog = c.get-in-After-2.ensures in
    let form = c.get-in-After.ensures in
    let modifies_bound = p.modifies_bound ∙ ap (λ (a : Prog). modifies (Bound 0) k (plain_prog a)) prog in
    let has_bound = p.has_bound ∙ ap (λ (a : Prog). prog_has (Bound 0) k (plain_prog a)) prog in
    let modifies_term = p.modifies_term ∙ ap (λ (a : Prog). term_any (λ r. modifies r (k + 1) (plain_prog a)) at) prog in
    let stands = p.stands ∙ ap (λ (a : Prog). prog_keeps at k (plain_prog a)) prog in
    let behind_has = f.has_bound ∙ ap (λ (g : Form). form_has (Bound 0) k (plain_form g)) form in
    let behind_stands = f.stands ∙ ap (λ (g : Form). form_keeps at k (plain_form g)) form in
    c.behind.ensures.stands
    ∙ (λ i. (not (modifies_bound i) && not ((has_bound i || behind_has i) && modifies_term i)) && (stands i && behind_stands i))
    ∙ of_box at k c.args.form.now c.in-After.a c.in-After.f c.in-After.is

pub prog_judged-returns-in-If-clause-modifies_term : goal.prog_judged-returns-in-If-clause-modifies_term
prog_judged-returns-in-If-clause-modifies_term t c =
    let at = term_at c.args.at.now in
    let takes = λ (a : Prog). term_any (λ r. modifies r (c.args.depth + 1) (plain_prog a)) at in
    let first = c.prog_judged.ensures.modifies_term ∙ ap takes c.get.ensures in
    let second = c.prog_judged-in-If.ensures.modifies_term ∙ ap takes c.get-in-If.ensures in
    c.under.ensures.modifies_term ∙ c.and.ensures.modifies_term ∙ (λ i. first i || second i)
    ∙ of_branches at (c.args.depth + 1) c.args.prog.now c.in-If.e c.in-If.a c.in-If.b c.in-If.is

pub prog_judged-returns-in-While-clause-modifies_term : goal.prog_judged-returns-in-While-clause-modifies_term
prog_judged-returns-in-While-clause-modifies_term t c =
    let at = term_at c.args.at.now in
    let takes = λ (a : Prog). term_any (λ r. modifies r (c.args.depth + 1) (plain_prog a)) at in
    c.under-in-While.ensures.modifies_term ∙ c.prog_judged-in-While.ensures.modifies_term ∙ ap takes c.get-in-While.ensures
    ∙ of_loop at (c.args.depth + 1) c.args.prog.now c.in-While.e c.in-While.a c.in-While.is

pub prog_judged-returns-in-Seq-clause-modifies_term : goal.prog_judged-returns-in-Seq-clause-modifies_term
prog_judged-returns-in-Seq-clause-modifies_term t c =
    let at = term_at c.args.at.now in
    let takes = λ (a : Prog). term_any (λ r. modifies r (c.args.depth + 1) (plain_prog a)) at in
    let first = c.prog_judged-in-Seq.ensures.modifies_term ∙ ap takes c.get-in-Seq.ensures in
    let second = c.prog_judged-in-Seq-2.ensures.modifies_term ∙ ap takes c.get-in-Seq-2.ensures in
    c.and-in-Seq.ensures.modifies_term ∙ (λ i. first i || second i)
    ∙ of_either at (c.args.depth + 1) c.args.prog.now c.in-Seq.a c.in-Seq.b c.in-Seq.is

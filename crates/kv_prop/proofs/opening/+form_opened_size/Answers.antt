use Rattle.kv_trees.specs.Bridge.{plain_term}
use Rattle.kv_subst.specs.Opening.{opened}
use Rattle.kv_prop.proofs.Apps.{atom_size, call_size}
use Rattle.kv_prop.proofs.opening.+form_opened_size.Goals as goal

pub form_opened_size-returns-in-Atom : goal.form_opened_size-returns-in-Atom
form_opened_size-returns-in-Atom t c =
    atom_size c.args_opened_size.result (opened (plain_term c.args.at.now.term.now)) c.args.depth c.args.form.now _ _ c.in-Atom.is c.args_opened_size.ensures

pub prog_opened_size-returns-in-Call : goal.prog_opened_size-returns-in-Call
prog_opened_size-returns-in-Call t c =
    call_size c.args_opened_size.result (opened (plain_term c.args.at.now.term.now)) c.args.depth c.args.prog.now _ _ _ c.in-Call.is c.args_opened_size.ensures

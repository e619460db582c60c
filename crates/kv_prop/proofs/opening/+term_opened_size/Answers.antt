use Rattle.kv_trees.specs.Bridge.{plain_term}
use Rattle.kv_subst.specs.Opening.{opened}
use Rattle.kv_prop.proofs.Apps.{app_size}
use Rattle.kv_prop.proofs.opening.+term_opened_size.Goals as goal

pub term_opened_size-returns-in-App : goal.term_opened_size-returns-in-App
term_opened_size-returns-in-App t c =
    app_size c.args_opened_size.result (opened (plain_term c.args.at.now.term.now) c.args.depth) c.args.term.now _ _ c.in-App.is c.args_opened_size.ensures

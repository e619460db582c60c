use Rattle.kv_trees.specs.Bridge.{plain_term}
use Rattle.kv_prop.proofs.Apps.{stays_after, stays_can}
use Rattle.kv_prop.proofs.replacing.+form_stays.Goals as goal

pub form_stays-returns-in-After : goal.form_stays-returns-in-After
form_stays-returns-in-After t c =
    stays_after (plain_term c.args.from.now) (plain_term c.args.to.now) c.args.depth c.args.form.now _ _ _ _ _ _
    c.in-After.is c.get-in-After-2.ensures c.get-in-After.ensures c.touches.ensures c.behind_stays.ensures

pub form_stays-returns-in-Can : goal.form_stays-returns-in-Can
form_stays-returns-in-Can t c =
    stays_can (plain_term c.args.from.now) (plain_term c.args.to.now) c.args.depth c.args.form.now _ _ _ _ _ _
    c.in-Can.is c.get-in-Can-2.ensures c.get-in-Can.ensures c.touches-in-Can.ensures c.behind_stays-in-Can.ensures

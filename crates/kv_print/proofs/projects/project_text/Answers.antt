use Rattle.kv_print.proofs.Heading.{whole_text}
use Rattle.kv_print.proofs.projects.project_text.Goals as goal

pub returns : goal.returns
returns c = whole_text c.push_units.new.text c.in_ok-text.text c.args.project.now.units c.items.result.now c.in_ok-push_units.ensures c.items.ensures c.in_ok-text.ensures

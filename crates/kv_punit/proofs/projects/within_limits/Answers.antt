use Rattle.std.proofs.Common.{rules, refl}
use Rattle.kv_syn.specs.ProjectBridge.{plain_project}
use Rattle.kv_punit.proofs.Checks.{few_not}
use Rattle.kv_punit.proofs.projects.within_limits.Goals as goal

pub returns-then-not-has_few_steps : goal.returns-then-not-has_few_steps
returns-then-not-has_few_steps c = (plain_project c.args.project, refl, c.requires, few_not (plain_project c.args.project) (search rules))

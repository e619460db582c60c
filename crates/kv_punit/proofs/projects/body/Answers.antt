use Rattle.std.proofs.Common.{map, sym, ◌∙◌}
use Rattle.kv_syn.specs.ProjectBridge.{plain_unit}
use Rattle.kv_pexpr.specs.Gives.{kinds}
use Rattle.kv_punit.proofs.Settled.{unwell}
use Rattle.kv_punit.proofs.projects.body.Goals as goal

pub returns-then-not-branch : goal.returns-then-not-branch
returns-then-not-branch c = unwell (kinds c.args.tokens.now) (map plain_unit c.in_ok-units.units) c.in_ok-units.ensures.reads (λ w. absurd (let e = sym c.if-not-branch.true ∙ c.in_ok-is_wellformed.ensures.1 w in cc))

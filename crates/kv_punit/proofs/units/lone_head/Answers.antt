use Rattle.std.proofs.Common.{rules}
use Rattle.std.specs.Prelude.{Err}
use Rattle.kv_syn.specs.ProjectBridge.{plain_unit}
use Rattle.kv_pexpr.specs.Gives.{kinds}
use Rattle.kv_punit.specs.Gives.{seen, Finds}
use Rattle.kv_punit.specs.Readings.{IsLoneHead}
use Rattle.kv_punit.proofs.Alone.{no_head, longer_head, head_alone}
use Rattle.kv_punit.proofs.units.lone_head.Goals as goal

pub returns-in_err-unit-clause-reads : goal.returns-in_err-unit-clause-reads
returns-in_err-unit-clause-reads c =
    let h : Finds plain_unit (IsLoneHead (kinds c.args.tokens.now)) (Err c.in_err-unit.field-0.0) = no_head (seen plain_unit) plain_unit (kinds c.args.tokens.now) c.in_err-unit.field-0.0 c.in_err-unit.ensures.reads in
    search rules

pub returns-in_err-end-clause-reads : goal.returns-in_err-end-clause-reads
returns-in_err-end-clause-reads c =
    let h : Finds plain_unit (IsLoneHead (kinds c.args.tokens.now)) (Err c.in_err-end.field-0.0) =
    longer_head (λ (x : Unit {0}). tt) plain_unit (kinds c.args.tokens.now) (kinds c.in_ok-unit.rest.now) (plain_unit c.in_ok-unit.unit) c.in_err-end.field-0.0 c.in_ok-unit.ensures.reads c.in_err-end.ensures in
    search rules

pub returns-clause-reads : goal.returns-clause-reads
returns-clause-reads c = head_alone (kinds c.args.tokens.now) (kinds c.in_ok-unit.rest.now) (plain_unit c.in_ok-unit.unit) c.in_ok-unit.ensures.reads c.in_ok-end.ensures

use Rattle.std.proofs.Common.{rules}
use Rattle.std.specs.Prelude.{Err}
use Rattle.kv_syn.specs.ScriptBridge.{plain_script}
use Rattle.kv_pexpr.specs.Gives.{kinds}
use Rattle.kv_punit.specs.Gives.{seen, Finds}
use Rattle.kv_punit.specs.Readings.{IsLoneScript}
use Rattle.kv_punit.proofs.Alone.{no_script, longer_script, script_alone}
use Rattle.kv_punit.proofs.scripts.lone_script.Goals as goal

pub returns-in_err-script : goal.returns-in_err-script
returns-in_err-script c =
    let h : Finds plain_script (IsLoneScript (kinds c.args.tokens.now)) (Err c.in_err-script.field-0.0) = no_script (seen plain_script) plain_script (kinds c.args.tokens.now) c.in_err-script.field-0.0 c.in_err-script.ensures in
    search rules

pub returns-in_err-end : goal.returns-in_err-end
returns-in_err-end c =
    let h : Finds plain_script (IsLoneScript (kinds c.args.tokens.now)) (Err c.in_err-end.field-0.0) =
    longer_script (λ (x : Unit {0}). tt) plain_script (kinds c.args.tokens.now) (kinds c.in_ok-script.rest.now) (plain_script c.in_ok-script.script) c.in_err-end.field-0.0 c.in_ok-script.ensures c.in_err-end.ensures in
    search rules

pub returns : goal.returns
returns c = script_alone (kinds c.args.tokens.now) (kinds c.in_ok-script.rest.now) (plain_script c.in_ok-script.script) c.in_ok-script.ensures c.in_ok-end.ensures

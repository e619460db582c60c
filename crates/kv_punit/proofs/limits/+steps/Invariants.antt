use Rattle.std.proofs.Common.{◌≡◌, ◌<◌, ◌+◌, ◌-◌, ◌^◌, min, drop}
use Rattle.kv_syn.specs.ScriptBridge.{plain_scripts}
use Rattle.kv_punit.specs.Limits.{scripts_steps}
use Rattle.kv_punit.proofs.limits.+steps.Given as goal

abbrev pub invariant-all_steps-loop-script : goal.invariant-all_steps-loop-script
invariant-all_steps-loop-script l = (l.count < 2 ^ 64) × (min (l.count + scripts_steps (plain_scripts (drop l.script-index l.scripts))) (2 ^ 64 - 1) ≡ min (scripts_steps (plain_scripts l.scripts)) (2 ^ 64 - 1))

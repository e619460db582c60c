-- The steps and scripts of the code as plain data.
use Rattle.std.specs.Prelude.{List, [], ◌∷◌, map}
use Rattle.kv_raw.specs.RawBridge.{raw_form, raw_term}
use Rattle.kv_syn.specs.Scripts as P
use Rattle.kv_syn.specs.declared.scripts.Script.{Script, fold-Script}
use Rattle.kv_syn.specs.declared.scripts.Script.TheOpen.{Script-F, Hole, Node}
use Rattle.kv_syn.specs.declared.scripts.Step.{Step}
use Rattle.kv_syn.specs.declared.scripts.StepText.{StepText}
use Rattle.kv_syn.specs.declared.scripts.StepText.TheVariants.{Nothing, Fresh, OfTerm, OfForm, OfLabel}

abbrev pub plain_text : StepText → P.StepText
plain_text Nothing = P.StepText.Nothing
plain_text (Fresh x) = P.StepText.Fresh x
plain_text (OfTerm t) = P.StepText.OfTerm (raw_term t)
plain_text (OfForm f) = P.StepText.OfForm (raw_form f)
plain_text (OfLabel l) = P.StepText.OfLabel l

abbrev pub plain_step : Step → P.Step
plain_step step = record { rule = step.rule; side = step.side; numbers = step.numbers; text = plain_text step.text }

abbrev pub scripts_of : List P.Script → P.Scripts
scripts_of [] = P.Scripts.none
scripts_of (s ∷ rest) = P.Scripts.more s (scripts_of rest)

abbrev pub plain_script_step : Script-F P.Script → P.Script
plain_script_step Hole = P.Script.Hole
plain_script_step (Node step children) = P.Script.Node (plain_step step) (scripts_of children)

abbrev pub plain_script : Script → P.Script
plain_script = fold-Script P.Script plain_script_step

abbrev pub plain_scripts : List Script → P.Scripts
plain_scripts ss = scripts_of (map plain_script ss)

use Rattle.kv_punit.specs.Commands.{HasShortScript}
use Rattle.kv_punit.specs.Grammar.{IsCommand}
use Rattle.kv_punit.specs.Readings.{IsLoneHead, IsLoneScript, IsShort, NoLimit}
use Rattle.kv_punit.proofs.Lone.{one_of, one_unit, one_script, one_command}
use Rattle.kv_punit.proofs.readers.one_text.Goals as goal

pub returns-clause-unit : goal.returns-clause-unit
returns-clause-unit c = λ text x y r s. one_of IsLoneHead NoLimit (λ u. u) text one_unit x y r s

pub returns-clause-script : goal.returns-clause-script
returns-clause-script c = λ text x y r s. one_of IsLoneScript IsShort (λ s. s) text one_script x y r s

pub returns-clause-command : goal.returns-clause-command
returns-clause-command c = λ text x y r s. one_of IsCommand HasShortScript (λ c. c) text one_command x y r s

use Rattle.kv_session.proofs.Keeping.{keeps_few_steps, keeps_wellformed, leads_to_few_theorems, leads_to_few_units}
use Rattle.kv_session.proofs.laws.kept.Goals as goal

pub returns-clause-wellformed : goal.returns-clause-wellformed
returns-clause-wellformed c = keeps_wellformed

pub returns-clause-few_steps : goal.returns-clause-few_steps
returns-clause-few_steps c = keeps_few_steps

pub returns-clause-few_units : goal.returns-clause-few_units
returns-clause-few_units c = leads_to_few_units

pub returns-clause-few_theorems : goal.returns-clause-few_theorems
returns-clause-few_theorems c = leads_to_few_theorems

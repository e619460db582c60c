-- Rows of the tables of rules and reasons, by which states are printed.
use Rattle.std.specs.Prelude.{ℕ, Bool, true, ◌&&◌, nat_lt, Option, Some, None}
use Rattle.std.specs.List.{list_all}
use Rattle.kv_syn.specs.declared.outcomes.Fault.{Fault}
use Rattle.kv_syn.specs.declared.outcomes.Reason.{Reason}
use Rattle.kv_syn.specs.declared.outcomes.Row.{Row}
use Rattle.kv_syn.specs.declared.outcomes.State.{State}
use Rattle.kv_names.specs.Names.{Name}
use Rattle.kv_table.specs.Reasons.{reason_count}
use Rattle.kv_table.specs.Rules.{rule_count}
use Rattle.kv_syn.specs.declared.outcomes.State.TheVariants.{Ill, Broken}
use Rattle.kv_syn.specs.declared.outcomes.Table.{Table}
use Rattle.kv_syn.specs.declared.outcomes.UnitState.{UnitState}
use Rattle.kv_syn.specs.declared.outcomes.UnitState.TheVariants.{Bad}

abbrev pub is_rule_row : ℕ → Bool
is_rule_row rule = nat_lt rule rule_count

abbrev pub has_reason_row : Reason → Bool
has_reason_row reason = nat_lt reason.word reason_count

-- the rule and the reason of a fault, where there is one, are rows of their tables
abbrev pub has_fault_rows : Option Fault → Bool
has_fault_rows None = true
has_fault_rows (Some fault) = is_rule_row fault.rule && has_reason_row fault.reason

abbrev pub has_state_rows : State → Bool
has_state_rows (Ill reason) = has_reason_row reason
has_state_rows (Broken path rule reason) = is_rule_row rule && has_reason_row reason
has_state_rows _ = true

abbrev pub has_unit_state_rows : UnitState → Bool
has_unit_state_rows (Bad reason) = has_reason_row reason
has_unit_state_rows _ = true

abbrev pub has_row_rows : Row → Bool
has_row_rows row = has_state_rows row.state

-- all that a table prints by row is a row of its table
abbrev pub has_table_rows : Table → Bool
has_table_rows table = list_all (λ (unit : Name × UnitState). has_unit_state_rows unit.1) table.units && list_all has_row_rows table.rows

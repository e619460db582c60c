-- The laws of the tables: each named row is the word that stands beside its name, and there are as many rows as is said.
use Rattle.std.specs.Prelude.{◌≡◌, length}
use Rattle.kv_table.specs.Words.{AreRows}
use Rattle.kv_table.specs.Commands as command
use Rattle.kv_table.specs.Keywords as keyword
use Rattle.kv_table.specs.Reasons as reason
use Rattle.kv_table.specs.Rules as rule
use Rattle.kv_table.specs.States as state

-- the rows by name
abbrev pub NamedRows : Type 0
NamedRows =
    AreRows keyword.keyword_rows keyword.named_keywords × AreRows rule.rule_rows rule.named_rules × AreRows command.command_rows command.named_commands × AreRows state.state_rows state.named_states × AreRows reason.reason_rows reason.named_reasons

-- the numbers of rows
abbrev pub CountedRows : Type 0
CountedRows = (length rule.rule_rows ≡ rule.rule_count) × (length reason.reason_rows ≡ reason.reason_count) × (length state.state_rows ≡ state.state_count)

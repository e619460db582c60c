-- Looks as keys of a set.
use Rattle.kv_syn.specs.declared.outcomes.Look.{Look}
use Rattle.kv_syn.specs.declared.outcomes.Look.TheVariants as look
use Rattle.kv_script.specs.declared.once.Asked.{Asked}
use Rattle.kv_script.specs.declared.once.Asked.TheVariants as asked

-- the look whose key it is
abbrev pub look_of : Asked → Look
look_of (asked.Symbol bytes) = look.Symbol bytes.now
look_of (asked.Label bytes) = look.Label bytes.now
look_of (asked.Generation bytes) = look.Generation bytes.now
look_of (asked.Body bytes) = look.Body bytes.now
look_of asked.Rules = look.Rules

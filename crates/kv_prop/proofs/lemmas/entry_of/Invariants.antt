use Rattle.std.proofs.Common.{◌≡◌, drop}
use Rattle.std.specs.List.{find}
use Rattle.std.specs.Str.{bytes_eq}
use Rattle.kv_syn.specs.declared.outcomes.Entry.{Entry}
use Rattle.kv_prop.proofs.lemmas.entry_of.Given as goal

abbrev pub invariant-loop-entry : goal.invariant-loop-entry
invariant-loop-entry l = find (λ (entry : Entry). bytes_eq entry.label l.label) (drop l.entry-index l.entries) ≡ find (λ (entry : Entry). bytes_eq entry.label l.label) l.entries

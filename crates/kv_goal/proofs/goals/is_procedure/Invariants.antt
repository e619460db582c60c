use Rattle.std.proofs.Common.{◌≡◌, drop}
use Rattle.std.specs.List.{list_any}
use Rattle.std.specs.Str.{bytes_eq}
use Rattle.kv_names.specs.Names.{Name}
use Rattle.kv_names.specs.declared.symbols.Profile.{Profile}
use Rattle.kv_goal.proofs.goals.is_procedure.Given as goal

abbrev pub invariant-loop-procedure : goal.invariant-loop-procedure
invariant-loop-procedure l = list_any (λ (p : Name × Profile). bytes_eq p.0 l.name) (drop l.procedure-index l.procedures) ≡ list_any (λ (p : Name × Profile). bytes_eq p.0 l.name) l.procedures

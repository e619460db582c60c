use Rattle.std.proofs.Common.{◌≡◌, drop, map}
use Rattle.std.specs.List.{list_any}
use Rattle.std.specs.Str.{bytes_eq}
use Rattle.kv_sig.specs.FreeNames.{assumed_forms}
use Rattle.kv_names.specs.Names.{Name}
use Rattle.kv_names.specs.declared.symbols.Profile.{Profile}
use Rattle.kv_goal.specs.Goals.{plain_known}
use Rattle.kv_goal.proofs.goals.have_procedure.Given as goal

abbrev pub invariant-loop-known : goal.invariant-loop-known
invariant-loop-known l = list_any (λ (p : Name × Profile). bytes_eq p.0 l.name) (assumed_forms (map plain_known (drop l.known-index l.knowns))) ≡ list_any (λ (p : Name × Profile). bytes_eq p.0 l.name) (assumed_forms (map plain_known l.knowns))

use Rattle.std.proofs.Common.{ap, ◌∙◌}
use Rattle.std.specs.List.{list_any}
use Rattle.std.specs.Str.{bytes_eq}
use Rattle.kv_sig.specs.FreeNames.{assumed_form}
use Rattle.kv_names.specs.Names.{Name}
use Rattle.kv_names.specs.declared.symbols.Profile.{Profile}
use Rattle.kv_goal.specs.Goals.{plain_known}
use Rattle.kv_goal.proofs.Free.{procedure_once}
use Rattle.kv_goal.proofs.goals.has_procedure.Goals as goal

pub returns : goal.returns
returns c =
    let name = c.args.name.now in
    c.is_procedure.ensures
    ∙ ap (list_any (λ (y : Name × Profile). bytes_eq y.0 name)) (c.items.ensures ∙ c.args.known.now.right.assumed)
    ∙ procedure_once name (assumed_form (plain_known c.args.known.now))

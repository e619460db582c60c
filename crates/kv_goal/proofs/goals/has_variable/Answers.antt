use Rattle.std.proofs.Common.{ap, ◌∙◌}
use Rattle.std.specs.List.{list_any}
use Rattle.std.specs.Str.{bytes_eq}
use Rattle.kv_sig.specs.FreeNames.{free_form}
use Rattle.kv_names.specs.declared.symbols.Var.{Var}
use Rattle.kv_goal.specs.Goals.{plain_known}
use Rattle.kv_goal.proofs.Free.{variable_once}
use Rattle.kv_goal.proofs.goals.has_variable.Goals as goal

pub returns : goal.returns
returns c =
    let name = c.args.name.now in
    c.is_variable.ensures
    ∙ ap (list_any (λ (y : Var). bytes_eq y.name name)) (c.items.ensures ∙ c.args.known.now.right.free)
    ∙ variable_once name (free_form (plain_known c.args.known.now))

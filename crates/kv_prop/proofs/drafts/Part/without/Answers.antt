use Rattle.std.proofs.Common.{◌-◌, ◌++◌, map, take, ap, ◌∙◌}
use Rattle.std.proofs.lemmas.List.{take_rest}
use Rattle.kv_goal.specs.Goals.{plain_known}
use Rattle.kv_prop.proofs.Splits.{split_without}
use Rattle.kv_prop.proofs.drafts.Part.without.Goals as goal

pub returns : goal.returns
returns c =
    let forms = c.args.forms.now in
    let place = c.args.place in
    ap (λ ys. map plain_known (take (place - 1) forms) ++ map plain_known ys) (take_rest forms place) ∙ split_without _ _ plain_known forms place

use Rattle.std.proofs.Common.{◌-◌, ◌∷◌, ◌++◌, map, take, ap, ◌∙◌}
use Rattle.std.proofs.lemmas.List.{take_rest}
use Rattle.kv_goal.specs.Goals.{plain_known}
use Rattle.kv_prop.specs.Drafts.{form_of}
use Rattle.kv_prop.proofs.Splits.{split_with_two}
use Rattle.kv_prop.proofs.drafts.Part.two_in_place.Goals as goal

pub returns : goal.returns
returns c =
    let forms = c.args.forms.now in
    let place = c.args.place in
    let first = form_of c.args.first in
    let second = form_of c.args.second in
    ap (λ ys. map plain_known (take (place - 1) forms) ++ first ∷ second ∷ map plain_known ys) (take_rest forms place)
    ∙ split_with_two _ _ plain_known forms place first second

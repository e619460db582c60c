use Rattle.std.proofs.Common.{◌≡◌, []}
use Rattle.kv_trees.specs.Bridge.{plain_form}
use Rattle.kv_raw.specs.RawBridge.{raw_form}
use Rattle.kv_trees.specs.Trees as P
use Rattle.kv_sig.specs.FreeNames.{IsClosed}
use Rattle.kv_sig.specs.Typing.{IsForm}
use Rattle.kv_elab.specs.Elab.{elab_form}
use Rattle.kv_elab.specs.Lawful.{sorts_of, IsLawful, IsWithin}
use Rattle.kv_elab.proofs.Outcomes.{told}
use Rattle.kv_elab.proofs.Typings.{form_typed}
use Rattle.kv_elab.proofs.Within.{form_closed, form_within}
use Rattle.kv_elab.proofs.forms.elaborate.Goals as goal

pub returns-clause-typed : goal.returns-clause-typed
returns-clause-typed c =
    told plain_form (λ (f : P.Form). IsLawful c.args.sig.now c.args.context.now → IsForm c.args.sig.now (sorts_of c.args.context.now) f)
    c.form_in.result (elab_form c.args.sig.now c.args.context.now (raw_form c.args.raw.now)) c.form_in.ensures
    (λ f e law. form_typed c.args.sig.now c.args.context.now (raw_form c.args.raw.now) f law e)

pub returns-clause-names : goal.returns-clause-names
returns-clause-names c =
    told plain_form (λ (f : P.Form). IsWithin c.args.context.now f)
    c.form_in.result (elab_form c.args.sig.now c.args.context.now (raw_form c.args.raw.now)) c.form_in.ensures
    (λ f e. form_within c.args.sig.now c.args.context.now (raw_form c.args.raw.now) f e)

pub returns-clause-closed : goal.returns-clause-closed
returns-clause-closed c =
    told plain_form (λ (f : P.Form). c.args.context.now.free ≡ [] → c.args.context.now.assumed ≡ [] → IsClosed f)
    c.form_in.result (elab_form c.args.sig.now c.args.context.now (raw_form c.args.raw.now)) c.form_in.ensures
    (λ f e free assumed. form_closed c.args.sig.now c.args.context.now (raw_form c.args.raw.now) f free assumed e)

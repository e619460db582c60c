use Rattle.kv_trees.specs.Bridge.{plain_prog}
use Rattle.kv_raw.specs.RawBridge.{raw_prog}
use Rattle.kv_trees.specs.Trees as P
use Rattle.kv_sig.specs.Typing.{IsProg}
use Rattle.kv_elab.specs.Elab.{elab_prog}
use Rattle.kv_elab.specs.Lawful.{sorts_of, IsLawful}
use Rattle.kv_elab.proofs.Outcomes.{told}
use Rattle.kv_elab.proofs.Typings.{prog_typed}
use Rattle.kv_elab.proofs.forms.elaborate_prog.Goals as goal

pub returns-clause-typed : goal.returns-clause-typed
returns-clause-typed c =
    told plain_prog (λ (a : P.Prog). IsLawful c.args.sig.now c.args.context.now → IsProg c.args.sig.now (sorts_of c.args.context.now) a)
    c.prog_in.result (elab_prog c.args.sig.now c.args.context.now (raw_prog c.args.raw.now)) c.prog_in.ensures
    (λ a e law. prog_typed c.args.sig.now c.args.context.now (raw_prog c.args.raw.now) a law e)

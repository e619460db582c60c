use Rattle.kv_trees.specs.Bridge.{plain_term}
use Rattle.kv_raw.specs.RawBridge.{raw_term}
use Rattle.kv_trees.specs.declared.trees.Term.{Term}
use Rattle.kv_names.specs.Names.{Name}
use Rattle.kv_trees.specs.Trees as P
use Rattle.kv_sig.specs.Typing.{IsTerm}
use Rattle.kv_elab.specs.Elab.{elab_term}
use Rattle.kv_elab.specs.Lawful.{sorts_of, IsLawful}
use Rattle.kv_elab.proofs.Outcomes.{told}
use Rattle.kv_elab.proofs.Typings.{term_typed}
use Rattle.kv_elab.proofs.terms.elaborate_term.Goals as goal

pub returns-clause-typed : goal.returns-clause-typed
returns-clause-typed c =
    told (λ (p : Term × Name). (plain_term p.0, p.1)) (λ (t : P.Term × Name). IsLawful c.args.sig.now c.args.context.now → IsTerm c.args.sig.now (sorts_of c.args.context.now) t.0 t.1)
    c.typed_term.result (elab_term c.args.sig.now c.args.context.now (raw_term c.args.raw.now)) c.typed_term.ensures
    (λ t e law. term_typed c.args.sig.now c.args.context.now (raw_term c.args.raw.now) t law e)

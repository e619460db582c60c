use Rattle.std.proofs.Common.{◌+◌, ap, sym, ◌∙◌, arith, rules, drop, take}
use Rattle.kv_elab.specs.Elab.{elab_refs}
use Rattle.kv_elab.proofs.Lists.{after_refs, refs_next, refs_end}
use Rattle.kv_elab.proofs.calls.typed_refs.Goals as goal

pub loop-i-preserved : goal.loop-i-preserved
loop-i-preserved c =
    ap (λ rs. after_refs rs (elab_refs c.args.context.now (take (c.loop-i.i + 1) c.args.names.now) (drop (c.loop-i.i + 1) c.args.wants.now) (drop (c.loop-i.i + 1) c.args.names.now))) c.in_ok-push.ensures.ok
    ∙ sym (refs_next c.args.context.now c.args.wants.now c.args.names.now c.loop-i.typed c.loop-i.i c.index-wants-i.result c.index-names-i.result c.in_ok-typed_ref.field-0
    (omega arith) (omega arith) c.index-wants-i.is c.index-names-i.is (search rules))
    ∙ c.loop-i.invariant

pub returns : goal.returns
returns c =
    sym c.loop-i.invariant ∙ refs_end c.args.context.now c.args.wants.now c.args.names.now c.loop-i.typed c.loop-i.i (omega arith) (omega arith)

use Rattle.std.proofs.Common.{◌+◌, ap, sym, ◌∙◌, arith, drop}
use Rattle.kv_raw.specs.RawBridge.{raw_terms}
use Rattle.kv_elab.specs.Elab.{elab_args}
use Rattle.kv_elab.proofs.Lists.{after, args_next, args_end}
use Rattle.kv_elab.proofs.terms.+typed_term.Goals as goal

pub typed_args-loop-i-preserved : goal.typed_args-loop-i-preserved
typed_args-loop-i-preserved t c =
    ap (λ ts. after ts (elab_args c.args.sig.now c.args.context.now (drop (c.loop-i.i + 1) c.args.wants.now) (raw_terms (drop (c.loop-i.i + 1) c.args.args.now)))) c.in_ok-push.ensures.ok
    ∙ sym (args_next c.args.sig.now c.args.context.now c.args.wants.now c.args.args.now c.loop-i.typed c.loop-i.i c.index-wants-i.result c.index-args-i.result c.in_ok-term_of_sort.field-0
    (omega arith) (omega arith) c.index-wants-i.is c.index-args-i.is c.in_ok-term_of_sort.ensures)
    ∙ c.loop-i.invariant

pub typed_args-returns : goal.typed_args-returns
typed_args-returns t c =
    sym c.loop-i.invariant ∙ args_end c.args.sig.now c.args.context.now c.args.wants.now c.args.args.now c.loop-i.typed c.loop-i.i (omega arith) (omega arith)

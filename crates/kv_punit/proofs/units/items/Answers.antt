use Rattle.std.proofs.Common.{rules, arith, ◌∙◌, ◌+◌, ◌-◌, ap, sym, refl, length, map}
use Rattle.std.proofs.lemmas.Grind.{common_steps}
use Rattle.kv_syn.specs.ProjectBridge.{plain_item}
use Rattle.kv_pexpr.specs.Gives.{kinds}
use Rattle.kv_punit.specs.Parse as spec
use Rattle.kv_punit.proofs.Maps.{pushed}
use Rattle.kv_punit.proofs.Turns.{items_next, items_turn, items_end}
use Rattle.kv_punit.proofs.units.items.Goals as goal

pub returns-in_default-clause-reads : goal.returns-in_default-clause-reads
returns-in_default-clause-reads c = rw (c.loop-turn.invariant.reads ∙ items_next (length c.args.tokens.now) c.loop-turn._turn (map plain_item c.loop-turn.items) (kinds c.loop-turn.rest.now) (omega arith)) (search rules)

pub returns-in_err-item-clause-reads : goal.returns-in_err-item-clause-reads
returns-in_err-item-clause-reads c = rw (c.loop-turn.invariant.reads ∙ items_next (length c.args.tokens.now) c.loop-turn._turn (map plain_item c.loop-turn.items) (kinds c.loop-turn.rest.now) (omega arith)) (search rules)

pub loop-turn-preserved : goal.loop-turn-preserved
loop-turn-preserved c = record {
  reads = c.loop-turn.invariant.reads
      ∙ items_turn (length c.args.tokens.now) c.loop-turn._turn (map plain_item c.loop-turn.items) (kinds c.loop-turn.rest.now) c.in-Some.kind (kinds c.in-Some.after.now) (kinds c.in_ok-item.after.now) (plain_item c.in_ok-item.item)
      (omega arith) (sym c.in-Some.ensures) c.in_ok-item.ensures.reads
      ∙ ap (λ l. spec.items (length c.args.tokens.now - (c.loop-turn._turn + 1)) l (kinds c.in_ok-item.after.now)) (sym (pushed plain_item c.loop-turn.items _ _ _ c.in_ok-push.ensures.ok refl));
  readable = grind (arith, common_steps);
}

pub returns-clause-reads : goal.returns-clause-reads
returns-clause-reads c = c.loop-turn.invariant.reads ∙ items_end (length c.args.tokens.now) c.loop-turn._turn (map plain_item c.loop-turn.items) (kinds c.loop-turn.rest.now) (omega arith)

use Rattle.std.proofs.Common.{rules, arith, sym, subst, map}
use Rattle.std.specs.Prelude.{[], Err}
use Rattle.std.proofs.lemmas.Grind.{common_steps}
use Rattle.std.proofs.lemmas.List.{length-map}
use Rattle.kv_lex.specs.declared.token.Token.{Token}
use Rattle.kv_syn.specs.ProjectBridge.{plain_unit}
use Rattle.kv_pexpr.specs.Gives.{kinds}
use Rattle.kv_punit.specs.Gives.{seen, Finds}
use Rattle.kv_punit.specs.Grammar.{IsUnit, AreUnits}
use Rattle.kv_punit.proofs.Lists.{Leads, leads_begin}
use Rattle.kv_punit.proofs.Maps.{pushed}
use Rattle.kv_punit.proofs.Runs.{NoMore, units_turn, units_none, unit_takes, some_left}
use Rattle.kv_punit.proofs.projects.units.Goals as goal

pub loop-turn-init : goal.loop-turn-init
loop-turn-init c = record {
  leads = subst (λ l. Leads IsUnit NoMore (kinds c.args.tokens.now) (map plain_unit l) (kinds c.args.tokens.now)) (sym c.new-units.ensures) (leads_begin IsUnit NoMore (kinds c.args.tokens.now));
  bound = omega (arith, length-map c.args.tokens.now (λ (t : Token). t.kind));
  readable = grind (arith, common_steps);
}

pub returns-in_err-unit-clause-reads : goal.returns-in_err-unit-clause-reads
returns-in_err-unit-clause-reads c =
    let h : Finds (map plain_unit) (λ p. AreUnits (kinds c.args.tokens.now) p []) (Err c.in_err-unit.field-0.0) = units_none (kinds c.args.tokens.now) (kinds c.loop-turn.rest.now) (map plain_unit c.loop-turn.units) c.loop-turn.invariant.leads (seen plain_unit) (map plain_unit) c.in_err-unit.field-0.0 (some_left c.is_empty.result c.loop-turn.rest.now c.is_empty.ensures (search rules)) c.in_err-unit.ensures.reads in
    search rules

pub loop-turn-preserved : goal.loop-turn-preserved
loop-turn-preserved c = record {
  leads = units_turn (kinds c.args.tokens.now) (kinds c.loop-turn.rest.now) (map plain_unit c.loop-turn.units) c.loop-turn.invariant.leads (kinds c.in_ok-unit.after.now) (plain_unit c.in_ok-unit.unit) (map plain_unit c.push.new.self)
      (pushed plain_unit c.loop-turn.units _ _ _ c.in_ok-push.ensures.ok (search rules)) c.in_ok-unit.ensures.reads;
  bound = omega (arith, unit_takes c.in_ok-unit.ensures.reads.0, c.loop-turn.invariant.bound);
  readable = grind (arith, common_steps);
}

use Rattle.std.proofs.Common.{rules, arith, sym, subst, map}
use Rattle.std.proofs.lemmas.List.{length-map}
use Rattle.std.specs.Prelude.{List, Err}
use Rattle.std.specs.Borrow.{Bor}
use Rattle.kv_lex.specs.declared.token.Token.{Token}
use Rattle.kv_table.specs.Keywords as word
use Rattle.kv_syn.specs.ProjectBridge.{plain_theorem}
use Rattle.kv_pexpr.specs.Gives.{kinds}
use Rattle.kv_punit.specs.Ends.{NoTheorem, AllTheorems}
use Rattle.kv_punit.specs.Gives.{seen, Finds}
use Rattle.kv_punit.specs.Grammar.{IsTheorem}
use Rattle.kv_punit.proofs.Lists.{Leads, leads_begin}
use Rattle.kv_punit.proofs.Maps.{pushed}
use Rattle.kv_punit.proofs.Runs.{theorems_turn, theorems_none, theorem_takes, word_there}
use Rattle.kv_punit.proofs.units.theorems.Goals as goal

pub loop-turn-init : goal.loop-turn-init
loop-turn-init c = record {
  leads = subst (λ l. Leads IsTheorem NoTheorem (kinds c.args.tokens.now) (map plain_theorem l) (kinds c.args.tokens.now)) (sym c.new-theorems.ensures) (leads_begin IsTheorem NoTheorem (kinds c.args.tokens.now));
  bound = omega (arith, length-map c.args.tokens.now (λ (t : Token). t.kind));
}

pub returns-in_err-theorem : goal.returns-in_err-theorem
returns-in_err-theorem c =
    let h : Finds (seen (map plain_theorem)) (AllTheorems (kinds c.args.tokens.now)) (Err c.in_err-theorem.field-0.0) = theorems_none (kinds c.args.tokens.now) (kinds c.loop-turn.rest.now) (map plain_theorem c.loop-turn.theorems) c.loop-turn.invariant.leads (seen plain_theorem) (seen (map plain_theorem)) c.in_err-theorem.field-0.0 (word_there (λ (rest : Bor (List Token)). kinds rest.now) c.eat_word.result word.THEOREM (kinds c.loop-turn.rest.now) c.eat_word.ensures (search rules)) c.in_err-theorem.ensures.only in
    search rules

pub loop-turn-preserved : goal.loop-turn-preserved
loop-turn-preserved c = record {
  leads = theorems_turn (kinds c.args.tokens.now) (kinds c.loop-turn.rest.now) (map plain_theorem c.loop-turn.theorems) c.loop-turn.invariant.leads (kinds c.in_ok-theorem.after.now) (plain_theorem c.in_ok-theorem.theorem) (map plain_theorem c.push.new.self)
      (pushed plain_theorem c.loop-turn.theorems _ _ _ c.in_ok-push.ensures.ok (search rules)) c.in_ok-theorem.ensures.found;
  bound = omega (arith, theorem_takes c.in_ok-theorem.ensures.found, c.loop-turn.invariant.bound);
}

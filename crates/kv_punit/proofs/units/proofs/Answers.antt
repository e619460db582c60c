use Rattle.std.proofs.Common.{rules, arith, sym, subst, map}
use Rattle.std.proofs.lemmas.List.{length-map}
use Rattle.std.specs.Prelude.{List, Err}
use Rattle.std.specs.Borrow.{Bor}
use Rattle.kv_lex.specs.declared.token.Token.{Token}
use Rattle.kv_table.specs.Keywords as word
use Rattle.kv_syn.specs.ProjectBridge.{plain_proof}
use Rattle.kv_pexpr.specs.Gives.{kinds}
use Rattle.kv_punit.specs.Ends.{NoProof, AllProofs}
use Rattle.kv_punit.specs.Gives.{seen, Finds}
use Rattle.kv_punit.specs.Grammar.{IsProof}
use Rattle.kv_punit.proofs.Lists.{Leads, leads_begin}
use Rattle.kv_punit.proofs.Maps.{pushed}
use Rattle.kv_punit.proofs.Runs.{proofs_turn, proofs_none, proof_takes, word_there}
use Rattle.kv_punit.proofs.Sound.{sound_proof}
use Rattle.kv_punit.proofs.units.proofs.Goals as goal

pub loop-turn-init : goal.loop-turn-init
loop-turn-init c = record {
  leads = subst (λ l. Leads IsProof NoProof (kinds c.args.tokens.now) (map plain_proof l) (kinds c.args.tokens.now)) (sym c.new-proofs.ensures) (leads_begin IsProof NoProof (kinds c.args.tokens.now));
  bound = omega (arith, length-map c.args.tokens.now (λ (t : Token). t.kind));
}

pub returns-in_err-proof : goal.returns-in_err-proof
returns-in_err-proof c =
    let h : Finds (seen (map plain_proof)) (AllProofs (kinds c.args.tokens.now)) (Err c.in_err-proof.field-0.0) = proofs_none (kinds c.args.tokens.now) (kinds c.loop-turn.rest.now) (map plain_proof c.loop-turn.proofs) c.loop-turn.invariant.leads (seen plain_proof) (seen (map plain_proof)) c.in_err-proof.field-0.0 (word_there (λ (rest : Bor (List Token)). kinds rest.now) c.eat_word.result word.PROOF (kinds c.loop-turn.rest.now) c.eat_word.ensures (search rules)) c.in_err-proof.ensures in
    search rules

pub loop-turn-preserved : goal.loop-turn-preserved
loop-turn-preserved c = record {
  leads = proofs_turn (kinds c.args.tokens.now) (kinds c.loop-turn.rest.now) (map plain_proof c.loop-turn.proofs) c.loop-turn.invariant.leads (kinds c.in_ok-proof.after.now) (plain_proof c.in_ok-proof.proof) (map plain_proof c.push.new.self)
      (pushed plain_proof c.loop-turn.proofs _ _ _ c.in_ok-push.ensures.ok (search rules)) c.in_ok-proof.ensures;
  bound = omega (arith, proof_takes (sound_proof (kinds c.loop-turn.rest.now) (plain_proof c.in_ok-proof.proof, kinds c.in_ok-proof.after.now) c.in_ok-proof.ensures), c.loop-turn.invariant.bound);
}

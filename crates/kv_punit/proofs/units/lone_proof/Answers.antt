use Rattle.std.proofs.Common.{rules}
use Rattle.std.specs.Prelude.{[], Err}
use Rattle.kv_syn.specs.ProjectBridge.{plain_proof}
use Rattle.kv_pexpr.specs.Gives.{kinds}
use Rattle.kv_punit.specs.Gives.{seen, Finds}
use Rattle.kv_punit.specs.Grammar.{IsLabelled}
use Rattle.kv_punit.proofs.Alone.{no_labelled, longer_labelled, labelled_alone}
use Rattle.kv_punit.proofs.units.lone_proof.Goals as goal

pub returns-in_err-proof : goal.returns-in_err-proof
returns-in_err-proof c =
    let h : Finds plain_proof (λ p. IsLabelled (kinds c.args.tokens.now) p []) (Err c.in_err-proof.field-0.0) = no_labelled (seen plain_proof) plain_proof (kinds c.args.tokens.now) c.in_err-proof.field-0.0 c.in_err-proof.ensures in
    search rules

pub returns-in_err-end : goal.returns-in_err-end
returns-in_err-end c =
    let h : Finds plain_proof (λ p. IsLabelled (kinds c.args.tokens.now) p []) (Err c.in_err-end.field-0.0) =
    longer_labelled (λ (x : Unit {0}). tt) plain_proof (kinds c.args.tokens.now) (kinds c.in_ok-proof.rest.now) (plain_proof c.in_ok-proof.proof) c.in_err-end.field-0.0 c.in_ok-proof.ensures c.in_err-end.ensures in
    search rules

pub returns : goal.returns
returns c = labelled_alone (kinds c.args.tokens.now) (kinds c.in_ok-proof.rest.now) (plain_proof c.in_ok-proof.proof) c.in_ok-proof.ensures c.in_ok-end.ensures

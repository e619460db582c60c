use Rattle.std.proofs.Common.{◌≡◌, ◌∙◌, List, [], IfOk, ap, subst, sym}
use Rattle.kv_fresh.specs.States.{script_or_open, view_over}
use Rattle.kv_script.specs.Events.{outcome_of, replay_events}
use Rattle.kv_sig.specs.Signatures.{profile_of}
use Rattle.kv_sig.specs.Views.{View, formula_of, view_of}
use Rattle.kv_sig.specs.declared.flats.Flat.{Flat}
use Rattle.kv_trees.specs.Bridge.{plain_form}
use Rattle.kv_syn.specs.declared.outcomes.Entry.{Entry}
use Rattle.kv_syn.specs.ScriptBridge.{plain_script, plain_script_step}
use Rattle.kv_syn.specs.Scripts.{Script}
use Rattle.kv_syn.specs.declared.scripts.Script.TheFolds.{fold-roll-Script}
use Rattle.kv_syn.specs.declared.scripts.Script.TheOpen as layer
use Rattle.kv_syn.specs.declared.scripts.Script.TheVariants as variant
use Rattle.kv_syn.specs.declared.outcomes.Outcome.{Outcome}
use Rattle.kv_fresh.proofs.rows.replayed.Goals as goal

hole_is : plain_script variant.Hole ≡ Script.Hole
hole_is = ap plain_script (sym variant.rolls-Hole) ∙ fold-roll-Script Script plain_script_step layer.Hole

-- a flat without entries is seen as its signature is
seen : (flat : Flat) → flat.entries ≡ [] → view_of flat ≡ view_over flat.sig
seen flat none = ap (λ (entries : List Entry). record { symbol = profile_of flat.sig; entry = formula_of entries }) none

pub returns-in-Some-clause-outcome : goal.returns-in-Some-clause-outcome
returns-in-Some-clause-outcome g c =
    subst (λ (s : Script). IfOk c.replay.result (λ (o : Outcome). o ≡ outcome_of (replay_events (view_over c.args.flat.now.sig) (plain_form c.args.goal.now) s)))
    (ap script_or_open (rw c.in-Some.is at c.proof_named.ensures))
    (subst (λ (v : View). IfOk c.replay.result (λ (o : Outcome). o ≡ outcome_of (replay_events v (plain_form c.args.goal.now) (plain_script c.in-Some.proof.now.script)))) (seen c.args.flat.now c.requires) c.replay.ensures.outcome)

pub returns-in-None-clause-outcome : goal.returns-in-None-clause-outcome
returns-in-None-clause-outcome g c =
    subst (λ (s : Script). IfOk c.replay-in-None.result (λ (o : Outcome). o ≡ outcome_of (replay_events (view_over c.args.flat.now.sig) (plain_form c.args.goal.now) s)))
    (hole_is ∙ ap script_or_open (rw c.in-None.is at c.proof_named.ensures))
    (subst (λ (v : View). IfOk c.replay-in-None.result (λ (o : Outcome). o ≡ outcome_of (replay_events v (plain_form c.args.goal.now) (plain_script variant.Hole)))) (seen c.args.flat.now c.requires) c.replay-in-None.ensures.outcome)

use Rattle.std.proofs.Common.{None, ap₂, subst}
use Rattle.kv_script.specs.Events.{events}
use Rattle.kv_script.proofs.Derived.{derives}
use Rattle.kv_trees.specs.Bridge.{plain_form}
use Rattle.kv_sig.specs.Views.{view_of}
use Rattle.kv_script.specs.Tallies.{Told}
use Rattle.kv_script.proofs.Outcomes.{started, told_outcome, where_ok}
use Rattle.kv_syn.specs.ScriptBridge.{plain_script}
use Rattle.kv_script.proofs.replaying.replay.Goals as goal

pub returns-clause-outcome : goal.returns-clause-outcome
returns-clause-outcome g c =
    let sequent = c.in_ok-root.ensures in
    let told = started c.new.result c.new-2.result c.replay_at.new.tally _ c.new.ensures c.new-2.ensures (subst (λ es. Told (record { goals = 0; broken = None; uses = c.new.result; looks = c.new-2.result }) c.replay_at.new.tally es) (ap₂ (λ s path. events (view_of c.args.env.now.flat.now) s path (plain_script c.args.script.now)) sequent c.new-path.ensures) c.in_ok-replay_at.ensures.told) in
    where_ok c.outcome.result c.outcome.ensures (λ o is. told_outcome o c.replay_at.new.tally _ is told)

pub returns-clause-derivable : goal.returns-clause-derivable
returns-clause-derivable g c =
    let sequent = c.in_ok-root.ensures in
    let told = started c.new.result c.new-2.result c.replay_at.new.tally _ c.new.ensures c.new-2.ensures (subst (λ es. Told (record { goals = 0; broken = None; uses = c.new.result; looks = c.new-2.result }) c.replay_at.new.tally es) (ap₂ (λ s path. events (view_of c.args.env.now.flat.now) s path (plain_script c.args.script.now)) sequent c.new-path.ensures) c.in_ok-replay_at.ensures.told) in
    where_ok c.outcome.result c.outcome.ensures (λ o is. derives c.args.env.now.flat.now (plain_form c.args.goal.now) (plain_script c.args.script.now) o (told_outcome o c.replay_at.new.tally _ is told))

use Rattle.std.proofs.Common.{rules, ◌≡◌, ◌+◌, ◌-◌, ◌^◌, ◌≤◌, min, [], ◌∷◌, ◌++◌, length, drop, sym, ap, ap₂, ◌∙◌, subst, arith}
use Rattle.kv_script.specs.Events.{Event, child_path, events, visits}
use Rattle.kv_script.specs.Tallies.{Told}
use Rattle.kv_script.specs.declared.tally.Tally.{Tally}
use Rattle.kv_script.proofs.Paths.{popped}
use Rattle.kv_script.proofs.Sofar.{rest_goal, rest_child, sofar_start, sofar_more, sofar_most, sofar_child_most, sofar_end}
use Rattle.kv_script.proofs.Taken.{behind}
use Rattle.kv_script.proofs.Told.{told_goal}
use Rattle.kv_sig.specs.Views.{view_of}
use Rattle.kv_goal.specs.Goals.{plain_goal}
use Rattle.kv_syn.specs.Rows.{has_fault_rows}
use Rattle.kv_syn.specs.ScriptBridge.{plain_script}
use Rattle.kv_script.proofs.replaying.+replay.Goals as goal
use Rattle.kv_script.proofs.replaying.+replay.Goals.{replay_below-in-None, replay_below-in-Some+in_ok-push-in-Some+in_ok-replay_at-in-Some}

pub replay_below-returns-in_err-push-in-Some-clause-at_most :
    goal.replay_below-returns-in_err-push-in-Some-clause-at_most
replay_below-returns-in_err-push-in-Some-clause-at_most g t c = sofar_most _ _ _ _ _ _ _ _ _ c.loop-i.invariant.sofar

pub replay_below-returns-in_err-replay_at-in-Some-clause-at_most :
    goal.replay_below-returns-in_err-replay_at-in-Some-clause-at_most
replay_below-returns-in_err-replay_at-in-Some-clause-at_most g t c =
    let inv = c.loop-i.invariant in
    let premise = c.taken-premise.result in
    let found = sym inv.left_is ∙ c.taken-premise.ensures.first in
    let later = behind c.args.premises c.loop-i.i premise _ found in
    let first : drop c.loop-i.i c.args.premises ≡ premise ∷ drop (c.loop-i.i + 1) c.args.premises = found ∙ ap (λ r. premise ∷ r) (sym later) in
    let child = c.in-Some.child.now in
    let next : c.saturating_add-place.result ≡ min (c.loop-i.i + 1) (2 ^ 32 - 1) = omega (arith, c.saturating_add-place.ensures, inv.place_is) in
    let pushed : c.push.new.self ≡ child_path c.args.path.now c.loop-i.i =
    c.in_ok-push-in-Some.ensures.ok ∙ ap₂ (λ path n. path ++ n ∷ []) inv.path_is next in
    let most = subst (λ path. c.replay_at.new.steps ≤ c.loop-i.steps + visits (events (view_of c.args.env.now.flat.now) (plain_goal premise) path (plain_script child))) pushed c.replay_at.ensures.at_most in
    let rest = rest_child (view_of c.args.env.now.flat.now) c.args.path.now c.args.premises c.args.children.now c.loop-i.i premise first child c.in-Some.ensures.lookup.3.0 c.in-Some.ensures.lookup.1 in
    sofar_child_most _ _ _ _ _ _ _ _ _ _ _ rest inv.sofar most

pub replay_below-loop-i-init : goal.replay_below-loop-i-init
replay_below-loop-i-init g t c =
    let start = sofar_start (view_of c.args.env.now.flat.now) c.args.path.now c.args.premises c.args.children.now c.args.tally.now c.args.steps.now (omega arith) in
    search (rules, start)

pub replay_below-loop-i-preserved : goal.replay_below-loop-i-preserved
replay_below-loop-i-preserved g t c =
    let inv = c.loop-i.invariant in
    let premise = c.taken-premise.result in
    let found = sym inv.left_is ∙ c.taken-premise.ensures.first in
    let later = behind c.args.premises c.loop-i.i premise _ found in
    let first : drop c.loop-i.i c.args.premises ≡ premise ∷ drop (c.loop-i.i + 1) c.args.premises = found ∙ ap (λ r. premise ∷ r) (sym later) in
    let next : c.saturating_add-place.result ≡ min (c.loop-i.i + 1) (2 ^ 32 - 1) = omega (arith, c.saturating_add-place.ensures, inv.place_is) in
    elim c.match-get.branch [
      | replay_below-in-None w ↦
          let kept : c.match-get.tally.broken ≡ c.loop-i.tally.broken = ap (λ (t : Tally). t.broken) w.tally-is ∙ w.goal.ensures.broken in
          let counted : c.match-get.tally.goals ≡ min (c.loop-i.tally.goals + 1) (2 ^ 64 - 1) = ap (λ (t : Tally). t.goals) w.tally-is ∙ w.goal.ensures.goals in
          let told = told_goal c.loop-i.tally c.match-get.tally (child_path c.args.path.now c.loop-i.i) (plain_goal premise) counted kept (ap (λ (t : Tally). t.uses) w.tally-is ∙ w.goal.ensures.uses) (ap (λ (t : Tally). t.looks) w.tally-is ∙ w.goal.ensures.looks) in
          let rest = rest_goal (view_of c.args.env.now.flat.now) c.args.path.now c.args.premises c.args.children.now c.loop-i.i premise first w.in-None.ensures.lookup.3 in
          record {
            rows = ap has_fault_rows kept ∙ inv.rows;
            path_is = w.path-is ∙ inv.path_is;
            place_is = next;
            left_is = sym later;
            same = c.taken-premise.ensures.length ∙ inv.same;
            sofar = sofar_more _ _ _ _ _ _ _ _ _ _ _ (Event.open_goal (child_path c.args.path.now c.loop-i.i) (plain_goal premise) ∷ []) rest inv.sofar told (omega (arith, w.steps-is));
          }
      | replay_below-in-Some+in_ok-push-in-Some+in_ok-replay_at-in-Some w ↦
          let child = w.in-Some.child.now in
          let pushed : w.push.new.self ≡ child_path c.args.path.now c.loop-i.i =
          w.in_ok-push-in-Some.ensures.ok ∙ ap₂ (λ path n. path ++ n ∷ []) inv.path_is next in
          let told = subst (λ path. Told c.loop-i.tally w.replay_at.new.tally (events (view_of c.args.env.now.flat.now) (plain_goal premise) path (plain_script child))) pushed w.in_ok-replay_at-in-Some.ensures.told in
          let told' = subst (λ t. Told c.loop-i.tally t (events (view_of c.args.env.now.flat.now) (plain_goal premise) (child_path c.args.path.now c.loop-i.i) (plain_script child))) (sym w.tally-is) told in
          let steps = w.steps-is ∙ w.in_ok-replay_at-in-Some.ensures.steps ∙ ap (λ path. c.loop-i.steps + visits (events (view_of c.args.env.now.flat.now) (plain_goal premise) path (plain_script child))) pushed in
          let rest = rest_child (view_of c.args.env.now.flat.now) c.args.path.now c.args.premises c.args.children.now c.loop-i.i premise first child w.in-Some.ensures.lookup.3.0 w.in-Some.ensures.lookup.1 in
          record {
            rows = ap (λ (t : Tally). has_fault_rows t.broken) w.tally-is ∙ w.in_ok-replay_at-in-Some.ensures.rows;
            path_is = w.path-is ∙ popped _ _ _ _ _ (w.in_ok-replay_at-in-Some.ensures.path ∙ pushed) w.pop.ensures;
            place_is = next;
            left_is = sym later;
            same = c.taken-premise.ensures.length ∙ inv.same;
            sofar = sofar_more _ _ _ _ _ _ _ _ _ _ _ _ rest inv.sofar told' steps;
          }
    ]

pub replay_below-returns-clause-told : goal.replay_below-returns-clause-told
replay_below-returns-clause-told g t c = (sofar_end _ _ _ _ _ _ _ _ _ c.loop-i.invariant.sofar (omega (arith, ap length c.items-count.ensures))).0

pub replay_below-returns-clause-steps : goal.replay_below-returns-clause-steps
replay_below-returns-clause-steps g t c = (sofar_end _ _ _ _ _ _ _ _ _ c.loop-i.invariant.sofar (omega (arith, ap length c.items-count.ensures))).1

pub replay_below-returns-clause-at_most : goal.replay_below-returns-clause-at_most
replay_below-returns-clause-at_most g t c = sofar_most _ _ _ _ _ _ _ _ _ c.loop-i.invariant.sofar

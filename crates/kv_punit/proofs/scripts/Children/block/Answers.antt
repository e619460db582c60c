use Rattle.std.proofs.Common.{rules, arith, ◌≡◌, ◌∙◌, ◌+◌, ◌-◌, ◌++◌, ◌∷◌, [], refl, ap, sym, length, map}
use Rattle.std.specs.Prelude.{Some}
use Rattle.kv_syn.specs.ScriptBridge.{plain_script}
use Rattle.kv_pexpr.specs.Gives.{kinds}
use Rattle.kv_punit.specs.Parse as spec
use Rattle.kv_punit.proofs.Maps.{pushed}
use Rattle.kv_punit.proofs.Turns.{block_next, block_last, block_turn, block_end}
use Rattle.kv_punit.proofs.scripts.Children.block.Goals as goal

pub returns-in_err-child : goal.returns-in_err-child
returns-in_err-child g c = rw (c.loop-turn.invariant ∙ block_next (spec.script c.args.self.now.most) (length c.args.tokens.now) c.loop-turn._turn (map plain_script c.loop-turn.children) (kinds c.loop-turn.rest.now) (omega arith)) (search rules)

pub returns-in-Some : goal.returns-in-Some
returns-in-Some g c =
    let added : map plain_script c.push.new.self ≡ map plain_script c.loop-turn.children ++ (plain_script c.in_ok-child.child ∷ []) = pushed plain_script c.loop-turn.children c.push.new.self c.in_ok-child.child (plain_script c.in_ok-child.child) c.in_ok-push.ensures.ok refl in
    c.loop-turn.invariant
    ∙ block_last (spec.script c.args.self.now.most) (length c.args.tokens.now) c.loop-turn._turn (map plain_script c.loop-turn.children) (kinds c.loop-turn.rest.now)
    (plain_script c.in_ok-child.child) (kinds c.in_ok-child.after.now) (kinds c.in-Some.behind.now) (omega arith) c.in_ok-child.ensures (sym c.in-Some.ensures)
    ∙ ap (λ l. Some (l, kinds c.in-Some.behind.now)) (sym added)

pub returns-in_err-rest : goal.returns-in_err-rest
returns-in_err-rest g c = rw (c.loop-turn.invariant ∙ block_next (spec.script c.args.self.now.most) (length c.args.tokens.now) c.loop-turn._turn (map plain_script c.loop-turn.children) (kinds c.loop-turn.rest.now) (omega arith)) (search rules)

pub loop-turn-preserved : goal.loop-turn-preserved
loop-turn-preserved g c =
    let added : map plain_script c.push.new.self ≡ map plain_script c.loop-turn.children ++ (plain_script c.in_ok-child.child ∷ []) = pushed plain_script c.loop-turn.children c.push.new.self c.in_ok-child.child (plain_script c.in_ok-child.child) c.in_ok-push.ensures.ok refl in
    c.loop-turn.invariant
    ∙ block_turn (spec.script c.args.self.now.most) (length c.args.tokens.now) c.loop-turn._turn (map plain_script c.loop-turn.children) (kinds c.loop-turn.rest.now)
    (plain_script c.in_ok-child.child) (kinds c.in_ok-child.after.now) (kinds c.in_ok-rest.rest.now) (omega arith) c.in_ok-child.ensures (sym c.in_default.ensures) c.in_ok-rest.ensures
    ∙ ap (λ l. spec.block (spec.script c.args.self.now.most) (length c.args.tokens.now - (c.loop-turn._turn + 1)) l (kinds c.in_ok-rest.rest.now)) (sym added)

pub returns : goal.returns
returns g c = c.loop-turn.invariant ∙ block_end (spec.script c.args.self.now.most) (length c.args.tokens.now) c.loop-turn._turn (map plain_script c.loop-turn.children) (kinds c.loop-turn.rest.now) (omega arith)

use Rattle.std.proofs.Common.{arith, rules, ap, sym, ◌∙◌, ◌-◌, ◌+◌, length}
use Rattle.std.specs.Prelude.{map, Some}
use Rattle.std.proofs.lemmas.Grind.{common_steps}
use Rattle.kv_raw.specs.RawBridge.{raw_term, raw_terms}
use Rattle.kv_raw.specs.RawTrees.{RawTerm as RawTree}
use Rattle.kv_pexpr.specs.Gives.{kinds}
use Rattle.kv_pexpr.specs.Parse as spec
use Rattle.kv_pexpr.proofs.Pushed.{pushed_map, pushed_terms, pushed_depth}
use Rattle.kv_pexpr.proofs.TermTurns.{ahead, applied_some, applied_none, term_none, term_step, terms_step, terms_none, last_term, next_term}
use Rattle.kv_pexpr.proofs.terms.+terms.Goals as goal

pub term_within-returns-then-height-eq0-clause-reads : goal.term_within-returns-then-height-eq0-clause-reads
term_within-returns-then-height-eq0-clause-reads t c = term_none c.args.height c.args.brackets (kinds c.args.tokens.now) (omega arith)

pub term_within-returns-in_err-name-clause-reads : goal.term_within-returns-in_err-name-clause-reads
term_within-returns-in_err-name-clause-reads t c =
    rw (term_step c.args.height c.args.brackets (kinds c.args.tokens.now) (omega arith)) (first_of (search rules, grind (arith, common_steps)))

pub term_within-returns-in_ok-tree-in-Ok-clause-reads : goal.term_within-returns-in_ok-tree-in-Ok-clause-reads
term_within-returns-in_ok-tree-in-Ok-clause-reads t c =
    applied_some c.args.height c.args.brackets (kinds c.args.tokens.now) (kinds c.in_ok-name.rest.now) c.in_ok-name.name (raw_term c.in_ok-tree-in-Ok.tree) (omega arith) c.in_ok-name.ensures
    (raw_terms c.in-Ok.args.tree) (kinds c.in-Ok.args.rest.now) c.in-Ok.ensures.reads c.in_ok-tree-in-Ok.ensures.made

pub term_within-returns-in_ok-tree-in-Err-Syntax-clause-reads : goal.term_within-returns-in_ok-tree-in-Err-Syntax-clause-reads
term_within-returns-in_ok-tree-in-Err-Syntax-clause-reads t c =
    applied_none c.args.height c.args.brackets (kinds c.args.tokens.now) (kinds c.in_ok-name.rest.now) c.in_ok-name.name (raw_term c.in_ok-tree-in-Err-Syntax.tree) (omega arith) c.in_ok-name.ensures
    (rw c.in-Err-Syntax.field-0-is at c.in-Err-Syntax.ensures.reads) (c.in_ok-tree-in-Err-Syntax.ensures.made ∙ ap (λ l. RawTree.App c.in_ok-name.name (raw_terms l)) c.new.ensures)

pub terms-returns-in_err-next-clause-reads : goal.terms-returns-in_err-next-clause-reads
terms-returns-in_err-next-clause-reads t c =
    rw (c.loop-turn.invariant.reads, terms_step (spec.term c.args.height c.args.brackets) (length c.args.tokens.now) c.loop-turn._turn (kinds c.loop-turn.rest.now) (omega arith)) (first_of (search rules, grind (arith, common_steps)))

pub terms-returns-in-None-clause-reads : goal.terms-returns-in-None-clause-reads
terms-returns-in-None-clause-reads t c =
    last_term (spec.term c.args.height c.args.brackets) (length c.args.tokens.now) c.loop-turn._turn (map raw_term c.loop-turn.args) (kinds c.loop-turn.rest.now) c.loop-turn.invariant.reads
    (raw_term c.in_ok-next.next.tree) (kinds c.in_ok-next.next.rest.now) (omega arith) c.in_ok-next.ensures.reads c.in-None.ensures
    ∙ ap (λ x. Some (x, kinds c.in_ok-next.next.rest.now)) (sym (pushed_terms c.loop-turn.args _ c.in_ok-next.next.tree c.in_ok-push.ensures.ok))

pub terms-returns-in-None-clause-high : goal.terms-returns-in-None-clause-high
terms-returns-in-None-clause-high t c =
    let e = pushed_depth c.loop-turn.args _ c.in_ok-next.next.tree c.in_ok-push.ensures.ok in
    (omega (arith, e, c.in_ok-next.ensures.high, c.loop-turn.invariant.high), omega (arith, c.in_ok-next.ensures.high, c.loop-turn.invariant.low))

pub terms-loop-turn-preserved : goal.terms-loop-turn-preserved
terms-loop-turn-preserved t c =
    let e = pushed_depth c.loop-turn.args _ c.in_ok-next.next.tree c.in_ok-push.ensures.ok in
    record {
      reads = next_term (spec.term c.args.height c.args.brackets) (length c.args.tokens.now) c.loop-turn._turn (map raw_term c.loop-turn.args) (kinds c.loop-turn.rest.now) c.loop-turn.invariant.reads
          (raw_term c.in_ok-next.next.tree) (kinds c.in_ok-next.next.rest.now) (kinds c.in-Some.after.now) (omega arith) c.in_ok-next.ensures.reads c.in-Some.ensures
          ∙ ap (λ xs. spec.read_map (ahead xs) (spec.terms (spec.term c.args.height c.args.brackets) (length c.args.tokens.now - (c.loop-turn._turn + 1)) (kinds c.in-Some.after.now))) (sym (pushed_map c.loop-turn.args _ c.in_ok-next.next.tree c.in_ok-push.ensures.ok));
      high = omega (arith, e, c.in_ok-next.ensures.high, c.loop-turn.invariant.high);
      low = omega (arith, c.in_ok-next.ensures.high, c.loop-turn.invariant.low);
    }

pub terms-returns-clause-reads : goal.terms-returns-clause-reads
terms-returns-clause-reads t c =
    rw (c.loop-turn.invariant.reads, terms_none (spec.term c.args.height c.args.brackets) (length c.args.tokens.now) c.loop-turn._turn (kinds c.loop-turn.rest.now) (omega arith)) (first_of (search rules, grind (arith, common_steps)))

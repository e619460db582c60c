use Rattle.std.proofs.Common.{◌≡◌, ◌-◌, ◌∙◌, ap, arith, length, subst, sym, drop}
use Rattle.std.specs.Prelude.{Some, Ok}
use Rattle.std.proofs.lemmas.Result.{err_from_is_err_and}
use Rattle.kv_raw.specs.RawBridge.{raw_term}
use Rattle.kv_pexpr.specs.Gives.{kinds, seen_term, Gives}
use Rattle.kv_pexpr.specs.Grammar.{ReadsTerm}
use Rattle.kv_pexpr.proofs.Finds.{Behind, behind, tail_range, stands, read_there, placed, handed_on, is_longest, is_only}
use Rattle.kv_pexpr.proofs.One.{term_finds}
use Rattle.kv_pexpr.proofs.readers.term.Goals as goal

reads_rest : (c : goal.In_ok-found) → ReadsTerm (kinds (drop c.args.at c.args.tokens.now)) (raw_term c.in_ok-found.found.tree) (kinds c.in_ok-found.found.rest.now)
reads_rest c = subst (λ ts. ReadsTerm (kinds ts) (raw_term c.in_ok-found.found.tree) (kinds c.in_ok-found.found.rest.now)) (tail_range c.args.tokens.now c.args.at) c.in_ok-found.ensures.found

at_rest : (c : goal.In_ok-found) → Behind c.args.at c.args.tokens.now c.in_ok-found.found.rest.now
at_rest c = behind term_finds c.args.at c.args.tokens.now c.in_ok-found.found.rest.now (raw_term c.in_ok-found.found.tree) c.requires (reads_rest c)

pub overflow_sub-result : goal.overflow_sub-result
overflow_sub-result c = (at_rest c).within

pub returns-clause-found : goal.returns-clause-found
returns-clause-found c = subst (λ ks. ReadsTerm (kinds (drop c.args.at c.args.tokens.now)) (raw_term c.in_ok-found.found.tree) ks) (sym (at_rest c).is) (reads_rest c)

pub returns-clause-within : goal.returns-clause-within
returns-clause-within c = let b = at_rest c in (b.later, omega arith)

-- what was read at the place
reads_there : (c : goal.In_ok-found) → read_there raw_term term_finds c.args.tokens.now c.args.at ≡ Some (raw_term c.in_ok-found.found.tree, kinds (drop (length c.args.tokens.now - length c.in_ok-found.found.rest.now) c.args.tokens.now))
reads_there c = placed raw_term term_finds c.args.tokens.now c.args.at seen_term (Ok c.in_ok-found.found) c.in_ok-found.ensures.reads ∙ ap (λ ks. Some (raw_term c.in_ok-found.found.tree, ks)) (sym (at_rest c).is)

pub returns-clause-longest : goal.returns-clause-longest
returns-clause-longest c = is_longest raw_term term_finds c.args.tokens.now c.args.at (Ok (c.in_ok-found.found.tree, length c.args.tokens.now - length c.in_ok-found.found.rest.now)) (reads_there c)

pub returns-clause-only : goal.returns-clause-only
returns-clause-only c = is_only raw_term term_finds c.args.tokens.now c.args.at (Ok (c.in_ok-found.found.tree, length c.args.tokens.now - length c.in_ok-found.found.rest.now)) (reads_there c)

none_there : (c : goal.After-from_residual) → Gives (stands raw_term term_finds c.args.tokens.now c.args.at) c.from_residual.result (read_there raw_term term_finds c.args.tokens.now c.args.at)
none_there c =
    let p = err_from_is_err_and c.from_residual.result c.from_residual.ensures.1 in
    handed_on raw_term term_finds c.args.tokens.now c.args.at seen_term c.in_err-found.field-0.0 p.0 c.from_residual.result c.in_err-found.ensures.reads p.1 p.2

pub returns-in_err-found-clause-longest : goal.returns-in_err-found-clause-longest
returns-in_err-found-clause-longest c = is_longest raw_term term_finds c.args.tokens.now c.args.at c.from_residual.result (none_there c)

pub returns-in_err-found-clause-only : goal.returns-in_err-found-clause-only
returns-in_err-found-clause-only c = is_only raw_term term_finds c.args.tokens.now c.args.at c.from_residual.result (none_there c)

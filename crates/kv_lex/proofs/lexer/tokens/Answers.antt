use Rattle.std.proofs.Common.{rules, arith, ◌∙◌, ap, length, Err}
use Rattle.std.specs.Str.{chars, IsUtf8}
use Rattle.kv_lex.proofs.Texts.{rest_fits}
use Rattle.kv_lex.proofs.Parts.{token_part, skip_part}
use Rattle.kv_lex.proofs.Reached.{at_start, after_read, some_read, none_read, read_lt, ends_le, ends_ends, fault_at, all_read, place_is, some_chars, no_chars, shorter_end, whole_end, valid_le, few_tokens}
use Rattle.kv_lex.proofs.Standing.{text_stands}
use Rattle.kv_lex.proofs.lexer.tokens.Goals as goal

pub loop-rest-init : goal.loop-rest-init
loop-rest-init c = (c.skip-rest.utf8, rw (c.new-tokens.ensures, c.skip-rest.ensures) (at_start _ _))

pub overflow_sub-from : goal.overflow_sub-from
overflow_sub-from c = rest_fits _ _ _ c.valid_front-valid.utf8 c.loop-rest.invariant.0 c.loop-rest.invariant.1.part.1

pub returns-in_default-clause-read : goal.returns-in_default-clause-read
returns-in_default-clause-read c =
    let none = none_read _ _ c.in_ok-kind.ensures c.in_default.is in
    let some = some_chars _ c.loop-rest.invariant.0 c.loop-rest-test.ensures in
    fault_at _ _ _ _ c.valid_front-valid.ensures c.loop-rest.invariant.1 none some ∙ ap Err (place_is _ _ c.loop-rest.invariant.0)

pub overflow_sub-to : goal.overflow_sub-to
overflow_sub-to c =
    let u : IsUtf8 c.in-Some.after.now = search rules in
    let read = token_part _ _ (some_read _ _ _ _ c.in_ok-kind.ensures c.in-Some.is) in
    let part = ends_ends _ _ _ c.loop-rest.invariant.1.part (read.text, read.split) in
    rest_fits _ _ _ c.valid_front-valid.utf8 u part.1

pub loop-rest-smaller : goal.loop-rest-smaller
loop-rest-smaller c =
    let read = token_part _ _ (some_read _ _ _ _ c.in_ok-kind.ensures c.in-Some.is) in
    omega (arith, ap length c.skip-rest-in-loop-rest.ensures, ends_le _ _ (skip_part (chars c.in-Some.after.now)), read_lt _ _ _ read)

pub loop-rest-preserved : goal.loop-rest-preserved
loop-rest-preserved c =
    let u : IsUtf8 c.in-Some.after.now = search rules in
    let some = some_read _ _ _ _ c.in_ok-kind.ensures c.in-Some.is in
    (c.skip-rest-in-loop-rest.utf8, rw (c.in_ok-push.ensures.ok, c.skip-rest-in-loop-rest.ensures) (after_read _ _ _ _ _ _ c.loop-rest.invariant.0 u c.loop-rest.invariant.1 some))

pub returns-then-valid-text-clause-read : goal.returns-then-valid-text-clause-read
returns-then-valid-text-clause-read c =
    all_read _ _ _ _ c.valid_front-valid.ensures c.loop-rest.invariant.1 (no_chars _ c.loop-rest-test.ensures) ∙ shorter_end _ _ _ _ c.if-valid-text.true

pub returns-clause-read : goal.returns-clause-read
returns-clause-read c =
    all_read _ _ _ _ c.valid_front-valid.ensures c.loop-rest.invariant.1 (no_chars _ c.loop-rest-test.ensures) ∙ whole_end _ _ _ _ (valid_le _ _ c.valid_front-valid.ensures) c.if-valid-text.false

pub returns-clause-spelt : goal.returns-clause-spelt
returns-clause-spelt c = text_stands _ _ _ c.valid_front-valid.utf8 c.valid_front-valid.ensures (returns-clause-read c)

pub returns-clause-few : goal.returns-clause-few
returns-clause-few c =
    let few = few_tokens _ _ _ c.valid_front-valid.utf8 c.loop-rest.invariant.1 in
    let short = valid_le _ _ c.valid_front-valid.ensures in
    omega arith

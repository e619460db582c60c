use Rattle.std.proofs.Common.{◌∙◌, ◌∷◌, sym, ap}
use Rattle.std.specs.Char.{is_ascii_digit}
use Rattle.std.specs.Str.{chars}
use Rattle.unicode_ident.specs.Ident.{is_xid_continue}
use Rattle.kv_lex.specs.Tokens.{run, with_rest, word, number}
use Rattle.kv_lex.proofs.Fronts.{run_seam, no_token, word_reads, number_reads, mark_at_front, digit_run, some_bytes}
use Rattle.kv_lex.proofs.kinds.token.Goals as goal

pub returns-in_default : goal.returns-in_default
returns-in_default c = sym (no_token _ c.in_default.ensures)

pub until-requires : goal.until-requires
until-requires c = (c.in-Some.c ∷ run is_xid_continue (chars c.in-Some.after.now), run_seam is_xid_continue _ _ _ _ c.in-Some.ensures.0 c.past_name-rest.ensures)

pub returns-then-is_xid_start : goal.returns-then-is_xid_start
returns-then-is_xid_start c =
    let text = c.until.ensures (c.in-Some.c ∷ run is_xid_continue (chars c.in-Some.after.now)) (run_seam is_xid_continue _ _ _ _ c.in-Some.ensures.0 c.past_name-rest.ensures) in
    let reads = word_reads _ _ _ _ c.in-Some.ensures.0 c.past_name-rest.ensures (sym c.is_xid_start.ensures.value ∙ c.if-is_xid_start.true) in
    c.with_rest.ensures ∙ ap (with_rest (chars c.past_name-rest.result.now)) (c.in_ok-kind.ensures ∙ ap word text) ∙ sym reads

pub until-requires-then-is_ascii_digit : goal.until-requires-then-is_ascii_digit
until-requires-then-is_ascii_digit c = (c.in-Some.c ∷ run is_ascii_digit (chars c.in-Some.after.now), run_seam is_ascii_digit _ _ _ _ c.in-Some.ensures.0 c.past_digits-rest.ensures)

pub number-requires-clause-digits : goal.number-requires-clause-digits
number-requires-clause-digits c =
    let text = c.until-then-is_ascii_digit.ensures (c.in-Some.c ∷ run is_ascii_digit (chars c.in-Some.after.now)) (run_seam is_ascii_digit _ _ _ _ c.in-Some.ensures.0 c.past_digits-rest.ensures) in
    rw text (digit_run c.in-Some.c (chars c.in-Some.after.now) (sym c.is_ascii_digit.ensures.value ∙ c.if-is_ascii_digit.true))

pub number-requires-clause-some : goal.number-requires-clause-some
number-requires-clause-some c =
    let text = c.until-then-is_ascii_digit.ensures (c.in-Some.c ∷ run is_ascii_digit (chars c.in-Some.after.now)) (run_seam is_ascii_digit _ _ _ _ c.in-Some.ensures.0 c.past_digits-rest.ensures) in
    rw text (some_bytes c.in-Some.c (run is_ascii_digit (chars c.in-Some.after.now)))

pub returns-then-is_ascii_digit : goal.returns-then-is_ascii_digit
returns-then-is_ascii_digit c =
    let text = c.until-then-is_ascii_digit.ensures (c.in-Some.c ∷ run is_ascii_digit (chars c.in-Some.after.now)) (run_seam is_ascii_digit _ _ _ _ c.in-Some.ensures.0 c.past_digits-rest.ensures) in
    let reads = number_reads _ _ _ _ c.in-Some.ensures.0 c.past_digits-rest.ensures (sym c.is_xid_start.ensures.value ∙ c.if-is_xid_start.false) (sym c.is_ascii_digit.ensures.value ∙ c.if-is_ascii_digit.true) in
    c.with_rest-then-is_ascii_digit.ensures ∙ ap (with_rest (chars c.past_digits-rest.result.now)) (c.number.ensures ∙ ap number text) ∙ sym reads

pub returns : goal.returns
returns c = c.mark.ensures ∙ sym (mark_at_front _ _ _ c.in-Some.ensures.0 (sym c.is_xid_start.ensures.value ∙ c.if-is_xid_start.false) (sym c.is_ascii_digit.ensures.value ∙ c.if-is_ascii_digit.false))

use Rattle.std.proofs.Common.{◌∙◌, ap, sym, take}
use Rattle.std.proofs.lemmas.Str.{utf8_valid_len-IsUtf8}
use Rattle.kv_lex.proofs.lexer.valid_front.Goals as goal
use Rattle.kv_lex.proofs.lexer.valid_front.Goals.{in-Ok, in-Err}

pub returns : goal.returns
returns c = elim c.match-from_utf8.branch [
  | in-Ok w ↦ c.in-Ok-from_utf8.ensures.cases.0 ∙ ap (λ n. take n c.args.bytes.now) (w.valid-is ∙ sym (utf8_valid_len-IsUtf8 _ w.in-Ok.ensures.cases.1))
  | in-Err w ↦ c.in-Ok-from_utf8.ensures.cases.0 ∙ ap (λ n. take n c.args.bytes.now) (w.valid-is ∙ w.valid_up_to-valid.ensures ∙ w.in-Err.ensures.valid_len)
]

use Rattle.std.proofs.Common.{◌∙◌, ap, sym, ◌++◌}
use Rattle.std.specs.Char.{encode_utf8}
use Rattle.std.proofs.lemmas.Str.{chars_past_char}
use Rattle.kv_lex.proofs.Texts.{empty_chars}
use Rattle.kv_lex.proofs.front.first.Goals as goal

pub returns-in-Some : goal.returns-in-Some
returns-in-Some c =
    let bytes = sym c.chars-rest.ensures.rest ∙ c.in-Some.ensures.steps.0 ∙ ap (λ rest. encode_utf8 c.in-Some.c ++ rest) (sym c.as_str.ensures) in
    (chars_past_char _ _ _ c.utf8.text bytes, c.as_str.utf8)

pub returns-in-None : goal.returns-in-None
returns-in-None c = empty_chars _ (rw (← c.chars-rest.ensures.rest) c.in-None.ensures.steps.0.0)

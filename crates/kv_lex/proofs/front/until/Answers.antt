use Rattle.std.proofs.Common.{◌∙◌, arith}
use Rattle.std.proofs.lemmas.Grind.{common_steps}
use Rattle.kv_lex.proofs.Texts.{split_bytes, rest_le, cut_boundary, cut_front}
use Rattle.kv_lex.proofs.front.until.Goals as goal

pub overflow_sub-text : goal.overflow_sub-text
overflow_sub-text c = rest_le _ _ _ (split_bytes _ _ _ c.utf8.text c.utf8.rest c.requires.1)

pub range-requires-clause-end_boundary : goal.range-requires-clause-end_boundary
range-requires-clause-end_boundary c = cut_boundary _ _ _ c.utf8.rest (split_bytes _ _ _ c.utf8.text c.utf8.rest c.requires.1)

pub returns : goal.returns
returns c = λ front chars_are.
    let bytes = split_bytes c.args.text.now c.args.rest.now front c.utf8.text c.utf8.rest chars_are in
    let cut = cut_front c.args.text.now c.args.rest.now _ bytes in
    c.range.ensures.value ∙ grind (arith, common_steps, cut)

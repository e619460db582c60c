use Rattle.std.proofs.Common.{◌≡◌, ◌∙◌, sym, take, Some, None}
use Rattle.std.specs.Str.{chars, encode_utf8_all}
use Rattle.kv_table.specs.Names.{row_of}
use Rattle.kv_lex.specs.Marks.{mark_rows}
use Rattle.kv_lex.proofs.Texts.{split_at}
use Rattle.kv_lex.proofs.Fronts.{mark_reads}
use Rattle.kv_lex.proofs.kinds.mark_of.Goals as goal

pub until-requires : goal.until-requires
until-requires c = (take c.args.count (chars c.args.text.now), split_at _ _ _ c.past_count-rest.ensures)

pub returns-in_err-row : goal.returns-in_err-row
returns-in_err-row c =
    let front = c.until.ensures (take c.args.count (chars c.args.text.now)) (split_at _ _ _ c.past_count-rest.ensures) in
    let found : c.find.result ≡ row_of mark_rows (encode_utf8_all (take c.args.count (chars c.args.text.now))) = c.find.ensures.value ∙ rw (c.marks.ensures, front) in
    rw c.from_residual.ensures (mark_reads _ _ _ None c.past_count-rest.ensures (sym c.in_err-row.was ∙ found))

pub returns : goal.returns
returns c =
    let front = c.until.ensures (take c.args.count (chars c.args.text.now)) (split_at _ _ _ c.past_count-rest.ensures) in
    let found : c.find.result ≡ row_of mark_rows (encode_utf8_all (take c.args.count (chars c.args.text.now))) = c.find.ensures.value ∙ rw (c.marks.ensures, front) in
    mark_reads _ _ _ (Some c.in_ok-row.row) c.past_count-rest.ensures (sym c.in_ok-row.was ∙ found)

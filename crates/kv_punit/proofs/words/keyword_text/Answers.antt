use Rattle.std.proofs.Common.{◌≡◌, refl, arith, length, sym}
use Rattle.std.proofs.lemmas.Option.{slice_get_past}
use Rattle.kv_table.specs.Keywords.{keyword_rows}
use Rattle.kv_punit.proofs.words.keyword_text.Goals as goal

keyword_count : length keyword_rows ≡ 49
unfolding keyword_rows
keyword_count = refl

pub returns-then-row-ge-KEYWORDS : goal.returns-then-row-ge-KEYWORDS
returns-then-row-ge-KEYWORDS c = sym (slice_get_past keyword_rows c.args.row (omega (arith, keyword_count)))

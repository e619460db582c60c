use Rattle.std.proofs.Common.{◌≡◌, ◌++◌, true, length}
use Rattle.std.specs.Prelude.{flat_map}
use Rattle.std.specs.List.{list_all}
use Rattle.kv_query.specs.Replies.{front, past, row_line}
use Rattle.kv_syn.specs.Rows.{has_row_rows}
use Rattle.kv_query.proofs.replies.push_rows.Given as goal

abbrev pub invariant-loop-row : goal.invariant-loop-row
invariant-loop-row l = record {
  fit : list_all has_row_rows l.rest ≡ true;
  others : past l.unit l.rest ≡ past l.unit l.rows;
  text : l.text ++ flat_map row_line (front l.unit l.rest) ≡ l.fn.text ++ flat_map row_line (front l.unit l.rows);
}

abbrev pub decreases-loop-row : goal.decreases-loop-row
decreases-loop-row l = length l.rest

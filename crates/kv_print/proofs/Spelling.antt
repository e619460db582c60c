-- The text of pieces one behind another.
use Rattle.std.proofs.Common.{◌≡◌, List, ◌++◌}
use Rattle.std.proofs.lemmas.List.Concat.{flat_map-append}
use Rattle.kv_print.specs.Pieces.{Piece, piece_text, spell}

pub spell_append : (ps qs : List Piece) → spell (ps ++ qs) ≡ spell ps ++ spell qs
spell_append ps qs = flat_map-append piece_text ps qs

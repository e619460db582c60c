use Rattle.std.proofs.Common.{◌≡◌, ◌++◌, drop}
use Rattle.kv_print.specs.Pieces.{spell}
use Rattle.kv_print.specs.Scripts.{number_pieces}
use Rattle.kv_print.proofs.scripts.push_numbers.Given as goal

abbrev pub invariant-loop-number : goal.invariant-loop-number
invariant-loop-number l = l.text ++ spell (number_pieces (drop l.number-index l.numbers)) ≡ l.initial.text ++ spell (number_pieces l.numbers)

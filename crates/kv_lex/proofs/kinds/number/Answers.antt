use Rattle.std.proofs.Common.{◌≡◌, arith, true}
use Rattle.std.specs.Str.{all_ascii_digits}
use Rattle.std.proofs.lemmas.Str.Parse.{numerals_by_value, tells_all_ascii_digits, digits_value_short, parse_gives}
use Rattle.kv_lex.proofs.kinds.number.Goals as goal

pub unreachable-requires : goal.unreachable-requires
unreachable-requires c =
    let own = numerals_by_value (λ ds. all_ascii_digits ds ≡ true) tells_all_ascii_digits in
    let short = digits_value_short own c.args.digits.now 9 c.requires.digits c.if-digits-gt-MAX_DIGITS.false in
    let value = parse_gives own 32 c.args.digits.now c.parse.result c.parse.ensures.value.0 c.requires.digits c.requires.some (omega (arith, short)) in
    cc

use Rattle.std.proofs.Common.{true, false, ◌∙◌, sym}
use Rattle.kv_io.specs.Framing.{End, Cut, TooLong}
use Rattle.kv_io.specs.Reading.{ahead_of}
use Rattle.kv_io.proofs.Cuts.{ending-long, ending-blank, ending-cut}
use Rattle.kv_io.proofs.Says.{gives-last, tells-ending, last-stop}
use Rattle.kv_io.proofs.reading.Reading.finish.Goals as goal

pub returns-then-is_full_stop_line-clause-tells : goal.returns-then-is_full_stop_line-clause-tells
returns-then-is_full_stop_line-clause-tells c =
    let old = c.args.self.now in
    let stop = last-stop c.bytes-bytes.result.now old.held old.line c.is_full_stop_line.result true c.bytes-bytes.ensures c.is_full_stop_line.ensures c.if-is_full_stop_line.true in
    gives-last old c.bytes-bytes.result.now c.give.result c.give.new.self c.requires.last c.requires.ended stop c.bytes-bytes.ensures c.give.ensures

pub returns-then-len-gt-COMMAND_LIMIT-clause-tells : goal.returns-then-len-gt-COMMAND_LIMIT-clause-tells
returns-then-len-gt-COMMAND_LIMIT-clause-tells c =
    let old = c.args.self.now in
    let stop = last-stop c.bytes-bytes.result.now old.held old.line c.is_full_stop_line.result false c.bytes-bytes.ensures c.is_full_stop_line.ensures c.if-is_full_stop_line.false in
    tells-ending (ahead_of old) c.bytes-bytes.result.now old.line TooLong c.requires.last c.requires.ended stop c.bytes-bytes.ensures
    (ending-long c.bytes-bytes.result.now c.if-len-gt-COMMAND_LIMIT.true)

pub returns-then-is_blank_text-clause-tells : goal.returns-then-is_blank_text-clause-tells
returns-then-is_blank_text-clause-tells c =
    let old = c.args.self.now in
    let stop = last-stop c.bytes-bytes.result.now old.held old.line c.is_full_stop_line.result false c.bytes-bytes.ensures c.is_full_stop_line.ensures c.if-is_full_stop_line.false in
    tells-ending (ahead_of old) c.bytes-bytes.result.now old.line End c.requires.last c.requires.ended stop c.bytes-bytes.ensures
    (ending-blank c.bytes-bytes.result.now c.if-len-gt-COMMAND_LIMIT.false (sym c.is_blank_text.ensures ∙ c.if-is_blank_text.true))

pub returns-else-is_blank_text-clause-tells : goal.returns-else-is_blank_text-clause-tells
returns-else-is_blank_text-clause-tells c =
    let old = c.args.self.now in
    let stop = last-stop c.bytes-bytes.result.now old.held old.line c.is_full_stop_line.result false c.bytes-bytes.ensures c.is_full_stop_line.ensures c.if-is_full_stop_line.false in
    tells-ending (ahead_of old) c.bytes-bytes.result.now old.line Cut c.requires.last c.requires.ended stop c.bytes-bytes.ensures
    (ending-cut c.bytes-bytes.result.now c.if-len-gt-COMMAND_LIMIT.false (sym c.is_blank_text.ensures ∙ c.if-is_blank_text.false))

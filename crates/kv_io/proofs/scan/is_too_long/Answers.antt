use Rattle.std.proofs.Common.{ap, sym, ◌∙◌}
use Rattle.std.proofs.lemmas.List.{take_rest}
use Rattle.kv_io.specs.Reading.{may_be_full_stop}
use Rattle.kv_io.proofs.Places.{long-line, long-open, short-stop, short-bytes, not-true, not-false}
use Rattle.kv_io.proofs.scan.is_too_long.Goals as goal

pub returns-then-line-gt-COMMAND_LIMIT-clause-yes : goal.returns-then-line-gt-COMMAND_LIMIT-clause-yes
returns-then-line-gt-COMMAND_LIMIT-clause-yes c _ = long-line c.args.bytes.now c.args.line c.requires.starts c.if-line-gt-COMMAND_LIMIT.true

pub returns-then-bytes-gt-COMMAND_LIMIT-clause-yes : goal.returns-then-bytes-gt-COMMAND_LIMIT-clause-yes
returns-then-bytes-gt-COMMAND_LIMIT-clause-yes c e =
    long-open c.args.bytes.now c.args.line c.requires
    (ap may_be_full_stop (sym (take_rest c.args.bytes.now c.args.line)) ∙ sym c.may_be_full_stop_line.ensures ∙ not-true c.may_be_full_stop_line.result e) c.if-bytes-gt-COMMAND_LIMIT.true

pub returns-then-bytes-gt-COMMAND_LIMIT-clause-no : goal.returns-then-bytes-gt-COMMAND_LIMIT-clause-no
returns-then-bytes-gt-COMMAND_LIMIT-clause-no c e =
    short-stop c.args.bytes.now c.args.line c.requires
    (ap may_be_full_stop (sym (take_rest c.args.bytes.now c.args.line)) ∙ sym c.may_be_full_stop_line.ensures ∙ not-false c.may_be_full_stop_line.result e) c.if-line-gt-COMMAND_LIMIT.false

pub returns-else-bytes-gt-COMMAND_LIMIT-clause-no : goal.returns-else-bytes-gt-COMMAND_LIMIT-clause-no
returns-else-bytes-gt-COMMAND_LIMIT-clause-no c _ =
    short-bytes c.args.bytes.now c.args.line c.requires c.if-bytes-gt-COMMAND_LIMIT.false

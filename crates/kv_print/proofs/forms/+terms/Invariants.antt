use Rattle.std.proofs.Common.{◌≡◌, ◌++◌, drop}
use Rattle.kv_raw.specs.RawBridge.{raw_terms}
use Rattle.kv_print.specs.Forms.{more_terms}
use Rattle.kv_print.specs.Pieces.{spell}
use Rattle.kv_print.proofs.forms.+terms.Given as goal

abbrev pub invariant-push_terms-loop-term : goal.invariant-push_terms-loop-term
invariant-push_terms-loop-term l = l.text ++ spell (more_terms (raw_terms (drop l.term-index l.others))) ≡ l.initial.text ++ spell (more_terms (raw_terms l.others))

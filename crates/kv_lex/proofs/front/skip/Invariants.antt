use Rattle.std.proofs.Common.{◌≡◌, length}
use Rattle.std.specs.Prelude.{if◌then◌else◌}
use denote.Text.{Utf8}
use denote.Shadow.{shadow}
use Rattle.std.specs.Str.{chars}
use Rattle.kv_lex.specs.Tokens.{skip, skip_comment}
use Rattle.kv_lex.proofs.front.skip.Given as goal

abbrev pub invariant-loop-c : goal.invariant-loop-c
invariant-loop-c l = shadow (Utf8 l.rest) × (skip (chars l.text) ≡ (if l.in_comment then skip_comment (chars l.rest) else skip (chars l.rest)))

abbrev pub decreases-loop-c : goal.decreases-loop-c
decreases-loop-c l = length (chars l.rest)

use Rattle.std.proofs.Common.{◌≡◌, ◌-◌, drop}
use denote.Text.{Utf8}
use denote.Shadow.{shadow}
use Rattle.std.specs.Str.{chars}
use Rattle.kv_lex.proofs.front.past_count.Given as goal

abbrev pub invariant-loop-done : goal.invariant-loop-done
invariant-loop-done l = shadow (Utf8 l.rest) × (drop l.count (chars l.text) ≡ drop (l.count - l._done) (chars l.rest))

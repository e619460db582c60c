-- Where lines, end lines and commands stand in bytes, and that more bytes behind them change nothing.
use Rattle.std.proofs.Common.{◌≡◌, ℕ, zero, suc, ◌+◌, ◌-◌, ◌<◌, ◌≤◌, Bool, true, false, not, List, [], ◌∷◌, ◌++◌, take, drop, length, get_or, add-one, sym, ◌∙◌, ap, subst, refl, append_assoc, arith}
use Rattle.std.specs.Prelude.{◌==◌}
use Rattle.std.proofs.Math.Seq.{drop-cons, take-add}
use Rattle.std.proofs.lemmas.List.{append-nil, length-append, length-drop, length-take-le, drop-drop, take-append-drop, take-append-le, drop-append-le, take_at, take_rest}
use Rattle.std.proofs.lemmas.Bool.Decides.{nat_tests}
use Rattle.kv_io.specs.Framing.{Split, lines_of, before, behind_command, split_of, is_full_stop, whole_commands, framed, at_once, TooLong}
use Rattle.kv_io.specs.Lines.{IsTooLong}
use Rattle.kv_io.specs.Reading.{IsFree, HasFeed, StartsLine, IsScanned, HasCommand, IsLast, may_be_full_stop}
use Rattle.kv_io.specs.Limits.{command_limit}
use Rattle.kv_io.proofs.Cuts.{before-nil, before-append, before-behind, split-feed, split-stop, split-open, split-last, split-last_stop, split-never, framed-before, framed-long, short-rest, short-command}

pub test-false : (a b : ℕ) → (a ≡ b → ⊥) → (a == b) ≡ false
test-false a b h = grind (arith, nat_tests)

-- one more byte that is no line feed
pub free-more : (bytes : List ℕ) (i : ℕ) → i < length bytes → IsFree (take i bytes) → (get_or bytes i 0 == 10) ≡ false → IsFree (take (i + 1) bytes)
free-more [] i h free e = absurd (omega arith)
free-more (b ∷ bytes) zero h free e = (e, tt)
free-more (b ∷ bytes) (suc i) h free e =
    let rest : IsFree (take (suc i) bytes) = rw (← add-one) (free-more bytes i (omega arith) free.1 e) in
    rw add-one (free.0, rest)

free-append : (a b : List ℕ) → IsFree a → IsFree b → IsFree (a ++ b)
free-append [] b p q = q
free-append (x ∷ a) b p q = (p.0, free-append a b p.1 q)

pub feed-here : (bytes : List ℕ) (at : ℕ) → at < length bytes → get_or bytes at 0 ≡ 10 → drop at bytes ≡ 10 ∷ drop (at + 1) bytes
feed-here bytes at h e = rw add-one (drop-cons bytes at 0 h ∙ ap (λ b. b ∷ drop (suc at) bytes) e)

-- a line feed that was found in the bytes from one place on
pub feed-from : (bytes : List ℕ) (from index : ℕ) → index < length (drop from bytes) → IsFree (take index (drop from bytes)) → get_or (drop from bytes) index 0 ≡ 10 → HasFeed bytes from (from + index)
feed-from bytes from index h free e =
    let gap : from + index - from ≡ index = omega arith in
    let end : (from + index) + 1 ≡ from + (index + 1) = omega arith in
    record {
      order = omega arith;
      within = omega (arith, length-drop from bytes);
      free = subst (λ n. IsFree (take n (drop from bytes))) (sym gap) free;
      here = sym (drop-drop index from bytes) ∙ feed-here (drop from bytes) index h e
          ∙ ap (λ b. 10 ∷ b) (drop-drop (index + 1) from bytes ∙ ap (λ n. drop n bytes) (sym end));
    }

pub starts-front : (bytes : List ℕ) → StartsLine bytes 0
starts-front bytes = record { within = omega arith; goes_on = λ closed more. sym (before-nil (split_of closed (bytes ++ more))) }

-- nothing of a first line was looked at
pub scanned-front : (bytes : List ℕ) → IsScanned bytes 0 0
scanned-front bytes = record { starts = starts-front bytes; within = omega arith; free = tt }

starts-more : (bytes piece : List ℕ) (line : ℕ) → StartsLine bytes line → StartsLine (bytes ++ piece) line
starts-more bytes piece line starts = record {
  within = omega (arith, starts.within, length-append bytes piece);
  goes_on = λ closed more.
      ap (split_of closed) (append_assoc bytes piece more)
      ∙ starts.goes_on closed (piece ++ more)
      ∙ ap (λ f. before f (split_of closed (drop line bytes ++ (piece ++ more)))) (sym (take-append-le line bytes piece starts.within))
      ∙ ap (λ b. before (take line (bytes ++ piece)) (split_of closed b))
      (sym (append_assoc (drop line bytes) piece more) ∙ ap (λ b. b ++ more) (sym (drop-append-le line bytes piece starts.within)));
}

-- more bytes behind what was looked at
pub scanned-more : (bytes piece : List ℕ) (line scanned : ℕ) → IsScanned bytes line scanned → IsScanned (bytes ++ piece) line scanned
scanned-more bytes piece line scanned s =
    let size : scanned ≤ length (drop line bytes) = omega (arith, s.within, length-drop line bytes) in
    record {
      starts = starts-more bytes piece line s.starts;
      within = omega (arith, s.within, length-append bytes piece);
      free = subst IsFree
          (sym (ap (take scanned) (drop-append-le line bytes piece s.starts.within) ∙ take-append-le scanned (drop line bytes) piece size)) s.free;
    }

-- a last line was looked at whole
pub scanned-last : (bytes : List ℕ) (line : ℕ) → IsLast bytes line → IsScanned bytes line (length bytes - line)
scanned-last bytes line last = record {
  starts = last.starts;
  within = omega (arith, last.starts.within);
  free = subst IsFree (sym (take_rest bytes line)) last.free;
}

-- a line up to a line feed that was found behind what was looked at
line-free : (bytes : List ℕ) (line from at : ℕ) → line ≤ from → IsScanned bytes line (from - line) → HasFeed bytes from at → IsFree (take (at - line) (drop line bytes))
line-free bytes line from at h s f =
    let parts : at - line ≡ (from - line) + (at - from) = omega (arith, f.order) in
    let back : line + (from - line) ≡ from = omega arith in
    let second : IsFree (take (at - from) (drop (from - line) (drop line bytes))) =
    subst (λ b. IsFree (take (at - from) b)) (sym (drop-drop (from - line) line bytes ∙ ap (λ n. drop n bytes) back)) f.free in
    subst IsFree (sym (ap (λ n. take n (drop line bytes)) parts ∙ take-add (from - line) (at - from) (drop line bytes)))
    (free-append (take (from - line) (drop line bytes)) (take (at - from) (drop (from - line) (drop line bytes))) s.free second)

line-parts : (bytes : List ℕ) (line from at : ℕ) → line ≤ from → HasFeed bytes from at → drop line bytes ≡ take (at - line) (drop line bytes) ++ 10 ∷ drop (at + 1) bytes
line-parts bytes line from at h f =
    let back : line + (at - line) ≡ at = omega (arith, f.order) in
    sym (take-append-drop (at - line) (drop line bytes))
    ∙ ap (λ b. take (at - line) (drop line bytes) ++ b) (drop-drop (at - line) line bytes ∙ ap (λ n. drop n bytes) back ∙ f.here)

line-size : (bytes : List ℕ) (line from at : ℕ) → line ≤ from → HasFeed bytes from at → length (take (at - line) (drop line bytes)) ≡ at - line
line-size bytes line from at h f = length-take-le (at - line) (drop line bytes) (omega (arith, f.within, f.order, length-drop line bytes))

-- a line goes up to the next place
next-place : (bytes : List ℕ) (line from at : ℕ) → line ≤ from → HasFeed bytes from at → line + length (take (at - line) (drop line bytes) ++ 10 ∷ []) ≡ at + 1
next-place bytes line from at h f =
    omega (arith, f.order, line-size bytes line from at h f, length-append (take (at - line) (drop line bytes)) (10 ∷ []))

take-line : (bytes : List ℕ) (line : ℕ) (t u : List ℕ) → line ≤ length bytes → drop line bytes ≡ t ++ u → take (line + length t) bytes ≡ take line bytes ++ t
take-line bytes line t u h e =
    let whole : (take line bytes ++ t) ++ u ≡ bytes = append_assoc (take line bytes) t u ∙ ap (λ z. take line bytes ++ z) (sym e) ∙ take-append-drop line bytes in
    let size : length (take line bytes ++ t) ≡ line + length t = length-append (take line bytes) t ∙ ap (λ n. n + length t) (length-take-le line bytes h) in
    subst (λ b. take (line + length t) b ≡ take line bytes ++ t) whole (take_at (take line bytes ++ t) u (line + length t) size)

-- the lines before a line that is no end line, with this line
pub starts-next : (bytes : List ℕ) (line from at : ℕ) → line ≤ from → IsScanned bytes line (from - line) → HasFeed bytes from at → is_full_stop (take (at - line) (drop line bytes)) ≡ false → StartsLine bytes (at + 1)
starts-next bytes line from at h s f stop =
    let text : List ℕ = take (at - line) (drop line bytes) in
    let free = line-free bytes line from at h s f in
    let parts = line-parts bytes line from at h f in
    let parts' : drop line bytes ≡ (text ++ 10 ∷ []) ++ drop (at + 1) bytes = parts ∙ sym (append_assoc text (10 ∷ []) (drop (at + 1) bytes)) in
    let front : take (at + 1) bytes ≡ take line bytes ++ (text ++ 10 ∷ []) =
    subst (λ n. take n bytes ≡ take line bytes ++ (text ++ 10 ∷ [])) (next-place bytes line from at h f) (take-line bytes line (text ++ 10 ∷ []) (drop (at + 1) bytes) s.starts.within parts') in
    record {
      within = omega (arith, f.within);
      goes_on = λ closed more.
          s.starts.goes_on closed more
          ∙ ap (λ b. before (take line bytes) (split_of closed (b ++ more))) parts
          ∙ ap (λ b. before (take line bytes) (split_of closed b)) (append_assoc text (10 ∷ drop (at + 1) bytes) more)
          ∙ ap (before (take line bytes)) (split-feed closed text (drop (at + 1) bytes ++ more) free stop)
          ∙ sym (before-append (take line bytes) (text ++ 10 ∷ []) (split_of closed (drop (at + 1) bytes ++ more)))
          ∙ ap (λ b. before b (split_of closed (drop (at + 1) bytes ++ more))) (sym front);
    }

pub scanned-next : (bytes : List ℕ) (line from at : ℕ) → line ≤ from → IsScanned bytes line (from - line) → HasFeed bytes from at → is_full_stop (take (at - line) (drop line bytes)) ≡ false → IsScanned bytes (at + 1) ((at + 1) - (at + 1))
scanned-next bytes line from at h s f stop =
    let none : (at + 1) - (at + 1) ≡ 0 = omega arith in
    subst (IsScanned bytes (at + 1)) (sym none)
    (record { starts = starts-next bytes line from at h s f stop; within = omega (arith, f.within); free = tt })

-- the command before an end line
pub command-here : (bytes : List ℕ) (line from at : ℕ) → line ≤ from → IsScanned bytes line (from - line) → HasFeed bytes from at → is_full_stop (take (at - line) (drop line bytes)) ≡ true → HasCommand bytes line (at + 1)
command-here bytes line from at h s f stop =
    let text : List ℕ = take (at - line) (drop line bytes) in
    let free = line-free bytes line from at h s f in
    let parts = line-parts bytes line from at h f in
    record {
      order = omega (arith, f.order);
      within = omega (arith, f.within);
      goes_on = λ closed more.
          s.starts.goes_on closed more
          ∙ ap (λ b. before (take line bytes) (split_of closed (b ++ more))) parts
          ∙ ap (λ b. before (take line bytes) (split_of closed b)) (append_assoc text (10 ∷ drop (at + 1) bytes) more)
          ∙ ap (before (take line bytes)) (split-stop closed text (drop (at + 1) bytes ++ more) free stop)
          ∙ before-behind (take line bytes) (split_of closed (drop (at + 1) bytes ++ more));
    }

-- no line feed from one place on, and none between the line's start and there
pub last-here : (bytes : List ℕ) (line from : ℕ) → line ≤ from → IsScanned bytes line (from - line) → IsFree (drop from bytes) → IsLast bytes line
last-here bytes line from h s free =
    let back : line + (from - line) ≡ from = omega arith in
    let second : IsFree (drop (from - line) (drop line bytes)) = subst IsFree (sym (drop-drop (from - line) line bytes ∙ ap (λ n. drop n bytes) back)) free in
    record {
      starts = s.starts;
      free = subst IsFree (take-append-drop (from - line) (drop line bytes))
          (free-append (take (from - line) (drop line bytes)) (drop (from - line) (drop line bytes)) s.free second);
    }

-- where a last line stands alone, the bytes have no whole command
pub split-of_last : (bytes : List ℕ) (line : ℕ) → IsLast bytes line → split_of false bytes ≡ record { commands = []; rest = bytes }
split-of_last bytes line last =
    subst (λ b. split_of false b ≡ before (take line bytes) (split_of false (drop line bytes ++ []))) (append-nil bytes) (last.starts.goes_on false [])
    ∙ ap (λ b. before (take line bytes) (split_of false b)) (append-nil (drop line bytes))
    ∙ ap (before (take line bytes)) (split-open (drop line bytes) last.free)
    ∙ ap (λ r. record { commands = []; rest = r }) (take-append-drop line bytes)

pub none-whole : (bytes : List ℕ) (line : ℕ) → IsLast bytes line → whole_commands bytes ≡ []
none-whole bytes line last = ap (λ (s : Split). s.commands) (split-of_last bytes line last)

-- the same at the end of the input, where the last line is no end line
pub split-closed : (bytes : List ℕ) (line : ℕ) → IsLast bytes line → is_full_stop (drop line bytes) ≡ false → split_of true bytes ≡ record { commands = []; rest = bytes }
split-closed bytes line last stop =
    subst (λ b. split_of true b ≡ before (take line bytes) (split_of true (drop line bytes ++ []))) (append-nil bytes) (last.starts.goes_on true [])
    ∙ ap (λ b. before (take line bytes) (split_of true b)) (append-nil (drop line bytes))
    ∙ ap (before (take line bytes)) (split-last true (drop line bytes) last.free stop)
    ∙ ap (λ r. record { commands = []; rest = r }) (take-append-drop line bytes)

-- and where it is one
pub split-closed_stop : (bytes : List ℕ) (line : ℕ) → IsLast bytes line → is_full_stop (drop line bytes) ≡ true → split_of true bytes ≡ behind_command (take line bytes) (split_of true [])
unfolding split_of lines_of
split-closed_stop bytes line last stop =
    subst (λ b. split_of true b ≡ before (take line bytes) (split_of true (drop line bytes ++ []))) (append-nil bytes) (last.starts.goes_on true [])
    ∙ ap (λ b. before (take line bytes) (split_of true b)) (append-nil (drop line bytes))
    ∙ ap (before (take line bytes)) (split-last_stop (drop line bytes) last.free stop)
    ∙ ap (λ c. record { commands = c ∷ []; rest = [] }) (append-nil (take line bytes))

-- too many bytes before an end line
pub long-command : (bytes : List ℕ) (command next : ℕ) → HasCommand bytes command next → command_limit < command → IsTooLong bytes
long-command bytes command next has h closed more =
    let size : length (take command bytes) ≡ command = length-take-le command bytes (omega (arith, has.order, has.within)) in
    framed-long closed (bytes ++ more) (take command bytes) (split_of closed (drop next bytes ++ more)) (has.goes_on closed more) (omega arith)

-- too many bytes before a line
pub long-line : (bytes : List ℕ) (line : ℕ) → StartsLine bytes line → command_limit < line → IsTooLong bytes
long-line bytes line starts h closed more =
    let size : length (take line bytes) ≡ line = length-take-le line bytes starts.within in
    framed-before closed (bytes ++ more) (take line bytes) (split_of closed (drop line bytes ++ more)) (starts.goes_on closed more) (omega arith)

never-stop : (text more : List ℕ) → may_be_full_stop text ≡ false → is_full_stop (text ++ more) ≡ false
never-stop [] more e = cc
never-stop (a ∷ []) [] e = e
never-stop (a ∷ []) (b ∷ []) e = rw e refl
never-stop (a ∷ []) (b ∷ c ∷ more) e = refl
never-stop (a ∷ b ∷ []) [] e = e
never-stop (a ∷ b ∷ []) (c ∷ more) e = refl
never-stop (a ∷ b ∷ c ∷ text) more e = refl

-- too many bytes, and the last line begins no end line
pub long-open : (bytes : List ℕ) (line : ℕ) → IsLast bytes line → may_be_full_stop (drop line bytes) ≡ false → command_limit < length bytes → IsTooLong bytes
long-open bytes line last never h closed more =
    let s = split-never closed (drop line bytes) more last.free (λ m. never-stop (drop line bytes) m never) in
    let whole : split_of closed (bytes ++ more) ≡ before bytes s.0 =
    last.starts.goes_on closed more ∙ ap (before (take line bytes)) s.1 ∙ sym (before-append (take line bytes) (drop line bytes) s.0)
    ∙ ap (λ b. before b s.0) (take-append-drop line bytes) in
    framed-before closed (bytes ++ more) bytes s.0 whole h

-- what makes an end line of bytes that begin one
pub stop-end : (text : List ℕ) → may_be_full_stop text ≡ true → (more : List ℕ) × (stop : List ℕ) × (text ++ more ≡ stop ++ 10 ∷ []) × (is_full_stop stop ≡ true)
stop-end [] e = (46 ∷ 10 ∷ [], 46 ∷ [], refl, refl)
stop-end (a ∷ []) e = (10 ∷ [], a ∷ [], refl, e)
stop-end (a ∷ b ∷ []) e = (10 ∷ [], a ∷ b ∷ [], refl, e)
stop-end (a ∷ b ∷ c ∷ text) e = cc

stop-free : (stop : List ℕ) → is_full_stop stop ≡ true → IsFree stop
stop-free [] e = cc
stop-free (a ∷ []) e = (grind (arith, nat_tests), tt)
stop-free (a ∷ b ∷ []) e = (grind (arith, nat_tests), (grind (arith, nat_tests), tt))
stop-free (a ∷ b ∷ c ∷ rest) e = cc

-- bytes whose last line may become an end line aren't too long
pub short-stop : (bytes : List ℕ) (line : ℕ) → IsLast bytes line → may_be_full_stop (drop line bytes) ≡ true → line ≤ command_limit → ¬ (IsTooLong bytes)
short-stop bytes line last may h long =
    let (more, stop, whole, is) = stop-end (drop line bytes) may in
    let size : length (take line bytes) ≡ line = length-take-le line bytes last.starts.within in
    short-command false (bytes ++ more) (take line bytes) (split_of false [])
    (last.starts.goes_on false more
    ∙ ap (λ b. before (take line bytes) (split_of false b)) whole
    ∙ ap (before (take line bytes)) (split-stop false stop [] (stop-free stop is) is)
    ∙ before-behind (take line bytes) (split_of false []))
    (omega arith) (long false more)

stop-may : (text : List ℕ) → is_full_stop text ≡ true → may_be_full_stop text ≡ true
stop-may [] e = refl
stop-may (a ∷ []) e = e
stop-may (a ∷ b ∷ []) e = e
stop-may (a ∷ b ∷ c ∷ text) e = cc

-- no more bytes than a command may have aren't too long
pub short-bytes : (bytes : List ℕ) (line : ℕ) → IsLast bytes line → length bytes ≤ command_limit → ¬ (IsTooLong bytes)
short-bytes bytes line last h long =
    let all : framed true bytes ≡ at_once TooLong = subst (λ b. framed true b ≡ at_once TooLong) (append-nil bytes) (long true []) in
    let cases : (b : Bool) → is_full_stop (drop line bytes) ≡ b → ⊥ = λ b. elim b as (λ b. is_full_stop (drop line bytes) ≡ b → ⊥) [
      | true ↦ λ e. short-stop bytes line last (stop-may (drop line bytes) e) (omega (arith, last.starts.within)) long
      | false ↦ λ e. short-rest bytes h (split-closed bytes line last e) all
    ] in
    cases (is_full_stop (drop line bytes)) refl

pub stop-nonempty : (text : List ℕ) → is_full_stop text ≡ true → 0 < length text
stop-nonempty [] e = cc
stop-nonempty (a ∷ rest) e = omega arith

pub not-true : (b : Bool) → not b ≡ true → b ≡ false
not-true true h = cc
not-true false h = refl

pub not-false : (b : Bool) → not b ≡ false → b ≡ true
not-false true h = refl
not-false false h = cc

-- Lines, commands and endings of bytes that are joined.
use Rattle.std.proofs.Common.{◌≡◌, ℕ, ◌+◌, ◌-◌, ◌<◌, ◌≤◌, Bool, true, false, nat_le, List, [], ◌∷◌, ◌++◌, take, length, zero-add, sym, ◌∙◌, ap, subst, refl, append_assoc, arith}
use Rattle.std.specs.Prelude.{if◌then◌else◌, ◌&&◌}
use Rattle.std.specs.List.{list_all}
use Rattle.std.proofs.lemmas.List.{append-nil, length-append}
use Rattle.std.proofs.lemmas.Bool.{le-leb, lt-leb}
use Rattle.std.proofs.Math.Seq.{take-append-add}
use Rattle.kv_io.specs.Framing.{Line, onto_first, lines_of, bytes_of, is_full_stop, is_blank, Split, before, before_parts, behind_command, split_lines, split_of, Ending, End, Cut, TooLong, Cutting, at_once, and_first, limited, ending_of, framed, cut_of}
use Rattle.kv_io.specs.Lines.{IsTooLong, cut_within}
use Rattle.kv_io.specs.Reading.{IsFree}
use Rattle.kv_io.specs.Limits.{command_limit, input_limit}

lines-feed : (text bytes : List ℕ) → IsFree text → lines_of (text ++ 10 ∷ bytes) ≡ record { text = text; fed = true } ∷ lines_of bytes
unfolding lines_of
lines-feed [] bytes free = refl
lines-feed (b ∷ text) bytes free = rw (free.0, lines-feed text bytes free.1) refl

lines-free : (byte : ℕ) (text : List ℕ) → IsFree (byte ∷ text) → lines_of (byte ∷ text) ≡ record { text = byte ∷ text; fed = false } ∷ []
unfolding lines_of
lines-free b [] free = rw free.0 refl
lines-free b (c ∷ text) free = rw (free.0, lines-free c text free.1) refl

before_parts-nil : (commands : List (List ℕ)) (rest : List ℕ) → before_parts [] commands rest ≡ record { commands = commands; rest = rest }
before_parts-nil [] rest = refl
before_parts-nil (c ∷ cs) rest = refl

pub before-nil : (s : Split) → before [] s ≡ s
before-nil s = before_parts-nil s.commands s.rest

before_parts-append : (p q : List ℕ) (commands : List (List ℕ)) (rest : List ℕ) → before_parts (p ++ q) commands rest ≡ before p (before_parts q commands rest)
before_parts-append p q [] rest = simp append_assoc
before_parts-append p q (c ∷ cs) rest = simp append_assoc

pub before-append : (p q : List ℕ) (s : Split) → before (p ++ q) s ≡ before p (before q s)
before-append p q s = before_parts-append p q s.commands s.rest

pub before-behind : (p : List ℕ) (s : Split) → before p (behind_command [] s) ≡ behind_command p s
before-behind p s = simp append-nil

-- a whole line that is no end line
pub split-feed : (closed : Bool) (text bytes : List ℕ) → IsFree text → is_full_stop text ≡ false → split_of closed (text ++ 10 ∷ bytes) ≡ before (text ++ 10 ∷ []) (split_of closed bytes)
unfolding split_of
split-feed closed text bytes free e = rw (lines-feed text bytes free, e) refl

-- a whole end line
pub split-stop : (closed : Bool) (text bytes : List ℕ) → IsFree text → is_full_stop text ≡ true → split_of closed (text ++ 10 ∷ bytes) ≡ behind_command [] (split_of closed bytes)
unfolding split_of
split-stop closed text bytes free e = rw (lines-feed text bytes free, e) refl

rest-nil : (byte : ℕ) (text : List ℕ) → before_parts ((byte ∷ text) ++ []) [] [] ≡ record { commands = []; rest = byte ∷ text }
rest-nil b text = ap (λ r. record { commands = []; rest = b ∷ r }) (append-nil (text ++ []) ∙ append-nil text)

-- a last line without its line feed, where the input may go on
pub split-open : (text : List ℕ) → IsFree text → split_of false text ≡ record { commands = []; rest = text }
unfolding split_of lines_of
split-open [] free = refl
split-open (b ∷ text) free = rw (lines-free b text free)
    (elim (is_full_stop (b ∷ text)) as (λ d. (if d && false then behind_command [] (record { commands = []; rest = [] }) else before ((b ∷ text) ++ []) (record { commands = []; rest = [] })) ≡ record { commands = []; rest = b ∷ text })
    [ true ↦ rest-nil b text | false ↦ rest-nil b text ])

-- a last line without its line feed that is no end line
pub split-last : (closed : Bool) (text : List ℕ) → IsFree text → is_full_stop text ≡ false → split_of closed text ≡ record { commands = []; rest = text }
unfolding split_of lines_of
split-last closed [] free e = refl
split-last closed (b ∷ text) free e = rw (lines-free b text free, e) (rest-nil b text)

-- a last end line, which the end of the input ends
pub split-last_stop : (text : List ℕ) → IsFree text → is_full_stop text ≡ true → split_of true text ≡ record { commands = [] ∷ []; rest = [] }
unfolding split_of
split-last_stop [] free e = cc
split-last_stop (b ∷ text) free e = rw (lines-free b text free, e) refl

-- the lines behind some bytes without a line feed: the first one grows at its front
abbrev onto_line : List ℕ → List Line → List Line
onto_line text [] = record { text = text; fed = false } ∷ []
onto_line text (line ∷ lines) = record { text = text ++ line.text; fed = line.fed } ∷ lines

lines-onto : (byte : ℕ) (text more : List ℕ) → IsFree (byte ∷ text) → lines_of (byte ∷ (text ++ more)) ≡ onto_line (byte ∷ text) (lines_of more)
unfolding lines_of
lines-onto b [] more free = rw free.0 (elim (lines_of more) as (λ ls. onto_first b ls ≡ onto_line (b ∷ []) ls) [ [] ↦ refl | l ∷ ls ↦ refl ])
lines-onto b (c ∷ text) more free = rw (free.0, lines-onto c text more free.1)
    (elim (lines_of more) as (λ ls. onto_first b (onto_line (c ∷ text) ls) ≡ onto_line (b ∷ c ∷ text) ls) [ [] ↦ refl | l ∷ ls ↦ refl ])

split-onto : (closed : Bool) (text : List ℕ) (lines : List Line) → ((more : List ℕ) → is_full_stop (text ++ more) ≡ false) → (s : Split) × (split_lines closed (onto_line text lines) ≡ before text s)
split-onto closed text [] never =
    let none : is_full_stop text ≡ false = subst (λ t. is_full_stop t ≡ false) (append-nil text) (never []) in
    (record { commands = []; rest = [] }, rw none (ap (λ r. record { commands = []; rest = r }) (append-nil (text ++ []))))
split-onto closed text (line ∷ lines) never = (
  before (bytes_of line) (split_lines closed lines),
  rw (never line.text, append_assoc text line.text (if line.fed then 10 ∷ [] else [])) (before-append text (bytes_of line) (split_lines closed lines)),
)

-- bytes that hold no line feed and begin no end line stand before what follows
pub split-never : (closed : Bool) (text more : List ℕ) → IsFree text → ((more : List ℕ) → is_full_stop (text ++ more) ≡ false) → (s : Split) × (split_of closed (text ++ more) ≡ before text s)
unfolding split_of
split-never closed [] more free never = (split_of closed more, sym (before-nil (split_of closed more)))
split-never closed (b ∷ text) more free never = rw (lines-onto b text more free) (split-onto closed (b ∷ text) (lines_of more) never)

limited-long : (command : List ℕ) (commands : List (List ℕ)) (ending : Ending) → command_limit < length command → limited (command ∷ commands) ending ≡ at_once TooLong
limited-long command commands ending h = rw (lt-leb (length command) command_limit h) refl

long-rest : (front rest : List ℕ) → command_limit < length front → nat_le (length (front ++ rest)) command_limit ≡ false
long-rest front rest h = lt-leb (length (front ++ rest)) command_limit (omega (arith, length-append front rest))

long-before : (closed : Bool) (front : List ℕ) (commands : List (List ℕ)) (rest : List ℕ) → command_limit < length front → (let s = before_parts front commands rest in limited s.commands (if closed then ending_of s.rest else TooLong)) ≡ at_once TooLong
long-before true front [] rest h = rw (long-rest front rest h) refl
long-before false front [] rest h = refl
long-before closed front (c ∷ cs) rest h = limited-long (front ++ c) cs (if closed then ending_of rest else TooLong) (omega (arith, length-append front c))

-- too many bytes before all that follows
pub framed-before : (closed : Bool) (bytes front : List ℕ) (s : Split) → split_of closed bytes ≡ before front s → command_limit < length front → framed closed bytes ≡ at_once TooLong
unfolding framed
framed-before closed bytes front s e h = rw e (long-before closed front s.commands s.rest h)

-- too many bytes before the first end line
pub framed-long : (closed : Bool) (bytes command : List ℕ) (s : Split) → split_of closed bytes ≡ behind_command command s → command_limit < length command → framed closed bytes ≡ at_once TooLong
unfolding framed
framed-long closed bytes command s e h = rw e (limited-long command s.commands (if closed then ending_of s.rest else TooLong) h)

-- a command that isn't too long
pub framed-command : (closed : Bool) (bytes command rest : List ℕ) → split_of closed bytes ≡ behind_command command (split_of closed rest) → length command ≤ command_limit → framed closed bytes ≡ and_first command (framed closed rest)
unfolding framed
framed-command closed bytes command rest e h = rw (e, le-leb (length command) command_limit h) refl

-- no command in all of the input
pub framed-rest : (bytes : List ℕ) (ending : Ending) → split_of true bytes ≡ record { commands = []; rest = bytes } → ending_of bytes ≡ ending → framed true bytes ≡ at_once ending
unfolding framed
framed-rest bytes ending e f = rw (e, f) refl

pub ending-long : (bytes : List ℕ) → command_limit < length bytes → ending_of bytes ≡ TooLong
ending-long bytes h = rw (lt-leb (length bytes) command_limit h) refl

pub ending-blank : (bytes : List ℕ) → length bytes ≤ command_limit → list_all is_blank bytes ≡ true → ending_of bytes ≡ End
ending-blank bytes h e = rw (le-leb (length bytes) command_limit h, e) refl

pub ending-cut : (bytes : List ℕ) → length bytes ≤ command_limit → list_all is_blank bytes ≡ false → ending_of bytes ≡ Cut
ending-cut bytes h e = rw (le-leb (length bytes) command_limit h, e) refl

-- bytes of a fitting length with no command aren't too long
pub short-rest : (bytes : List ℕ) → length bytes ≤ command_limit → split_of true bytes ≡ record { commands = []; rest = bytes } → framed true bytes ≡ at_once TooLong → ⊥
unfolding framed
short-rest bytes h e long =
    let ending : limited [] (ending_of bytes) ≡ at_once TooLong = subst (λ s. limited s.commands (ending_of s.rest) ≡ at_once TooLong) e long in
    elim (list_all is_blank bytes) as (λ b. at_once (if b then End else Cut) ≡ at_once TooLong → ⊥) [
      | true ↦ λ p. (let e : End ≡ TooLong = ap (λ (c : Cutting). c.ending) p in cc)
      | false ↦ λ p. (let e : Cut ≡ TooLong = ap (λ (c : Cutting). c.ending) p in cc)
    ]
    (subst (λ b. at_once (if b then (if list_all is_blank bytes then End else Cut) else TooLong) ≡ at_once TooLong) (le-leb (length bytes) command_limit h) ending)

-- a fitting command isn't too long
pub short-command : (closed : Bool) (bytes command : List ℕ) (s : Split) → split_of closed bytes ≡ behind_command command s → length command ≤ command_limit → framed closed bytes ≡ at_once TooLong → ⊥
unfolding framed
short-command closed bytes command s e h long =
    let first : and_first command (limited s.commands (if closed then ending_of s.rest else TooLong)) ≡ at_once TooLong =
    subst (λ b. (if b then and_first command (limited s.commands (if closed then ending_of s.rest else TooLong)) else at_once TooLong) ≡ at_once TooLong) (le-leb (length command) command_limit h)
    (subst (λ r. limited r.commands (if closed then ending_of r.rest else TooLong) ≡ at_once TooLong) e long) in
    let none : command ∷ (limited s.commands (if closed then ending_of s.rest else TooLong)).commands ≡ [] = ap (λ (c : Cutting). c.commands) first in
    cc

pub cut_within-command : (read : ℕ) (bytes command next rest : List ℕ) → ((closed : Bool) (more : List ℕ) → split_of closed (bytes ++ more) ≡ behind_command command (split_of closed (next ++ more))) → length command ≤ command_limit → cut_within read bytes rest ≡ and_first command (cut_within read next rest)
unfolding cut_within
cut_within-command read bytes command next rest e h =
    elim (nat_le (read + length rest) input_limit) as (λ b. (if b then framed true (bytes ++ rest) else framed false (bytes ++ take (input_limit - read) rest)) ≡ and_first command (if b then framed true (next ++ rest) else framed false (next ++ take (input_limit - read) rest))) [
      | true ↦ framed-command true (bytes ++ rest) command (next ++ rest) (e true rest) h
      | false ↦ framed-command false (bytes ++ take (input_limit - read) rest) command (next ++ take (input_limit - read) rest) (e false (take (input_limit - read) rest)) h
    ]

pub cut_within-long : (read : ℕ) (bytes rest : List ℕ) → IsTooLong bytes → cut_within read bytes rest ≡ at_once TooLong
unfolding cut_within
cut_within-long read bytes rest long =
    elim (nat_le (read + length rest) input_limit) as (λ b. (if b then framed true (bytes ++ rest) else framed false (bytes ++ take (input_limit - read) rest)) ≡ at_once TooLong) [
      | true ↦ long true rest
      | false ↦ long false (take (input_limit - read) rest)
    ]

-- bytes that are read move from the rest to what is ahead
pub cut_within-read : (read : ℕ) (bytes piece rest : List ℕ) → read + length piece ≤ input_limit → cut_within read bytes (piece ++ rest) ≡ cut_within (read + length piece) (bytes ++ piece) rest
unfolding cut_within
cut_within-read read bytes piece rest h =
    let sizes : read + length (piece ++ rest) ≡ (read + length piece) + length rest = omega (arith, length-append piece rest) in
    let room : input_limit - read ≡ length piece + (input_limit - (read + length piece)) = omega arith in
    let fronts : take (input_limit - read) (piece ++ rest) ≡ piece ++ take (input_limit - (read + length piece)) rest = ap (λ n. take n (piece ++ rest)) room ∙ take-append-add piece rest (input_limit - (read + length piece)) in
    rw (sizes, fronts, ← append_assoc bytes piece rest, ← append_assoc bytes piece (take (input_limit - (read + length piece)) rest)) refl

-- nothing is left of the input
pub cut_within-end : (read : ℕ) (bytes : List ℕ) → read ≤ input_limit → cut_within read bytes [] ≡ framed true bytes
unfolding cut_within
cut_within-end read bytes h = rw (le-leb (read + 0) input_limit (omega arith), append-nil bytes) refl

-- the input goes on behind its limit
pub cut_within-past : (read : ℕ) (bytes rest : List ℕ) → read ≡ input_limit → 0 < length rest → split_of false bytes ≡ record { commands = []; rest = bytes } → cut_within read bytes rest ≡ at_once TooLong
unfolding cut_within framed
cut_within-past read bytes rest e h none =
    let past : nat_le (read + length rest) input_limit ≡ false = lt-leb (read + length rest) input_limit (omega arith) in
    let room : input_limit - read ≡ 0 = omega arith in
    rw (past, room, append-nil bytes, none) refl

-- all of an input, before anything was read
pub cut_within-all : (input : List ℕ) → cut_within 0 [] input ≡ cut_of input
unfolding cut_within cut_of
cut_within-all input = rw zero-add refl

-- Where neither a term nor a formula goes on.
use Rattle.std.proofs.Common.{List, [], ◌∷◌}
use Rattle.kv_lex.specs.Marks.{OPEN_BRACE, CLOSE_BRACE, SEMICOLON, BAR}
use Rattle.kv_lex.specs.declared.token.TokenKind.{TokenKind}
use Rattle.kv_lex.specs.declared.token.TokenKind.TheVariants.{Word, Mark}
use Rattle.kv_pexpr.specs.Grammar.{Stops, TermStops}
use Rattle.kv_table.specs.Keywords as word

-- nothing goes on behind the last token
pub no_more : Stops []
no_more us = (λ e. cc, λ e. cc, λ e. cc, λ e. cc, λ e. cc, λ e. cc)

pub semicolon_stops : (us : List TokenKind) → Stops (Mark SEMICOLON ∷ us)
semicolon_stops us vs = (λ e. cc, λ e. cc, λ e. cc, λ e. cc, λ e. cc, λ e. cc)

pub open_brace_stops : (us : List TokenKind) → Stops (Mark OPEN_BRACE ∷ us)
open_brace_stops us vs = (λ e. cc, λ e. cc, λ e. cc, λ e. cc, λ e. cc, λ e. cc)

pub close_brace_stops : (us : List TokenKind) → Stops (Mark CLOSE_BRACE ∷ us)
close_brace_stops us vs = (λ e. cc, λ e. cc, λ e. cc, λ e. cc, λ e. cc, λ e. cc)

pub bar_stops : (us : List TokenKind) → Stops (Mark BAR ∷ us)
bar_stops us vs = (λ e. cc, λ e. cc, λ e. cc, λ e. cc, λ e. cc, λ e. cc)

pub qed_stops : (us : List TokenKind) → Stops (Word word.QED ∷ us)
qed_stops us vs = (λ e. cc, λ e. cc, λ e. cc, λ e. cc, λ e. cc, λ e. cc)

-- where a formula can't go on, a term can't
pub term_stops : (us : List TokenKind) → Stops us → TermStops us
term_stops us stop vs = (stop vs).0

-- A law of tokens.
use Rattle.std.specs.Prelude.{ℕ, ◌≡◌, ◌↔◌, List}
use Rattle.kv_lex.specs.Texts.{Lexed, IsLexed}
use Rattle.kv_lex.specs.Tokens.{lexed}

-- what is read of a text is what the text is, and nothing else is
abbrev pub ReadsExactly : Type 0
ReadsExactly = (text : List ℕ) (read : Lexed) → (lexed text ≡ read) ↔ IsLexed text read

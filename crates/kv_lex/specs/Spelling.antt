-- How the tokens of a text stand in it.
use Rattle.std.specs.Prelude.{ℕ, ◌≡◌, ◌≤◌, ◌<◌, true, List, [], ◌∷◌, length, Some, slice_get, slice_range}
use Rattle.std.specs.Str.{all_ascii_digits}
use Rattle.std.specs.Str.Parse.{digits_value}
use Rattle.kv_table.specs.Keywords.{keyword_rows}
use Rattle.kv_lex.specs.declared.token.Token.{Token}
use Rattle.kv_lex.specs.declared.token.TokenKind.{TokenKind}
use Rattle.kv_lex.specs.declared.token.TokenKind.TheVariants.{Word, Ident, Number, Mark}
use Rattle.kv_lex.specs.Marks.{mark_rows}

-- the text spells a token of this kind
abbrev pub Spells : List ℕ → TokenKind → Type 0
Spells text (Word row) = slice_get keyword_rows row ≡ Some text
Spells text (Ident name) = text ≡ name
Spells text (Number value) = (all_ascii_digits text ≡ true) × (digits_value 10 text ≡ value)
Spells text (Mark row) = slice_get mark_rows row ≡ Some text

-- the tokens stand in the text one after another, from the byte `at` on, and none is empty; the bytes of each spell it
abbrev pub StandIn : List ℕ → ℕ → List Token → Type 0
StandIn text at [] = Unit {0}
StandIn text at (t ∷ ts) =
    (at ≤ t.from) × (t.from < t.to) × (t.to ≤ length text) × Spells (slice_range text t.from t.to) t.kind × StandIn text t.to ts

-- How far a reading reaches.
use Rattle.std.proofs.Common.{◌≡◌, ◌≤◌, List, length, refl}
use Rattle.std.specs.Prelude.{Option, Some, None}
use Rattle.kv_lex.specs.declared.token.TokenKind.{TokenKind}
use Rattle.kv_pexpr.specs.Parse.{or_stay, Read}

-- a reading is found that leaves at most these tokens behind it
abbrev pub Reaches : {P : Type 0} → List TokenKind → Read P → Type 0
Reaches {P} us x = (r : P × List TokenKind) × (x ≡ Some r) × (length r.1 ≤ length us)

-- what the item reads leaves no more tokens than it was given
abbrev pub Takes : {P : Type 0} → (List TokenKind → Read P) → Type 0
Takes {P} item = (ts : List TokenKind) (s : P × List TokenKind) → item ts ≡ Some s → length s.1 ≤ length ts

-- a longer reading and the one that stays both reach as far
pub or_reaches : {A P : Type 0} (us : List TokenKind) (stay : Read P) (go : A → Read P) (o : Option A)
    → Reaches us stay → ((s : A) → o ≡ Some s → Reaches us (go s)) → Reaches us (or_stay stay go o)
or_reaches us stay go None stays goes = stays
or_reaches us stay go (Some s) stays goes = goes s refl

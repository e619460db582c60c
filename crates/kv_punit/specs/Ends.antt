-- Where theorems, proofs and units end.
use Rattle.std.specs.Prelude.{◌≡◌, List, None}
use Rattle.kv_lex.specs.declared.token.TokenKind.{TokenKind}
use Rattle.kv_pexpr.specs.Parse.{eat_word}
use Rattle.kv_table.specs.Keywords as word
use Rattle.kv_syn.specs.Projects as P
use Rattle.kv_punit.specs.Grammar.{AreTheorems, AreProofs, IsUnit}

-- no theorem begins there, no proof begins there
abbrev pub NoTheorem : List TokenKind → Type 0
NoTheorem us = eat_word word.THEOREM us ≡ None

abbrev pub NoProof : List TokenKind → Type 0
NoProof us = eat_word word.PROOF us ≡ None

abbrev pub Ends : List TokenKind → Type 0
Ends us = NoTheorem us × NoProof us

-- all the theorems that come first, all the proofs, and a unit with all its theorems and proofs
abbrev pub AllTheorems : List TokenKind → List P.Theorem × List TokenKind → Type 0
AllTheorems ts r = AreTheorems ts r.0 r.1 × NoTheorem r.1

abbrev pub AllProofs : List TokenKind → List P.Proof × List TokenKind → Type 0
AllProofs ts r = AreProofs ts r.0 r.1 × NoProof r.1

abbrev pub WholeUnit : List TokenKind → P.Unit × List TokenKind → Type 0
WholeUnit ts r = IsUnit ts r.0 r.1 × Ends r.1

-- The words of the rules that texts have.
use Rattle.std.proofs.Common.{ℕ, ◌≡◌, List, [], ◌∷◌, refl, sym, subst, inl, inr}
use Rattle.std.specs.Prelude.{Bool, true, false, cond, ◌||◌, ◌==◌, nat_le, Option, Some, None, length, ◌⊎◌}
use Rattle.std.proofs.lemmas.Bool.{eqb-true}
use Rattle.kv_lex.specs.Tokens as lex
use Rattle.kv_lex.specs.declared.token.TokenKind.TheVariants.{Ident}
use Rattle.kv_print.specs.Texts.{word}
use Rattle.kv_punit.specs.Steps.{takes, is_one_of}
use Rattle.kv_punit.specs.declared.steps.Takes.{Takes}
use Rattle.kv_punit.specs.declared.steps.Takes.TheVariants as take
use Rattle.kv_punit.proofs.Before.{cond_some}
use Rattle.kv_session.proofs.Words.{is_word}
use Rattle.kv_table.specs.Names.{row_of}
use Rattle.kv_table.specs.Rules.{rule_rows}
use Rattle.kv_table.specs.Keywords.{keyword_rows}
use Rattle.kv_table.specs.Rules as rule

-- the word of a rule is a name, by which the rule is found
pub record IsRuleWord (row : ℕ) : Type 0 where
  pub letters : is_word (word rule_rows row) ≡ true
  pub short : nat_le (length (word rule_rows row)) 64 ≡ true
  pub name : lex.word (word rule_rows row) ≡ Some (Ident (word rule_rows row))
  pub found : row_of rule_rows (word rule_rows row) ≡ Some row

abbrev Each : (ℕ → Type 0) → List ℕ → Type 0
Each P [] = Unit {0}
Each P (r ∷ rs) = P r × Each P rs

or_true : (a b : Bool) → (a || b) ≡ true → (a ≡ true) ⊎ (b ≡ true)
or_true true b e = inl refl
or_true false b e = inr e

-- what is told of each row of a list is told of one of them
one_of : (P : ℕ → Type 0) (rs : List ℕ) (row : ℕ) → is_one_of rs row ≡ true → Each P rs → P row
one_of P [] row e each = absurd (cc)
one_of P (r ∷ rs) row e each = elim (or_true (row == r) (is_one_of rs row) e) [
  | inl here ↦ subst P (sym (eqb-true row r here)) each.0
  | inr there ↦ one_of P rs row there each.1
]

-- what is told of the rows of a list, and of the rows that come to the other answer
either : (P : ℕ → Type 0) (rs : List ℕ) (row : ℕ) (x y : Option Takes) (what : Takes) → cond (is_one_of rs row) x y ≡ Some what → (x ≡ Some what → Each P rs) → (y ≡ Some what → P row) → P row
either P rs row x y what e here others = elim (cond_some (is_one_of rs row) x y e) [
  | inl a ↦ one_of P rs row a.0 (here a.1)
  | inr b ↦ others b
]

-- ---- the words of the rules, by what these take

abbrev one_rows : List ℕ
one_rows = rule.FALSE_L ∷ rule.TRUE_R ∷ rule.NOT_L ∷ rule.NOT_R ∷ rule.AND_L ∷ rule.OR_R ∷ rule.AND_R ∷ rule.OR_L ∷ rule.IMP_L ∷ rule.IMP_R ∷ rule.IFF_L ∷ rule.IFF_R ∷ rule.DROP_L ∷ rule.DROP_R ∷ rule.REFL ∷ []

abbrev two_rows : List ℕ
two_rows = rule.CLOSE ∷ []

abbrev name_rows : List ℕ
name_rows = rule.ALL_R ∷ rule.EX_L ∷ []

abbrev term_rows : List ℕ
term_rows = rule.ALL_L ∷ rule.EX_R ∷ []

abbrev form_rows : List ℕ
form_rows = rule.CUT ∷ []

abbrev side_rows : List ℕ
side_rows = rule.SWAP ∷ []

abbrev two_sided_rows : List ℕ
two_sided_rows = rule.SUBST ∷ []

one_words : Each IsRuleWord one_rows
unfolding rule_rows keyword_rows
one_words = (record { letters = refl; short = refl; name = refl; found = refl }, (record { letters = refl; short = refl; name = refl; found = refl }, (record { letters = refl; short = refl; name = refl; found = refl }, (record { letters = refl; short = refl; name = refl; found = refl }, (record { letters = refl; short = refl; name = refl; found = refl }, (record { letters = refl; short = refl; name = refl; found = refl }, (record { letters = refl; short = refl; name = refl; found = refl }, (record { letters = refl; short = refl; name = refl; found = refl }, (record { letters = refl; short = refl; name = refl; found = refl }, (record { letters = refl; short = refl; name = refl; found = refl }, (record { letters = refl; short = refl; name = refl; found = refl }, (record { letters = refl; short = refl; name = refl; found = refl }, (record { letters = refl; short = refl; name = refl; found = refl }, (record { letters = refl; short = refl; name = refl; found = refl }, (record { letters = refl; short = refl; name = refl; found = refl }, tt)))))))))))))))

two_words : Each IsRuleWord two_rows
unfolding rule_rows keyword_rows
two_words = (record { letters = refl; short = refl; name = refl; found = refl }, tt)

name_words : Each IsRuleWord name_rows
unfolding rule_rows keyword_rows
name_words = (record { letters = refl; short = refl; name = refl; found = refl }, (record { letters = refl; short = refl; name = refl; found = refl }, tt))

term_words : Each IsRuleWord term_rows
unfolding rule_rows keyword_rows
term_words = (record { letters = refl; short = refl; name = refl; found = refl }, (record { letters = refl; short = refl; name = refl; found = refl }, tt))

form_words : Each IsRuleWord form_rows
unfolding rule_rows keyword_rows
form_words = (record { letters = refl; short = refl; name = refl; found = refl }, tt)

side_words : Each IsRuleWord side_rows
unfolding rule_rows keyword_rows
side_words = (record { letters = refl; short = refl; name = refl; found = refl }, tt)

two_sided_words : Each IsRuleWord two_sided_rows
unfolding rule_rows keyword_rows
two_sided_words = (record { letters = refl; short = refl; name = refl; found = refl }, tt)

-- where the answers so far aren't given
abbrev from_subst : ℕ → Option Takes
from_subst row = cond (is_one_of two_sided_rows row) (Some take.TwoSided) None

abbrev from_swap : ℕ → Option Takes
from_swap row = cond (is_one_of side_rows row) (Some take.Side) (from_subst row)

abbrev from_cut : ℕ → Option Takes
from_cut row = cond (is_one_of form_rows row) (Some take.Form) (from_swap row)

abbrev from_terms : ℕ → Option Takes
from_terms row = cond (is_one_of term_rows row) (Some take.Term) (from_cut row)

abbrev from_names : ℕ → Option Takes
from_names row = cond (is_one_of name_rows row) (Some take.Name) (from_terms row)

abbrev from_close : ℕ → Option Takes
from_close row = cond (is_one_of two_rows row) (Some take.Two) (from_names row)

-- what is told of the rules of each kind is told of a rule that takes something
by_kind : (P : ℕ → Type 0) (row : ℕ) (what : Takes) → takes row ≡ Some what
    → (Some take.One ≡ Some what → Each P one_rows) → (Some take.Two ≡ Some what → Each P two_rows) → (Some take.Name ≡ Some what → Each P name_rows)
    → (Some take.Term ≡ Some what → Each P term_rows) → (Some take.Form ≡ Some what → Each P form_rows) → (Some take.Side ≡ Some what → Each P side_rows)
    → (Some take.TwoSided ≡ Some what → Each P two_sided_rows) → P row
unfolding takes
by_kind P row what e one two name term form side two_sided =
    either P one_rows row (Some take.One) (from_close row) what e one
    (λ e. either P two_rows row (Some take.Two) (from_names row) what e two
    (λ e. either P name_rows row (Some take.Name) (from_terms row) what e name
    (λ e. either P term_rows row (Some take.Term) (from_cut row) what e term
    (λ e. either P form_rows row (Some take.Form) (from_swap row) what e form
    (λ e. either P side_rows row (Some take.Side) (from_subst row) what e side
    (λ e. either P two_sided_rows row (Some take.TwoSided) None what e two_sided (λ e. absurd (cc))))))))

pub rule_word : (row : ℕ) (what : Takes) → takes row ≡ Some what → IsRuleWord row
rule_word row what e =
    by_kind IsRuleWord row what e (λ _. one_words) (λ _. two_words) (λ _. name_words) (λ _. term_words) (λ _. form_words) (λ _. side_words) (λ _. two_sided_words)

-- only one rule takes a formula
pub cut_row : (row : ℕ) → takes row ≡ Some take.Form → (row == rule.CUT) ≡ true
cut_row row e =
    by_kind (λ r. (r == rule.CUT) ≡ true) row take.Form e (λ e. absurd (cc)) (λ e. absurd (cc)) (λ e. absurd (cc)) (λ e. absurd (cc)) (λ e. (refl, tt)) (λ e. absurd (cc)) (λ e. absurd (cc))

-- From the answers to the parts of a text of one unit, one script or one command to the answer to the text.
use Rattle.std.proofs.Common.{ℕ, ◌≡◌, List, ap, ◌∙◌, sym, subst}
use Rattle.std.specs.Prelude.{Result, Ok, Err, IfOk, true}
use Rattle.kv_lex.specs.Tokens.{lexed}
use Rattle.kv_lex.specs.Tokens as lex
use Rattle.kv_lex.specs.declared.token.LexError.{LexError}
use Rattle.kv_lex.specs.declared.token.LexError.TheVariants as fault
use Rattle.kv_lex.specs.declared.token.Token.{Token}
use Rattle.kv_lex.specs.declared.token.TokenKind.{TokenKind}
use Rattle.kv_pexpr.specs.Gives.{kinds}
use Rattle.kv_pexpr.specs.declared.errors.ReadError.{ReadError}
use Rattle.kv_pexpr.specs.declared.errors.ReadError.TheVariants as reader
use Rattle.kv_syn.specs.Projects as P
use Rattle.kv_syn.specs.Scripts.{Script}
use Rattle.kv_punit.specs.Commands.{Command, HasShortScript, has_readable_unit, plain_command}
use Rattle.kv_punit.specs.declared.commands.Command as code
use Rattle.kv_punit.specs.Errors.{of_reader, of_lexer}
use Rattle.kv_punit.specs.Gives.{Finds}
use Rattle.kv_punit.specs.Grammar.{IsCommand}
use Rattle.kv_punit.specs.Readings.{IsLoneHead, IsLoneScript, IsOne, Spells}
use Rattle.kv_punit.specs.Settles.{Limits}
use Rattle.kv_punit.proofs.Told.{Tells}
use Rattle.kv_punit.specs.ReadsAs.{IsRefused}
use Rattle.kv_punit.specs.declared.errors.TextError.{TextError}
use Rattle.kv_punit.specs.declared.errors.TextError.TheVariants as error
use Rattle.kv_punit.specs.declared.errors.Which.TheVariants.{Steps, Units, Theorems}
use Rattle.kv_punit.proofs.Alone.{no_child}
use Rattle.kv_punit.proofs.Asked as asked
use Rattle.kv_punit.proofs.Exact.{exact_script}
use Rattle.kv_punit.proofs.One.{one_head}
use Rattle.kv_pexpr.proofs.Steps.{some_is}

module _ {X Y : Type 0} (Is : List TokenKind → Y → Type 0) (Keeps : Y → Type 0) (view : X → Y) (text : List ℕ) where
  pub lexer_error : (e : LexError) → lex.Gives (Err e) (lexed text) → Tells Is Keeps view text (Err (of_lexer e))
  lexer_error (fault.Token place) gives = gives
  lexer_error fault.NoMemory gives = tt

  pub reader_error : (tokens : List Token) (e : ReadError) → lexed text ≡ Ok tokens → Finds view (Is (kinds tokens)) (Err e) → Tells Is Keeps view text (Err (of_reader e))
  reader_error tokens reader.Syntax is none = (tokens, is, none)
  reader_error tokens reader.NoMemory is none = tt

  pub too_many : (tokens : List Token) (x : X) → lexed text ≡ Ok tokens → Is (kinds tokens) (view x) → (Keeps (view x) → ⊥) → Tells Is Keeps view text (Err (error.Limit Steps))
  too_many tokens x is spelt many = (tokens, is, (view x, spelt, many))

  pub found : (tokens : List Token) (x : X) → lexed text ≡ Ok tokens → Is (kinds tokens) (view x) → Keeps (view x) → Tells Is Keeps view text (Ok x)
  found tokens x is spelt few = record { tokens = tokens; lexes = is; spelt = spelt; few_steps = few }

  pub handed_on : (r : Result X TextError) (e y : TextError) → Tells Is Keeps view text (Err e) → r ≡ Err y → y ≡ e → Tells Is Keeps view text r
  handed_on r e y is same to = subst (Tells Is Keeps view text) (sym (same ∙ ap (λ x. Err x) to)) is

  pub read_of : (r : Result X TextError) → Tells Is Keeps view text r → IfOk r (λ x. Spells Is Keeps text (view x))
  read_of (Ok x) is = is
  read_of (Err e) is = tt

  same_tokens : {y : Y} {tokens : List Token} → lexed text ≡ Ok tokens → (r : Spells Is Keeps text y) → r.tokens ≡ tokens
  same_tokens is r = let e = r.lexes in cc

  spelt_by : (y : Y) (tokens : List Token) → lexed text ≡ Ok tokens → (r : Spells Is Keeps text y) → Is (kinds tokens) y
  spelt_by y tokens is r = subst (λ x. Is (kinds x) y) (same_tokens is r) r.spelt

  module _ (one : (ts : List TokenKind) (x y : Y) → Is ts x → Is ts y → x ≡ y) where
    pub refused : (r : Result X TextError) → Tells Is Keeps view text r → IsRefused r → (y : Y) → Spells Is Keeps text y → ⊥
    refused (Ok x) is told y reads = told
    refused (Err (error.Token place)) is told y reads = absurd (let e = reads.lexes in cc)
    refused (Err error.Syntax) is told y reads = is.2 y (spelt_by y is.0 is.1 reads)
    refused (Err (error.Limit Steps)) is told y reads =
        let q = is.2 in
        q.2 (subst Keeps (one (kinds is.0) y q.0 (spelt_by y is.0 is.1 reads) q.1) reads.few_steps)
    refused (Err (error.Limit Units)) is told y reads = is
    refused (Err (error.Limit Theorems)) is told y reads = is
    refused (Err error.Version) is told y reads = is
    refused (Err error.NoMemory) is told y reads = told

    pub one_of : (x y : Y) → Spells Is Keeps text x → Spells Is Keeps text y → x ≡ y
    one_of x y r s = one (kinds s.tokens) x y (spelt_by x s.tokens s.lexes r) s.spelt

-- one spelling is one thing
pub one_unit : (ts : List TokenKind) (x y : P.Unit) → IsLoneHead ts x → IsLoneHead ts y → x ≡ y
one_unit ts x y r s = (one_head r s).0

pub one_script : (ts : List TokenKind) (x y : Script) → IsLoneScript ts x → IsLoneScript ts y → x ≡ y
one_script ts x y r s = ap (λ z. z.0) (some_is (sym (exact_script r no_child) ∙ exact_script s no_child))

pub one_command : (ts : List TokenKind) (x y : Command) → IsCommand ts x → IsCommand ts y → x ≡ y
one_command ts x y r s = asked.one_command r s

-- a command that the tokens spell, behind its limit
pub limited : (text : List ℕ) (tokens : List Token) (command : code.Command) (result : Result code.Command TextError) → lexed text ≡ Ok tokens → IsCommand (kinds tokens) (plain_command command)
    → has_readable_unit command ≡ true → Limits command result → Tells IsCommand HasShortScript plain_command text result × IfOk result (λ c. has_readable_unit c ≡ true)
limited text tokens command (Ok same) lexes spelt readable (is, few) = (
  subst (λ c. Tells IsCommand HasShortScript plain_command text (Ok c)) (sym is) (found IsCommand HasShortScript plain_command text tokens command lexes spelt few),
  subst (λ c. has_readable_unit c ≡ true) (sym is) readable,
)
limited text tokens command (Err fault) lexes spelt readable (is, many) =
    (subst (λ f. Tells {X = code.Command} IsCommand HasShortScript plain_command text (Err f)) (sym is) (too_many IsCommand HasShortScript plain_command text tokens command lexes spelt many), tt)

-- From the answers to the parts of a text to the answer to the text.
use Rattle.std.proofs.Common.{ℕ, ◌≡◌, List, [], ◌∷◌, refl, ap, ◌∙◌, sym, subst}
use Rattle.std.specs.Prelude.{Some, Result, Ok, Err, IfOk}
use Rattle.kv_lex.specs.Tokens.{lexed}
use Rattle.kv_lex.specs.Tokens as lex
use Rattle.kv_lex.specs.declared.token.LexError.{LexError}
use Rattle.kv_lex.specs.declared.token.LexError.TheVariants as fault
use Rattle.kv_lex.specs.declared.token.Token.{Token}
use Rattle.kv_lex.specs.declared.token.TokenKind.{TokenKind}
use Rattle.kv_lex.specs.declared.token.TokenKind.TheVariants.{Word, Number}
use Rattle.kv_pexpr.specs.Gives.{kinds, Gives}
use Rattle.kv_pexpr.specs.declared.errors.ReadError.{ReadError}
use Rattle.kv_pexpr.specs.declared.errors.ReadError.TheVariants as reader
use Rattle.kv_pexpr.specs.Parse.{eat_word}
use Rattle.kv_pexpr.proofs.Steps.{given_some, word_some}
use Rattle.kv_syn.specs.Projects as P
use Rattle.kv_syn.specs.declared.projects.Project.{Project}
use Rattle.kv_table.specs.Keywords as word
use Rattle.kv_punit.specs.Errors.{of_reader, of_lexer}
use Rattle.kv_punit.specs.Gives.{Finds}
use Rattle.kv_punit.specs.Limits.{HasFewSteps, HasFewUnits, HasFewTheorems}
use Rattle.kv_punit.specs.Grammar as g
use Rattle.kv_punit.specs.Grammar.{AreUnits, IsProject}
use Rattle.kv_punit.specs.Parse as spec
use Rattle.kv_punit.specs.ReadsAs.{IsOtherVersion, IsRefused, Reads, OneProject}
use Rattle.kv_punit.specs.Settles.{Settles}
use Rattle.kv_punit.proofs.Told.{TellsProject}
use Rattle.kv_punit.specs.declared.errors.TextError.{TextError}
use Rattle.kv_punit.specs.declared.errors.TextError.TheVariants as error
use Rattle.kv_punit.specs.declared.errors.Which.TheVariants.{Steps, Units, Theorems}
use Rattle.kv_punit.proofs.Before.{number_some}
use Rattle.kv_punit.proofs.One.{one_spelling}
use Rattle.kv_syn.specs.ProjectBridge.{plain_project}

-- the tokens behind the version
pub version_some : (ts : List TokenKind) (r : ℕ × List TokenKind) → spec.version ts ≡ Some r → ts ≡ Word word.PROJECT ∷ Number r.0 ∷ r.1
version_some ts r e =
    let a = given_some (eat_word word.PROJECT ts) spec.eat_number e in
    rw (word_some word.PROJECT ts a.0 a.1, number_some a.0 r a.2)

version_reads : (ts rest : List TokenKind) (n : ℕ) → ts ≡ Word word.PROJECT ∷ Number n ∷ rest → spec.version ts ≡ Some (n, rest)
version_reads ts rest n e = rw e

pub project_from : (ts rest : List TokenKind) (p : P.Project) → ts ≡ Word word.PROJECT ∷ Number 1 ∷ rest → AreUnits rest p [] → IsProject ts p
project_from ts rest p e are = rw e (g.project are)

pub project_units : {ts : List TokenKind} {p : P.Project} → IsProject ts p → (rest : List TokenKind) × (ts ≡ Word word.PROJECT ∷ Number 1 ∷ rest) × AreUnits rest p []
project_units (g.project {ts = ts} are) = (ts, refl, are)

pub project_rest : (ts rest : List TokenKind) (p : P.Project) → ts ≡ Word word.PROJECT ∷ Number 1 ∷ rest → IsProject ts p → AreUnits rest p []
project_rest ts rest p e is =
    let u = project_units is in
    let same : u.0 ≡ rest = cc (u.1, e) in
    subst (λ us. AreUnits us p []) same u.2

pub not_other : (ts rest : List TokenKind) → ts ≡ Word word.PROJECT ∷ Number 1 ∷ rest → IsOtherVersion ts → ⊥
not_other ts rest e other = other.3 (cc (other.2, e))

-- an error of the lexer
pub lexer_error : (text : List ℕ) (e : LexError) → lex.Gives (Err e) (lexed text) → TellsProject text (Err (of_lexer e))
lexer_error text (fault.Token place) gives = gives
lexer_error text fault.NoMemory gives = tt

-- no version
pub version_error : {X : Type 0} (view : X → ℕ × List TokenKind) (text : List ℕ) (tokens : List Token) (e : ReadError) → lexed text ≡ Ok tokens
    → Gives view (Err e) (spec.version (kinds tokens)) → TellsProject text (Err (of_reader e))
version_error view text tokens reader.Syntax is gives = (
  tokens,
  is,
  (λ other. absurd (let f = version_reads (kinds tokens) other.1 other.0 other.2 in cc (f, gives))),
  λ p spelt first. absurd (let u = project_units spelt in let f = version_reads (kinds tokens) u.0 1 u.1 in cc (f, gives)),
)
version_error view text tokens reader.NoMemory is gives = tt

-- another version
pub other_version : (text : List ℕ) (tokens : List Token) (n : ℕ) (rest : List TokenKind) → lexed text ≡ Ok tokens → spec.version (kinds tokens) ≡ Some (n, rest)
    → (n ≡ 1 → ⊥) → TellsProject text (Err error.Version)
other_version text tokens n rest is gives other = (tokens, is, (n, rest, version_some (kinds tokens) (n, rest) gives, other))

-- no units
pub units_error : {X : Type 0} (view : X → P.Project) (ts : List TokenKind) (e : ReadError) → Finds view (λ p. AreUnits ts p []) (Err e) → Settles (λ p. AreUnits ts p []) (Err (of_reader e))
units_error view ts reader.Syntax none = λ p are well. none p are
units_error view ts reader.NoMemory none = tt

-- what stands behind the version
pub behind_version : (text : List ℕ) (tokens : List Token) (rest : List TokenKind) (r : Result Project TextError) → lexed text ≡ Ok tokens
    → spec.version (kinds tokens) ≡ Some (1, rest) → Settles (λ p. AreUnits rest p []) r → TellsProject text r
behind_version text tokens rest (Ok p) is gives s =
    let e = version_some (kinds tokens) (1, rest) gives in
    record { tokens = tokens; lexes = is; spelt = project_from (kinds tokens) rest (plain_project p) e s.0; wellformed = s.1; few_steps = s.2; few_units = s.3; few_theorems = s.4 }
behind_version text tokens rest (Err error.Syntax) is gives s =
    let e = version_some (kinds tokens) (1, rest) gives in
    (tokens, is, not_other (kinds tokens) rest e, λ q spelt first. s q (project_rest (kinds tokens) rest q e spelt) first)
behind_version text tokens rest (Err (error.Limit Steps)) is gives s =
    let e = version_some (kinds tokens) (1, rest) gives in
    (tokens, is, not_other (kinds tokens) rest e, (s.0, project_from (kinds tokens) rest s.0 e s.1, s.2, s.3))
behind_version text tokens rest (Err (error.Limit Units)) is gives s =
    let e = version_some (kinds tokens) (1, rest) gives in
    (tokens, is, not_other (kinds tokens) rest e, (s.0, project_from (kinds tokens) rest s.0 e s.1, s.2, s.3, s.4))
behind_version text tokens rest (Err (error.Limit Theorems)) is gives s =
    let e = version_some (kinds tokens) (1, rest) gives in
    (tokens, is, not_other (kinds tokens) rest e, (s.0, project_from (kinds tokens) rest s.0 e s.1, s.2, s.3, s.4, s.5))
behind_version text tokens rest (Err (error.Token place)) is gives s = absurd s
behind_version text tokens rest (Err error.Version) is gives s = absurd s
behind_version text tokens rest (Err error.NoMemory) is gives s = tt

-- an error that is handed on
pub handed_on : (text : List ℕ) (r : Result Project TextError) (e y : TextError) → TellsProject text (Err e) → r ≡ Err y → y ≡ e → TellsProject text r
handed_on text r e y is same to = subst (TellsProject text) (sym (same ∙ ap (λ x. Err x) to)) is

-- what is told of each answer
pub read_of : (text : List ℕ) (r : Result Project TextError) → TellsProject text r → IfOk r (λ p. Reads text (plain_project p))
read_of text (Ok p) is = is
read_of text (Err e) is = tt

same_tokens : {text : List ℕ} {tokens : List Token} {p : P.Project} → lexed text ≡ Ok tokens → (r : Reads text p) → r.tokens ≡ tokens
same_tokens is r = let e = r.lexes in cc

spelt_by : {text : List ℕ} {p : P.Project} (tokens : List Token) → lexed text ≡ Ok tokens → (r : Reads text p) → IsProject (kinds tokens) p
spelt_by {text} {p} tokens is r = subst (λ x. IsProject (kinds x) p) (same_tokens is r) r.spelt

pub refused : (text : List ℕ) (r : Result Project TextError) → TellsProject text r → IsRefused r → (p : P.Project) → Reads text p → ⊥
refused text (Ok q) is told p reads = told
refused text (Err (error.Token place)) is told p reads = absurd (let e = reads.lexes in cc)
refused text (Err error.Version) is told p reads =
    let u = project_units (spelt_by is.0 is.1 reads) in
    not_other (kinds is.0) u.0 u.1 is.2
refused text (Err error.Syntax) is told p reads = is.3 p (spelt_by is.0 is.1 reads) reads.wellformed
refused text (Err (error.Limit Steps)) is told p reads =
    let q = is.3 in
    q.3 (subst HasFewSteps (one_spelling (kinds is.0) p q.0 (spelt_by is.0 is.1 reads) q.1) reads.few_steps)
refused text (Err (error.Limit Units)) is told p reads =
    let q = is.3 in
    q.4 (subst HasFewUnits (one_spelling (kinds is.0) p q.0 (spelt_by is.0 is.1 reads) q.1) reads.few_units)
refused text (Err (error.Limit Theorems)) is told p reads =
    let q = is.3 in
    q.5 (subst HasFewTheorems (one_spelling (kinds is.0) p q.0 (spelt_by is.0 is.1 reads) q.1) reads.few_theorems)
refused text (Err error.NoMemory) is told p reads = told

pub one_project : OneProject
one_project text p q r s = one_spelling (kinds s.tokens) p q (spelt_by s.tokens s.lexes r) s.spelt

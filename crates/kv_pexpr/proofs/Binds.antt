-- How tightly the first token binds to what stands before it, and where nothing goes on.
use Rattle.std.proofs.Common.{ℕ, ◌≡◌, ◌<◌, List, [], ◌∷◌, refl, ap, arith, inl, inr, lit<}
use Rattle.std.specs.Prelude.{Bool, true, false, if◌then◌else◌, cond, ◌==◌, Some, None}
use Rattle.std.proofs.lemmas.Bool.Decides.{eqb_tells}
use Rattle.kv_lex.specs.declared.token.TokenKind.{TokenKind}
use Rattle.kv_lex.specs.declared.token.TokenKind.TheVariants.{Word, Ident, Number, Mark}
use Rattle.kv_lex.specs.Marks.{OPEN, COMMA, EQUAL, ARROW, DOUBLE_ARROW}
use Rattle.kv_table.specs.Keywords.{AND, OR}
use Rattle.kv_pexpr.specs.Grammar.{Stops, TermStops}
use Rattle.kv_pexpr.specs.Parse.{eat_mark, eat_word}

abbrev pub mark_binds : ℕ → ℕ
mark_binds m = if m == OPEN then 0 else (if m == EQUAL then 1 else (if m == ARROW then 4 else (if m == DOUBLE_ARROW then 5 else (if m == COMMA then 6 else 7))))

abbrev pub word_binds : ℕ → ℕ
word_binds w = if w == AND then 2 else (if w == OR then 3 else 7)

abbrev pub binds : List TokenKind → ℕ
binds [] = 7
binds (Word w ∷ ts) = word_binds w
binds (Ident n ∷ ts) = 7
binds (Number n ∷ ts) = 7
binds (Mark m ∷ ts) = mark_binds m

none_if : {X : Type 0} (a b : ℕ) (x : X) (f : ℕ → ℕ) → f b < f a → cond (a == b) (Some x) None ≡ None
none_if a b x f h = elim (eqb_tells a b) [ inl e ↦ absurd (let same : f a ≡ f b = ap f e.1 in omega arith) | inr e ↦ ap (λ t. cond t (Some x) None) e.0 ]

pub no_mark : (m : ℕ) (us : List TokenKind) → mark_binds m < binds us → eat_mark m us ≡ None
no_mark m [] h = refl
no_mark m (Word w ∷ ts) h = refl
no_mark m (Ident n ∷ ts) h = refl
no_mark m (Number n ∷ ts) h = refl
no_mark m (Mark k ∷ ts) h = none_if k m ts mark_binds h

pub no_word : (w : ℕ) (us : List TokenKind) → word_binds w < binds us → eat_word w us ≡ None
no_word w [] h = refl
no_word w (Word k ∷ ts) h = none_if k w ts word_binds h
no_word w (Ident n ∷ ts) h = refl
no_word w (Number n ∷ ts) h = refl
no_word w (Mark k ∷ ts) h = refl

-- ---- where nothing can go on

unless : (l a b x y : ℕ) → (a ≡ b → ⊥) → l < y → l < (if a == b then x else y)
unless l a b x y differs h = elim (eqb_tells a b) [ inl t ↦ absurd (differs t.1) | inr t ↦ rw t.0 h ]

either : (l x y : ℕ) (b : Bool) → l < x → l < y → l < (if b then x else y)
either l x y true h k = h
either l x y false h k = k

pub loose : (us : List TokenKind) → Stops us → 5 < binds us
loose [] stops = lit< tt
loose (Word w ∷ ts) stops =
    unless 5 w AND 2 (if w == OR then 3 else 7) (λ e. (stops ts).2 (ap (λ k. Word k ∷ ts) e))
    (unless 5 w OR 3 7 (λ e. (stops ts).3 (ap (λ k. Word k ∷ ts) e)) (lit< tt))
loose (Ident n ∷ ts) stops = lit< tt
loose (Number n ∷ ts) stops = lit< tt
loose (Mark m ∷ ts) stops =
    unless 5 m OPEN 0 (if m == EQUAL then 1 else (if m == ARROW then 4 else (if m == DOUBLE_ARROW then 5 else (if m == COMMA then 6 else 7)))) (λ e. (stops ts).0 (ap (λ k. Mark k ∷ ts) e))
    (unless 5 m EQUAL 1 (if m == ARROW then 4 else (if m == DOUBLE_ARROW then 5 else (if m == COMMA then 6 else 7))) (λ e. (stops ts).1 (ap (λ k. Mark k ∷ ts) e))
    (unless 5 m ARROW 4 (if m == DOUBLE_ARROW then 5 else (if m == COMMA then 6 else 7)) (λ e. (stops ts).4 (ap (λ k. Mark k ∷ ts) e))
    (unless 5 m DOUBLE_ARROW 5 (if m == COMMA then 6 else 7) (λ e. (stops ts).5 (ap (λ k. Mark k ∷ ts) e)) (either 5 6 7 (m == COMMA) (lit< tt) (lit< tt)))))

-- no mark but the opening bracket binds as tightly as it
no_bracket : (m : ℕ) → 0 < (if m == EQUAL then 1 else (if m == ARROW then 4 else (if m == DOUBLE_ARROW then 5 else (if m == COMMA then 6 else 7))))
no_bracket m =
    either 0 1 (if m == ARROW then 4 else (if m == DOUBLE_ARROW then 5 else (if m == COMMA then 6 else 7))) (m == EQUAL) (lit< tt)
    (either 0 4 (if m == DOUBLE_ARROW then 5 else (if m == COMMA then 6 else 7)) (m == ARROW) (lit< tt)
    (either 0 5 (if m == COMMA then 6 else 7) (m == DOUBLE_ARROW) (lit< tt) (either 0 6 7 (m == COMMA) (lit< tt) (lit< tt))))

pub term_loose : (us : List TokenKind) → TermStops us → 0 < binds us
term_loose [] stops = lit< tt
term_loose (Word w ∷ ts) stops = either 0 2 (if w == OR then 3 else 7) (w == AND) (lit< tt) (either 0 3 7 (w == OR) (lit< tt) (lit< tt))
term_loose (Ident n ∷ ts) stops = lit< tt
term_loose (Number n ∷ ts) stops = lit< tt
term_loose (Mark m ∷ ts) stops =
    unless 0 m OPEN 0 (if m == EQUAL then 1 else (if m == ARROW then 4 else (if m == DOUBLE_ARROW then 5 else (if m == COMMA then 6 else 7)))) (λ e. stops ts (ap (λ k. Mark k ∷ ts) e)) (no_bracket m)

-- Readings of lists: what is done so far, and what goes on behind it.
use Rattle.std.proofs.Common.{◌≡◌, List, [], ◌∷◌, ◌++◌, refl, ap, ◌∙◌, sym, subst, append_assoc}
use Rattle.kv_lex.specs.declared.token.TokenKind.{TokenKind}
use Rattle.kv_punit.specs.Grammar as g
use Rattle.kv_punit.specs.Grammar.{Are}

-- the things are read up to those tokens, and each whole reading begins with them
pub record Leads {X : Type 0} (Is : List TokenKind → X → List TokenKind → Type 0) (Stops : List TokenKind → Type 0) (ts : List TokenKind) (done : List X) (rest : List TokenKind) : Type 0 where
  pub reads : Are Is ts done rest
  pub goes_on : (l : List X) (us : List TokenKind) → Are Is ts l us → Stops us → (more : List X) × (l ≡ done ++ more) × Are Is rest more us

snoc : {X : Type 0} {Is : List TokenKind → X → List TokenKind → Type 0} {ts us vs : List TokenKind} {l : List X} {x : X} → Are Is ts l us → Is us x vs → Are Is ts (l ++ (x ∷ [])) vs
snoc g.none r = g.more r g.none
snoc (g.more s ss) r = g.more s (snoc ss r)

pub leads_begin : {X : Type 0} (Is : List TokenKind → X → List TokenKind → Type 0) (Stops : List TokenKind → Type 0) (ts : List TokenKind) → Leads Is Stops ts [] ts
leads_begin Is Stops ts = record { reads = g.none; goes_on = λ l us are stop. (l, refl, are) }

-- the first of some things
record Split {X : Type 0} (Is : List TokenKind → X → List TokenKind → Type 0) (rest : List TokenKind) (more : List X) (us : List TokenKind) : Type 0 where
  pub head : X
  pub after : List TokenKind
  pub tail : List X
  pub whole : more ≡ head ∷ tail
  pub first : Is rest head after
  pub others : Are Is after tail us

split : {X : Type 0} {Is : List TokenKind → X → List TokenKind → Type 0} {rest us : List TokenKind} {more : List X} (Stops : List TokenKind → Type 0) → Are Is rest more us → Stops us → (Stops rest → ⊥) → Split Is rest more us
split Stops g.none stop on = absurd (on stop)
split Stops (g.more {us = after} {x = x} {rest = tail} r rs) stop on = record { head = x; after = after; tail = tail; whole = refl; first = r; others = rs }

-- readings of one thing are the same where what stands behind them fits, and it fits where a reading of the others
-- ends with a stop
module _ {X : Type 0} (Is : List TokenKind → X → List TokenKind → Type 0) (Fits Stops : List TokenKind → Type 0)
    (starts : (ts us : List TokenKind) (x : X) → Is ts x us → Stops ts → ⊥)
    (one : (ts us vs : List TokenKind) (x y : X) → Is ts x us → Is ts y vs → Fits us → Fits vs → (x ≡ y) × (us ≡ vs))
    (fits : (us vs : List TokenKind) (l : List X) → Are Is us l vs → Stops vs → Fits us) where
  pub leads_turn : (ts rest after : List TokenKind) (done : List X) (x : X) → Leads Is Stops ts done rest → Is rest x after → Fits after → Leads Is Stops ts (done ++ (x ∷ [])) after
  leads_turn ts rest after done x leads r f = record {
    reads = snoc leads.reads r;
    goes_on = λ l us are stop.
        let m = leads.goes_on l us are stop in
        let s = split Stops m.2 stop (starts rest after x r) in
        let o = one rest s.after after s.head x s.first r (fits s.after us s.tail s.others stop) f in (
          s.tail,
          m.1 ∙ ap (λ y. done ++ y) (s.whole ∙ ap (λ y. y ∷ s.tail) o.0) ∙ sym (append_assoc done (x ∷ []) s.tail),
          subst (λ z. Are Is z s.tail us) o.1 s.others,
        );
  }

  pub leads_none : (ts rest : List TokenKind) (done : List X) → Leads Is Stops ts done rest → (Stops rest → ⊥) → ((x : X) (us : List TokenKind) → Is rest x us → Fits us → ⊥)
      → (l : List X) (us : List TokenKind) → Are Is ts l us → Stops us → ⊥
  leads_none ts rest done leads on nothing l us are stop =
      let m = leads.goes_on l us are stop in
      let s = split Stops m.2 stop on in
      nothing s.head s.after s.first (fits s.after us s.tail s.others stop)

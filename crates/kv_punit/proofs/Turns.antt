-- One turn of each loop.
use Rattle.std.proofs.Common.{◌≡◌, ℕ, zero, suc, ◌+◌, ◌-◌, ◌<◌, ◌≤◌, ap, ◌∙◌, arith, List, [], ◌∷◌, ◌++◌}
use Rattle.std.specs.Prelude.{Some, None}
use Rattle.kv_lex.specs.Marks.{COMMA, CLOSE_BRACE, BAR}
use Rattle.kv_lex.specs.declared.token.TokenKind.{TokenKind}
use Rattle.kv_pexpr.specs.Parse.{Read, given, or_stay, eat_mark, eat_word, eat_name}
use Rattle.kv_names.specs.Names.{Name}
use Rattle.kv_syn.specs.Scripts.{Script}
use Rattle.kv_syn.specs.Projects.{Item}
use Rattle.kv_table.specs.Keywords as word
use Rattle.kv_punit.specs.declared.items.Declares.{Declares}
use Rattle.kv_punit.specs.Parse.{block, child, separator, parts, part, items, item, started, eat_declares, listed, followed, script, step, node, hole}

module _ (n at : ℕ) (text : Name) (ts : List TokenKind) where
  pub parts_next : at < n → parts (n - at) text ts ≡ or_stay (Some (text, ts)) (part (parts (n - (at + 1))) text) (separator ts)
  unfolding parts
  parts_next below = let e : n - at ≡ suc (n - (at + 1)) = omega arith in ap (λ k. parts k text ts) e

  pub parts_end : n ≤ at → parts (n - at) text ts ≡ Some (text, ts)
  unfolding parts
  parts_end past = let e : n - at ≡ 0 = omega arith in ap (λ k. parts k text ts) e

  pub parts_stop : at < n → separator ts ≡ None → parts (n - at) text ts ≡ Some (text, ts)
  parts_stop below none = parts_next below ∙ rw none

  pub parts_none : (b : Name) (us : List TokenKind) → at < n → separator ts ≡ Some (b, us) → eat_name us ≡ None → parts (n - at) text ts ≡ None
  parts_none b us below some none = parts_next below ∙ rw (some, none)

  pub parts_turn : (b r : Name) (us vs : List TokenKind) → at < n → separator ts ≡ Some (b, us) → eat_name us ≡ Some (r, vs)
      → parts (n - at) text ts ≡ parts (n - (at + 1)) ((text ++ b) ++ r) vs
  parts_turn b r us vs below some reads = parts_next below ∙ rw (some, reads)

module _ (n at : ℕ) (done : List Item) (ts : List TokenKind) where
  pub items_next : at < n → items (n - at) done ts ≡ or_stay (Some (done, ts)) (started (items (n - (at + 1))) done) (eat_declares ts)
  unfolding items
  items_next below = let e : n - at ≡ suc (n - (at + 1)) = omega arith in ap (λ k. items k done ts) e

  pub items_end : n ≤ at → items (n - at) done ts ≡ Some (done, ts)
  unfolding items
  items_end past = let e : n - at ≡ 0 = omega arith in ap (λ k. items k done ts) e

  pub items_turn : (d : Declares) (us vs : List TokenKind) (i : Item) → at < n → eat_declares ts ≡ Some (d, us) → item d us ≡ Some (i, vs)
      → items (n - at) done ts ≡ items (n - (at + 1)) (done ++ (i ∷ [])) vs
  items_turn d us vs i below some reads = items_next below ∙ rw (some, reads)

module _ {X : Type 0} (thing : List TokenKind → Read X) (n at : ℕ) (done : List X) (ts : List TokenKind) where
  pub listed_next : at < n → listed thing (n - at) done ts ≡ given (thing ts) (followed (listed thing (n - (at + 1))) done)
  unfolding listed
  listed_next below = let e : n - at ≡ suc (n - (at + 1)) = omega arith in ap (λ k. listed thing k done ts) e

  pub listed_end : n ≤ at → listed thing (n - at) done ts ≡ None
  unfolding listed
  listed_end past = let e : n - at ≡ 0 = omega arith in ap (λ k. listed thing k done ts) e

  pub listed_last : (x : X) (us : List TokenKind) → at < n → thing ts ≡ Some (x, us) → eat_mark COMMA us ≡ None → listed thing (n - at) done ts ≡ Some (done ++ (x ∷ []), us)
  listed_last x us below reads none = listed_next below ∙ rw (reads, none)

  pub listed_turn : (x : X) (us vs : List TokenKind) → at < n → thing ts ≡ Some (x, us) → eat_mark COMMA us ≡ Some vs
      → listed thing (n - at) done ts ≡ listed thing (n - (at + 1)) (done ++ (x ∷ [])) vs
  listed_turn x us vs below reads some = listed_next below ∙ rw (reads, some)

module _ (read : List TokenKind → Read Script) (n at : ℕ) (done : List Script) (ts : List TokenKind) where
  pub block_next : at < n → block read (n - at) done ts ≡ given (read ts) (child (block read (n - (at + 1))) done)
  unfolding block
  block_next below = let e : n - at ≡ suc (n - (at + 1)) = omega arith in ap (λ k. block read k done ts) e

  pub block_end : n ≤ at → block read (n - at) done ts ≡ None
  unfolding block
  block_end past = let e : n - at ≡ 0 = omega arith in ap (λ k. block read k done ts) e

  pub block_none : at < n → read ts ≡ None → block read (n - at) done ts ≡ None
  block_none below none = block_next below ∙ rw none

  pub block_last : (s : Script) (us vs : List TokenKind) → at < n → read ts ≡ Some (s, us) → eat_mark CLOSE_BRACE us ≡ Some vs
      → block read (n - at) done ts ≡ Some (done ++ (s ∷ []), vs)
  block_last s us vs below reads some = block_next below ∙ rw (reads, some)

  pub block_open : (s : Script) (us : List TokenKind) → at < n → read ts ≡ Some (s, us) → eat_mark CLOSE_BRACE us ≡ None → eat_mark BAR us ≡ None
      → block read (n - at) done ts ≡ None
  block_open s us below reads none no_bar = block_next below ∙ rw (reads, none, no_bar)

  pub block_turn : (s : Script) (us vs : List TokenKind) → at < n → read ts ≡ Some (s, us) → eat_mark CLOSE_BRACE us ≡ None → eat_mark BAR us ≡ Some vs
      → block read (n - at) done ts ≡ block read (n - (at + 1)) (done ++ (s ∷ [])) vs
  block_turn s us vs below reads none bar = block_next below ∙ rw (reads, none, bar)

-- one level of scripts
pub script_hole : (n : ℕ) (ts us : List TokenKind) → eat_word word.OPEN ts ≡ Some us → script n ts ≡ hole us
unfolding script
script_hole zero ts us e = rw e
script_hole (suc n) ts us e = rw e

pub script_none : (n : ℕ) (ts : List TokenKind) → n ≡ 0 → eat_word word.OPEN ts ≡ None → script n ts ≡ None
unfolding script
script_none zero ts e none = rw none
script_none (suc n) ts e none = absurd (omega arith)

pub script_node : (n : ℕ) (ts : List TokenKind) → 0 < n → eat_word word.OPEN ts ≡ None → script n ts ≡ given (step ts) (node (script (n - 1)))
unfolding script
script_node zero ts some none = absurd (omega arith)
script_node (suc n) ts some none =
    let e : suc n - 1 ≡ n = omega arith in
    rw (none, e)

-- What a look-up finds, where no row stands twice.
use Rattle.std.proofs.Common.{ℕ, zero, suc, ◌≡◌, ◌<◌, List, [], ◌∷◌, length, get_or, refl, ap, ◌∙◌, sym, arith, ◌↔◌}
use Rattle.std.specs.Prelude.{Bool, true, false, not, ◌||◌, ◌&&◌, Option, Some, None, IsTrue, slice_get}
use Rattle.std.specs.List.{list_any, position_or_len}
use Rattle.std.specs.Str.{bytes_eq}
use Rattle.std.proofs.lemmas.Bool.Decides.{nat_tests}
use Rattle.std.proofs.lemmas.List.Sums.{position_or_len_is}
use Rattle.std.proofs.lemmas.List.Quantifiers.{position-Some}
use Rattle.std.proofs.lemmas.Option.{slice_get-get_or, slice_get_within, get_or_from_slice_get}
use Rattle.std.proofs.lemmas.Slice.Eq.{bytes_eq-Decides}
use Rattle.kv_table.specs.Names.{are_different, row_of}

or_false : (a b : Bool) → (a || b) ≡ false → (a ≡ false) × (b ≡ false)
or_false true b e = absurd (cc)
or_false false b e = (refl, e)

and_true : (a b : Bool) → (not a && b) ≡ true → (a ≡ false) × (b ≡ true)
and_true true b e = absurd (cc)
and_true false b e = (refl, e)

-- a row that is none of a list's differs from each of them
other_row : (row : List ℕ) (rows : List (List ℕ)) (k : ℕ) → list_any (bytes_eq row) rows ≡ false → k < length rows → bytes_eq row (get_or rows k []) ≡ false
other_row row [] k none within = absurd (omega arith)
other_row row (r ∷ rows) zero none within = (or_false (bytes_eq row r) (list_any (bytes_eq row) rows) none).0
other_row row (r ∷ rows) (suc k) none within = other_row row rows k (or_false (bytes_eq row r) (list_any (bytes_eq row) rows) none).1 (omega arith)

earlier_row : (rows : List (List ℕ)) (k i : ℕ) → IsTrue (are_different rows) → k < i → i < length rows → bytes_eq (get_or rows k []) (get_or rows i []) ≡ false
earlier_row [] k i different before within = absurd (omega arith)
earlier_row (row ∷ rows) k zero different before within = absurd (omega arith)
earlier_row (row ∷ rows) zero (suc i) different before within = other_row row rows i (and_true (list_any (bytes_eq row) rows) (are_different rows) different).0 (omega arith)
earlier_row (row ∷ rows) (suc k) (suc i) different before within = earlier_row rows k i (and_true (list_any (bytes_eq row) rows) (are_different rows) different).1 (omega arith) (omega arith)

-- the row that is the text, behind rows that aren't
pub row_of_first : (rows : List (List ℕ)) (text : List ℕ) (i : ℕ) → i < length rows → get_or rows i [] ≡ text → ((k : ℕ) → k < i → bytes_eq (get_or rows k []) text ≡ false) → row_of rows text ≡ Some i
row_of_first rows text i within same before =
    let here : bytes_eq (get_or rows i []) text ≡ true = (bytes_eq-Decides (get_or rows i []) text).1 same in
    let place : position_or_len (λ row. bytes_eq row text) rows ≡ i = position_or_len_is (λ row. bytes_eq row text) rows i [] (omega arith) before (λ _. here) in
    rw place (grind (arith, nat_tests))

pub row_of_none : (rows : List (List ℕ)) (text : List ℕ) → ((k : ℕ) → k < length rows → bytes_eq (get_or rows k []) text ≡ false) → row_of rows text ≡ None
row_of_none rows text before =
    let place : position_or_len (λ row. bytes_eq row text) rows ≡ length rows = position_or_len_is (λ row. bytes_eq row text) rows (length rows) [] (omega arith) before (λ past. absurd (omega arith)) in
    rw place (grind (arith, nat_tests))

pub found_row : (rows : List (List ℕ)) (text : List ℕ) (i : ℕ) → row_of rows text ≡ Some i → slice_get rows i ≡ Some text
found_row rows text i found =
    let place = position-Some (λ row. bytes_eq row text) rows i [] found in
    let same : get_or rows i [] ≡ text = (bytes_eq-Decides (get_or rows i []) text).0 place.1 in
    slice_get-get_or rows i [] place.0 ∙ ap Some same

finds_row : (rows : List (List ℕ)) (text : List ℕ) (i : ℕ) → IsTrue (are_different rows) → slice_get rows i ≡ Some text → row_of rows text ≡ Some i
finds_row rows text i different here =
    let within : i < length rows = slice_get_within rows i text here in
    let same : get_or rows i [] ≡ text = get_or_from_slice_get rows i text [] here in
    row_of_first rows text i within same (λ k before. ap (bytes_eq (get_or rows k [])) (sym same) ∙ earlier_row rows k i different before within)

-- a result that is the look-up's gives a row exactly where that row is the text
pub exact_row : (result : Option ℕ) (rows : List (List ℕ)) (text : List ℕ) → result ≡ row_of rows text → IsTrue (are_different rows) → (i : ℕ) → (result ≡ Some i) ↔ (slice_get rows i ≡ Some text)
exact_row result rows text value different i =
    (λ found. found_row rows text i (sym value ∙ found), λ here. value ∙ finds_row rows text i different here)

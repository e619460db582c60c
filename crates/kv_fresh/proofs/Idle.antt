-- The rows of idle proofs, one proof after the other.
use Rattle.std.proofs.Common.{◌≡◌, Bool, true, false, List, [], ◌∷◌, ◌++◌, map, not, ◌&&◌, refl, sym, ap, ◌∙◌, append_assoc}
use Rattle.std.proofs.lemmas.Bool.{cond-true, cond-false}
use Rattle.std.specs.List.{list_all}
use Rattle.std.specs.Prelude.{filter}
use Rattle.kv_fresh.specs.States.{idle_row, is_idle, is_theorem}
use Rattle.kv_syn.specs.Projects as P
use Rattle.kv_syn.specs.Rows.{has_row_rows}
use Rattle.kv_names.specs.Names.{Name}
use Rattle.kv_syn.specs.declared.outcomes.Row.{Row}

and_more : (a b c : Bool) → (a && b) ≡ true → (b ≡ true → c ≡ true) → (a && c) ≡ true
and_more true b c both then = then both
and_more false b c both then = both

all_pushed : (rows : List Row) (row : Row) → list_all has_row_rows rows ≡ true → has_row_rows row ≡ true → list_all has_row_rows (rows ++ row ∷ []) ≡ true
all_pushed [] row all one = rw one refl
all_pushed (first ∷ rows) row all one = and_more (has_row_rows first) (list_all has_row_rows rows) (list_all has_row_rows (rows ++ row ∷ [])) all (λ of_rows. all_pushed rows row of_rows one)

pub all_more : (rows : List Row) (row : Row) (more : List Row) → list_all has_row_rows rows ≡ true → has_row_rows row ≡ true → more ≡ rows ++ row ∷ [] → list_all has_row_rows more ≡ true
all_more rows row more all one is = ap (list_all has_row_rows) is ∙ all_pushed rows row all one

module _ (unit : Name) (theorems : List P.Theorem) (proof : P.Proof) (proofs rest : List P.Proof) (turn : proofs ≡ proof ∷ rest) (rows all : List Row)
    (so_far : rows ++ map (idle_row unit) (filter (is_idle theorems) proofs) ≡ all) (named : Bool) (is : named ≡ is_theorem theorems proof.name) where
  this_first : rows ++ map (idle_row unit) (filter (is_idle theorems) (proof ∷ rest)) ≡ all
  this_first = ap (λ (ps : List P.Proof). rows ++ map (idle_row unit) (filter (is_idle theorems) ps)) (sym turn) ∙ so_far

  -- a proof of a theorem has no row
  pub passed_over : named ≡ true → rows ++ map (idle_row unit) (filter (is_idle theorems) rest) ≡ all
  passed_over there =
      ap (λ (ps : List P.Proof). rows ++ map (idle_row unit) ps)
      (sym (cond-false (is_idle theorems proof) (proof ∷ filter (is_idle theorems) rest) (filter (is_idle theorems) rest) (ap not (sym is ∙ there))))
      ∙ this_first

  -- another has one
  pub added : named ≡ false → (row : Row) (more : List Row) → row ≡ idle_row unit proof → more ≡ rows ++ row ∷ [] → more ++ map (idle_row unit) (filter (is_idle theorems) rest) ≡ all
  added absent row more row_is more_is =
      ap (λ (rs : List Row). rs ++ map (idle_row unit) (filter (is_idle theorems) rest)) more_is
      ∙ append_assoc rows (row ∷ []) (map (idle_row unit) (filter (is_idle theorems) rest))
      ∙ ap (λ (r : Row). rows ++ (r ∷ map (idle_row unit) (filter (is_idle theorems) rest))) row_is
      ∙ ap (λ (ps : List P.Proof). rows ++ map (idle_row unit) ps)
      (sym (cond-true (is_idle theorems proof) (proof ∷ filter (is_idle theorems) rest) (filter (is_idle theorems) rest) (ap not (sym is ∙ absent))))
      ∙ this_first

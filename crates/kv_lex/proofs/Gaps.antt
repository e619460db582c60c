-- The blanks and comments that are skipped are a gap, and no others are.
use Rattle.std.proofs.Common.{ℕ, ◌≡◌, List, [], ◌∷◌, ◌++◌, refl, ap, ◌∙◌, sym, subst, arith}
use Rattle.std.specs.Prelude.{Bool, true, false, not, ◌||◌, ◌&&◌, cond, if◌then◌else◌, ◌==◌}
use Rattle.std.specs.List.{list_all}
use Rattle.std.proofs.lemmas.Bool.Decides.{nat_tests}
use Rattle.kv_lex.specs.Texts.{begins, IsRun, is_blank, IsGap}
use Rattle.kv_lex.specs.Tokens.{run, past, skip, skip_comment}
use Rattle.kv_lex.proofs.Fronts.{run_past}

pub both : (a b : Bool) → (a && b) ≡ true → (a ≡ true) × (b ≡ true)
both true b e = (refl, e)
both false b e = cc

neither : (a b : Bool) → (a || b) ≡ false → (a ≡ false) × (b ≡ false)
neither true b e = cc
neither false b e = (refl, e)

-- ---- runs

pass_step : (b : Bool) (passes : ℕ → Bool) (c : ℕ) (cs : List ℕ) → passes c ≡ b → list_all passes cs ≡ true → list_all passes (cond b (c ∷ cs) []) ≡ true
pass_step true passes c cs e rest = rw e rest
pass_step false passes c cs e rest = refl

run_passes : (passes : ℕ → Bool) (cs : List ℕ) → list_all passes (run passes cs) ≡ true
run_passes passes [] = refl
run_passes passes (c ∷ cs) = pass_step (passes c) passes c (run passes cs) refl (run_passes passes cs)

end_step : (b : Bool) (passes : ℕ → Bool) (c : ℕ) (cs rest : List ℕ) → passes c ≡ b → begins passes rest ≡ false → begins passes (cond b rest (c ∷ cs)) ≡ false
end_step true passes c cs rest e more = more
end_step false passes c cs rest e more = e

past_ends : (passes : ℕ → Bool) (cs : List ℕ) → begins passes (past passes cs) ≡ false
past_ends passes [] = refl
past_ends passes (c ∷ cs) = end_step (passes c) passes c cs (past passes cs) refl (past_ends passes cs)

pub run_is : (passes : ℕ → Bool) (cs : List ℕ) → IsRun passes cs (run passes cs) (past passes cs)
run_is passes cs = record { split = run_past passes cs; pass = run_passes passes cs; ends = past_ends passes cs }

run_front : (passes : ℕ → Bool) (front rest : List ℕ) → list_all passes front ≡ true → begins passes rest ≡ false → (run passes (front ++ rest) ≡ front) × (past passes (front ++ rest) ≡ rest)
run_front passes [] [] pass ends = (refl, refl)
run_front passes [] (c ∷ rest) pass ends = (rw ends refl, rw ends refl)
run_front passes (c ∷ front) rest pass ends =
    let p = both (passes c) (list_all passes front) pass in
    let more = run_front passes front rest p.1 ends in
    (rw p.0 (ap (λ r. c ∷ r) more.0), rw p.0 more.1)

-- a run is the one at the front
pub run_only : (passes : ℕ → Bool) (cs front rest : List ℕ) → IsRun passes cs front rest → (run passes cs ≡ front) × (past passes cs ≡ rest)
run_only passes cs front rest r =
    let only = run_front passes front rest r.pass r.ends in
    (ap (run passes) r.split ∙ only.0, ap (past passes) r.split ∙ only.1)

-- ---- gaps

abbrev inside : ℕ → Bool
inside c = not (c == 10)

gap_ends : (b p : Bool) → b ≡ false → p ≡ false → (b || p) ≡ false
gap_ends b p e f = rw (e, f) refl

gap_step : (blank percent : Bool) (c : ℕ) (cs plain comment : List ℕ) → is_blank c ≡ blank → (c == 37) ≡ percent → IsGap cs plain → IsGap (37 ∷ cs) comment
    → IsGap (c ∷ cs) (if blank then plain else (if percent then comment else c ∷ cs))
gap_step true percent c cs plain comment e f p q = IsGap.blank e p
gap_step false true c cs plain comment e f p q = subst (λ d. IsGap (d ∷ cs) comment) (grind (arith, nat_tests)) q
gap_step false false c cs plain comment e f p q = IsGap.none (gap_ends (is_blank c) (c == 37) e f)

-- the inside of a comment, and the gap behind it
abbrev Comment : List ℕ → List ℕ → Type 0
Comment cs rest = (within after : List ℕ) × IsRun inside cs within after × IsGap after rest

feed_blank : (c : ℕ) → (c == 10) ≡ true → is_blank c ≡ true
feed_blank c e = grind (arith, nat_tests)

comment_step : (feed : Bool) (c : ℕ) (cs plain comment : List ℕ) → (c == 10) ≡ feed → IsGap cs plain → Comment cs comment → Comment (c ∷ cs) (if feed then plain else comment)
comment_step true c cs plain comment e p q = ([], c ∷ cs, record { split = refl; pass = refl; ends = ap not e }, IsGap.blank (feed_blank c e) p)
comment_step false c cs plain comment e p q =
    (c ∷ q.0, q.1, record { split = ap (λ r. c ∷ r) q.2.split; pass = rw e q.2.pass; ends = q.2.ends }, q.3)

mutual
  pub skips_gap : (cs : List ℕ) → IsGap cs (skip cs)
  skips_gap [] = IsGap.none refl
  skips_gap (c ∷ cs) =
      let q = skips_comment cs in
      gap_step (is_blank c) (c == 37) c cs (skip cs) (skip_comment cs) refl refl (skips_gap cs) (IsGap.comment q.2 q.3)

  skips_comment : (cs : List ℕ) → Comment cs (skip_comment cs)
  skips_comment [] = ([], [], record { split = refl; pass = refl; ends = refl }, IsGap.none refl)
  skips_comment (c ∷ cs) = comment_step (c == 10) c cs (skip cs) (skip_comment cs) refl (skips_gap cs) (skips_comment cs)

feed_step : (feed : Bool) (c : ℕ) (cs comment after : List ℕ) → (c == 10) ≡ feed → comment ≡ skip after
    → (if feed then skip cs else comment) ≡ skip (cond (not feed) after (c ∷ cs))
feed_step true c cs comment after e more = sym (rw (feed_blank c e) refl)
feed_step false c cs comment after e more = more

past_comment : (cs : List ℕ) → skip_comment cs ≡ skip (past inside cs)
past_comment [] = refl
past_comment (c ∷ cs) = feed_step (c == 10) c cs (skip_comment cs) (past inside cs) refl (past_comment cs)

no_gap : (cs : List ℕ) → begins (λ c. is_blank c || c == 37) cs ≡ false → skip cs ≡ cs
no_gap [] e = refl
no_gap (c ∷ cs) e = let n = neither (is_blank c) (c == 37) e in rw (n.0, n.1) refl

pub gap_only : (cs rest : List ℕ) → IsGap cs rest → skip cs ≡ rest
gap_only cs rest (IsGap.none e) = no_gap cs e
gap_only (c ∷ cs) rest (IsGap.blank e g) = rw e (gap_only cs rest g)
gap_only (c ∷ cs) rest (IsGap.comment {inside = within} {after = after} r g) =
    past_comment cs ∙ ap skip (run_only inside cs within after r).1 ∙ gap_only after rest g

-- Runs of characters with something behind them.
use Rattle.std.proofs.Common.{ℕ, ◌≡◌, List, [], ◌∷◌, ◌++◌, ap}
use Rattle.std.specs.Prelude.{Bool, true, false, cond}
use Rattle.kv_lex.specs.Tokens.{run, past}

-- the run ends at once
abbrev pub Stops : (ℕ → Bool) → List ℕ → Type 0
Stops passes rest = run passes rest ≡ []

stop_here : (b : Bool) (c : ℕ) (more left cs : List ℕ) → cond b (c ∷ more) [] ≡ [] → cond b left (c ∷ cs) ≡ c ∷ cs
stop_here true c more left cs e = cc
stop_here false c more left cs e = λ i. c ∷ cs

past_stops : (passes : ℕ → Bool) (rest : List ℕ) → Stops passes rest → past passes rest ≡ rest
past_stops passes [] stop = λ i. []
past_stops passes (c ∷ cs) stop = stop_here (passes c) c (run passes cs) (past passes cs) cs stop

run_on : (b : Bool) (c : ℕ) (cs rest more : List ℕ) → cond b more (c ∷ cs) ≡ [] → (more ≡ [] → rest ≡ cs) → cond b (c ∷ rest) [] ≡ c ∷ cs
run_on true c cs rest more e next = ap (λ r. c ∷ r) (next e)
run_on false c cs rest more e next = cc

pub run_all : (passes : ℕ → Bool) (cs rest : List ℕ) → past passes cs ≡ [] → Stops passes rest → run passes (cs ++ rest) ≡ cs
run_all passes [] rest all stop = stop
run_all passes (c ∷ cs) rest all stop = run_on (passes c) c cs (run passes (cs ++ rest)) (past passes cs) all (λ e. run_all passes cs rest e stop)

past_on : (b : Bool) (c : ℕ) (cs rest more left : List ℕ) → cond b more (c ∷ cs) ≡ [] → (more ≡ [] → left ≡ rest) → cond b left (c ∷ (cs ++ rest)) ≡ rest
past_on true c cs rest more left e next = next e
past_on false c cs rest more left e next = cc

pub past_all : (passes : ℕ → Bool) (cs rest : List ℕ) → past passes cs ≡ [] → Stops passes rest → past passes (cs ++ rest) ≡ rest
past_all passes [] rest all stop = past_stops passes rest stop
past_all passes (c ∷ cs) rest all stop = past_on (passes c) c cs rest (past passes cs) (past passes (cs ++ rest)) all (λ e. past_all passes cs rest e stop)

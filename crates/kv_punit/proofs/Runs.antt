-- One turn of the loops of theorems, proofs and units, and their ends.
use Rattle.std.proofs.Common.{ℕ, ◌≡◌, ◌≤◌, ◌<◌, List, [], ◌∷◌, ◌++◌, length, refl, ap, ◌∙◌, sym, subst, arith}
use Rattle.std.specs.Prelude.{Bool, true, false, ◌==◌, Option, Some, None, Err}
use Rattle.std.specs.Option.{option_map, is_some}
use Rattle.kv_lex.specs.declared.token.Token.{Token}
use Rattle.kv_lex.specs.declared.token.TokenKind.{TokenKind}
use Rattle.kv_pexpr.specs.Gives.{Gives, kinds}
use Rattle.kv_pexpr.specs.Parse.{eat_word}
use Rattle.kv_pexpr.specs.declared.errors.ReadError.{ReadError}
use Rattle.kv_pexpr.specs.declared.errors.ReadError.TheVariants as reader
use Rattle.kv_pexpr.proofs.Sound.{form_takes}
use Rattle.kv_names.specs.Names.{Name}
use Rattle.kv_syn.specs.Projects.{Theorem, Proof, Item}
use Rattle.kv_syn.specs.Projects as P
use Rattle.kv_punit.specs.Ends.{NoTheorem, NoProof, Ends, AllTheorems, AllProofs, WholeUnit}
use Rattle.kv_punit.specs.Gives.{Finds, IsThat}
use Rattle.kv_punit.specs.Grammar as g
use Rattle.kv_punit.specs.Grammar.{Are, IsStatement, IsTheorem, IsLabelled, IsProof, IsHead, IsUnit, IsLabel, AreItems, AreTheorems, AreProofs, AreUnits}
use Rattle.kv_punit.specs.Parse as spec
use Rattle.kv_punit.proofs.Exact.{exact_proof, script_takes}
use Rattle.kv_punit.proofs.ItemExact.{item_takes}
use Rattle.kv_punit.proofs.Sound.{sound_proof}
use Rattle.kv_punit.proofs.Lists.{Leads, leads_turn, leads_none}
use Rattle.kv_punit.proofs.One.{theorem_begins, proof_begins, one_theorem, one_proof, one_theorems, one_proofs, one_unit, unit_some, units_stop, proofs_stop}
use Rattle.kv_punit.proofs.Wholes.{Parts, unit_parts, unit_from}
use Rattle.kv_pexpr.proofs.Steps.{some_is}

-- nothing is asked of the tokens behind
abbrev pub Any : List TokenKind → Type 0
Any us = Unit {0}

-- ---- how many tokens a reading takes

statement_takes : {ts us : List TokenKind} {t : Theorem} → IsStatement ts t us → length us < length ts
statement_takes (g.statement r) = omega (arith, form_takes r.0)

pub theorem_takes : {ts us : List TokenKind} {t : Theorem} → IsTheorem ts t us → length us < length ts
theorem_takes (g.theorem r) = omega (arith, statement_takes r)

label_takes : {ts us : List TokenKind} {l : Name} → IsLabel ts l us → length us < length ts
label_takes g.name = omega arith
label_takes (g.dot r) = omega (arith, label_takes r)
label_takes (g.colon r) = omega (arith, label_takes r)

labelled_takes : {ts us : List TokenKind} {p : Proof} → IsLabelled ts p us → length us < length ts
labelled_takes (g.labelled l plain s) = omega (arith, label_takes l, script_takes s)

pub proof_takes : {ts us : List TokenKind} {p : Proof} → IsProof ts p us → length us < length ts
proof_takes (g.proof r) = omega (arith, labelled_takes r)

items_take : {ts us : List TokenKind} {l : List Item} → AreItems ts l us → length us ≤ length ts
items_take g.none = omega arith
items_take (g.more r rs) = omega (arith, item_takes r, items_take rs)

theorems_take : {ts us : List TokenKind} {l : List Theorem} → AreTheorems ts l us → length us ≤ length ts
theorems_take g.none = omega arith
theorems_take (g.more r rs) = omega (arith, theorem_takes r, theorems_take rs)

proofs_take : {ts us : List TokenKind} {l : List Proof} → AreProofs ts l us → length us ≤ length ts
proofs_take g.none = omega arith
proofs_take (g.more r rs) = omega (arith, proof_takes r, proofs_take rs)

head_takes : {ts us : List TokenKind} {u : P.Unit} → IsHead ts u us → length us < length ts
head_takes (g.head is) = omega (arith, items_take is)

pub unit_takes : {ts us : List TokenKind} {u : P.Unit} → IsUnit ts u us → length us < length ts
unit_takes (g.unit is theorems proofs) = omega (arith, head_takes is, theorems_take theorems, proofs_take proofs)

-- ---- theorems

module _ (ts rest : List TokenKind) (done : List Theorem) (leads : Leads IsTheorem NoTheorem ts done rest) where
  pub theorems_turn : (after : List TokenKind) (t : Theorem) (new : List Theorem) → new ≡ done ++ (t ∷ []) → IsTheorem rest t after → Leads IsTheorem NoTheorem ts new after
  theorems_turn after t new e r =
      subst (λ l. Leads IsTheorem NoTheorem ts l after) (sym e)
      (leads_turn IsTheorem Any NoTheorem (λ ts us x r e. theorem_begins r e) (λ ts us vs x y r s f h. one_theorem r s) (λ us vs l are stop. tt) ts rest after done t leads r tt)

  pub theorems_none : {X Y : Type 0} (view : X → Theorem × List TokenKind) (seen : Y → List Theorem × List TokenKind) (e : ReadError) → (NoTheorem rest → ⊥)
      → ((t : Theorem) (us : List TokenKind) → IsTheorem rest t us → IsThat view (Err e) (t, us)) → Finds seen (AllTheorems ts) (Err e)
  theorems_none view seen reader.Syntax on only = λ r all. leads_none IsTheorem Any NoTheorem (λ ts us x r e. theorem_begins r e) (λ ts us vs x y r s f h. one_theorem r s) (λ us vs l are stop. tt) ts rest done leads on
      (λ t us is f. only t us is) r.0 r.1 all.0 all.1
  theorems_none view seen reader.NoMemory on only = tt

-- ---- proofs

module _ (ts rest : List TokenKind) (done : List Proof) (leads : Leads IsProof NoProof ts done rest) where
  pub proofs_turn : (after : List TokenKind) (p : Proof) (new : List Proof) → new ≡ done ++ (p ∷ []) → spec.proof rest ≡ Some (p, after) → Leads IsProof NoProof ts new after
  proofs_turn after p new e r =
      subst (λ l. Leads IsProof NoProof ts l after) (sym e)
      (leads_turn IsProof Any NoProof (λ ts us x r e. proof_begins r e) (λ ts us vs x y r s f h. one_proof r s) (λ us vs l are stop. tt) ts rest after done p leads (sound_proof rest (p, after) r) tt)

  no_proof : {X : Type 0} (view : X → Proof × List TokenKind) (p : Proof) (us : List TokenKind) → Gives view (Err reader.Syntax) (spec.proof rest) → IsProof rest p us → ⊥
  no_proof view p us none is = absurd (let e = exact_proof is in cc (e, none))

  pub proofs_none : {X Y : Type 0} (view : X → Proof × List TokenKind) (seen : Y → List Proof × List TokenKind) (e : ReadError) → (NoProof rest → ⊥)
      → Gives view (Err e) (spec.proof rest) → Finds seen (AllProofs ts) (Err e)
  proofs_none view seen reader.Syntax on none = λ r all. leads_none IsProof Any NoProof (λ ts us x r e. proof_begins r e) (λ ts us vs x y r s f h. one_proof r s) (λ us vs l are stop. tt) ts rest done leads on
      (λ p us is f. no_proof view p us none is) r.0 r.1 all.0 all.1
  proofs_none view seen reader.NoMemory on none = tt

-- ---- units

-- the tokens end
abbrev pub NoMore : List TokenKind → Type 0
NoMore us = us ≡ []

module _ (ts rest : List TokenKind) (done : List P.Unit) (leads : Leads IsUnit NoMore ts done rest) where
  pub units_turn : (after : List TokenKind) (u : P.Unit) (new : List P.Unit) → new ≡ done ++ (u ∷ []) → WholeUnit rest (u, after) → Leads IsUnit NoMore ts new after
  units_turn after u new e r =
      subst (λ l. Leads IsUnit NoMore ts l after) (sym e)
      (leads_turn IsUnit Ends NoMore (λ ts us x r e. unit_some r e) (λ ts us vs x y r s f h. one_unit r s f h) (λ us vs l are stop. units_stop are stop) ts rest after done u leads r.0 r.1)

  pub units_none : {X Y : Type 0} (view : X → P.Unit × List TokenKind) (seen : Y → P.Project) (e : ReadError) → (rest ≡ [] → ⊥)
      → Finds view (WholeUnit rest) (Err e) → Finds seen (λ p. AreUnits ts p []) (Err e)
  units_none view seen reader.Syntax on none = λ p are. leads_none IsUnit Ends NoMore (λ ts us x r e. unit_some r e) (λ ts us vs x y r s f h. one_unit r s f h) (λ us vs l are stop. units_stop are stop) ts rest done leads on
      (λ u us is f. none (u, us) (is, f)) p [] are refl
  units_none view seen reader.NoMemory on none = tt

-- ---- the parts of a unit

module _ (ts : List TokenKind) where
  pub no_head : {X Y : Type 0} (view : X → P.Unit × List TokenKind) (seen : Y → P.Unit × List TokenKind) (e : ReadError) → Gives view (Err e) (spec.head ts) → Finds seen (WholeUnit ts) (Err e)
  no_head view seen reader.Syntax none = λ r all. let p = unit_parts all.0 in absurd (let b = p.begins in cc (b, none))
  no_head view seen reader.NoMemory none = tt

  module _ (head : P.Unit) (vs : List TokenKind) (begins : spec.head ts ≡ Some (head, vs)) where
    same_behind : (u : P.Unit) (us : List TokenKind) → (p : Parts ts u us) → p.vs ≡ vs
    same_behind u us p = ap (λ x. x.1) (some_is (sym p.begins ∙ begins))

    its_theorems : (u : P.Unit) (us : List TokenKind) → (p : Parts ts u us) → NoTheorem us → AllTheorems vs (u.theorems, p.ws)
    its_theorems u us p stop = (subst (λ x. AreTheorems x u.theorems p.ws) (same_behind u us p) p.states, proofs_stop p.proves stop)

    pub no_theorems : {X Y : Type 0} (view : X → List Theorem × List TokenKind) (seen : Y → P.Unit × List TokenKind) (e : ReadError) → Finds view (AllTheorems vs) (Err e) → Finds seen (WholeUnit ts) (Err e)
    no_theorems view seen reader.Syntax none = λ r all.
        let p = unit_parts all.0 in
        none (r.0.theorems, p.ws) (its_theorems r.0 r.1 p all.1.0)
    no_theorems view seen reader.NoMemory none = tt

    module _ (theorems : List Theorem) (ws : List TokenKind) (states : AllTheorems vs (theorems, ws)) where
      its_proofs : (u : P.Unit) (us : List TokenKind) → (p : Parts ts u us) → NoTheorem us → AreProofs ws u.proofs us
      its_proofs u us p stop =
          let all = its_theorems u us p stop in
          let same = one_theorems all.0 states.0 all.1 states.1 in
          subst (λ x. AreProofs x u.proofs us) same.1 p.proves

      pub no_proofs : {X Y : Type 0} (view : X → List Proof × List TokenKind) (seen : Y → P.Unit × List TokenKind) (e : ReadError) → Finds view (AllProofs ws) (Err e) → Finds seen (WholeUnit ts) (Err e)
      no_proofs view seen reader.Syntax none = λ r all.
          let p = unit_parts all.0 in
          none (r.0.proofs, r.1) (its_proofs r.0 r.1 p all.1.0, all.1.1)
      no_proofs view seen reader.NoMemory none = tt

      module _ (proofs : List Proof) (us : List TokenKind) (proves : AllProofs ws (proofs, us)) where
        pub theorem_behind : (NoTheorem us → ⊥) → (r : P.Unit × List TokenKind) → WholeUnit ts r → ⊥
        theorem_behind some r all =
            let p = unit_parts all.0 in
            let same = one_proofs (its_proofs r.0 r.1 p all.1.0) proves.0 all.1.1 proves.1 in
            some (subst NoTheorem same.1 all.1.0)

        pub whole_found : NoTheorem us → WholeUnit ts (record { name = head.name; kind = head.kind; theorems = theorems; proofs = proofs }, us)
        whole_found stop = (unit_from ts vs ws us head theorems proofs begins states.0 proves.0, (stop, proves.1))

-- ---- whether a word comes first

pub word_there : {X : Type 0} (f : X → List TokenKind) (o : Option X) (w : ℕ) (ts : List TokenKind) → option_map f o ≡ eat_word w ts → is_some o ≡ true → eat_word w ts ≡ None → ⊥
word_there f None w ts e some none = absurd (cc)
word_there f (Some x) w ts e some none = absurd (cc (e, none))

pub word_gone : {X : Type 0} (f : X → List TokenKind) (o : Option X) (w : ℕ) (ts : List TokenKind) → option_map f o ≡ eat_word w ts → is_some o ≡ false → eat_word w ts ≡ None
word_gone f None w ts e gone = sym e
word_gone f (Some x) w ts e gone = absurd (cc)

-- tokens are left
pub some_left : (b : Bool) (ts : List Token) → b ≡ (length ts == 0) → b ≡ false → kinds ts ≡ [] → ⊥
some_left b [] e f h = absurd (cc)
some_left b (t ∷ ts) e f h = cc

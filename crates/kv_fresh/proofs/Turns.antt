-- Indexes of a unit, so far as a loop over its proofs or theorems has come.
use Rattle.std.proofs.Common.{◌≡◌, ℕ, ◌+◌, ◌<◌, ◌≤◌, length, get_or, drop, map, ◌∙◌, refl, sym, ap, subst, cond, Bool, true, false, ◌||◌, List, [], ◌∷◌, Option, Some, None, is_some}
use Rattle.std.proofs.lemmas.List.{at_drop_all, at_drop_more}
use Rattle.std.proofs.lemmas.Slice.Eq.{bytes_eq-Decides}
use Rattle.std.specs.Borrow.{Bor}
use Rattle.std.specs.HashMap as table
use Rattle.std.specs.HashMap.{HashMap}
use Rattle.std.specs.HashSet as bag
use Rattle.std.specs.HashSet.{HashSet}
use Rattle.std.specs.List.{find}
use Rattle.std.specs.Option.{option_map, option_or}
use Rattle.std.specs.Str.{bytes_eq}
use Rattle.kv_fresh.specs.States.{is_theorem}
use Rattle.kv_syn.specs.ProjectBridge.{plain_proof}
use Rattle.kv_syn.specs.Projects as P
use Rattle.kv_fresh.specs.Indexes.{AreNamesOf, LeadsToFirst, told}
use Rattle.kv_names.specs.Names.{Name}
use Rattle.kv_syn.specs.declared.units.Proof.{Proof}

abbrev pub first_named : List P.Proof → Name → Option P.Proof
first_named proofs name = find (λ (proof : P.Proof). bytes_eq proof.name name) proofs

-- what the index leads to, or else the first of the rest, is the first of all
unfoldable pub LeadsSoFar : {S : Type 0} → HashMap (Bor (List ℕ)) (Bor Proof) S → (rest all : List P.Proof) → Type 0
LeadsSoFar index rest all = (name : Name) → option_or (told index name) (first_named rest name) ≡ first_named all name

-- the names so far and those of the rest are those of all
unfoldable pub NamesSoFar : {S : Type 0} → HashSet (Bor (List ℕ)) S → (rest all : List P.Theorem) → Type 0
NamesSoFar names rest all = (name : Name) → (bag.contains_by (λ (key : Bor (List ℕ)). bytes_eq name key.now) names || is_theorem rest name) ≡ is_theorem all name

-- a name as a key
abbrev key_of : List ℕ → Bor (List ℕ)
key_of name = record { ref_ptr = (0, 0); now = name }

module _ {S : Type 0} (index : HashMap (Bor (List ℕ)) (Bor Proof) S) where
  some_mapped : (found : Option (Bor Proof)) → is_some (option_map (λ (p : Bor Proof). plain_proof p.now) found) ≡ is_some found
  some_mapped None = refl
  some_mapped (Some p) = refl

  -- whether the index leads somewhere from the name
  pub told_where : (key name : Name) → key ≡ name → (b : Bool) → is_some (table.get_by (λ (k : Bor (List ℕ)). bytes_eq key k.now) index) ≡ b → is_some (told index name) ≡ b
  told_where key name same b there = subst (λ n. is_some (told index n) ≡ b) same (some_mapped (table.get_by (λ (k : Bor (List ℕ)). bytes_eq key k.now) index) ∙ there)

  pub leads_first : (all : List P.Proof) → table.IsEmpty index → LeadsSoFar index all all
  unfolding LeadsSoFar
  leads_first all empty name = rw empty refl

  or_nothing : (found : Option P.Proof) → option_or found None ≡ found
  or_nothing None = refl
  or_nothing (Some proof) = refl

  pub leads_last : (all : List P.Proof) → LeadsSoFar index [] all → LeadsToFirst all index
  unfolding LeadsSoFar LeadsToFirst
  leads_last all so_far name = sym (or_nothing (told index name)) ∙ so_far name

  pub told_first : (all : List P.Proof) → LeadsToFirst all index → (name : Name) → told index name ≡ first_named all name
  unfolding LeadsToFirst
  told_first all leads name = leads name

  or_first : (found : Option P.Proof) (b : Bool) (proof : P.Proof) (other : Option P.Proof) → (b ≡ true → is_some found ≡ true) → option_or found (cond b (Some proof) other) ≡ option_or found other
  or_first (Some first) b proof other there = refl
  or_first None true proof other there = absurd (let e = there refl in cc)
  or_first None false proof other there = refl

  -- a proof whose name leads somewhere is not the first
  pub leads_on : (proof : Proof) (rest all : List P.Proof) → is_some (told index proof.name) ≡ true → LeadsSoFar index (plain_proof proof ∷ rest) all → LeadsSoFar index rest all
  unfolding LeadsSoFar
  leads_on proof rest all there so_far name =
      sym (or_first (told index name) (bytes_eq proof.name name) (plain_proof proof) (first_named rest name) (λ same. subst (λ n. is_some (told index n) ≡ true) ((bytes_eq-Decides proof.name name).0 same) there))
      ∙ so_far name

  module _ (more : HashMap (Bor (List ℕ)) (Bor Proof) S) (key : Bor (List ℕ)) (proof : Bor Proof)
      (named : key.now ≡ proof.now.name) (put : table.Updates (λ a b. bytes_eq a.now b.now) index more key (Some proof)) (rest all : List P.Proof) where
    tells : (name : Name) → told more name ≡ cond (bytes_eq proof.now.name name) (Some (plain_proof proof.now)) (told index name)
    tells name =
        ap (option_map (λ (p : Bor Proof). plain_proof p.now)) (put.0 (key_of name))
        ∙ mapped (bytes_eq key.now name) (table.get_by (λ (k : Bor (List ℕ)). bytes_eq name k.now) index)
        ∙ ap (λ n. cond (bytes_eq n name) (Some (plain_proof proof.now)) (told index name)) named
      where
        mapped : (b : Bool) (found : Option (Bor Proof)) → option_map (λ (p : Bor Proof). plain_proof p.now) (cond b (Some proof) found) ≡ cond b (Some (plain_proof proof.now)) (option_map (λ (p : Bor Proof). plain_proof p.now) found)
        mapped true found = refl
        mapped false found = refl

    first_told : (before : Option P.Proof) (b : Bool) (first : P.Proof) (other : Option P.Proof) → (b ≡ true → is_some before ≡ false) → option_or (cond b (Some first) before) other ≡ option_or before (cond b (Some first) other)
    first_told (Some p) true first other absent = absurd (let e = absent refl in cc)
    first_told None true first other absent = refl
    first_told before false first other absent = refl

    -- a proof whose name leads nowhere is the first
    pub leads_to_new : is_some (told index proof.now.name) ≡ false → LeadsSoFar index (plain_proof proof.now ∷ rest) all → LeadsSoFar more rest all
    unfolding LeadsSoFar
    leads_to_new absent so_far name =
        ap (λ found. option_or found (first_named rest name)) (tells name)
        ∙ first_told (told index name) (bytes_eq proof.now.name name) (plain_proof proof.now) (first_named rest name)
        (λ same. subst (λ n. is_some (told index n) ≡ false) ((bytes_eq-Decides proof.now.name name).0 same) absent)
        ∙ so_far name

module _ {S : Type 0} (names : HashSet (Bor (List ℕ)) S) where
  pub names_first : (all : List P.Theorem) → bag.IsEmpty names → NamesSoFar names all all
  unfolding NamesSoFar
  names_first all empty name = rw empty refl

  or_no : (b : Bool) → (b || false) ≡ b
  or_no true = refl
  or_no false = refl

  pub names_last : (all : List P.Theorem) → NamesSoFar names [] all → AreNamesOf all names
  unfolding NamesSoFar AreNamesOf
  names_last all so_far name = sym (or_no (bag.contains_by (λ (key : Bor (List ℕ)). bytes_eq name key.now) names)) ∙ so_far name

  -- what the names tell of a key
  pub told_name : (all : List P.Theorem) → AreNamesOf all names → (key name : Name) → key ≡ name → (there : Bool)
      → there ≡ bag.contains_by (λ (k : Bor (List ℕ)). bytes_eq key k.now) names → there ≡ is_theorem all name
  unfolding AreNamesOf
  told_name all are key name same there is = is ∙ are key ∙ ap (is_theorem all) same

  or_turn : (new there other : Bool) → (cond new true there || other) ≡ (there || (new || other))
  or_turn true true other = refl
  or_turn true false other = refl
  or_turn false there other = refl

  -- a name more
  pub names_more : (more : HashSet (Bor (List ℕ)) S) (key : Bor (List ℕ)) (theorem : P.Theorem) → key.now ≡ theorem.name → bag.Updates (λ a b. bytes_eq a.now b.now) names more key true
      → (rest all : List P.Theorem) → NamesSoFar names (theorem ∷ rest) all → NamesSoFar more rest all
  unfolding NamesSoFar
  names_more more key theorem named put rest all so_far name =
      ap (λ there. there || is_theorem rest name) (put.0 (key_of name))
      ∙ or_turn (bytes_eq key.now name) (bag.contains_by (λ (k : Bor (List ℕ)). bytes_eq name k.now) names) (is_theorem rest name)
      ∙ ap (λ n. bag.contains_by (λ (k : Bor (List ℕ)). bytes_eq name k.now) names || (bytes_eq n name || is_theorem rest name)) named
      ∙ so_far name

-- an item of a loop, and what is left after it
pub turned : {X Y : Type 0} (f : X → Y) (xs : List X) (i : ℕ) (x : X) → i < length xs → x ≡ get_or xs i x → map f (drop i xs) ≡ f x ∷ map f (drop (i + 1) xs)
turned f xs i x below is = at_drop_more (map f) xs i x below ∙ ap (λ y. f y ∷ map f (drop (i + 1) xs)) (sym is)

pub ended : {X Y : Type 0} (f : X → Y) (xs : List X) (i : ℕ) → length xs ≤ i → map f (drop i xs) ≡ []
ended f xs i past = at_drop_all (map f) xs i past

-- What is in the grammar, the readers compute.
use Rattle.std.proofs.Common.{ℕ, zero, suc, ◌≡◌, ◌≤◌, ◌<◌, List, [], ◌∷◌, ◌++◌, length, refl, ap, ◌∙◌, sym, arith, append_assoc, append-nil}
use Rattle.std.specs.Prelude.{Some, None, codes}
use Rattle.kv_lex.specs.Marks.{OPEN_BRACE, CLOSE_BRACE, SEMICOLON, COLON, DOT, BAR}
use Rattle.kv_lex.specs.declared.token.TokenKind.{TokenKind}
use Rattle.kv_lex.specs.declared.token.TokenKind.TheVariants.{Word, Ident, Mark}
use Rattle.kv_pexpr.specs.Grammar.{Stops}
use Rattle.kv_pexpr.specs.Parse.{eat_mark, eat_word}
use Rattle.kv_pexpr.proofs.Steps.{given_some}
use Rattle.kv_names.specs.Names.{Name}
use Rattle.kv_syn.specs.Scripts.{Step, Script, Scripts}
use Rattle.kv_syn.specs.ScriptBridge.{scripts_of}
use Rattle.kv_syn.specs.Projects.{Proof, Item}
use Rattle.kv_syn.specs.Projects as P
use Rattle.kv_table.specs.Keywords as word
use Rattle.kv_punit.specs.Grammar as g
use Rattle.kv_punit.specs.Grammar.{IsStep, IsScript, AreScripts, IsLabel, AreItems, IsLabelled, IsProof, IsHead}
use Rattle.kv_punit.specs.Parse as spec
use Rattle.kv_punit.proofs.ItemExact.{exact_item, item_takes, read_item}
use Rattle.kv_punit.proofs.StepReads.{step_takes, exact_step, no_open}
use Rattle.kv_punit.proofs.Stopping.{semicolon_stops, open_brace_stops, close_brace_stops, bar_stops, qed_stops}
use Rattle.kv_punit.proofs.Turns.{script_hole}

mutual
  pub script_takes : {n : ℕ} {ts us : List TokenKind} {s : Script} → IsScript n ts s us → length us < length ts
  script_takes g.hole = omega arith
  script_takes (g.leaf r) = step_takes r
  script_takes (g.chain r s) = omega (arith, step_takes r, script_takes s)
  script_takes (g.block r s) = omega (arith, step_takes r, scripts_take s)

  pub scripts_take : {n : ℕ} {ts us : List TokenKind} {ks : Scripts} → AreScripts n ts ks us → length us < length ts
  scripts_take (g.last r) = omega (arith, script_takes r)
  scripts_take (g.more r s) = omega (arith, script_takes r, scripts_take s)

-- nothing goes on a script there
pub record Ends (us : List TokenKind) : Type 0 where
  pub no_semicolon : eat_mark SEMICOLON us ≡ None
  pub no_brace : eat_mark OPEN_BRACE us ≡ None
  pub stops : Stops us

-- the children that are left are read, wherever there are turns enough
abbrev pub Block : ℕ → List TokenKind → Scripts → List TokenKind → Type 0
Block n ts ks us = (list : List Script) × (scripts_of list ≡ ks)
    × ((k : ℕ) (done : List Script) → length ts ≤ k → spec.block (spec.script n) k done ts ≡ Some (done ++ list, us))

block_last : (n : ℕ) (ts us : List TokenKind) (s : Script) → spec.script n ts ≡ Some (s, Mark CLOSE_BRACE ∷ us) → length us < length ts
    → (k : ℕ) (done : List Script) → length ts ≤ k → spec.block (spec.script n) k done ts ≡ Some (done ++ (s ∷ []), us)
unfolding spec.block
block_last n ts us s e less zero done fits = absurd (omega arith)
block_last n ts us s e less (suc k) done fits = rw e

block_more : (n : ℕ) (ts us vs : List TokenKind) (s : Script) (list : List Script) → spec.script n ts ≡ Some (s, Mark BAR ∷ us) → length us < length ts
    → ((k : ℕ) (done : List Script) → length us ≤ k → spec.block (spec.script n) k done us ≡ Some (done ++ list, vs))
    → (k : ℕ) (done : List Script) → length ts ≤ k → spec.block (spec.script n) k done ts ≡ Some (done ++ (s ∷ list), vs)
unfolding spec.block
block_more n ts us vs s list e less rest zero done fits = absurd (omega arith)
block_more n ts us vs s list e less rest (suc k) done fits =
    rw e (rest k (done ++ (s ∷ [])) (omega arith) ∙ ap (λ l. Some (l, vs)) (append_assoc done (s ∷ []) list))

node_leaf : (n : ℕ) (ts us : List TokenKind) (s : Step) → spec.step ts ≡ Some (s, us) → eat_word word.OPEN ts ≡ None → Ends us
    → spec.script (suc n) ts ≡ Some (Script.Node s Scripts.none, us)
unfolding spec.script
node_leaf n ts us s e none stop = rw (none, e, stop.no_semicolon, stop.no_brace)

node_chain : (n : ℕ) (ts us vs : List TokenKind) (s : Step) (k : Script) → spec.step ts ≡ Some (s, Mark SEMICOLON ∷ us) → eat_word word.OPEN ts ≡ None
    → spec.script n us ≡ Some (k, vs) → spec.script (suc n) ts ≡ Some (Script.Node s (Scripts.more k Scripts.none), vs)
unfolding spec.script
node_chain n ts us vs s k e none rest = rw (none, e, rest)

node_block : (n : ℕ) (ts us vs : List TokenKind) (s : Step) (list : List Script) → spec.step ts ≡ Some (s, Mark OPEN_BRACE ∷ us) → eat_word word.OPEN ts ≡ None
    → spec.block (spec.script n) (length us) [] us ≡ Some (list, vs) → spec.script (suc n) ts ≡ Some (Script.Node s (scripts_of list), vs)
unfolding spec.script
node_block n ts us vs s list e none rest = rw (none, e, rest)

mutual
  pub exact_script : {n : ℕ} {ts us : List TokenKind} {s : Script} → IsScript n ts s us → Ends us → spec.script n ts ≡ Some (s, us)
  exact_script (g.hole {n = n} {us = us}) stop = script_hole n (Word word.OPEN ∷ us) us refl
  exact_script (g.leaf {n = n} {ts = ts} {us = us} {s = s} r) stop = node_leaf n ts us s (exact_step r stop.stops) (no_open r) stop
  exact_script (g.chain {n = n} {ts = ts} {us = us} {vs = vs} {s = s} {k = k} r c) stop =
      node_chain n ts us vs s k (exact_step r (semicolon_stops us)) (no_open r) (exact_script c stop)
  exact_script (g.block {n = n} {ts = ts} {us = us} {vs = vs} {s = s} r cs) stop =
      let b = exact_scripts cs in
      node_block n ts us vs s b.0 (exact_step r (open_brace_stops us)) (no_open r) (b.2 (length us) [] (omega arith)) ∙ ap (λ ks. Some (Script.Node s ks, vs)) b.1

  pub exact_scripts : {n : ℕ} {ts us : List TokenKind} {ks : Scripts} → AreScripts n ts ks us → Block n ts ks us
  exact_scripts (g.last {n = n} {ts = ts} {us = us} {k = s} r) =
      (s ∷ [], refl, block_last n ts us s (exact_script r (record { no_semicolon = refl; no_brace = refl; stops = close_brace_stops us })) (omega (arith, script_takes r)))
  exact_scripts (g.more {n = n} {ts = ts} {us = us} {vs = vs} {k = s} r rs) =
      let b = exact_scripts rs in
      (s ∷ b.0, ap (Scripts.more s) b.1, block_more n ts us vs s b.0 (exact_script r (record { no_semicolon = refl; no_brace = refl; stops = bar_stops us })) (omega (arith, script_takes r)) b.2)

-- the names of a label that are left are read, wherever there are turns enough
pub record Parts (ts : List TokenKind) (l : Name) (us : List TokenKind) : Type 0 where
  pub first : Name
  pub more : Name
  pub rest : List TokenKind
  pub begins : ts ≡ Ident first ∷ rest
  pub whole : l ≡ first ++ more
  pub reads : (k : ℕ) (text : Name) → length rest ≤ k → spec.parts k text rest ≡ Some (text ++ more, us)

parts_none : (us : List TokenKind) → spec.separator us ≡ None → (k : ℕ) (text : Name) → length us ≤ k → spec.parts k text us ≡ Some (text ++ [], us)
unfolding spec.parts
parts_none us stop zero text fits = ap (λ l. Some (l, us)) (sym (append-nil text))
parts_none us stop (suc k) text fits = rw stop (ap (λ l. Some (l, us)) (sym (append-nil text)))

parts_more : (m : ℕ) (b : Name) (ts us rest : List TokenKind) (l first more : Name) → spec.separator (Mark m ∷ ts) ≡ Some (b, ts) → ts ≡ Ident first ∷ rest → l ≡ first ++ more
    → ((k : ℕ) (text : Name) → length rest ≤ k → spec.parts k text rest ≡ Some (text ++ more, us))
    → (k : ℕ) (text : Name) → length (Mark m ∷ ts) ≤ k → spec.parts k text (Mark m ∷ ts) ≡ Some (text ++ (b ++ l), us)
unfolding spec.parts
parts_more m b ts us rest l first more e begins is reads zero text fits = absurd (omega arith)
parts_more m b ts us rest l first more e begins is reads (suc k) text fits =
    rw (e, begins, is) (reads k ((text ++ b) ++ first) (omega (arith, ap length begins))
    ∙ ap (λ l. Some (l, us)) (append_assoc (text ++ b) first more ∙ append_assoc text b (first ++ more)))

exact_parts : {ts us : List TokenKind} {l : Name} → IsLabel ts l us → spec.separator us ≡ None → Parts ts l us
exact_parts (g.name {n = n} {us = us}) stop = record { first = n; more = []; rest = us; begins = refl; whole = sym (append-nil n); reads = parts_none us stop }
exact_parts (g.dot {n = n} {l = l} {ts = ts} {us = us} r) stop = record {
  first = n;
  more = 46 ∷ l;
  rest = Mark DOT ∷ ts;
  begins = refl;
  whole = refl;
  reads = let p = exact_parts r stop in parts_more DOT (codes ".") ts us p.rest l p.first p.more refl p.begins p.whole p.reads;
}
exact_parts (g.colon {n = n} {l = l} {ts = ts} {us = us} r) stop = record {
  first = n;
  more = 58 ∷ l;
  rest = Mark COLON ∷ ts;
  begins = refl;
  whole = refl;
  reads = let p = exact_parts r stop in parts_more COLON (codes ":") ts us p.rest l p.first p.more refl p.begins p.whole p.reads;
}

label_by : (ts us rest : List TokenKind) (l first more : Name) → ts ≡ Ident first ∷ rest → l ≡ first ++ more → spec.parts (length (Ident first ∷ rest)) first rest ≡ Some (first ++ more, us)
    → spec.label ts ≡ Some (l, us)
label_by ts us rest l first more begins is reads = rw (begins, is) reads

pub exact_label : {ts us : List TokenKind} {l : Name} → IsLabel ts l us → spec.separator us ≡ None → spec.label ts ≡ Some (l, us)
exact_label {ts} {us} {l} r stop =
    let p = exact_parts r stop in
    label_by ts us p.rest l p.first p.more p.begins p.whole (p.reads (length (Ident p.first ∷ p.rest)) p.first (omega arith))

pub exact_labelled : {ts us : List TokenKind} {p : Proof} → IsLabelled ts p us → Ends us → spec.labelled ts ≡ Some (p, us)
exact_labelled (g.labelled l plain s) stop = rw (exact_label l refl, plain, exact_script s stop)

pub exact_proof : {ts us : List TokenKind} {p : Proof} → IsProof ts p us → spec.proof ts ≡ Some (p, us)
exact_proof (g.proof {us = us} r) = rw (exact_labelled r (record { no_semicolon = refl; no_brace = refl; stops = qed_stops us }))

-- the items that are left are read, wherever there are turns enough
items_none : (us : List TokenKind) → spec.eat_declares us ≡ None → (k : ℕ) (done : List Item) → length us ≤ k → spec.items k done us ≡ Some (done ++ [], us)
unfolding spec.items
items_none us stop zero done fits = ap (λ l. Some (l, us)) (sym (append-nil done))
items_none us stop (suc k) done fits = rw stop (ap (λ l. Some (l, us)) (sym (append-nil done)))

items_more : (ts us vs : List TokenKind) (i : Item) (list : List Item) → read_item ts ≡ Some (i, us) → length us < length ts
    → ((k : ℕ) (done : List Item) → length us ≤ k → spec.items k done us ≡ Some (done ++ list, vs))
    → (k : ℕ) (done : List Item) → length ts ≤ k → spec.items k done ts ≡ Some (done ++ (i ∷ list), vs)
unfolding spec.items
items_more ts us vs i list reads less rest zero done fits = absurd (omega arith)
items_more ts us vs i list reads less rest (suc k) done fits =
    let d = given_some (spec.eat_declares ts) (λ d. spec.item d.0 d.1) reads in
    rw (d.1, d.2) (rest k (done ++ (i ∷ [])) (omega arith) ∙ ap (λ l. Some (l, vs)) (append_assoc done (i ∷ []) list))

pub exact_items : {ts us : List TokenKind} {list : List Item} → AreItems ts list us → spec.eat_declares us ≡ None
    → (k : ℕ) (done : List Item) → length ts ≤ k → spec.items k done ts ≡ Some (done ++ list, us)
exact_items (g.none {us = us}) stop k done fits = items_none us stop k done fits
exact_items (g.more {ts = ts} {us = us} {vs = vs} {x = i} {rest = list} r rs) stop k done fits =
    items_more ts us vs i list (exact_item r) (item_takes r) (λ k done fits. exact_items rs stop k done fits) k done fits

pub exact_head : {ts us : List TokenKind} {u : P.Unit} → IsHead ts u us → spec.head ts ≡ Some (u, us)
exact_head (g.head {ts = ts} is) = rw (exact_items is refl (length ts) [] (omega arith))

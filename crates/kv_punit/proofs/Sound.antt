-- What the readers compute is in the grammar.
use Rattle.std.proofs.Common.{ℕ, zero, suc, ◌≡◌, refl, List, [], ◌∷◌, ◌++◌, length, ap, ◌∙◌, sym, subst, inl, inr, append_assoc, append-nil}
use Rattle.std.specs.Prelude.{Bool, true, false, Some, None, cond}
use Rattle.kv_lex.specs.Marks.{OPEN_BRACE, CLOSE_BRACE, SEMICOLON, EQUAL, BAR}
use Rattle.kv_lex.specs.declared.token.TokenKind.{TokenKind}
use Rattle.kv_lex.specs.declared.token.TokenKind.TheVariants.{Word, Ident, Mark}
use Rattle.kv_pexpr.specs.Parse.{Read, given, or_stay, eat_mark, eat_word, eat_name}
use Rattle.kv_pexpr.proofs.Steps.{some_is, given_some, stay_or, mark_some, word_some, name_some}
use Rattle.kv_names.specs.Names.{Name}
use Rattle.kv_syn.specs.Scripts.{Step, Script, Scripts}
use Rattle.kv_syn.specs.ScriptBridge.{scripts_of}
use Rattle.kv_syn.specs.Projects.{Proof, Item, Kind}
use Rattle.kv_syn.specs.Projects as P
use Rattle.kv_table.specs.Keywords as word
use Rattle.kv_punit.specs.Grammar as g
use Rattle.kv_punit.specs.Grammar.{IsStep, IsScript, AreScripts, IsLabel, AreItems, IsLabelled, IsProof, IsHead, path_steps, has_colon}
use Rattle.kv_punit.specs.Parse as spec
use Rattle.kv_punit.proofs.ItemSound.{sound_declares, sound_item}
use Rattle.kv_punit.proofs.StepReads.{sound_step}
use Rattle.kv_punit.proofs.Before.{separator_some}

module _ (n : ℕ) (read : List TokenKind → Read Script) (each : (ts : List TokenKind) (r : Script × List TokenKind) → read ts ≡ Some r → IsScript n ts r.0 r.1) where
  sound_block : (k : ℕ) (done : List Script) (ts : List TokenKind) (r : List Script × List TokenKind) → spec.block read k done ts ≡ Some r
      → (more : List Script) × (r.0 ≡ done ++ more) × AreScripts n ts (scripts_of more) r.1
  unfolding spec.block
  sound_block zero done ts r e = cc
  sound_block (suc k) done ts r e =
      let a = given_some (read ts) (spec.child (spec.block read k) done) e in
      elim (stay_or (given (eat_mark BAR a.0.1) (spec.block read k (done ++ (a.0.0 ∷ [])))) (λ us. Some (done ++ (a.0.0 ∷ []), us)) (eat_mark CLOSE_BRACE a.0.1) a.2) [
        | inl c ↦ (
            let is = rw (mark_some CLOSE_BRACE a.0.1 c.0 c.1) at (each ts a.0 a.1) in
            let f = some_is c.2 in
            (a.0.0 ∷ [], ap (λ x. x.0) (sym f), subst (λ (x : List Script × List TokenKind). AreScripts n ts (Scripts.more a.0.0 Scripts.none) x.1) f (g.last is)))
        | inr c ↦ (
            let b = given_some (eat_mark BAR a.0.1) (spec.block read k (done ++ (a.0.0 ∷ []))) c.1 in
            let rest = sound_block k (done ++ (a.0.0 ∷ [])) b.0 r b.2 in
            let is = rw (mark_some BAR a.0.1 b.0 b.1) at (each ts a.0 a.1) in
            (a.0.0 ∷ rest.0, rest.1 ∙ append_assoc done (a.0.0 ∷ []) rest.0, g.more is rest.2))
      ]

  sound_children : (ts us : List TokenKind) (s : Step) (r : List Script × List TokenKind) → IsStep ts s us → spec.children read us ≡ Some r → IsScript (suc n) ts (Script.Node s (scripts_of r.0)) r.1
  sound_children ts us s r first e =
      elim (stay_or (or_stay (Some ([], us)) (spec.braces read) (eat_mark OPEN_BRACE us)) (spec.chained read) (eat_mark SEMICOLON us) e) [
        | inl a ↦ (
            let b = given_some (read a.0) (λ r. Some (r.0 ∷ [], r.1)) a.2 in
            let is = rw (mark_some SEMICOLON us a.0 a.1) at first in
            subst (λ (x : List Script × List TokenKind). IsScript (suc n) ts (Script.Node s (scripts_of x.0)) x.1) (some_is b.2) (g.chain is (each a.0 b.0 b.1)))
        | inr a ↦ elim (stay_or (Some ([], us)) (spec.braces read) (eat_mark OPEN_BRACE us) a.1) [
          | inl b ↦ (
              let c = sound_block (length b.0) [] b.0 r b.2 in
              let is = rw (mark_some OPEN_BRACE us b.0 b.1) at first in
              subst (λ (l : List Script). IsScript (suc n) ts (Script.Node s (scripts_of l)) r.1) (sym c.1) (g.block is c.2))
          | inr b ↦ subst (λ (x : List Script × List TokenKind). IsScript (suc n) ts (Script.Node s (scripts_of x.0)) x.1) (some_is b.1) (g.leaf first)
        ]
      ]

  sound_node : (ts : List TokenKind) (r : Script × List TokenKind) → given (spec.step ts) (spec.node read) ≡ Some r → IsScript (suc n) ts r.0 r.1
  sound_node ts r e =
      let s = given_some (spec.step ts) (spec.node read) e in
      let c = given_some (spec.children read s.0.1) (λ r. Some (Script.Node s.0.0 (scripts_of r.0), r.1)) s.2 in
      subst (λ (x : Script × List TokenKind). IsScript (suc n) ts x.0 x.1) (some_is c.2) (sound_children ts s.0.1 s.0.0 c.0 (sound_step ts s.0 s.1) c.1)

sound_hole : (n : ℕ) (ts us : List TokenKind) (r : Script × List TokenKind) → eat_word word.OPEN ts ≡ Some us → spec.hole us ≡ Some r → IsScript n ts r.0 r.1
sound_hole n ts us r e f = rw (word_some word.OPEN ts us e) (subst (λ (x : Script × List TokenKind). IsScript n (Word word.OPEN ∷ us) x.0 x.1) (some_is f) g.hole)

pub sound_script : (n : ℕ) (ts : List TokenKind) (r : Script × List TokenKind) → spec.script n ts ≡ Some r → IsScript n ts r.0 r.1
unfolding spec.script
sound_script zero ts r e = elim (stay_or None spec.hole (eat_word word.OPEN ts) e) [
  | inl a ↦ sound_hole zero ts a.0 r a.1 a.2
  | inr a ↦ absurd (let f = a.1 in cc)
]
sound_script (suc n) ts r e = elim (stay_or (given (spec.step ts) (spec.node (spec.script n))) spec.hole (eat_word word.OPEN ts) e) [
  | inl a ↦ sound_hole (suc n) ts a.0 r a.1 a.2
  | inr a ↦ sound_node n (spec.script n) (sound_script n) ts r a.1
]

-- what is added to the text of a label
abbrev pub Adds : Name → List TokenKind → Name × List TokenKind → Type 0
Adds text ts r = (more : Name) × (r.0 ≡ text ++ more) × ((n : Name) → IsLabel (Ident n ∷ ts) (n ++ more) r.1)

adds_none : (text : Name) (ts : List TokenKind) (r : Name × List TokenKind) → (text, ts) ≡ r → Adds text ts r
adds_none text ts r e = subst (Adds text ts) e ([], sym (append-nil text), λ n. rw (append-nil n) g.name)

adds_part : (text : Name) (ts : List TokenKind) (b m : Name × List TokenKind) (r : Name × List TokenKind) → spec.separator ts ≡ Some b → eat_name b.1 ≡ Some m
    → Adds ((text ++ b.0) ++ m.0) m.1 r → Adds text ts r
adds_part text ts b m r e f rest =
    let is = rw (← name_some b.1 m f) at (rest.2 m.0) in (
      b.0 ++ (m.0 ++ rest.0),
      rest.1 ∙ append_assoc (text ++ b.0) m.0 rest.0 ∙ append_assoc text b.0 (m.0 ++ rest.0),
      λ n.
          elim (separator_some ts b e) [
            | inl a ↦ rw (a.0, a.1) (g.dot is)
            | inr a ↦ rw (a.0, a.1) (g.colon is)
          ],
    )

sound_parts : (k : ℕ) (text : Name) (ts : List TokenKind) (r : Name × List TokenKind) → spec.parts k text ts ≡ Some r → Adds text ts r
unfolding spec.parts
sound_parts zero text ts r e = adds_none text ts r (some_is e)
sound_parts (suc k) text ts r e = elim (stay_or (Some (text, ts)) (spec.part (spec.parts k) text) (spec.separator ts) e) [
  | inl a ↦ (
      let m = given_some (eat_name a.0.1) (λ r. spec.parts k ((text ++ a.0.0) ++ r.0) r.1) a.2 in
      adds_part text ts a.0 m.0 r a.1 m.1 (sound_parts k ((text ++ a.0.0) ++ m.0.0) m.0.1 r m.2))
  | inr a ↦ adds_none text ts r (some_is a.1)
]

label_from : (ts ts' us : List TokenKind) (l l' : Name) → ts ≡ ts' → l ≡ l' → IsLabel ts' l' us → IsLabel ts l us
label_from ts ts' us l l' e f is = rw (e, f) is

pub sound_label : (ts : List TokenKind) (r : Name × List TokenKind) → spec.label ts ≡ Some r → IsLabel ts r.0 r.1
sound_label ts r e =
    let n = given_some (eat_name ts) (λ r. spec.parts (length ts) r.0 r.1) e in
    let rest = sound_parts (length ts) n.0.0 n.0.1 r n.2 in
    label_from ts (Ident n.0.0 ∷ n.0.1) r.1 r.0 (n.0.0 ++ rest.0) (name_some ts n.0 n.1) rest.1 (rest.2 n.0.0)

-- a label without a colon
if_plain : (b : Bool) (r s : Name × List TokenKind) → cond b None (Some r) ≡ Some s → (b ≡ false) × (r ≡ s)
if_plain true r s e = cc
if_plain false r s e = (refl, some_is e)

sound_proof_label : (ts : List TokenKind) (r : Name × List TokenKind) → spec.proof_label ts ≡ Some r → IsLabel ts r.0 r.1 × (has_colon r.0 ≡ false)
sound_proof_label ts r e =
    let l = given_some (spec.label ts) spec.without_colon e in
    let b = if_plain (has_colon l.0.0) l.0 r l.2 in
    subst (λ (x : Name × List TokenKind). IsLabel ts x.0 x.1 × (has_colon x.0 ≡ false)) b.1 (sound_label ts l.0 l.1, b.0)

pub sound_labelled : (ts : List TokenKind) (r : Proof × List TokenKind) → spec.labelled ts ≡ Some r → IsLabelled ts r.0 r.1
sound_labelled ts r e =
    let l = given_some (spec.proof_label ts) spec.equated e in
    let b = given_some (eat_mark EQUAL l.0.1) (spec.scripted l.0.0) l.2 in
    let s = given_some (spec.script path_steps b.0) (spec.with_label l.0.0) b.2 in
    let named = sound_proof_label ts l.0 l.1 in
    let label = rw (mark_some EQUAL l.0.1 b.0 b.1) at named.0 in
    subst (λ (x : Proof × List TokenKind). IsLabelled ts x.0 x.1) (some_is s.2) (g.labelled label named.1 (sound_script path_steps b.0 s.0 s.1))

pub sound_proof : (ts : List TokenKind) (r : Proof × List TokenKind) → spec.proof ts ≡ Some r → IsProof ts r.0 r.1
sound_proof ts r e =
    let a = given_some (eat_word word.PROOF ts) (λ us. given (spec.labelled us) spec.closed) e in
    let p = given_some (spec.labelled a.0) spec.closed a.2 in
    let q = given_some (eat_word word.QED p.0.1) (λ ts. Some (p.0.0, ts)) p.2 in
    let is = rw (word_some word.QED p.0.1 q.0 q.1) at (sound_labelled a.0 p.0 p.1) in
    rw (word_some word.PROOF ts a.0 a.1) (subst (λ (x : Proof × List TokenKind). IsProof (Word word.PROOF ∷ a.0) x.0 x.1) (some_is q.2) (g.proof is))

pub sound_items : (k : ℕ) (done : List Item) (ts : List TokenKind) (r : List Item × List TokenKind) → spec.items k done ts ≡ Some r
    → (more : List Item) × (r.0 ≡ done ++ more) × AreItems ts more r.1
unfolding spec.items
sound_items zero done ts r e = subst (λ (x : List Item × List TokenKind). (more : List Item) × (x.0 ≡ done ++ more) × AreItems ts more x.1) (some_is e) ([], sym (append-nil done), g.none)
sound_items (suc k) done ts r e = elim (stay_or (Some (done, ts)) (spec.started (spec.items k) done) (spec.eat_declares ts) e) [
  | inl a ↦ (
      let i = given_some (spec.item a.0.0 a.0.1) (λ i. spec.items k (done ++ (i.0 ∷ [])) i.1) a.2 in
      let rest = sound_items k (done ++ (i.0.0 ∷ [])) i.0.1 r i.2 in
      (i.0.0 ∷ rest.0, rest.1 ∙ append_assoc done (i.0.0 ∷ []) rest.0, rw (sound_declares ts a.0 a.1) (g.more (sound_item a.0.0 a.0.1 i.0 i.1) rest.2)))
  | inr a ↦ subst (λ (x : List Item × List TokenKind). (more : List Item) × (x.0 ≡ done ++ more) × AreItems ts more x.1) (some_is a.1) ([], sym (append-nil done), g.none)
]

-- what stands behind the items of a head
ended_some : (n : Name) (i : List Item × List TokenKind) (r : P.Unit × List TokenKind) → spec.ended n i ≡ Some r
    → (i.1 ≡ Word word.END ∷ r.1) × (record { name = n; kind = Kind.Basic i.0; theorems = []; proofs = [] } ≡ r.0)
ended_some n i r e =
    let q = given_some (eat_word word.END i.1) (λ ts. Some (record { name = n; kind = Kind.Basic i.0; theorems = []; proofs = [] }, ts)) e in
    let f = some_is q.2 in
    (word_some word.END i.1 q.0 q.1 ∙ ap (λ x. Word word.END ∷ x.1) f, ap (λ x. x.0) f)

head_from : (ts us vs ws xs ys : List TokenKind) (n : Name) (items : List Item) → ts ≡ Word word.UNIT ∷ us → us ≡ Ident n ∷ vs → vs ≡ Word word.BASIC ∷ ws → ys ≡ Word word.END ∷ xs
    → AreItems ws items ys → IsHead ts (record { name = n; kind = Kind.Basic items; theorems = []; proofs = [] }) xs
head_from ts us vs ws xs ys n items e f h ends are = rw (e, f, h) (g.head (subst (AreItems ws items) ends are))

pub sound_head : (ts : List TokenKind) (r : P.Unit × List TokenKind) → spec.head ts ≡ Some r → IsHead ts r.0 r.1
sound_head ts r e =
    let a = given_some (eat_word word.UNIT ts) (λ us. given (eat_name us) spec.titled) e in
    let n = given_some (eat_name a.0) spec.titled a.2 in
    let b = given_some (eat_word word.BASIC n.0.1) (spec.itemized n.0.0) n.2 in
    let i = given_some (spec.items (length b.0) [] b.0) (spec.ended n.0.0) b.2 in
    let ends = ended_some n.0.0 i.0 r i.2 in
    let are = sound_items (length b.0) [] b.0 i.0 i.1 in
    let lists : AreItems b.0 i.0.0 i.0.1 = subst (λ l. AreItems b.0 l i.0.1) (sym are.1) are.2 in
    subst (λ u. IsHead ts u r.1) ends.1
    (head_from ts a.0 n.0.1 b.0 r.1 i.0.1 n.0.0 i.0.0 (word_some word.UNIT ts a.0 a.1) (name_some a.0 n.0 n.1) (word_some word.BASIC n.0.1 b.0 b.1) ends.0 lists)

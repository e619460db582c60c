-- What the readers of items compute is in the grammar.
use Rattle.std.proofs.Common.{ℕ, zero, suc, ◌≡◌, refl, List, [], ◌∷◌, ◌++◌, length, ap, ◌∙◌, sym, subst, inl, inr, append_assoc}
use Rattle.std.specs.Prelude.{Bool, true, false, Option, Some, None, ◌⊎◌, cond, ◌==◌}
use Rattle.kv_lex.specs.Marks.{OPEN, CLOSE, COMMA, SEMICOLON, COLON, ARROW}
use Rattle.kv_lex.specs.declared.token.TokenKind.{TokenKind}
use Rattle.kv_lex.specs.declared.token.TokenKind.TheVariants.{Word, Ident, Number, Mark}
use Rattle.kv_pexpr.specs.Parse.{Read, given, or_stay, eat_mark, eat_name}
use Rattle.kv_pexpr.proofs.Steps.{some_is, given_some, stay_or, chosen, if_some, mark_some, name_some}
use Rattle.kv_names.specs.Names.{Name}
use Rattle.kv_syn.specs.Projects.{Item}
use Rattle.kv_names.specs.declared.symbols.Var.{Var}
use Rattle.kv_table.specs.Keywords as word
use Rattle.kv_punit.specs.declared.items.Declares.{Declares}
use Rattle.kv_punit.specs.declared.items.Declares.TheVariants as declare
use Rattle.kv_punit.specs.Grammar as g
use Rattle.kv_punit.specs.Grammar.{IsName, IsParameter, Listed, AreNames, AreParameters, IsDeclaration, IsItem}
use Rattle.kv_punit.specs.Parse as spec

-- ---- lists with commas

module _ {X : Type 0} (thing : List TokenKind → Read X) (Is : List TokenKind → X → List TokenKind → Type 0) (each : (ts : List TokenKind) (r : X × List TokenKind) → thing ts ≡ Some r → Is ts r.0 r.1) where
  pub sound_listed : (k : ℕ) (done : List X) (ts : List TokenKind) (r : List X × List TokenKind) → spec.listed thing k done ts ≡ Some r
      → (more : List X) × (r.0 ≡ done ++ more) × Listed Is ts more r.1
  unfolding spec.listed
  sound_listed zero done ts r e = cc
  sound_listed (suc k) done ts r e =
      let a = given_some (thing ts) (spec.followed (spec.listed thing k) done) e in
      elim (stay_or (Some (done ++ (a.0.0 ∷ []), a.0.1)) (spec.listed thing k (done ++ (a.0.0 ∷ []))) (eat_mark COMMA a.0.1) a.2) [
        | inl c ↦ (
            let rest = sound_listed k (done ++ (a.0.0 ∷ [])) c.0 r c.2 in
            let is = rw (mark_some COMMA a.0.1 c.0 c.1) at (each ts a.0 a.1) in
            (a.0.0 ∷ rest.0, rest.1 ∙ append_assoc done (a.0.0 ∷ []) rest.0, g.more is rest.2))
        | inr c ↦ (
            let f = some_is c.1 in
            (a.0.0 ∷ [], ap (λ x. x.0) (sym f), subst (λ (x : List X × List TokenKind). Listed Is ts (a.0.0 ∷ []) x.1) f (g.last (each ts a.0 a.1))))
      ]

  pub sound_whole_list : (ts : List TokenKind) (r : List X × List TokenKind) → spec.listed thing (length ts) [] ts ≡ Some r → Listed Is ts r.0 r.1
  sound_whole_list ts r e =
      let m = sound_listed (length ts) [] ts r e in
      subst (λ (l : List X). Listed Is ts l r.1) (sym m.1) m.2

sound_name : (ts : List TokenKind) (r : Name × List TokenKind) → eat_name ts ≡ Some r → IsName ts r.0 r.1
sound_name ts r e = rw (name_some ts r e) g.name

pub sound_names : (ts : List TokenKind) (r : List Name × List TokenKind) → spec.names ts ≡ Some r → AreNames ts r.0 r.1
sound_names ts r e = sound_whole_list eat_name IsName sound_name ts r e

parameter_from : (ts us vs ws : List TokenKind) (x s : Name) → ts ≡ Ident x ∷ us → us ≡ Mark COLON ∷ vs → vs ≡ Ident s ∷ ws → IsParameter ts (record { name = x; sort = s }) ws
parameter_from ts us vs ws x s e f h = rw (e, f, h) (g.parameter {x = record { name = x; sort = s }})

sound_parameter : (ts : List TokenKind) (r : Var × List TokenKind) → spec.parameter ts ≡ Some r → IsParameter ts r.0 r.1
sound_parameter ts r e =
    let x = given_some (eat_name ts) spec.typed e in
    let c = given_some (eat_mark COLON x.0.1) (λ us. given (eat_name us) (spec.sorted x.0.0)) x.2 in
    let s = given_some (eat_name c.0) (spec.sorted x.0.0) c.2 in
    subst (λ (y : Var × List TokenKind). IsParameter ts y.0 y.1) (some_is s.2)
    (parameter_from ts x.0.1 c.0 s.0.1 x.0.0 s.0.0 (name_some ts x.0 x.1) (mark_some COLON x.0.1 c.0 c.1) (name_some c.0 s.0 s.1))

parameters_by : (b : Bool) (ts : List TokenKind) (r : List Var × List TokenKind) → cond b (spec.listed spec.parameter (length ts) [] ts) (Some ([], ts)) ≡ Some r → AreParameters ts r.0 r.1
parameters_by true ts r e = g.some (sound_whole_list spec.parameter IsParameter sound_parameter ts r e)
parameters_by false ts r e = subst (λ (x : List Var × List TokenKind). AreParameters ts x.0 x.1) (some_is e) g.none

pub sound_parameters : (ts : List TokenKind) (r : List Var × List TokenKind) → spec.parameters ts ≡ Some r → AreParameters ts r.0 r.1
sound_parameters ts r e = parameters_by (spec.begins_with_name ts) ts r e

-- ---- declarations

sound_arguments : (ts : List TokenKind) (r : List Name × List TokenKind) → spec.arguments ts ≡ Some r → AreNames ts r.0 (Mark ARROW ∷ r.1) ⊎ (r ≡ ([], ts))
sound_arguments ts r e =
    let a = given_some (spec.names ts) (spec.arrowed ts) e in
    elim (stay_or (Some ([], ts)) (λ us. Some (a.0.0, us)) (eat_mark ARROW a.0.1) a.2) [
      | inl c ↦ (
          let is = rw (mark_some ARROW a.0.1 c.0 c.1) at (sound_names ts a.0 a.1) in
          inl (subst (λ (x : List Name × List TokenKind). AreNames ts x.0 (Mark ARROW ∷ x.1)) (some_is c.2) is))
      | inr c ↦ inr (sym (some_is c.1))
    ]

constant_from : (n : Name) (ts : List TokenKind) (a : List Name × List TokenKind) (s : Name × List TokenKind) → a ≡ ([], ts) → a.1 ≡ Ident s.0 ∷ s.1
    → IsDeclaration (Word word.FUN ∷ Ident n ∷ Mark COLON ∷ ts) (Item.Fun n a.0 s.0) s.1
constant_from n ts a s e f =
    let h : ts ≡ Ident s.0 ∷ s.1 = ap (λ x. x.1) (sym e) ∙ f in
    let l : a.0 ≡ [] = ap (λ x. x.0) e in
    rw (h, l) g.constant

sound_function : (n : Name) (ts : List TokenKind) (r : Item × List TokenKind) → spec.function n ts ≡ Some r → IsDeclaration (Word word.FUN ∷ Ident n ∷ ts) r.0 r.1
sound_function n ts r e =
    let c = given_some (eat_mark COLON ts) (λ us. given (spec.arguments us) (spec.resulting n)) e in
    let a = given_some (spec.arguments c.0) (spec.resulting n) c.2 in
    let s = given_some (eat_name a.0.1) (spec.into n a.0.0) a.2 in
    let is : IsDeclaration (Word word.FUN ∷ Ident n ∷ Mark COLON ∷ c.0) (Item.Fun n a.0.0 s.0.0) s.0.1 =
    elim (sound_arguments c.0 a.0 a.1) [
      | inl are ↦ g.function (rw (name_some a.0.1 s.0 s.1) at are)
      | inr none ↦ constant_from n c.0 a.0 s.0 none (name_some a.0.1 s.0 s.1)
    ] in
    rw (mark_some COLON ts c.0 c.1) (subst (λ (x : Item × List TokenKind). IsDeclaration (Word word.FUN ∷ Ident n ∷ Mark COLON ∷ c.0) x.0 x.1) (some_is s.2) is)

sound_predicate : (n : Name) (ts : List TokenKind) (r : Item × List TokenKind) → spec.predicate n ts ≡ Some r → IsDeclaration (Word word.PRED ∷ Ident n ∷ ts) r.0 r.1
sound_predicate n ts r e = elim (stay_or (Some (Item.Pred n [], ts)) (λ us. given (spec.names us) (spec.over n)) (eat_mark COLON ts) e) [
  | inl c ↦ (
      let m = given_some (spec.names c.0) (spec.over n) c.2 in
      rw (mark_some COLON ts c.0 c.1)
      (subst (λ (x : Item × List TokenKind). IsDeclaration (Word word.PRED ∷ Ident n ∷ Mark COLON ∷ c.0) x.0 x.1) (some_is m.2) (g.predicate (sound_names c.0 m.0 m.1))))
  | inr c ↦ subst (λ (x : Item × List TokenKind). IsDeclaration (Word word.PRED ∷ Ident n ∷ ts) x.0 x.1) (some_is c.1) g.proposition
]

sound_procedure : (n : Name) (ts : List TokenKind) (r : Item × List TokenKind) → spec.procedure n ts ≡ Some r → IsDeclaration (Word word.PROC ∷ Ident n ∷ ts) r.0 r.1
sound_procedure n ts r e =
    let o = given_some (eat_mark OPEN ts) (λ us. given (spec.parameters us) (spec.referring n)) e in
    let v = given_some (spec.parameters o.0) (spec.referring n) o.2 in
    let m = given_some (eat_mark SEMICOLON v.0.1) (λ us. given (spec.parameters us) (spec.bracketed n v.0.0)) v.2 in
    let w = given_some (spec.parameters m.0) (spec.bracketed n v.0.0) m.2 in
    let c = given_some (eat_mark CLOSE w.0.1) (λ us. Some (Item.Proc n v.0.0 w.0.0 None, us)) w.2 in
    let values = rw (mark_some SEMICOLON v.0.1 m.0 m.1) at (sound_parameters o.0 v.0 v.1) in
    let refs = rw (mark_some CLOSE w.0.1 c.0 c.1) at (sound_parameters m.0 w.0 w.1) in
    rw (mark_some OPEN ts o.0 o.1)
    (subst (λ (x : Item × List TokenKind). IsDeclaration (Word word.PROC ∷ Ident n ∷ Mark OPEN ∷ o.0) x.0 x.1) (some_is c.2) (g.procedure values refs))

-- the keyword of what is declared
abbrev pub word_of : Declares → ℕ
word_of declare.Sort = word.SORT
word_of declare.Function = word.FUN
word_of declare.Predicate = word.PRED
word_of declare.Procedure = word.PROC

sound_declaration : (d : Declares) (n : Name) (ts : List TokenKind) (r : Item × List TokenKind) → spec.declaration d n ts ≡ Some r → IsDeclaration (Word (word_of d) ∷ Ident n ∷ ts) r.0 r.1
sound_declaration declare.Sort n ts r e = subst (λ (x : Item × List TokenKind). IsDeclaration (Word word.SORT ∷ Ident n ∷ ts) x.0 x.1) (some_is e) g.sort
sound_declaration declare.Function n ts r e = sound_function n ts r e
sound_declaration declare.Predicate n ts r e = sound_predicate n ts r e
sound_declaration declare.Procedure n ts r e = sound_procedure n ts r e

is_word : (w : ℕ) (d other : Declares) → w ≡ word_of d → Some d ≡ Some other → w ≡ word_of other
is_word w d other e f = e ∙ ap word_of (some_is f)

declares_some : (w : ℕ) (d : Declares) → spec.declares w ≡ Some d → w ≡ word_of d
declares_some w d e =
    let third : Option Declares = cond (w == word.PROC) (Some declare.Procedure) None in
    let second : Option Declares = cond (w == word.PRED) (Some declare.Predicate) third in
    let first : Option Declares = cond (w == word.FUN) (Some declare.Function) second in
    elim (chosen w word.SORT (Some declare.Sort) first e) [
      | inl a ↦ is_word w declare.Sort d a.0 a.1
      | inr a ↦ elim (chosen w word.FUN (Some declare.Function) second a) [
        | inl b ↦ is_word w declare.Function d b.0 b.1
        | inr b ↦ elim (chosen w word.PRED (Some declare.Predicate) third b) [
          | inl c ↦ is_word w declare.Predicate d c.0 c.1
          | inr c ↦ (let f = if_some w word.PROC declare.Procedure c in f.0 ∙ ap word_of f.1)
        ]
      ]
    ]

pub sound_declares : (ts : List TokenKind) (r : Declares × List TokenKind) → spec.eat_declares ts ≡ Some r → ts ≡ Word (word_of r.0) ∷ r.1
sound_declares [] r e = cc
sound_declares (Word w ∷ ts) r e =
    let d = given_some (spec.declares w) (λ d. Some (d, ts)) e in
    let f = some_is d.2 in
    subst (λ (x : Declares × List TokenKind). Word w ∷ ts ≡ Word (word_of x.0) ∷ x.1) f (ap (λ n. Word n ∷ ts) (declares_some w d.0 d.1))
sound_declares (Ident n ∷ ts) r e = cc
sound_declares (Number k ∷ ts) r e = cc
sound_declares (Mark m ∷ ts) r e = cc

pub sound_item : (d : Declares) (ts : List TokenKind) (r : Item × List TokenKind) → spec.item d ts ≡ Some r → IsItem (Word (word_of d) ∷ ts) r.0 r.1
sound_item d ts r e =
    let n = given_some (eat_name ts) (spec.named d) e in
    let m = given_some (spec.declaration d n.0.0 n.0.1) spec.semicolon n.2 in
    let s = given_some (eat_mark SEMICOLON m.0.1) (λ us. Some (m.0.0, us)) m.2 in
    let is = rw (mark_some SEMICOLON m.0.1 s.0 s.1) at (sound_declaration d n.0.0 n.0.1 m.0 m.1) in
    rw (name_some ts n.0 n.1) (subst (λ (x : Item × List TokenKind). IsItem (Word (word_of d) ∷ Ident n.0.0 ∷ n.0.1) x.0 x.1) (some_is s.2) (g.item is))

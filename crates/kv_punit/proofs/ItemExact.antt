-- The items that are in the grammar, the readers compute.
use Rattle.std.proofs.Common.{ℕ, zero, suc, ◌≡◌, ◌≤◌, ◌<◌, List, [], ◌∷◌, ◌++◌, length, refl, ap, ◌∙◌, arith, append_assoc}
use Rattle.std.specs.Prelude.{true, false, Some, None}
use Rattle.kv_lex.specs.Marks.{COMMA, SEMICOLON, COLON}
use Rattle.kv_lex.specs.declared.token.TokenKind.{TokenKind}
use Rattle.kv_lex.specs.declared.token.TokenKind.TheVariants.{Word, Ident, Mark}
use Rattle.kv_pexpr.specs.Parse.{Read, given, eat_mark, eat_name}
use Rattle.kv_names.specs.Names.{Name}
use Rattle.kv_syn.specs.Projects.{Item}
use Rattle.kv_names.specs.declared.symbols.Var.{Var}
use Rattle.kv_table.specs.Keywords as word
use Rattle.kv_punit.specs.Grammar as g
use Rattle.kv_punit.specs.Grammar.{IsName, IsParameter, Listed, AreNames, AreParameters, IsDeclaration, IsItem}
use Rattle.kv_punit.specs.Parse as spec

-- ---- how many tokens a reading takes

listed_takes : {X : Type 0} (Is : List TokenKind → X → List TokenKind → Type 0) → ((ts us : List TokenKind) (x : X) → Is ts x us → length us < length ts)
    → {ts us : List TokenKind} {xs : List X} → Listed Is ts xs us → length us < length ts
listed_takes Is takes (g.last {ts = ts} {us = us} {x = x} r) = takes ts us x r
listed_takes Is takes (g.more {ts = ts} {us = us} {x = x} r rs) = omega (arith, takes ts (Mark COMMA ∷ us) x r, listed_takes Is takes rs)

name_takes : (ts us : List TokenKind) (n : Name) → IsName ts n us → length us < length ts
name_takes ts us n g.name = omega arith

parameter_takes : (ts us : List TokenKind) (x : Var) → IsParameter ts x us → length us < length ts
parameter_takes ts us x g.parameter = omega arith

names_take : {ts us : List TokenKind} {names : List Name} → AreNames ts names us → length us < length ts
names_take r = listed_takes IsName name_takes r

parameters_take : {ts us : List TokenKind} {xs : List Var} → AreParameters ts xs us → length us ≤ length ts
parameters_take g.none = omega arith
parameters_take (g.some r) = omega (arith, listed_takes IsParameter parameter_takes r)

declaration_takes : {ts us : List TokenKind} {i : Item} → IsDeclaration ts i us → length us < length ts
declaration_takes g.sort = omega arith
declaration_takes g.constant = omega arith
declaration_takes (g.function r) = omega (arith, names_take r)
declaration_takes g.proposition = omega arith
declaration_takes (g.predicate r) = omega (arith, names_take r)
declaration_takes (g.procedure r s) = omega (arith, parameters_take r, parameters_take s)

pub item_takes : {ts us : List TokenKind} {i : Item} → IsItem ts i us → length us < length ts
item_takes (g.item r) = omega (arith, declaration_takes r)

-- ---- lists with commas: read wherever there are turns enough

module _ {X : Type 0} (thing : List TokenKind → Read X) (Is : List TokenKind → X → List TokenKind → Type 0)
    (each : (ts us : List TokenKind) (x : X) → Is ts x us → thing ts ≡ Some (x, us)) (takes : (ts us : List TokenKind) (x : X) → Is ts x us → length us < length ts) where
  listed_last : (ts us : List TokenKind) (x : X) → thing ts ≡ Some (x, us) → length us < length ts → eat_mark COMMA us ≡ None
      → (k : ℕ) (done : List X) → length ts ≤ k → spec.listed thing k done ts ≡ Some (done ++ (x ∷ []), us)
  unfolding spec.listed
  listed_last ts us x e less stop zero done fits = absurd (omega arith)
  listed_last ts us x e less stop (suc k) done fits = rw (e, stop)

  exact_listed : {ts us : List TokenKind} {xs : List X} → Listed Is ts xs us → eat_mark COMMA us ≡ None
      → (k : ℕ) (done : List X) → length ts ≤ k → spec.listed thing k done ts ≡ Some (done ++ xs, us)
  unfolding spec.listed
  exact_listed (g.last {ts = ts} {us = us} {x = x} r) stop k done fits = listed_last ts us x (each ts us x r) (takes ts us x r) stop k done fits
  exact_listed (g.more {ts = ts} {us = us} {x = x} r rs) stop zero done fits = absurd (omega (arith, takes ts (Mark COMMA ∷ us) x r))
  exact_listed (g.more {ts = ts} {us = us} {vs = vs} {x = x} {rest = xs} r rs) stop (suc k) done fits =
      rw (each ts (Mark COMMA ∷ us) x r) (exact_listed rs stop k (done ++ (x ∷ [])) (omega (arith, takes ts (Mark COMMA ∷ us) x r)) ∙ ap (λ l. Some (l, vs)) (append_assoc done (x ∷ []) xs))

  exact_whole_list : {ts us : List TokenKind} {xs : List X} → Listed Is ts xs us → eat_mark COMMA us ≡ None → spec.listed thing (length ts) [] ts ≡ Some (xs, us)
  exact_whole_list {ts} r stop = exact_listed r stop (length ts) [] (omega arith)

exact_name : (ts us : List TokenKind) (n : Name) → IsName ts n us → eat_name ts ≡ Some (n, us)
exact_name ts us n g.name = refl

exact_parameter : (ts us : List TokenKind) (x : Var) → IsParameter ts x us → spec.parameter ts ≡ Some (x, us)
exact_parameter ts us x g.parameter = refl

pub exact_names : {ts us : List TokenKind} {names : List Name} → AreNames ts names us → eat_mark COMMA us ≡ None → spec.names ts ≡ Some (names, us)
exact_names r stop = exact_whole_list eat_name IsName exact_name name_takes r stop

parameters_begin : {ts us : List TokenKind} {xs : List Var} → Listed IsParameter ts xs us → spec.begins_with_name ts ≡ true
parameters_begin (g.last g.parameter) = refl
parameters_begin (g.more g.parameter rs) = refl

pub exact_parameters : {ts us : List TokenKind} {xs : List Var} → AreParameters ts xs us → eat_mark COMMA us ≡ None → spec.begins_with_name us ≡ false → spec.parameters ts ≡ Some (xs, us)
exact_parameters g.none stop none = rw none
exact_parameters (g.some r) stop none = rw (parameters_begin r) (exact_whole_list spec.parameter IsParameter exact_parameter parameter_takes r stop)

-- ---- items

abbrev pub read_item : List TokenKind → Read Item
read_item ts = given (spec.eat_declares ts) (λ d. spec.item d.0 d.1)

exact_constant : (n s : Name) (us : List TokenKind) → spec.names (Ident s ∷ Mark SEMICOLON ∷ us) ≡ Some (s ∷ [], Mark SEMICOLON ∷ us)
    → read_item (Word word.FUN ∷ Ident n ∷ Mark COLON ∷ Ident s ∷ Mark SEMICOLON ∷ us) ≡ Some (Item.Fun n [] s, us)
exact_constant n s us e = rw e

pub exact_item : {ts us : List TokenKind} {i : Item} → IsItem ts i us → read_item ts ≡ Some (i, us)
exact_item (g.item g.sort) = refl
exact_item (g.item {us = us} (g.constant {n = n} {s = s})) = exact_constant n s us (exact_names (g.last g.name) refl)
exact_item (g.item (g.function r)) = rw (exact_names r refl)
exact_item (g.item g.proposition) = refl
exact_item (g.item (g.predicate r)) = rw (exact_names r refl)
exact_item (g.item (g.procedure r s)) = rw (exact_parameters r refl refl, exact_parameters s refl refl)

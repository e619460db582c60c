-- What a name stands for, in a context.
use Rattle.std.proofs.Common.{◌≡◌, ℕ, Bool, true, false, cond, List, [], ◌∷◌, Option, Some, None, map, reverse, length, find, slice_get, bytes_eq, option_map, refl, sym, ap, subst, ◌∙◌}
use Rattle.std.specs.Option.{option_or}
use Rattle.std.proofs.Math.Path.{ap₂}
use Rattle.std.proofs.lemmas.Grind.{reverse_onto}
use Rattle.std.proofs.lemmas.List.{length-reverse, reverse-append}
use Rattle.std.proofs.lemmas.Option.{slice_get-map}
use Rattle.std.proofs.lemmas.Slice.Eq.{bytes_eq-Decides}
use Rattle.kv_names.specs.Names.{Name}
use Rattle.kv_names.specs.declared.symbols.Profile.{Profile}
use Rattle.kv_names.specs.declared.symbols.Symbol.{Symbol}
use Rattle.kv_names.specs.declared.symbols.Var.{Var}
use Rattle.kv_trees.specs.declared.trees.Ref.{Ref}
use Rattle.kv_trees.specs.declared.trees.Ref.TheVariants.{Free, Bound}
use Rattle.kv_sig.specs.Members.{In, Every}
use Rattle.kv_sig.specs.Typing.{IsSort, IsVariable}
use Rattle.kv_sig.specs.FreeNames.{free_ref}
use Rattle.kv_elab.specs.declared.contexts.Context.{Context}
use Rattle.kv_elab.specs.Scopes.{under, bound_of, place_where, place_of, assumed_of}
use Rattle.kv_elab.specs.Lawful.{sorts_of, IsLawful}
use Rattle.kv_elab.proofs.Outcomes.{from_some}
use Rattle.kv_elab.proofs.Members.{every_in, find_in, get_front, get_last}

-- the variable that the reference leads to has that name and that sort
abbrev pub Names : Context → Name → Ref → Name → Type 0
Names c name (Free x) s = In x c.free × (x.name ≡ name) × (x.sort ≡ s)
Names c name (Bound n) s = (x : Var) × (slice_get (reverse c.bound) n ≡ Some x) × (x.name ≡ name) × (x.sort ≡ s)

abbrev IsAt : List Var → Name → ℕ × Var → Type 0
IsAt xs name p = (slice_get (reverse xs) p.0 ≡ Some p.1) × (p.1.name ≡ name)

bound_step : (x : Var) (xs : List Var) (name : Name) (o : Option (ℕ × Var)) (same : Bool) (p : ℕ × Var) →
    (o ≡ Some p → IsAt xs name p) → bytes_eq x.name name ≡ same → option_or o (cond same (Some (length xs, x)) None) ≡ Some p → IsAt (x ∷ xs) name p
bound_step x xs name (Some q) same p inner t e =
    let is : IsAt xs name p = inner e in
    (ap (λ ys. slice_get ys p.0) (reverse_onto xs x []) ∙ get_front (reverse xs) x p.1 p.0 is.0, is.1)
bound_step x xs name None true p inner t e =
    let here : slice_get (reverse (x ∷ xs)) (length xs) ≡ Some x =
    ap₂ (λ ys n. slice_get ys n) (reverse_onto xs x []) (sym (length-reverse xs)) ∙ get_last (reverse xs) x in
    subst (IsAt (x ∷ xs) name) (from_some (length xs, x) p e) (here, (bytes_eq-Decides x.name name).0 t)
bound_step x xs name None false p inner t e = cc

bound_at : (xs : List Var) (name : Name) (p : ℕ × Var) → bound_of xs name ≡ Some p → IsAt xs name p
bound_at [] name p e = cc
bound_at (x ∷ xs) name p e = bound_step x xs name (bound_of xs name) (bytes_eq x.name name) p (bound_at xs name p) refl e

place_step : (c : Context) (name : Name) (o : Option (ℕ × Var)) (q : Option Var) (p : Ref × Name) →
    bound_of c.bound name ≡ o → find (λ x. bytes_eq x.name name) c.free ≡ q → place_where o q ≡ Some p → Names c name p.0 p.1
place_step c name (Some b) q p e f g =
    let is = bound_at c.bound name b e in
    subst (λ (r : Ref × Name). Names c name r.0 r.1) (from_some (Bound b.0, b.1.sort) p g) (b.1, is.0, is.1, refl)
place_step c name None (Some x) p e f g =
    let is = find_in (λ (y : Var). bytes_eq y.name name) c.free x f in
    subst (λ (r : Ref × Name). Names c name r.0 r.1) (from_some (Free x, x.sort) p g) (is.0, (bytes_eq-Decides x.name name).0 is.1, refl)
place_step c name None None p e f g = cc

pub place_names : (c : Context) (name : Name) (p : Ref × Name) → place_of c name ≡ Some p → Names c name p.0 p.1
place_names c name p e = place_step c name (bound_of c.bound name) (find (λ x. bytes_eq x.name name) c.free) p refl refl e

-- a reference leads to one name
pub one_name : (c : Context) (a b : Name) (r : Ref) (s q : Name) → Names c a r s → Names c b r q → a ≡ b
one_name c a b (Free x) s q h g = sym h.1 ∙ g.1
one_name c a b (Bound n) s q h g = sym h.2 ∙ ap (λ (x : Var). x.name) (from_some h.0 g.0 (sym h.1 ∙ g.1)) ∙ g.2

pub place_typed : (sig : List Symbol) (c : Context) (name : Name) (r : Ref) (s : Name) → IsLawful sig c → Names c name r s → IsVariable sig (sorts_of c) r s
place_typed sig c name (Free x) s law h = (h.2, subst (IsSort sig) h.2 (every_in (λ (y : Var). IsSort sig y.sort) x c.free law.free h.0))
place_typed sig c name (Bound n) s law h = slice_get-map (λ (x : Var). x.sort) (reverse c.bound) n ∙ ap (option_map (λ (x : Var). x.sort)) h.1 ∙ ap Some h.3

pub place_within : (c : Context) (name : Name) (r : Ref) (s : Name) → Names c name r s → Every (λ (x : Var). In x c.free) (free_ref r)
place_within c name (Free x) s h = (h.0, tt)
place_within c name (Bound n) s h = tt

pub sorts_under : (c : Context) (x : Var) → sorts_of (under c x) ≡ x.sort ∷ sorts_of c
sorts_under c x = ap (map (λ (y : Var). y.sort)) (reverse-append c.bound (x ∷ []))

assumed_step : (assumed : List (Name × Profile)) (name : Name) (profile : Profile) (o : Option (Name × Profile)) →
    find (λ p. bytes_eq p.0 name) assumed ≡ o → option_map (λ p. p.1) o ≡ Some profile → In (name, profile) assumed
assumed_step assumed name profile None f e = cc
assumed_step assumed name profile (Some p) f e =
    let is = find_in (λ (q : Name × Profile). bytes_eq q.0 name) assumed p f in
    subst (λ (q : Name × Profile). In q assumed) (ap₂ (λ a b. (a, b)) ((bytes_eq-Decides p.0 name).0 is.1) (from_some p.1 profile e)) is.0

pub assumed_in : (assumed : List (Name × Profile)) (name : Name) (profile : Profile) → assumed_of assumed name ≡ Some profile → In (name, profile) assumed
assumed_in assumed name profile e = assumed_step assumed name profile (find (λ p. bytes_eq p.0 name) assumed) refl e

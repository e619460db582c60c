-- What a name stands for.
use Rattle.std.specs.Prelude.{ℕ, if◌then◌else◌, List, [], ◌∷◌, ◌++◌, Option, Some, None, length}
use Rattle.std.specs.Str.{bytes_eq}
use Rattle.std.specs.List.{find}
use Rattle.std.specs.Option.{option_or, option_map}
use Rattle.kv_names.specs.Names.{Name}
use Rattle.kv_names.specs.declared.symbols.Var.{Var}
use Rattle.kv_names.specs.declared.symbols.Profile.{Profile}
use Rattle.kv_trees.specs.declared.trees.Ref.{Ref}
use Rattle.kv_trees.specs.declared.trees.Ref.TheVariants.{Free, Bound}
use Rattle.kv_elab.specs.declared.contexts.Context.{Context}

-- the context inside a binder
abbrev pub under : Context → Var → Context
under c x = record { free = c.free; bound = c.bound ++ x ∷ []; assumed = c.assumed }

-- the innermost binder of that name, which stands last, with the number of binders inside it
abbrev pub bound_of : List Var → Name → Option (ℕ × Var)
bound_of [] name = None
bound_of (x ∷ xs) name = option_or (bound_of xs name) (if bytes_eq x.name name then Some (length xs, x) else None)

-- the variable of that name, with its sort: a binder hides a free variable
abbrev pub place_where : Option (ℕ × Var) → Option Var → Option (Ref × Name)
place_where (Some (number, x)) free = Some (Bound number, x.sort)
place_where None (Some x) = Some (Free x, x.sort)
place_where None None = None

abbrev pub place_of : Context → Name → Option (Ref × Name)
place_of c name = place_where (bound_of c.bound name) (find (λ x. bytes_eq x.name name) c.free)

-- the profile of the first assumed procedure of that name
abbrev pub assumed_of : List (Name × Profile) → Name → Option Profile
assumed_of assumed name = option_map (λ p. p.1) (find (λ p. bytes_eq p.0 name) assumed)

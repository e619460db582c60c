-- Contexts that a signature allows, and trees that name only what a context has.
use Rattle.std.specs.Prelude.{List, map, reverse}
use Rattle.kv_names.specs.Names.{Name}
use Rattle.kv_trees.specs.Trees.{Form}
use Rattle.kv_names.specs.declared.symbols.Profile.{Profile}
use Rattle.kv_names.specs.declared.symbols.Profile.TheVariants.{Sort, Fun, Pred, Proc}
use Rattle.kv_names.specs.declared.symbols.Symbol.{Symbol}
use Rattle.kv_names.specs.declared.symbols.Var.{Var}
use Rattle.kv_sig.specs.Members.{In, Every}
use Rattle.kv_sig.specs.Typing.{IsSort}
use Rattle.kv_sig.specs.FreeNames.{free_form, assumed_form}
use Rattle.kv_elab.specs.declared.contexts.Context.{Context}

-- the sorts of the binders from the innermost on, which stands last in the context
abbrev pub sorts_of : Context → List Name
sorts_of c = map (λ x. x.sort) (reverse c.bound)

-- a profile over sorts of the signature
abbrev pub HasSorts : List Symbol → Profile → Type 0
HasSorts sig Sort = Unit {0}
HasSorts sig (Fun args result) = Every (IsSort sig) args × IsSort sig result
HasSorts sig (Pred args) = Every (IsSort sig) args
HasSorts sig (Proc values refs) = Every (IsSort sig) values × Every (IsSort sig) refs

-- each sort that the context names is one of the signature
pub record IsLawful (sig : List Symbol) (c : Context) : Type 0 where
  pub free : Every (λ (x : Var). IsSort sig x.sort) c.free
  pub bound : Every (λ (x : Var). IsSort sig x.sort) c.bound
  pub assumed : Every (λ (p : Name × Profile). HasSorts sig p.1) c.assumed

-- the context has all these variables and procedures
pub record HasNames (c : Context) (variables : List Var) (procedures : List (Name × Profile)) : Type 0 where
  pub free : Every (λ (x : Var). In x c.free) variables
  pub assumed : Every (λ (p : Name × Profile). In p c.assumed) procedures

-- the formula names no free variable and no assumed procedure beside those of the context
abbrev pub IsWithin : Context → Form → Type 0
IsWithin c f = HasNames c (free_form f) (assumed_form f)

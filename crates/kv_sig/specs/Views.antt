-- What a rule sees of its environment: the answers to what it asks, and nothing else.
use Rattle.std.specs.Prelude.{◌≡◌, List, Option}
use Rattle.std.specs.List.{find}
use Rattle.std.specs.Option.{option_map}
use Rattle.std.specs.Str.{bytes_eq}
use Rattle.kv_trees.specs.Bridge.{plain_form}
use Rattle.kv_names.specs.Names.{Name}
use Rattle.kv_trees.specs.Trees.{Form}
use Rattle.kv_syn.specs.declared.outcomes.Entry.{Entry}
use Rattle.kv_syn.specs.declared.outcomes.Look.{Look}
use Rattle.kv_syn.specs.declared.outcomes.Look.TheVariants.{Symbol, Label}
use Rattle.kv_names.specs.declared.symbols.Profile.{Profile}
use Rattle.kv_sig.specs.Signatures.{profile_of}
use Rattle.kv_sig.specs.declared.flats.Flat.{Flat}

-- the profile of a symbol and the formula of an entry, each by its name, where there is one
pub record View : Type 0 where
  pub symbol : Name → Option Profile
  pub entry : Name → Option Form

-- the formula of the first entry with the label
abbrev pub formula_of : List Entry → Name → Option Form
formula_of entries label = option_map (λ (entry : Entry). plain_form entry.form) (find (λ (entry : Entry). bytes_eq entry.label label) entries)

abbrev pub view_of : Flat → View
view_of flat = record { symbol = profile_of flat.sig; entry = formula_of flat.entries }

-- two views answer a look alike; no rule so far asks for clauses, bodies or rewriting rules
abbrev pub AnswersAlike : View → View → Look → Type 0
AnswersAlike v w (Symbol name) = v.symbol name ≡ w.symbol name
AnswersAlike v w (Label label) = v.entry label ≡ w.entry label
AnswersAlike v w _ = Unit {0}

-- Names and looks, each once.
use Rattle.std.specs.Prelude.{Bool, true, false, List}
use Rattle.std.specs.Str.{bytes_eq}
use Rattle.kv_goal.specs.Once.{once}
use Rattle.kv_names.specs.Names.{Name}
use Rattle.kv_syn.specs.declared.outcomes.Look.{Look}
use Rattle.kv_syn.specs.declared.outcomes.Look.TheVariants.{Symbol, Label, Generation, Body, Rules}

abbrev pub names_once : List Name → List Name
names_once = once bytes_eq

abbrev pub look_eq : Look → Look → Bool
look_eq (Symbol a) (Symbol b) = bytes_eq a b
look_eq (Label a) (Label b) = bytes_eq a b
look_eq (Generation a) (Generation b) = bytes_eq a b
look_eq (Body a) (Body b) = bytes_eq a b
look_eq Rules Rules = true
look_eq _ _ = false

abbrev pub looks_once : List Look → List Look
looks_once = once look_eq

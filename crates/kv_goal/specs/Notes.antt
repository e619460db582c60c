-- What is told of a formula once.
use Rattle.std.specs.Prelude.{◌≡◌}
use Rattle.kv_sig.specs.FreeNames.{free_form, assumed_form}
use Rattle.kv_trees.specs.Count.{form_nodes, form_depth}
use Rattle.kv_trees.specs.Trees.{Form}
use Rattle.kv_goal.specs.Measures.{Measures}
use Rattle.kv_goal.specs.Once.{variables_once, procedures_once}
use Rattle.kv_goal.specs.declared.note.Note.{Note}

-- the note has the formula's size and its free names
pub record Describes (note : Note) (f : Form) : Type 0 where
  pub size : Measures note.size (form_nodes f) (form_depth f)
  pub free : note.free ≡ variables_once (free_form f)
  pub assumed : note.assumed ≡ procedures_once (assumed_form f)

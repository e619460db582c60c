-- Commands as plain data, and the commands of the code as that data.
use Rattle.std.specs.Prelude.{ℕ, ◌≤◌, Bool, true, List}
use Rattle.kv_syn.specs.ProjectBridge.{plain_proof, plain_theorem, plain_unit}
use Rattle.kv_syn.specs.Projects as P
use Rattle.kv_syn.specs.Readable.{is_readable_unit}
use Rattle.kv_names.specs.Names.{Name}
use Rattle.kv_punit.specs.declared.commands.Command as code
use Rattle.kv_punit.specs.declared.commands.Command.TheVariants as command
use Rattle.kv_punit.specs.Limits.{most_steps, script_steps}

pub data Command : Type 0 where
  Add : (unit : P.Unit) → Command
  Put : (unit : P.Unit) → Command
  Drop : (unit : Name) → Command
  Theorem : (unit : Name) → (theorem : P.Theorem) → Command
  Change : (unit : Name) → (theorem : P.Theorem) → Command
  Forget : (unit name : Name) → Command
  Proof : (unit : Name) → (proof : P.Proof) → Command
  Unproof : (unit name : Name) → Command
  Prune : (unit name : Name) → (path : List ℕ) → Command
  Status : Command
  State : (unit name : Name) → Command
  Goals : (unit name : Name) → Command
  Needs : (unit name : Name) → Command
  Above : (unit : Name) → Command
  Graph : Command
  Flat : (unit : Name) → Command
  Obligations : (unit : Name) → Command
  Text : Command
  Seal : Command
  Save : Command

abbrev pub plain_command : code.Command → Command
plain_command (command.Add unit) = Command.Add (plain_unit unit)
plain_command (command.Put unit) = Command.Put (plain_unit unit)
plain_command (command.Drop unit) = Command.Drop unit
plain_command (command.Theorem unit theorem) = Command.Theorem unit (plain_theorem theorem)
plain_command (command.Change unit theorem) = Command.Change unit (plain_theorem theorem)
plain_command (command.Forget unit name) = Command.Forget unit name
plain_command (command.Proof unit proof) = Command.Proof unit (plain_proof proof)
plain_command (command.Unproof unit name) = Command.Unproof unit name
plain_command (command.Prune unit name path) = Command.Prune unit name path
plain_command command.Status = Command.Status
plain_command (command.State unit name) = Command.State unit name
plain_command (command.Goals unit name) = Command.Goals unit name
plain_command (command.Needs unit name) = Command.Needs unit name
plain_command (command.Above unit) = Command.Above unit
plain_command command.Graph = Command.Graph
plain_command (command.Flat unit) = Command.Flat unit
plain_command (command.Obligations unit) = Command.Obligations unit
plain_command command.Text = Command.Text
plain_command command.Seal = Command.Seal
plain_command command.Save = Command.Save

-- a script that the command has, hasn't too many steps
abbrev pub HasShortScript : Command → Type 0
HasShortScript (Command.Proof unit proof) = script_steps proof.script ≤ most_steps
HasShortScript other = Unit {0}

-- a unit that the command has, has a form that units have so far
abbrev pub has_readable_unit : code.Command → Bool
has_readable_unit (command.Add unit) = is_readable_unit unit
has_readable_unit (command.Put unit) = is_readable_unit unit
has_readable_unit other = true

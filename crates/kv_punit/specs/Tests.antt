-- The tests that the readers make.
use Rattle.std.specs.Prelude.{ℕ, Bool, true, nat_le, List}
use Rattle.std.specs.List.{list_all}
use Rattle.kv_syn.specs.Projects as P
use Rattle.kv_punit.specs.Commands.{Command}
use Rattle.kv_punit.specs.Limits.{most_steps, script_steps}

-- no script of the unit has too many steps
abbrev pub is_short : P.Unit → Bool
is_short unit = list_all (λ (proof : P.Proof). nat_le (script_steps proof.script) most_steps) unit.proofs

abbrev pub has_few_steps : P.Project → Bool
has_few_steps project = list_all is_short project

-- a script that the command has, has few steps
abbrev pub has_short_script : Command → Bool
has_short_script (Command.Proof unit proof) = nat_le (script_steps proof.script) most_steps
has_short_script other = true

-- each character of each row is ASCII
abbrev pub are_ascii : List (List ℕ) → Bool
are_ascii rows = list_all (list_all (λ c. nat_le c 127)) rows

-- What stands behind a theorem that is shown as proved.
use Rattle.std.specs.Prelude.{◌≡◌, List, [], Ok}
use Rattle.kv_calc.specs.Calculus.{Theory, Derivable, alone}
use Rattle.kv_flat.specs.Units.{signature_of}
use Rattle.kv_fresh.specs.States.{goal_of, row_of, table_of}
use Rattle.kv_sig.specs.Members.{In}
use Rattle.kv_syn.specs.Projects as P
use Rattle.kv_trees.specs.Trees.{Form}
use Rattle.kv_syn.specs.declared.outcomes.Row.{Row}
use Rattle.kv_syn.specs.declared.outcomes.State.TheVariants.{Proved}
use Rattle.kv_names.specs.declared.symbols.Symbol.{Symbol}

-- what the theorems of a unit may take as given: so far the symbols of its signature alone
abbrev pub theory_over : List Symbol → Theory
theory_over signature = record { signature = signature; formulas = []; clauses = []; bodies = [] }

-- where the theorem of a unit with this signature is shown as proved, its formula alone on the right has a derivation
abbrev pub IsBackedOver : List Symbol → P.Unit → P.Theorem → Type 0
IsBackedOver signature unit theorem = (row_of unit.name signature unit.proofs theorem).state ≡ Proved
    → (goal : Form) × (goal_of signature theorem ≡ Ok goal) × Derivable (theory_over signature) (alone goal)

-- so it is for each theorem of each unit of the project
abbrev pub AreTheoremsBacked : P.Project → Type 0
AreTheoremsBacked project = (unit : P.Unit) → In unit project → (theorem : P.Theorem) → In theorem unit.theorems
    → (signature : List Symbol) → signature_of unit ≡ Ok signature → IsBackedOver signature unit theorem

-- the row is that of a theorem of a unit that has a signature
pub record IsOfTheorem (project : P.Project) (row : Row) : Type 0 where
  pub unit : P.Unit
  pub in_project : In unit project
  pub theorem : P.Theorem
  pub in_unit : In theorem unit.theorems
  pub signature : List Symbol
  pub good : signature_of unit ≡ Ok signature
  pub row_is : row ≡ row_of unit.name signature unit.proofs theorem

-- each row of the project's table that is shown as proved is that of a theorem, so none is that of an idle proof
abbrev pub AreProvedTheorems : P.Project → Type 0
AreProvedTheorems project = (row : Row) → In row (table_of project).rows → row.state ≡ Proved → IsOfTheorem project row

-- what is shown as proved is backed: the theorems that are, and nothing but theorems is
unfoldable pub IsBacked : P.Project → Type 0
IsBacked project = AreTheoremsBacked project × AreProvedTheorems project

-- every project is backed
abbrev pub Backing : Type 0
Backing = (project : P.Project) → IsBacked project

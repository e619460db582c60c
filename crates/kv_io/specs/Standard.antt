-- What is known of the objects of the system.
use Rattle.std.specs.Prelude.{ℕ, List, Option}

-- how often a stream failed
pub record StreamState : Type 0 where
  pub faults : ℕ

-- the name of a file, once it is chosen, and how often a call on it failed
pub record FileState : Type 0 where
  pub chosen : Option (List ℕ)
  pub faults : ℕ

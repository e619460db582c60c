-- Steps and scripts as plain data.
use Rattle.std.specs.Prelude.{ℕ, List, Option}
use Rattle.kv_names.specs.Names.{Name}
use Rattle.kv_raw.specs.RawTrees.{RawTerm, RawForm}
use Rattle.kv_syn.specs.declared.scripts.Side.{Side}

pub data StepText : Type 0 where
  Nothing : StepText
  Fresh : (x : Name) → StepText
  OfTerm : (t : RawTerm) → StepText
  OfForm : (f : RawForm) → StepText
  OfLabel : (l : Name) → StepText

pub record Step : Type 0 where
  pub rule : ℕ
  pub side : Option Side
  pub numbers : List ℕ
  pub text : StepText

mutual
  pub data Script : Type 0 where
    Hole : Script
    Node : (step : Step) → (children : Scripts) → Script

  pub data Scripts : Type 0 where
    none : Scripts
    more : (s : Script) → (rest : Scripts) → Scripts

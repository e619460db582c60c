-- Typed trees as plain data, over which all definitions go by cases.
use Rattle.std.specs.Prelude.{ℕ, List}
use Rattle.kv_names.specs.Names.{Name}
use Rattle.kv_trees.specs.declared.trees.Ref.{Ref}
use Rattle.kv_names.specs.declared.symbols.Callee.{Callee}

mutual
  pub data Term : Type 0 where
    Place : (r : Ref) → Term
    App : (f : Name) → (args : Terms) → Term

  pub data Terms : Type 0 where
    none : Terms
    more : (t : Term) → (rest : Terms) → Terms

mutual
  pub data Form : Type 0 where
    True : Form
    False : Form
    Atom : (p : Name) → (args : Terms) → Form
    Equal : (s t : Term) → Form
    Not : (f : Form) → Form
    And : (f g : Form) → Form
    Or : (f g : Form) → Form
    Imp : (f g : Form) → Form
    Iff : (f g : Form) → Form
    All : (s : Name) → (f : Form) → Form
    Ex : (s : Name) → (f : Form) → Form
    After : (a : Prog) → (f : Form) → Form
    Can : (a : Prog) → (f : Form) → Form

  pub data Prog : Type 0 where
    Skip : Prog
    Abort : Prog
    Assign : (x : Ref) → (t : Term) → Prog
    Seq : (a b : Prog) → Prog
    If : (e : Form) → (a b : Prog) → Prog
    While : (e : Form) → (a : Prog) → Prog
    Local : (s : Name) → (t : Term) → (a : Prog) → Prog
    Call : (p : Callee) → (ts : Terms) → (rs : List Ref) → Prog
    Choice : (a b : Prog) → Prog

-- what is to be shown: if all of the left holds, some of the right does
pub record Sequent : Type 0 where
  pub left : List Form
  pub right : List Form

-- Trees as texts spell them, as plain data.
use Rattle.std.specs.Prelude.{List}
use Rattle.kv_names.specs.Names.{Name}
use Rattle.kv_names.specs.declared.symbols.Var.{Var}

mutual
  pub data RawTerm : Type 0 where
    App : (f : Name) → (args : RawTerms) → RawTerm

  pub data RawTerms : Type 0 where
    none : RawTerms
    more : (t : RawTerm) → (rest : RawTerms) → RawTerms

mutual
  pub data RawForm : Type 0 where
    True : RawForm
    False : RawForm
    Atom : (p : Name) → (args : RawTerms) → RawForm
    Equal : (s t : RawTerm) → RawForm
    Not : (f : RawForm) → RawForm
    And : (f g : RawForm) → RawForm
    Or : (f g : RawForm) → RawForm
    Imp : (f g : RawForm) → RawForm
    Iff : (f g : RawForm) → RawForm
    All : (x : Var) → (f : RawForm) → RawForm
    Ex : (x : Var) → (f : RawForm) → RawForm
    After : (a : RawProg) → (f : RawForm) → RawForm
    Can : (a : RawProg) → (f : RawForm) → RawForm

  pub data RawProg : Type 0 where
    Skip : RawProg
    Abort : RawProg
    Assign : (x : Name) → (t : RawTerm) → RawProg
    Seq : (a b : RawProg) → RawProg
    If : (e : RawForm) → (a b : RawProg) → RawProg
    While : (e : RawForm) → (a : RawProg) → RawProg
    Local : (x : Var) → (t : RawTerm) → (a : RawProg) → RawProg
    Call : (p : Name) → (ts : RawTerms) → (rs : List Name) → RawProg
    Choice : (a b : RawProg) → RawProg

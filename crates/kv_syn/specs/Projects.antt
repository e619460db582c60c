-- Units and projects as plain data.
use Rattle.std.specs.Prelude.{Bool, List, Option}
use Rattle.kv_names.specs.Names.{Name}
use Rattle.kv_raw.specs.RawTrees.{RawTerm, RawForm, RawProg}
use Rattle.kv_syn.specs.Scripts.{Script}
use Rattle.kv_names.specs.declared.symbols.Var.{Var}
use Rattle.kv_syn.specs.declared.units.Data.{Data}
use Rattle.kv_syn.specs.declared.units.Gen.{Gen}

pub record Theorem : Type 0 where
  pub name : Name
  pub simp : Bool
  pub form : RawForm

pub record Proof : Type 0 where
  pub name : Name
  pub script : Script

pub data Item : Type 0 where
  Sort : (s : Name) → Item
  Free : (d : Data) → Item
  Fun : (f : Name) → (args : List Name) → (result : Name) → Item
  Pred : (p : Name) → (args : List Name) → Item
  Proc : (p : Name) → (values refs : List Var) → (body : Option RawProg) → Item
  Generated : (g : Gen) → Item
  Axiom : (a : Theorem) → Item

pub data Map : Type 0 where
  Sort : (s t : Name) → Map
  Proc : (p q : Name) → Map
  Fun : (f : Name) → (places : List Name) → (t : RawTerm) → Map
  Pred : (p : Name) → (places : List Name) → (f : RawForm) → Map

pub data Mod : Type 0 where
  Sort : (from to place : Name) → (restrict : RawForm) → (one two : Name) → (equal : RawForm) → Mod
  Fun : (f p : Name) → Mod
  Pred : (p : Name) → (places : List Name) → (f : RawForm) → Mod
  Measure : (sort place : Name) → (size : RawTerm) → (one two : Name) → (below : RawForm) → (zero suc : Name) → Mod

pub data Kind : Type 0 where
  Basic : (items : List Item) → Kind
  Enrich : (used : List Name) → (items : List Item) → Kind
  Union : (used : List Name) → Kind
  Rename : (used : Name) → (maps : List Map) → Kind
  Param : (parameter : Name) → (used : List Name) → (items : List Item) → Kind
  Actualize : (generic actual : Name) → (maps : List Map) → Kind
  Module : (export import : Name) → (parts : List Mod) → Kind

pub record Unit : Type 0 where
  pub name : Name
  pub kind : Kind
  pub theorems : List Theorem
  pub proofs : List Proof

-- a project is the list of its units
abbrev pub Project : Type 0
Project = List Unit

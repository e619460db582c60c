-- The units and projects of the code as plain data.
use Rattle.std.specs.Prelude.{map}
use Rattle.std.specs.Option.{option_map}
use Rattle.kv_raw.specs.RawBridge.{raw_form, raw_prog, raw_term}
use Rattle.kv_syn.specs.ScriptBridge.{plain_script}
use Rattle.kv_syn.specs.Projects as P
use Rattle.kv_syn.specs.declared.units.Item.{Item}
use Rattle.kv_syn.specs.declared.units.Item.TheVariants as item
use Rattle.kv_syn.specs.declared.units.Kind.{Kind}
use Rattle.kv_syn.specs.declared.units.Kind.TheVariants as kind
use Rattle.kv_syn.specs.declared.units.Map.{Map}
use Rattle.kv_syn.specs.declared.units.Map.TheVariants as map_of
use Rattle.kv_syn.specs.declared.units.Mod.{Mod}
use Rattle.kv_syn.specs.declared.units.Mod.TheVariants as mod_of
use Rattle.kv_syn.specs.declared.units.Proof.{Proof}
use Rattle.kv_syn.specs.declared.units.Theorem.{Theorem}
use Rattle.kv_syn.specs.declared.units.Unit as units
use Rattle.kv_syn.specs.declared.projects.Project.{Project}

abbrev pub plain_theorem : Theorem → P.Theorem
plain_theorem theorem = record { name = theorem.name; simp = theorem.simp; form = raw_form theorem.form }

abbrev pub plain_proof : Proof → P.Proof
plain_proof proof = record { name = proof.name; script = plain_script proof.script }

abbrev pub plain_item : Item → P.Item
plain_item (item.Sort s) = P.Item.Sort s
plain_item (item.Free d) = P.Item.Free d
plain_item (item.Fun f args result) = P.Item.Fun f args result
plain_item (item.Pred p args) = P.Item.Pred p args
plain_item (item.Proc p values refs body) = P.Item.Proc p values refs (option_map raw_prog body)
plain_item (item.Generated g) = P.Item.Generated g
plain_item (item.Axiom a) = P.Item.Axiom (plain_theorem a)

abbrev pub plain_map : Map → P.Map
plain_map (map_of.Sort s t) = P.Map.Sort s t
plain_map (map_of.Proc p q) = P.Map.Proc p q
plain_map (map_of.Fun f places t) = P.Map.Fun f places (raw_term t)
plain_map (map_of.Pred p places f) = P.Map.Pred p places (raw_form f)

abbrev pub plain_mod : Mod → P.Mod
plain_mod (mod_of.Sort from to place restrict one two equal) = P.Mod.Sort from to place (raw_form restrict) one two (raw_form equal)
plain_mod (mod_of.Fun f p) = P.Mod.Fun f p
plain_mod (mod_of.Pred p places f) = P.Mod.Pred p places (raw_form f)
plain_mod (mod_of.Measure sort place size one two below zero suc) = P.Mod.Measure sort place (raw_term size) one two (raw_form below) zero suc

abbrev pub plain_kind : Kind → P.Kind
plain_kind (kind.Basic items) = P.Kind.Basic (map plain_item items)
plain_kind (kind.Enrich used items) = P.Kind.Enrich used (map plain_item items)
plain_kind (kind.Union used) = P.Kind.Union used
plain_kind (kind.Rename used maps) = P.Kind.Rename used (map plain_map maps)
plain_kind (kind.Param parameter used items) = P.Kind.Param parameter used (map plain_item items)
plain_kind (kind.Actualize generic actual maps) = P.Kind.Actualize generic actual (map plain_map maps)
plain_kind (kind.Module export import parts) = P.Kind.Module export import (map plain_mod parts)

abbrev pub plain_unit : units.Unit → P.Unit
plain_unit unit = record { name = unit.name; kind = plain_kind unit.kind; theorems = map plain_theorem unit.theorems; proofs = map plain_proof unit.proofs }

abbrev pub plain_project : Project → P.Project
plain_project project = map plain_unit project.units

-- The theory of a flat.
use Rattle.std.specs.Prelude.{if◌then◌else◌, List, [], ◌∷◌, map}
use Rattle.kv_trees.specs.Bridge.{plain_form, plain_prog}
use Rattle.kv_trees.specs.Trees.{Form}
use Rattle.kv_syn.specs.declared.outcomes.Entry.{Entry}
use Rattle.kv_sig.specs.declared.flats.Body.{Body as BodyRow}
use Rattle.kv_sig.specs.declared.flats.Flat.{Flat}
use Rattle.kv_calc.specs.Calculus.{Body, Theory}

-- the formulas of the entries that are axioms
abbrev pub axioms_of : List Entry → List Form
axioms_of [] = []
axioms_of (entry ∷ entries) = if entry.axiom then (plain_form entry.form ∷ axioms_of entries) else axioms_of entries

abbrev pub plain_body : BodyRow → Body
plain_body body = record { name = body.name; prog = plain_prog body.prog }

-- what is known in a unit, without the entries that have to be shown themselves
abbrev pub theory_of : Flat → Theory
theory_of flat = record { signature = flat.sig; formulas = axioms_of flat.entries; clauses = flat.gens; bodies = map plain_body flat.bodies }

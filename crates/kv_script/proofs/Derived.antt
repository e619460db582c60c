-- A closed outcome stands for a derivation from the flat's axioms and from the entries that it names.
use Rattle.std.proofs.Common.{List, [], ◌∷◌, Option, Some, None, ◌≡◌, refl, sym, ap, ◌∙◌, subst}
use Rattle.std.specs.List.{find}
use Rattle.std.specs.Option.{option_map}
use Rattle.std.specs.Str.{bytes_eq}
use Rattle.kv_trees.specs.Bridge.{plain_form}
use Rattle.kv_syn.specs.Scripts.{Script}
use Rattle.kv_names.specs.Names.{Name}
use Rattle.kv_trees.specs.Trees.{Form}
use Rattle.kv_syn.specs.declared.outcomes.Entry.{Entry}
use Rattle.kv_syn.specs.declared.outcomes.Outcome.{Outcome}
use Rattle.kv_trees.proofs.Same.{name_is}
use Rattle.kv_sig.specs.FreeNames.{IsClosed}
use Rattle.kv_sig.specs.Members.{In, here, there, Every}
use Rattle.kv_sig.specs.Typing.{IsForm}
use Rattle.kv_sig.specs.Views.{formula_of, view_of}
use Rattle.kv_sig.specs.declared.flats.Flat.{Flat}
use Rattle.kv_elab.proofs.Members.{find_in}
use Rattle.kv_calc.specs.Calculus.{Theory, Good, Derivable, alone, adding}
use Rattle.kv_calc.specs.Theories.{theory_of}
use Rattle.kv_calc.proofs.Members.{in_front, in_back, every_in, every_of, every_append}
use Rattle.kv_script.specs.Derives.{or_nothing, formulas_of, HasLawfulEntries, Derives}
use Rattle.kv_script.specs.Events.{replay_events, used_labels, outcome_of}
use Rattle.kv_script.specs.Once.{names_once}
use Rattle.kv_script.proofs.Closing.{closing}
use Rattle.kv_script.proofs.Lemmas.{IsGiven}
use Rattle.kv_script.proofs.Onces.{once_in}

-- the formula of an entry
mapped : (o : Option Entry) (f : Form) → option_map (λ (entry : Entry). plain_form entry.form) o ≡ Some f → (entry : Entry) × (o ≡ Some entry) × (plain_form entry.form ≡ f)
mapped (Some entry) f e = (entry, refl, cc)
mapped None f e = cc

in_or_nothing : (o : Option Form) (f : Form) → o ≡ Some f → In f (or_nothing o)
in_or_nothing o f e = subst (λ p. In f (or_nothing p)) (sym e) here

-- the formula of one of the labels is among their formulas
in_formulas : (entries : List Entry) (ls : List Name) (l : Name) (f : Form) → In l ls → formula_of entries l ≡ Some f → In f (formulas_of entries ls)
in_formulas entries [] l f i e = elim i [ ]
in_formulas entries (m ∷ ls) l f here e = in_front (formulas_of entries ls) (in_or_nothing (formula_of entries m) f e)
in_formulas entries (m ∷ ls) l f (there i) e = in_back (or_nothing (formula_of entries m)) (in_formulas entries ls l f i e)

module _ (flat : Flat) (lawful : HasLawfulEntries flat) (labels : List Name) where
  abbrev theory : Theory
  theory = adding (formulas_of flat.entries (names_once labels)) (theory_of flat)

  entry_lawful : (l : Name) (f : Form) → formula_of flat.entries l ≡ Some f → IsForm flat.sig [] f × IsClosed f
  entry_lawful l f e =
      let m = mapped (find (λ (entry : Entry). bytes_eq entry.label l) flat.entries) f e in
      let entry = find_in (λ (entry : Entry). bytes_eq entry.label l) flat.entries m.0 m.1 in
      subst (λ g. IsForm flat.sig [] g × IsClosed g) m.2 (every_in (λ (entry : Entry). IsForm flat.sig [] (plain_form entry.form) × IsClosed (plain_form entry.form)) flat.entries lawful m.0 entry.0)

  label_given : (l : Name) → In l labels → IsGiven (view_of flat) theory l
  label_given l i f e =
      let h = entry_lawful l f e in
      (in_back (theory_of flat).formulas (in_formulas flat.entries (names_once labels) l f (once_in bytes_eq name_is labels l i) e), h.0, h.1)

  pub labels_given : Every (IsGiven (view_of flat) theory) labels
  labels_given = every_of (IsGiven (view_of flat) theory) labels label_given

-- what holds of each entry's formula holds of the formulas of the labels
every_or_nothing : (P : Form → Type 0) (o : Option Form) → ((f : Form) → o ≡ Some f → P f) → Every P (or_nothing o)
every_or_nothing P (Some f) h = (h f refl, tt)
every_or_nothing P None h = tt

every_formula : (P : Form → Type 0) (entries : List Entry) (ls : List Name) → ((l : Name) (f : Form) → formula_of entries l ≡ Some f → P f) → Every P (formulas_of entries ls)
every_formula P entries [] h = tt
every_formula P entries (l ∷ ls) h =
    every_append P (or_nothing (formula_of entries l)) (formulas_of entries ls) (every_or_nothing P (formula_of entries l) (h l)) (every_formula P entries ls h)

-- more formulas that are closed and typed keep a sequent good
good_adding : (T : Theory) (forms : List Form) (goal : Form) → Every (λ (f : Form). IsForm T.signature [] f × IsClosed f) forms → Good T (alone goal) → Good (adding forms T) (alone goal)
good_adding T forms goal more g =
    record { lawful = every_append (λ (f : Form). IsForm T.signature [] f × IsClosed f) T.formulas forms g.lawful more; consistent = g.consistent; lefts = g.lefts; rights = g.rights }

pub derives : (flat : Flat) (goal : Form) (script : Script) (outcome : Outcome) → outcome ≡ outcome_of (replay_events (view_of flat) goal script) → Derives flat goal outcome
derives flat goal script outcome is closed lawful g =
    let es = replay_events (view_of flat) goal script in
    let uses = sym (ap (λ (o : Outcome). o.uses) is) in
    let labels = used_labels es in
    let forms = formulas_of flat.entries (names_once labels) in
    let more = every_formula (λ (f : Form). IsForm flat.sig [] f × IsClosed f) flat.entries (names_once labels) (entry_lawful flat lawful labels) in
    subst (λ ls. Derivable (adding (formulas_of flat.entries ls) (theory_of flat)) (alone goal)) uses
    (closing (view_of flat) (theory flat lawful labels) refl goal script (good_adding (theory_of flat) forms goal more g)
    (sym (ap (λ (o : Outcome). o.closed) is) ∙ closed) (labels_given flat lawful labels))

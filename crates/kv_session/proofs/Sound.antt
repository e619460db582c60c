-- What tokens of a text spell can be spelt.
use Rattle.std.proofs.Common.{ℕ, ◌≡◌, List, [], ◌∷◌, ◌++◌, refl, ◌∙◌, sym, subst}
use Rattle.std.specs.Prelude.{Bool, true, false, ◌||◌, ◌==◌, Some}
use Rattle.std.specs.List.{All}
use Rattle.std.proofs.lemmas.List.Elements.{All-nil, All-cons}
use Rattle.std.proofs.lemmas.List.Folds.{list_any-append}
use Rattle.kv_lex.specs.declared.token.TokenKind.{TokenKind}
use Rattle.kv_pexpr.specs.Grammar.{IsTerm, AreTerms, IsForm, IsImp, IsDis, IsCon, IsUna}
use Rattle.kv_pexpr.specs.Grammar as f
use Rattle.kv_punit.specs.Commands.{Command, HasShortScript}
use Rattle.kv_punit.specs.Grammar.{has_colon}
use Rattle.kv_punit.specs.Grammar as g
use Rattle.kv_punit.specs.ReadsAs.{Reads}
use Rattle.kv_punit.specs.Readings.{ReadsCommand}
use Rattle.kv_session.specs.Edits.{Edit}
use Rattle.kv_session.specs.Sessions.{edit_of}
use Rattle.kv_session.proofs.Good.{AreGood, lexed_good}
use Rattle.kv_session.specs.Spellable as s
use Rattle.kv_syn.specs.Projects.{Theorem, Proof, Item, Project}
use Rattle.kv_syn.specs.Projects as P
use Rattle.kv_raw.specs.RawTrees.{RawTerm, RawTerms, RawForm}
use Rattle.kv_syn.specs.Scripts.{Step, Script, Scripts}
use Rattle.kv_names.specs.Names.{Name}
use Rattle.kv_names.specs.declared.symbols.Var.{Var}

-- ---- terms

mutual
  term_spelt : {d : ℕ} {ts us : List TokenKind} {t : RawTerm} → IsTerm d ts t us → AreGood ts → s.IsTerm t × AreGood us
  term_spelt f.name good = (s.app good.0 s.none, good.1)
  term_spelt (f.applied r) good = let args = terms_spelt r good.1.1 in (s.app good.0 args.0, args.1.1)

  terms_spelt : {d : ℕ} {ts us : List TokenKind} {args : RawTerms} → AreTerms d ts args us → AreGood ts → s.AreTerms args × AreGood us
  terms_spelt (f.last r) good = let first = term_spelt r good in (s.more first.0 s.none, first.1)
  terms_spelt (f.more r rs) good =
      let first = term_spelt r good in
      let rest = terms_spelt rs first.1.1 in
      (s.more first.0 rest.0, rest.1)

application : {n : Name} {args : RawTerms} → s.IsTerm (RawTerm.App n args) → s.IsForm (RawForm.Atom n args)
application (s.app is are) = s.atom is are

-- ---- formulas

mutual
  form_spelt : {d : ℕ} {ts us : List TokenKind} {p : RawForm} → IsForm d ts p us → AreGood ts → s.IsForm p × AreGood us
  form_spelt (f.imp r) good = imp_spelt r good
  form_spelt (f.iff r q) good =
      let left = imp_spelt r good in
      let right = imp_spelt q left.1.1 in
      (s.iff left.0 right.0, right.1)

  imp_spelt : {d : ℕ} {ts us : List TokenKind} {p : RawForm} → IsImp d ts p us → AreGood ts → s.IsForm p × AreGood us
  imp_spelt (f.dis r) good = dis_spelt r good
  imp_spelt (f.arrow r q) good =
      let left = dis_spelt r good in
      let right = imp_spelt q left.1.1 in
      (s.imp left.0 right.0, right.1)

  dis_spelt : {d : ℕ} {ts us : List TokenKind} {p : RawForm} → IsDis d ts p us → AreGood ts → s.IsForm p × AreGood us
  dis_spelt (f.con r) good = con_spelt r good
  dis_spelt (f.or r q) good =
      let left = dis_spelt r good in
      let right = con_spelt q left.1.1 in
      (s.or left.0 right.0, right.1)

  con_spelt : {d : ℕ} {ts us : List TokenKind} {p : RawForm} → IsCon d ts p us → AreGood ts → s.IsForm p × AreGood us
  con_spelt (f.una r) good = una_spelt r good
  con_spelt (f.and r q) good =
      let left = con_spelt r good in
      let right = una_spelt q left.1.1 in
      (s.and left.0 right.0, right.1)

  una_spelt : {d : ℕ} {ts us : List TokenKind} {p : RawForm} → IsUna d ts p us → AreGood ts → s.IsForm p × AreGood us
  una_spelt (f.not r) good = let inner = una_spelt r good.1 in (s.not inner.0, inner.1)
  una_spelt (f.all r) good = let inner = una_spelt r good.1.1.1.1.1 in (s.all (record { name = good.1.0; sort = good.1.1.1.0 }) inner.0, inner.1)
  una_spelt (f.ex r) good = let inner = una_spelt r good.1.1.1.1.1 in (s.ex (record { name = good.1.0; sort = good.1.1.1.0 }) inner.0, inner.1)
  una_spelt f.true good = (s.truth, good.1)
  una_spelt f.false good = (s.falsehood, good.1)
  una_spelt (f.brackets r) good = let inner = form_spelt r good.1 in (inner.0, inner.1.1)
  una_spelt (f.atom r) good = let term = term_spelt r good in (application term.0, term.1)
  una_spelt (f.equal r q) good =
      let left = term_spelt r good in
      let right = term_spelt q left.1.1 in
      (s.equal left.0 right.0, right.1)

-- ---- labels

or_both : (a b : Bool) → (a || b) ≡ false → b ≡ false
or_both true b e = cc
or_both false b e = e

-- what follows a full stop or a colon
colon_behind : (n l : Name) (b : ℕ) → has_colon (n ++ (b ∷ l)) ≡ false → has_colon (b ∷ l) ≡ false
colon_behind n l b e = or_both (has_colon n) (has_colon (b ∷ l)) (sym (list_any-append (λ byte. byte == 58) n (b ∷ l)) ∙ e)

label_spelt : {ts us : List TokenKind} {l : Name} → g.IsLabel ts l us → has_colon l ≡ false → AreGood ts → s.IsLabel l × AreGood us
label_spelt g.name none good = (s.name good.0, good.1)
label_spelt (g.dot {n = n} {l = l} r) none good =
    let rest = label_spelt r (colon_behind n l 46 none) good.1.1 in
    (s.dot good.0 rest.0, rest.1)
label_spelt (g.colon {n = n} {l = l} r) none good = absurd (let e = colon_behind n l 58 none in cc)

-- ---- scripts

step_spelt : {ts us : List TokenKind} {step : Step} → g.IsStep ts step us → AreGood ts → s.IsStep step × AreGood us
step_spelt (g.one found takes) good = (s.one takes good.1.0, good.1.1)
step_spelt (g.two found takes) good = (s.two takes good.1.0 good.1.1.0, good.1.1.1)
step_spelt (g.name found takes) good = (s.name takes good.1.0 good.1.1.1.0, good.1.1.1.1)
step_spelt (g.term found takes r) good = let term = term_spelt r.0 good.1.1.1 in (s.term takes good.1.0 term.0 r.1, term.1)
step_spelt (g.form found takes r) good = let form = form_spelt r.0 good.1 in (s.form takes form.0 r.1, form.1)
step_spelt (g.side found takes) good = (s.side takes good.1.1.0, good.1.1.1)
step_spelt (g.two_sided found takes) good = (s.two_sided takes good.1.0 good.1.1.1.0, good.1.1.1.1)

mutual
  script_spelt : {n : ℕ} {ts us : List TokenKind} {script : Script} → g.IsScript n ts script us → AreGood ts → s.IsScript n script × AreGood us
  script_spelt g.hole good = (s.hole, good.1)
  script_spelt (g.leaf r) good = let step = step_spelt r good in (s.node step.0 s.none, step.1)
  script_spelt (g.chain r k) good =
      let step = step_spelt r good in
      let child = script_spelt k step.1.1 in
      (s.node step.0 (s.more child.0 s.none), child.1)
  script_spelt (g.block r ks) good =
      let step = step_spelt r good in
      let children = scripts_spelt ks step.1.1 in
      (s.node step.0 children.0, children.1)

  scripts_spelt : {n : ℕ} {ts us : List TokenKind} {ks : Scripts} → g.AreScripts n ts ks us → AreGood ts → s.AreScripts n ks × AreGood us
  scripts_spelt (g.last r) good = let child = script_spelt r good in (s.more child.0 s.none, child.1.1)
  scripts_spelt (g.more r ks) good =
      let child = script_spelt r good in
      let rest = scripts_spelt ks child.1.1 in
      (s.more child.0 rest.0, rest.1)

-- ---- items

listed_spelt : {X : Type 0} (Q : X → Type 0) (Is : List TokenKind → X → List TokenKind → Type 0) → ((x : X) (ts us : List TokenKind) → Is ts x us → AreGood ts → Q x × AreGood us)
    → {ts us : List TokenKind} {xs : List X} → g.Listed Is ts xs us → AreGood ts → All Q xs × AreGood us
listed_spelt Q Is one (g.last {ts = ts} {us = us} {x = x} r) good = let first = one x ts us r good in (All-cons Q x [] first.0 (All-nil Q), first.1)
listed_spelt Q Is one (g.more {ts = ts} {x = x} {rest = rest} r rs) good =
    let first = one x ts _ r good in
    let others = listed_spelt Q Is one rs first.1.1 in
    (All-cons Q x rest first.0 others.0, others.1)

name_spelt : (n : Name) (ts us : List TokenKind) → g.IsName ts n us → AreGood ts → s.IsName n × AreGood us
name_spelt _ _ _ g.name good = good

names_spelt : {ts us : List TokenKind} {xs : List Name} → g.AreNames ts xs us → AreGood ts → All s.IsName xs × AreGood us
names_spelt r good = listed_spelt s.IsName g.IsName name_spelt r good

parameter_spelt : (x : Var) (ts us : List TokenKind) → g.IsParameter ts x us → AreGood ts → s.IsVar x × AreGood us
parameter_spelt _ _ _ g.parameter good = (record { name = good.0; sort = good.1.1.0 }, good.1.1.1)

parameters_spelt : {ts us : List TokenKind} {xs : List Var} → g.AreParameters ts xs us → AreGood ts → All s.IsVar xs × AreGood us
parameters_spelt g.none good = (All-nil s.IsVar, good)
parameters_spelt (g.some r) good = listed_spelt s.IsVar g.IsParameter parameter_spelt r good

declaration_spelt : {ts us : List TokenKind} {item : Item} → g.IsDeclaration ts item us → AreGood ts → s.IsItem item × AreGood us
declaration_spelt g.sort good = (s.sort good.1.0, good.1.1)
declaration_spelt g.constant good = (s.function good.1.0 (All-nil s.IsName) good.1.1.1.0, good.1.1.1.1)
declaration_spelt (g.function r) good = let args = names_spelt r good.1.1.1 in (s.function good.1.0 args.0 args.1.1.0, args.1.1.1)
declaration_spelt g.proposition good = (s.predicate good.1.0 (All-nil s.IsName), good.1.1)
declaration_spelt (g.predicate r) good = let args = names_spelt r good.1.1.1 in (s.predicate good.1.0 args.0, args.1)
declaration_spelt (g.procedure r q) good =
    let values = parameters_spelt r good.1.1.1 in
    let refs = parameters_spelt q values.1.1 in
    (s.procedure good.1.0 values.0 refs.0, refs.1.1)

item_spelt : (item : Item) (ts us : List TokenKind) → g.IsItem ts item us → AreGood ts → s.IsItem item × AreGood us
item_spelt _ _ _ (g.item r) good = let declaration = declaration_spelt r good in (declaration.0, declaration.1.1)

-- ---- theorems, proofs, units

statement_spelt : (theorem : Theorem) (ts us : List TokenKind) → g.IsStatement ts theorem us → AreGood ts → s.IsTheorem theorem × AreGood us
statement_spelt _ _ _ (g.statement r) good =
    let form = form_spelt r.0 good.1.1 in
    (record { name = good.0; unmarked = refl; form = form.0; low = r.1 }, form.1)

theorem_spelt : (theorem : Theorem) (ts us : List TokenKind) → g.IsTheorem ts theorem us → AreGood ts → s.IsTheorem theorem × AreGood us
theorem_spelt theorem _ us (g.theorem {ts = ts} r) good = let statement = statement_spelt theorem ts _ r good.1 in (statement.0, statement.1.1)

labelled_spelt : (proof : Proof) (ts us : List TokenKind) → g.IsLabelled ts proof us → AreGood ts → s.IsProof proof × AreGood us
labelled_spelt _ _ _ (g.labelled r none k) good =
    let label = label_spelt r none good in
    let script = script_spelt k label.1.1 in
    (record { name = label.0; script = script.0 }, script.1)

proof_spelt : (proof : Proof) (ts us : List TokenKind) → g.IsProof ts proof us → AreGood ts → s.IsProof proof × AreGood us
proof_spelt proof _ us (g.proof {ts = ts} r) good = let labelled = labelled_spelt proof ts _ r good.1 in (labelled.0, labelled.1.1)

are_spelt : {X : Type 0} (Q : X → Type 0) (Is : List TokenKind → X → List TokenKind → Type 0) → ((x : X) (ts us : List TokenKind) → Is ts x us → AreGood ts → Q x × AreGood us)
    → {ts us : List TokenKind} {xs : List X} → g.Are Is ts xs us → AreGood ts → All Q xs × AreGood us
are_spelt Q Is one g.none good = (All-nil Q, good)
are_spelt Q Is one (g.more {ts = ts} {us = us} {x = x} {rest = rest} r rs) good =
    let first = one x ts us r good in
    let others = are_spelt Q Is one rs first.1 in
    (All-cons Q x rest first.0 others.0, others.1)

head_spelt : (unit : P.Unit) (ts us : List TokenKind) → g.IsHead ts unit us → AreGood ts → s.IsHead unit × AreGood us
head_spelt _ _ _ (g.head r) good =
    let items = are_spelt s.IsItem g.IsItem item_spelt r good.1.1.1 in
    (record { name = good.1.0; kind = s.basic items.0; no_theorems = refl; no_proofs = refl }, items.1.1)

unit_spelt : (unit : P.Unit) (ts us : List TokenKind) → g.IsUnit ts unit us → AreGood ts → s.IsUnit unit × AreGood us
unit_spelt _ ts _ (g.unit {head = head} r stated proved) good =
    let first = head_spelt head ts _ r good in
    let theorems = are_spelt s.IsTheorem g.IsTheorem theorem_spelt stated first.1 in
    let proofs = are_spelt s.IsProof g.IsProof proof_spelt proved theorems.1 in
    (record { name = first.0.name; kind = first.0.kind; theorems = theorems.0; proofs = proofs.0 }, proofs.1)

project_spelt : {ts : List TokenKind} {project : Project} → g.IsProject ts project → AreGood ts → All s.IsUnit project
project_spelt (g.project r) good = (are_spelt s.IsUnit g.IsUnit unit_spelt r good.1.1).0

pub spellable : (text : List ℕ) (project : Project) → Reads text project → s.IsSpellable project
spellable text project r = record {
  units = project_spelt r.spelt (lexed_good text r.tokens r.lexes);
  wellformed = r.wellformed;
  few_steps = r.few_steps;
  few_units = r.few_units;
  few_theorems = r.few_theorems;
}

-- ---- commands

edit_is : {e f : Edit} → Some e ≡ Some f → e ≡ f
edit_is e = cc

arguments_spelt : {row : ℕ} {ts : List TokenKind} {command : Command} {edit : Edit} → g.IsArguments row ts command → AreGood ts → HasShortScript command → edit_of command ≡ Some edit → s.IsSpellableEdit edit
arguments_spelt (g.add {ts = ts} {u = unit} r) good short e = subst s.IsSpellableEdit (edit_is e) (head_spelt unit ts [] r good).0
arguments_spelt (g.theorem {ts = ts} {t = theorem} r) good short e = subst s.IsSpellableEdit (edit_is e) (statement_spelt theorem ts [] r good.1).0
arguments_spelt (g.proof {ts = ts} {p = proof} r) good short e = subst s.IsSpellableEdit (edit_is e) ((labelled_spelt proof ts [] r good.1).0, short)
arguments_spelt g.status good short e = absurd (cc)
arguments_spelt g.save good short e = absurd (cc)

command_spelt : {ts : List TokenKind} {command : Command} {edit : Edit} → g.IsCommand ts command → AreGood ts → HasShortScript command → edit_of command ≡ Some edit → s.IsSpellableEdit edit
command_spelt (g.command text row arguments) good short e = arguments_spelt arguments good.1 short e

-- the edit that the text of a command asks for brings in what texts can spell
pub edit_spellable : (text : List ℕ) (command : Command) (edit : Edit) → ReadsCommand text command → edit_of command ≡ Some edit → s.IsSpellableEdit edit
edit_spellable text command edit r e = command_spelt r.spelt (lexed_good text r.tokens r.lexes) r.few_steps e

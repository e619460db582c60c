-- The tokens of a layout are read as what is laid out.
use Rattle.std.proofs.Common.{ℕ, suc, ◌≡◌, List, [], ◌∷◌, ◌++◌, refl}
use Rattle.std.specs.Prelude.{Bool, false, Some, None, codes, flat_map}
use Rattle.std.specs.List.{All}
use Rattle.std.proofs.lemmas.List.Elements.{All-head, All-tail}
use Rattle.kv_lex.specs.Marks.{mark_rows}
use Rattle.kv_lex.specs.Tokens as lex
use Rattle.kv_lex.specs.Marks.{CLOSE, OPEN_BRACE, CLOSE_BRACE, SEMICOLON, EQUAL, ARROW, BAR}
use Rattle.kv_lex.specs.declared.token.TokenKind.{TokenKind}
use Rattle.kv_lex.specs.declared.token.TokenKind.TheVariants.{Word as WordToken, Ident as IdentToken, Mark as MarkToken}
use Rattle.kv_pexpr.specs.Grammar.{ReadsForm}
use Rattle.kv_print.specs.Forms.{form_pieces, names_pieces}
use Rattle.kv_print.specs.Items.{ref_vars_pieces, vars_pieces}
use Rattle.kv_print.specs.Layout.{item_pieces, theorem_pieces, proof_pieces, unit_pieces, project_pieces}
use Rattle.kv_print.specs.Pieces.{Piece}
use Rattle.kv_print.specs.Pieces.Piece.{Space, Break, Word, Mark}
use Rattle.kv_print.specs.Scripts.{step_pieces, script_pieces, other_children}
use Rattle.kv_punit.specs.Grammar as g
use Rattle.kv_punit.specs.declared.steps.Takes.TheVariants as take
use Rattle.kv_session.specs.Spellable as s
use Rattle.kv_session.proofs.FormReading.{reads_form, reads_term}
use Rattle.kv_session.proofs.Labels.{label_reads, label_no_colon}
use Rattle.kv_session.proofs.Rules.{rule_word, cut_row}
use Rattle.kv_session.proofs.Tokens.{before, before_append}
use Rattle.kv_syn.specs.Projects.{Theorem, Proof, Item, Kind, Project}
use Rattle.kv_syn.specs.Projects as P
use Rattle.kv_raw.specs.RawTrees.{RawForm}
use Rattle.kv_syn.specs.Scripts.{Step, Script, Scripts}
use Rattle.kv_names.specs.Names.{Name}
use Rattle.kv_syn.specs.declared.scripts.Side.TheVariants.{L, R}
use Rattle.kv_names.specs.declared.symbols.Var.{Var}
use Rattle.kv_table.specs.Keywords.{keyword_rows}
use Rattle.kv_table.specs.Keywords as word

-- ---- scripts

as_token : lex.word (codes "as") ≡ Some (WordToken word.AS)
unfolding keyword_rows
as_token = refl

with_token : lex.word (codes "with") ≡ Some (WordToken word.WITH)
unfolding keyword_rows
with_token = refl

left_token : lex.word (codes "L") ≡ Some (IdentToken (codes "L"))
unfolding keyword_rows
left_token = refl

right_token : lex.word (codes "R") ≡ Some (IdentToken (codes "R"))
unfolding keyword_rows
right_token = refl

step_reads : {step : Step} → s.IsStep step → (us : List TokenKind) → g.IsStep (before (step_pieces step) us) step us
step_reads (s.one {row = row} takes number) us = let w = rule_word row take.One takes in rw w.name (g.one w.found takes)
step_reads (s.two {row = row} takes first second) us = let w = rule_word row take.Two takes in rw w.name (g.two w.found takes)
step_reads (s.name {row = row} takes number name) us = let w = rule_word row take.Name takes in rw (w.name, as_token) (g.name w.found takes)
step_reads (s.term {row = row} {t = t} takes number is low) us = let w = rule_word row take.Term takes in rw (w.name, with_token) (g.term w.found takes (reads_term t us low))
step_reads (s.form {row = row} {f = f} takes is low) us = let w = rule_word row take.Form takes in rw (w.name, cut_row row takes) (g.form w.found takes (reads_form f us is low))
step_reads (s.side {row = row} {s = L} takes number) us = let w = rule_word row take.Side takes in rw (w.name, left_token) (g.side {s = L} w.found takes)
step_reads (s.side {row = row} {s = R} takes number) us = let w = rule_word row take.Side takes in rw (w.name, right_token) (g.side {s = R} w.found takes)
step_reads (s.two_sided {row = row} {s = L} takes first second) us = let w = rule_word row take.TwoSided takes in rw (w.name, left_token) (g.two_sided {s = L} w.found takes)
step_reads (s.two_sided {row = row} {s = R} takes first second) us = let w = rule_word row take.TwoSided takes in rw (w.name, right_token) (g.two_sided {s = R} w.found takes)

hole_reads : (n : ℕ) (us : List TokenKind) → g.IsScript n (before (script_pieces Script.Hole) us) Script.Hole us
unfolding keyword_rows
hole_reads n us = g.hole

leaf_reads : (n : ℕ) (step : Step) (us : List TokenKind) → s.IsStep step → g.IsScript (suc n) (before (script_pieces (Script.Node step Scripts.none)) us) (Script.Node step Scripts.none) us
leaf_reads n step us is = rw (before_append (step_pieces step) [] us) (g.leaf (step_reads is us))

-- the children that are left, up to the closing brace
abbrev Block : ℕ → Script → Scripts → Type 0
Block n script rest = (us : List TokenKind) → g.AreScripts n (before (script_pieces script) (before (other_children rest) (MarkToken CLOSE_BRACE ∷ us))) (Scripts.more script rest) us

node_reads : (n : ℕ) (step : Step) (script : Script) (rest : Scripts) → s.IsStep step → ((us : List TokenKind) → g.IsScript n (before (script_pieces script) us) script us) → Block n script rest
    → (us : List TokenKind) → g.IsScript (suc n) (before (script_pieces (Script.Node step (Scripts.more script rest))) us) (Script.Node step (Scripts.more script rest)) us
unfolding mark_rows
node_reads n step script Scripts.none is child block us =
    rw (before_append (step_pieces step) (Mark (codes ";") ∷ Space ∷ script_pieces script) us)
    (g.chain (step_reads is (MarkToken SEMICOLON ∷ before (script_pieces script) us)) (child us))
node_reads n step script (Scripts.more next rest) is child block us =
    let others = other_children (Scripts.more next rest) in
    rw (
      before_append (step_pieces step) (Space ∷ Mark (codes "{") ∷ Space ∷ script_pieces script ++ others ++ Space ∷ Mark (codes "}") ∷ []) us,
      before_append (script_pieces script ++ others) (Space ∷ Mark (codes "}") ∷ []) us,
      before_append (script_pieces script) others (MarkToken CLOSE_BRACE ∷ us),
    )
    (g.block (step_reads is (MarkToken OPEN_BRACE ∷ before (script_pieces script) (before others (MarkToken CLOSE_BRACE ∷ us)))) (block us))

block_more : (n : ℕ) (script next : Script) (rest : Scripts) → ((us : List TokenKind) → g.IsScript n (before (script_pieces script) us) script us) → Block n next rest → Block n script (Scripts.more next rest)
unfolding mark_rows
block_more n script next rest child block us =
    rw (before_append (script_pieces next) (other_children rest) (MarkToken CLOSE_BRACE ∷ us))
    (g.more (child (MarkToken BAR ∷ before (script_pieces next) (before (other_children rest) (MarkToken CLOSE_BRACE ∷ us)))) (block us))

mutual
  script_reads : {n : ℕ} {script : Script} → s.IsScript n script → (us : List TokenKind) → g.IsScript n (before (script_pieces script) us) script us
  script_reads (s.hole {n = n}) us = hole_reads n us
  script_reads (s.node {n = n} {step = step} is are) us = children_read are step is us

  children_read : {n : ℕ} {children : Scripts} → s.AreScripts n children → (step : Step) → s.IsStep step → (us : List TokenKind)
      → g.IsScript (suc n) (before (script_pieces (Script.Node step children)) us) (Script.Node step children) us
  children_read (s.none {n = n}) step is us = leaf_reads n step us is
  children_read (s.more {n = n} {s = script} {rest = rest} child are) step is us =
      node_reads n step script rest is (λ us. script_reads child us) (block_reads are script (λ us. script_reads child us)) us

  block_reads : {n : ℕ} {rest : Scripts} → s.AreScripts n rest → (script : Script) → ((us : List TokenKind) → g.IsScript n (before (script_pieces script) us) script us) → Block n script rest
  block_reads s.none script child us = g.last (child (MarkToken CLOSE_BRACE ∷ us))
  block_reads (s.more {n = n} {s = next} {rest = rest} is are) script child us =
      block_more n script next rest child (block_reads are next (λ us. script_reads is us)) us

-- ---- items

names_read : (x : Name) (xs : List Name) (us : List TokenKind) → g.AreNames (before (names_pieces (x ∷ xs)) us) (x ∷ xs) us
unfolding mark_rows
names_read x [] us = g.last g.name
names_read x (y ∷ ys) us = g.more g.name (names_read y ys us)

vars_read : (x : Var) (xs : List Var) (us : List TokenKind) → g.Listed g.IsParameter (before (vars_pieces (x ∷ xs)) us) (x ∷ xs) us
unfolding mark_rows
vars_read x [] us = g.last g.parameter
vars_read x (y ∷ ys) us = g.more g.parameter (vars_read y ys us)

values_read : (xs : List Var) (us : List TokenKind) → g.AreParameters (before (vars_pieces xs) us) xs us
values_read [] us = g.none
values_read (x ∷ xs) us = g.some (vars_read x xs us)

refs_read : (xs : List Var) (us : List TokenKind) → g.AreParameters (before (ref_vars_pieces xs) us) xs us
refs_read [] us = g.none
refs_read (x ∷ xs) us = g.some (vars_read x xs us)

function_reads : (f r : Name) (args : List Name) (us : List TokenKind) → g.IsItem (before (item_pieces (Item.Fun f args r)) us) (Item.Fun f args r) us
unfolding keyword_rows mark_rows
function_reads f r [] us = g.item g.constant
function_reads f r (x ∷ xs) us = simp before_append (g.item (g.function (names_read x xs (MarkToken ARROW ∷ IdentToken r ∷ MarkToken SEMICOLON ∷ us))))

predicate_reads : (p : Name) (args : List Name) (us : List TokenKind) → g.IsItem (before (item_pieces (Item.Pred p args)) us) (Item.Pred p args) us
unfolding keyword_rows mark_rows
predicate_reads p [] us = g.item g.proposition
predicate_reads p (x ∷ xs) us = simp before_append (g.item (g.predicate (names_read x xs (MarkToken SEMICOLON ∷ us))))

procedure_reads : (p : Name) (values refs : List Var) (us : List TokenKind) → g.IsItem (before (item_pieces (Item.Proc p values refs None)) us) (Item.Proc p values refs None) us
unfolding keyword_rows mark_rows
procedure_reads p values refs us =
    simp before_append
    (g.item (g.procedure (values_read values (MarkToken SEMICOLON ∷ before (ref_vars_pieces refs) (MarkToken CLOSE ∷ MarkToken SEMICOLON ∷ us))) (refs_read refs (MarkToken CLOSE ∷ MarkToken SEMICOLON ∷ us))))

item_reads : (item : Item) → s.IsItem item → (us : List TokenKind) → g.IsItem (before (item_pieces item) us) item us
unfolding keyword_rows mark_rows
item_reads _ (s.sort is) us = g.item g.sort
item_reads _ (s.function {f = f} {r = r} {args = args} is are into) us = function_reads f r args us
item_reads _ (s.predicate {p = p} {args = args} is are) us = predicate_reads p args us
item_reads _ (s.procedure {p = p} {values = values} {refs = refs} is are others) us = procedure_reads p values refs us

-- ---- theorems and proofs

theorem_at : (n : Name) (simp_mark : Bool) (form : RawForm) (us : List TokenKind) → simp_mark ≡ false → ReadsForm (before (form_pieces form) (MarkToken SEMICOLON ∷ us)) form (MarkToken SEMICOLON ∷ us)
    → g.IsTheorem (before (theorem_pieces (record { name = n; simp = simp_mark; form = form })) us) (record { name = n; simp = simp_mark; form = form }) us
unfolding keyword_rows mark_rows
theorem_at n simp_mark form us e reads = rw (e, before_append (form_pieces form) (Mark (codes ";") ∷ Break ∷ []) us) (g.theorem (g.statement reads))

theorem_reads : (theorem : Theorem) → s.IsTheorem theorem → (us : List TokenKind) → g.IsTheorem (before (theorem_pieces theorem) us) theorem us
theorem_reads theorem is us = theorem_at theorem.name theorem.simp theorem.form us is.unmarked (reads_form theorem.form (MarkToken SEMICOLON ∷ us) is.form is.low)

proof_reads : (proof : Proof) → s.IsProof proof → (us : List TokenKind) → g.IsProof (before (proof_pieces proof) us) proof us
unfolding keyword_rows mark_rows
proof_reads proof is us =
    rw (before_append (script_pieces proof.script) (Space ∷ Word (codes "qed") ∷ Break ∷ []) us)
    (g.proof (g.labelled (label_reads is.name (MarkToken EQUAL ∷ before (script_pieces proof.script) (WordToken word.QED ∷ us))) (label_no_colon is.name) (script_reads is.script (WordToken word.QED ∷ us))))

-- ---- units and projects

are_read : {X : Type 0} (Q : X → Type 0) (Is : List TokenKind → X → List TokenKind → Type 0) (pieces : X → List Piece) → ((x : X) → Q x → (us : List TokenKind) → Is (before (pieces x) us) x us)
    → (xs : List X) → All Q xs → (us : List TokenKind) → g.Are Is (before (flat_map pieces xs) us) xs us
are_read Q Is pieces one [] all us = g.none
are_read Q Is pieces one (x ∷ xs) all us =
    rw (before_append (pieces x) (flat_map pieces xs) us)
    (g.more (one x (All-head Q x xs all) (before (flat_map pieces xs) us)) (are_read Q Is pieces one xs (All-tail Q x xs all) us))

unit_at : (n : Name) {kind : Kind} (theorems : List Theorem) (proofs : List Proof) (us : List TokenKind) → s.IsKind kind → All s.IsTheorem theorems → All s.IsProof proofs
    → g.IsUnit (before (unit_pieces (record { name = n; kind = kind; theorems = theorems; proofs = proofs })) us) (record { name = n; kind = kind; theorems = theorems; proofs = proofs }) us
unfolding keyword_rows
unit_at n theorems proofs us (s.basic {items = items} all) stated proved =
    let ws = before (flat_map proof_pieces proofs) us in
    let vs = before (flat_map theorem_pieces theorems) ws in
    simp before_append
    (g.unit (g.head (are_read s.IsItem g.IsItem item_pieces item_reads items all (WordToken word.END ∷ vs))) (are_read s.IsTheorem g.IsTheorem theorem_pieces theorem_reads theorems stated ws) (are_read s.IsProof g.IsProof proof_pieces proof_reads proofs proved us))

unit_reads : (unit : P.Unit) → s.IsUnit unit → (us : List TokenKind) → g.IsUnit (before (unit_pieces unit) us) unit us
unit_reads unit is us = unit_at unit.name unit.theorems unit.proofs us is.kind is.theorems is.proofs

pub project_reads : (project : Project) → s.IsSpellable project → g.IsProject (before (project_pieces project) []) project
unfolding keyword_rows
project_reads project is = g.project (are_read s.IsUnit g.IsUnit unit_pieces unit_reads project is.units [])

-- The pieces of a layout fit one another.
use Rattle.std.proofs.Common.{ℕ, ◌≡◌, List, [], ◌∷◌, ◌++◌, refl, ◌∙◌, sym, arith, subst, inl, inr, append_assoc, append-nil}
use Rattle.std.specs.Prelude.{Bool, true, false, if◌then◌else◌, ◌==◌, nat_le, length, codes, flat_map}
use Rattle.std.specs.List.{All}
use Rattle.std.proofs.lemmas.List.Elements.{All-head, All-tail}
use Rattle.kv_print.specs.Forms.{Printed, infixed, operand, printed_form, form_pieces, more_names, more_terms, names_pieces, term_pieces, terms_pieces, var_pieces}
use Rattle.kv_print.specs.Items.{arguments_pieces, more_vars, parameters_pieces, ref_vars_pieces, sorts_pieces, vars_pieces}
use Rattle.kv_print.specs.Layout.{item_line, item_pieces, kind_pieces, theorem_pieces, proof_pieces, unit_pieces, project_pieces}
use Rattle.kv_print.specs.Pieces.{Piece}
use Rattle.kv_print.specs.Pieces.Piece.{Space, Break, Word, Ident, Mark}
use Rattle.kv_print.specs.Scripts.{step_pieces, script_pieces, children_pieces, other_children, behind_step}
use Rattle.kv_punit.specs.Steps.{with_form}
use Rattle.kv_punit.specs.declared.steps.Takes.TheVariants as take
use Rattle.kv_session.specs.Spellable.{IsName, IsVar, IsTerm, AreTerms, IsForm, IsStep, IsScript, AreScripts, IsItem, IsKind, IsTheorem, IsProof, IsUnit, IsSpellable}
use Rattle.kv_session.specs.Spellable as s
use Rattle.kv_session.proofs.Tokens.{AreFit, Ends, Fits}
use Rattle.kv_session.proofs.Tokens as k
use Rattle.kv_session.proofs.Rules.{IsRuleWord, rule_word, cut_row}
use Rattle.kv_session.proofs.Words.{is_word}
use Rattle.kv_syn.specs.Projects.{Theorem, Proof, Item, Kind, Project}
use Rattle.kv_syn.specs.Projects as P
use Rattle.kv_raw.specs.RawTrees.{RawTerm, RawTerms, RawForm}
use Rattle.kv_syn.specs.Scripts.{Step, Script, Scripts}
use Rattle.kv_names.specs.Names.{Name}
use Rattle.kv_syn.specs.declared.scripts.Side.TheVariants.{L, R}
use Rattle.kv_names.specs.declared.symbols.Var.{Var}
use Rattle.kv_table.specs.Rules as rule

-- pieces that fit before all that ends a word
abbrev pub Leads : List Piece → Type 0
Leads ps = (qs : List Piece) → Ends qs → AreFit qs → AreFit (ps ++ qs)

-- pieces that fit before all
abbrev pub Goes : List Piece → Type 0
Goes ps = (qs : List Piece) → AreFit qs → AreFit (ps ++ qs)

-- pieces that lead, and behind which a word ends
record Joins (ps : List Piece) : Type 0 where
  pub leads : Leads ps
  pub ends : (qs : List Piece) → Ends qs → Ends (ps ++ qs)

nothing_joins : Joins []
nothing_joins = record { leads = λ qs e fit. fit; ends = λ qs e. e }

-- pieces that lead, and then others
then_leads : (ps others : List Piece) → Leads ps → Joins others → Leads (ps ++ others)
then_leads ps others leads more qs e fit = subst AreFit (sym (append_assoc ps others qs)) (leads (others ++ qs) (more.ends qs e) (more.leads qs e fit))

-- the same behind a comma
comma_joins : (ps others : List Piece) → Leads ps → Joins others → Joins (Mark (codes ",") ∷ Space ∷ ps ++ others)
comma_joins ps others leads more = record {
  leads = λ qs e fit. (inl k.comma, (tt, then_leads ps others leads more qs e fit));
  ends = λ qs e. k.comma;
}

-- ---- terms

application_leads : (f : Name) (args : RawTerms) → IsName f → Leads (terms_pieces args) → Leads (term_pieces (RawTerm.App f args))
application_leads f RawTerms.none is leads qs e fit = ((is, e), fit)
application_leads f (RawTerms.more t ts) is leads qs e fit = (
  (is, k.bracket),
  (inl k.bracket, rw (append_assoc (terms_pieces (RawTerms.more t ts)) (Mark (codes ")") ∷ []) qs) (leads (Mark (codes ")") ∷ qs) k.end_bracket (inl k.end_bracket, fit))),
)

mutual
  term_leads : {t : RawTerm} → IsTerm t → Leads (term_pieces t)
  term_leads (s.app {f = f} {args = args} is are) = application_leads f args is (terms_lead are)

  terms_lead : {ts : RawTerms} → AreTerms ts → Leads (terms_pieces ts)
  terms_lead s.none = λ qs e fit. fit
  terms_lead (s.more {t = t} {rest = rest} is are) = then_leads (term_pieces t) (more_terms rest) (term_leads is) (more_join are)

  more_join : {ts : RawTerms} → AreTerms ts → Joins (more_terms ts)
  more_join s.none = nothing_joins
  more_join (s.more {t = t} {rest = rest} is are) = comma_joins (term_pieces t) (more_terms rest) (term_leads is) (more_join are)

-- ---- formulas

operand_cases : (joined : Bool) (ps : List Piece) → Leads ps → Leads (if joined then Mark (codes "(") ∷ ps ++ Mark (codes ")") ∷ [] else ps)
operand_cases true ps leads qs e fit = (inl k.bracket, rw (append_assoc ps (Mark (codes ")") ∷ []) qs) (leads (Mark (codes ")") ∷ qs) k.end_bracket (inl k.end_bracket, fit)))
operand_cases false ps leads qs e fit = leads qs e fit

operand_leads : (form : Printed) → Leads form.pieces → Leads (operand form)
operand_leads form leads = operand_cases form.joined form.pieces leads

-- an operator that stands between spaces
abbrev IsOperator : Piece → Type 0
IsOperator operator = (qs : List Piece) → Fits operator (Space ∷ qs)

infix_leads : (left right : List Piece) (operator : Piece) → Leads left → Leads right → IsOperator operator → Leads (left ++ (Space ∷ operator ∷ Space ∷ right))
infix_leads left right operator leads others fits qs e fit =
    rw (append_assoc left (Space ∷ operator ∷ Space ∷ right) qs)
    (leads (Space ∷ operator ∷ Space ∷ (right ++ qs)) tt (tt, (fits (right ++ qs), (tt, others qs e fit))))

operands_lead : (f g : RawForm) (operator : Piece) → Leads (form_pieces f) → Leads (form_pieces g) → IsOperator operator → Leads (infixed (printed_form f) operator (printed_form g)).pieces
operands_lead f g operator left right fits =
    infix_leads (operand (printed_form f)) (operand (printed_form g)) operator (operand_leads (printed_form f) left) (operand_leads (printed_form g) right) fits

-- a quantifier with its variable
quantified_leads : (word : List ℕ) (x : Var) (ps : List Piece) → is_word word ≡ true → nat_le (length word) 64 ≡ true → IsVar x → Leads ps
    → Leads (Word word ∷ Space ∷ var_pieces x ++ (Space ∷ Mark (codes ".") ∷ Space ∷ ps))
quantified_leads word x ps letters short is leads qs e fit = (
  (letters, short, tt),
  (tt, ((is.name, tt), (tt, (inr (k.colon, tt), (tt, ((is.sort, tt), (tt, (inl k.dot, (tt, leads qs e fit))))))))),
)

pub form_leads : {f : RawForm} → IsForm f → Leads (form_pieces f)
form_leads s.truth = λ qs e fit. ((refl, refl, e), fit)
form_leads s.falsehood = λ qs e fit. ((refl, refl, e), fit)
form_leads (s.atom {p = p} {args = args} is are) = application_leads p args is (terms_lead are)
form_leads (s.equal {t = t} {u = u} is other) = infix_leads (term_pieces t) (term_pieces u) (Mark (codes "=")) (term_leads is) (term_leads other) (λ qs. inr (k.equal, tt))
form_leads (s.not {f = f} r) = λ qs e fit. ((refl, refl, tt), (tt, operand_leads (printed_form f) (form_leads r) qs e fit))
form_leads (s.and {f = f} {g = g} r t) = operands_lead f g (Word (codes "and")) (form_leads r) (form_leads t) (λ qs. (refl, refl, tt))
form_leads (s.or {f = f} {g = g} r t) = operands_lead f g (Word (codes "or")) (form_leads r) (form_leads t) (λ qs. (refl, refl, tt))
form_leads (s.imp {f = f} {g = g} r t) = operands_lead f g (Mark (codes "->")) (form_leads r) (form_leads t) (λ qs. inl k.arrow)
form_leads (s.iff {f = f} {g = g} r t) = operands_lead f g (Mark (codes "<->")) (form_leads r) (form_leads t) (λ qs. inl k.double_arrow)
form_leads (s.all {x = x} {f = f} is r) = quantified_leads (codes "all") x (operand (printed_form f)) refl refl is (operand_leads (printed_form f) (form_leads r))
form_leads (s.ex {x = x} {f = f} is r) = quantified_leads (codes "ex") x (operand (printed_form f)) refl refl is (operand_leads (printed_form f) (form_leads r))

-- ---- scripts

-- the formula of a step stands behind the word of its rule
formula_leads : (row : ℕ) (f : RawForm) → IsRuleWord row → (row == rule.CUT) ≡ true → Leads (form_pieces f) → Leads (step_pieces (with_form row f))
formula_leads row f w cut leads qs e fit = rw cut ((w.letters, w.short, tt), (tt, leads qs e fit))

pub step_leads : {step : Step} → IsStep step → Leads (step_pieces step)
step_leads (s.one {row = row} takes number) qs e fit =
    let w = rule_word row take.One takes in
    ((w.letters, w.short, tt), (tt, ((number, e), fit)))
step_leads (s.two {row = row} takes first second) qs e fit =
    let w = rule_word row take.Two takes in
    ((w.letters, w.short, tt), (tt, ((first, tt), (tt, ((second, e), fit)))))
step_leads (s.name {row = row} takes number name) qs e fit =
    let w = rule_word row take.Name takes in
    ((w.letters, w.short, tt), (tt, ((number, tt), (tt, ((refl, refl, tt), (tt, ((name, e), fit)))))))
step_leads (s.term {row = row} {t = t} takes number is low) qs e fit =
    let w = rule_word row take.Term takes in
    ((w.letters, w.short, tt), (tt, ((number, tt), (tt, ((refl, refl, tt), (tt, term_leads is qs e fit))))))
step_leads (s.form {row = row} {f = f} takes is low) qs e fit = formula_leads row f (rule_word row take.Form takes) (cut_row row takes) (form_leads is) qs e fit
step_leads (s.side {row = row} {s = L} takes number) qs e fit =
    let w = rule_word row take.Side takes in
    ((w.letters, w.short, tt), (tt, ((refl, refl, tt), (tt, ((number, e), fit)))))
step_leads (s.side {row = row} {s = R} takes number) qs e fit =
    let w = rule_word row take.Side takes in
    ((w.letters, w.short, tt), (tt, ((refl, refl, tt), (tt, ((number, e), fit)))))
step_leads (s.two_sided {row = row} {s = L} takes first second) qs e fit =
    let w = rule_word row take.TwoSided takes in
    ((w.letters, w.short, tt), (tt, ((first, tt), (tt, ((refl, refl, tt), (tt, ((second, e), fit)))))))
step_leads (s.two_sided {row = row} {s = R} takes first second) qs e fit =
    let w = rule_word row take.TwoSided takes in
    ((w.letters, w.short, tt), (tt, ((first, tt), (tt, ((refl, refl, tt), (tt, ((second, e), fit)))))))

behind_joins : (rest : Scripts) (first others : List Piece) → Leads first → Joins others → Joins (behind_step rest first others)
behind_joins Scripts.none first others leads more = record {
  leads = λ qs e fit. (inl k.semicolon, (tt, leads qs e fit));
  ends = λ qs e. k.semicolon;
}
behind_joins (Scripts.more t rest) first others leads more = record {
  leads = λ qs e fit.
      let end : AreFit (Space ∷ Mark (codes "}") ∷ qs) = (tt, (inl k.end_brace, fit)) in
      let whole = append_assoc (first ++ others) (Space ∷ Mark (codes "}") ∷ []) qs ∙ append_assoc first others (Space ∷ Mark (codes "}") ∷ qs) in (
        tt,
        (
          inl k.brace,
          (
            tt,
            subst AreFit (sym whole)
                (leads (others ++ (Space ∷ Mark (codes "}") ∷ qs)) (more.ends (Space ∷ Mark (codes "}") ∷ qs) tt) (more.leads (Space ∷ Mark (codes "}") ∷ qs) tt end)),
          ),
        ),
      );
  ends = λ qs e. tt;
}

mutual
  pub script_leads : {n : ℕ} {script : Script} → IsScript n script → Leads (script_pieces script)
  script_leads s.hole qs e fit = ((refl, refl, e), fit)
  script_leads (s.node {step = step} {children = children} is are) qs e fit =
      let joins = children_join are in
      subst AreFit (sym (append_assoc (step_pieces step) (children_pieces children) qs))
      (step_leads is (children_pieces children ++ qs) (joins.ends qs e) (joins.leads qs e fit))

  children_join : {n : ℕ} {children : Scripts} → AreScripts n children → Joins (children_pieces children)
  children_join s.none = nothing_joins
  children_join (s.more {s = script} {rest = rest} is are) =
      behind_joins rest (script_pieces script) (other_children rest) (λ qs e fit. script_leads is qs e fit) (others_join are)

  others_join : {n : ℕ} {children : Scripts} → AreScripts n children → Joins (other_children children)
  others_join s.none = nothing_joins
  others_join (s.more {s = script} {rest = rest} is are) = record {
    leads = λ qs e fit.
        let joins = others_join are in
        (tt, (inl k.bar, (tt, subst AreFit (sym (append_assoc (script_pieces script) (other_children rest) qs)) (script_leads is (other_children rest ++ qs) (joins.ends qs e) (joins.leads qs e fit)))));
    ends = λ qs e. tt;
  }

-- ---- lines

each_goes : {X : Type 0} (Q : X → Type 0) (pieces : X → List Piece) → ((x : X) → Q x → Goes (pieces x)) → (xs : List X) → All Q xs → Goes (flat_map pieces xs)
each_goes Q pieces one [] all qs fit = fit
each_goes Q pieces one (x ∷ xs) all qs fit =
    rw (append_assoc (pieces x) (flat_map pieces xs) qs)
    (one x (All-head Q x xs all) (flat_map pieces xs ++ qs) (each_goes Q pieces one xs (All-tail Q x xs all) qs fit))

-- ---- items

more_names_join : (xs : List Name) → All IsName xs → Joins (more_names xs)
more_names_join [] all = nothing_joins
more_names_join (x ∷ xs) all =
    comma_joins (Ident x ∷ []) (more_names xs) (λ qs e fit. ((All-head IsName x xs all, e), fit)) (more_names_join xs (All-tail IsName x xs all))

names_lead : (xs : List Name) → All IsName xs → Leads (names_pieces xs)
names_lead [] all qs e fit = fit
names_lead (x ∷ xs) all qs e fit =
    let more = more_names_join xs (All-tail IsName x xs all) in
    ((All-head IsName x xs all, more.ends qs e), more.leads qs e fit)

var_leads : (x : Var) → IsVar x → Leads (var_pieces x)
var_leads x is qs e fit = ((is.name, tt), (tt, (inr (k.colon, tt), (tt, ((is.sort, e), fit)))))

more_vars_join : (xs : List Var) → All IsVar xs → Joins (more_vars xs)
more_vars_join [] all = nothing_joins
more_vars_join (x ∷ xs) all = comma_joins (var_pieces x) (more_vars xs) (var_leads x (All-head IsVar x xs all)) (more_vars_join xs (All-tail IsVar x xs all))

vars_lead : (xs : List Var) → All IsVar xs → Leads (vars_pieces xs)
vars_lead [] all qs e fit = fit
vars_lead (x ∷ xs) all qs e fit = then_leads (var_pieces x) (more_vars xs) (var_leads x (All-head IsVar x xs all)) (more_vars_join xs (All-tail IsVar x xs all)) qs e fit

refs_join : (xs : List Var) → All IsVar xs → Joins (ref_vars_pieces xs)
refs_join [] all = nothing_joins
refs_join (x ∷ xs) all = record { leads = λ qs e fit. (tt, vars_lead (x ∷ xs) all qs e fit); ends = λ qs e. tt }

-- what stands behind the name of a function, of a predicate, of a procedure
function_joins : (args : List Name) (r : Name) → All IsName args → IsName r → Joins (Space ∷ Mark (codes ":") ∷ Space ∷ arguments_pieces args ++ Ident r ∷ [])
function_joins [] r are is = record { leads = λ qs e fit. (tt, (inr (k.colon, tt), (tt, ((is, e), fit)))); ends = λ qs e. tt }
function_joins (x ∷ xs) r are is = record {
  leads = λ qs e fit.
      let arrow : List Piece = Space ∷ Mark (codes "->") ∷ Space ∷ [] in
      let names = names_pieces (x ∷ xs) in
      let whole = append_assoc (names ++ arrow) (Ident r ∷ []) qs ∙ append_assoc names arrow (Ident r ∷ qs) in
      (tt, (inr (k.colon, tt), (tt, subst AreFit (sym whole) (names_lead (x ∷ xs) are (Space ∷ Mark (codes "->") ∷ Space ∷ Ident r ∷ qs) tt (tt, (inl k.arrow, (tt, ((is, e), fit))))))));
  ends = λ qs e. tt;
}

predicate_joins : (args : List Name) → All IsName args → Joins (sorts_pieces args)
predicate_joins [] are = nothing_joins
predicate_joins (x ∷ xs) are = record { leads = λ qs e fit. (tt, (inr (k.colon, tt), (tt, names_lead (x ∷ xs) are qs e fit))); ends = λ qs e. tt }

procedure_joins : (values refs : List Var) → All IsVar values → All IsVar refs → Joins (parameters_pieces values refs ++ [])
procedure_joins values refs are others = record {
  leads = λ qs e fit.
      let more = refs_join refs others in
      let behind : List Piece = Mark (codes ";") ∷ ref_vars_pieces refs in
      let end : List Piece = Mark (codes ")") ∷ [] in
      let whole = append_assoc ((vars_pieces values ++ behind) ++ end) [] qs ∙ append_assoc (vars_pieces values ++ behind) end qs ∙ append_assoc (vars_pieces values) behind (end ++ qs) in (
        inl k.bracket,
        subst AreFit (sym whole)
            (vars_lead values are (behind ++ (end ++ qs)) k.semicolon (inl k.semicolon, more.leads (end ++ qs) k.end_bracket (inl k.end_bracket, fit))),
      );
  ends = λ qs e. k.bracket;
}

-- a line with a keyword, a name, and what stands behind it
line_goes : (keyword : List ℕ) (name : Name) (behind : List Piece) → is_word keyword ≡ true → nat_le (length keyword) 64 ≡ true → IsName name → Joins behind → Goes (item_line keyword name behind)
line_goes keyword name behind letters short is more qs fit =
    let end : List Piece = Mark (codes ";") ∷ Break ∷ [] in
    let whole = append_assoc behind end qs in
    (tt, (tt, ((letters, short, tt), (tt, ((is, subst Ends (sym whole) (more.ends (end ++ qs) k.semicolon)), subst AreFit (sym whole) (more.leads (end ++ qs) k.semicolon (inl k.semicolon, (tt, fit))))))))

item_goes : (item : Item) → IsItem item → Goes (item_pieces item)
item_goes _ (s.sort {n = n} is) = line_goes (codes "sort") n [] refl refl is nothing_joins
item_goes _ (s.function {f = f} {r = r} {args = args} is are into) =
    line_goes (codes "fun") f (Space ∷ Mark (codes ":") ∷ Space ∷ arguments_pieces args ++ Ident r ∷ []) refl refl is (function_joins args r are into)
item_goes _ (s.predicate {p = p} {args = args} is are) = line_goes (codes "pred") p (sorts_pieces args) refl refl is (predicate_joins args are)
item_goes _ (s.procedure {p = p} {values = values} {refs = refs} is are others) =
    line_goes (codes "proc") p (parameters_pieces values refs ++ []) refl refl is (procedure_joins values refs are others)

-- ---- units

kind_goes : {kind : Kind} → IsKind kind → Goes (kind_pieces kind)
kind_goes (s.basic {items = items} all) qs fit = ((refl, refl, tt), (tt, each_goes IsItem item_pieces item_goes items all qs fit))

theorem_goes : (theorem : Theorem) → IsTheorem theorem → Goes (theorem_pieces theorem)
theorem_goes theorem is qs fit =
    rw is.unmarked (
      (refl, refl, tt),
      (
        tt,
        (
          (is.name, tt),
          (
            tt,
            (
              inr (k.colon, tt),
              (
                tt,
                rw (append_assoc (form_pieces theorem.form) (Mark (codes ";") ∷ Break ∷ []) qs)
                    (form_leads is.form (Mark (codes ";") ∷ Break ∷ qs) k.semicolon (inl k.semicolon, (tt, fit))),
              ),
            ),
          ),
        ),
      ),
    )

proof_goes : (proof : Proof) → IsProof proof → Goes (proof_pieces proof)
proof_goes proof is qs fit = (
  (refl, refl, tt),
  (
    tt,
    (
      (is.name, tt),
      (
        tt,
        (
          inr (k.equal, tt),
          (
            tt,
            rw (append_assoc (script_pieces proof.script) (Space ∷ Word (codes "qed") ∷ Break ∷ []) qs)
                (script_leads is.script (Space ∷ Word (codes "qed") ∷ Break ∷ qs) tt (tt, ((refl, refl, tt), (tt, fit)))),
          ),
        ),
      ),
    ),
  ),
)

unit_goes : (unit : P.Unit) → IsUnit unit → Goes (unit_pieces unit)
unit_goes unit is qs fit =
    let kind = kind_pieces unit.kind in
    let theorems = flat_map theorem_pieces unit.theorems in
    let proofs = flat_map proof_pieces unit.proofs in
    let end : List Piece = Word (codes "end") ∷ Break ∷ [] in
    let whole = append_assoc ((kind ++ end) ++ theorems) proofs qs ∙ append_assoc (kind ++ end) theorems (proofs ++ qs) ∙ append_assoc kind end (theorems ++ (proofs ++ qs)) in (
      (refl, refl, tt),
      (
        tt,
        (
          (is.name, tt),
          (
            tt,
            subst AreFit (sym whole)
                (kind_goes is.kind (end ++ (theorems ++ (proofs ++ qs))) (
                  (refl, refl, tt),
                  (
                    tt,
                    each_goes IsTheorem theorem_pieces theorem_goes unit.theorems is.theorems (proofs ++ qs)
                        (each_goes IsProof proof_pieces proof_goes unit.proofs is.proofs qs fit),
                  ),
                )),
          ),
        ),
      ),
    )

pub project_fits : (project : Project) → IsSpellable project → AreFit (project_pieces project)
project_fits project is =
    let units = each_goes IsUnit unit_pieces unit_goes project is.units [] tt in
    ((refl, refl, tt), (tt, ((omega arith, tt), (tt, subst AreFit (append-nil (flat_map unit_pieces project)) units))))

-- The code's trees by their variant, as plain ones.
use Rattle.std.proofs.Common.{◌≡◌, ℕ, ◌+◌, ◌-◌, ◌^◌, List, ap, sym, ◌∙◌}
use Rattle.std.specs.Prelude.{Bool, ◌&&◌, if◌then◌else◌, min}
use Rattle.kv_trees.specs.Bridge.{plain_term, plain_terms, plain_term_step, plain_form, plain_prog, plain_form_step, plain_prog_step}
use Rattle.kv_trees.specs.Count.{term_nodes, terms_nodes, form_nodes, prog_nodes, term_depth, terms_depth, form_depth, prog_depth}
use Rattle.kv_trees.specs.Same.{form_eq}
use Rattle.kv_trees.specs.Trees as P
use Rattle.kv_trees.specs.declared.trees.Form.{Form, fold-roll-Form}
use Rattle.kv_trees.specs.declared.trees.Form as F
use Rattle.kv_trees.specs.declared.trees.Form.TheOpen as L
use Rattle.kv_trees.specs.declared.trees.Form.TheVariants.{rolls-Atom, rolls-After, rolls-Can}
use Rattle.kv_names.specs.declared.symbols.Callee.{Callee}
use Rattle.kv_trees.specs.declared.trees.Prog.{Prog, fold-roll-Prog}
use Rattle.kv_trees.specs.declared.trees.Prog as G
use Rattle.kv_trees.specs.declared.trees.Prog.TheVariants.{rolls-Call}
use Rattle.kv_trees.specs.declared.trees.Ref.{Ref}
use Rattle.kv_trees.specs.declared.trees.Term.{Term}
use Rattle.kv_trees.specs.declared.trees.Term as T
use Rattle.kv_trees.specs.declared.trees.Term.TheOpen as O
use Rattle.kv_trees.specs.declared.trees.Term.TheVariants.{rolls-App}
use Rattle.kv_trees.proofs.Same.{prog_same}
use Rattle.kv_subst.specs.Changing.{Change, changed_term, changed_terms, changed_form, changed_prog}
use Rattle.kv_goal.specs.Measures.{Measures}
use Rattle.kv_prop.specs.Replacing.{replaced_form, touches}
use Rattle.kv_goal.specs.declared.sizes.Size.{Size}

plain_app : (f : List ℕ) (ts : List Term) → plain_term (T.App f ts) ≡ P.Term.App f (plain_terms ts)
plain_app f ts = ap plain_term (sym (rolls-App f ts)) ∙ T.fold-roll-Term P.Term plain_term_step (O.App f ts)

plain_after : (a : Prog) (f : Form) → plain_form (F.After a f) ≡ P.Form.After (plain_prog a) (plain_form f)
plain_after a f = ap plain_form (sym (rolls-After a f)) ∙ fold-roll-Form P.Form P.Prog plain_form_step plain_prog_step (L.After a f)

plain_can : (a : Prog) (f : Form) → plain_form (F.Can a f) ≡ P.Form.Can (plain_prog a) (plain_form f)
plain_can a f = ap plain_form (sym (rolls-Can a f)) ∙ fold-roll-Form P.Form P.Prog plain_form_step plain_prog_step (L.Can a f)

-- the size of a function's term is that of its arguments and one more
pub app_size : (size : Size) (c : Ref → P.Term) (t : Term) (f : List ℕ) (ts : List Term) → t ≡ T.App f ts →
    Measures size (1 + terms_nodes (changed_terms c (plain_terms ts))) (1 + terms_depth (changed_terms c (plain_terms ts))) →
    Measures size (term_nodes (changed_term c (plain_term t))) (term_depth (changed_term c (plain_term t)))
app_size size c t f ts e told =
    let whole : plain_term t ≡ P.Term.App f (plain_terms ts) = ap plain_term e ∙ plain_app f ts in (
      told.0 ∙ ap (λ (u : P.Term). min (term_nodes (changed_term c u)) (2 ^ 64 - 1)) (sym whole),
      told.1 ∙ ap (λ (u : P.Term). min (term_depth (changed_term c u)) (2 ^ 32 - 1)) (sym whole),
    )

-- that of an atom and of a call likewise
pub atom_size : (size : Size) (c : Change) (k : ℕ) (x : Form) (p : List ℕ) (ts : List Term) → x ≡ F.Atom p ts →
    Measures size (1 + terms_nodes (changed_terms (c k) (plain_terms ts))) (1 + terms_depth (changed_terms (c k) (plain_terms ts))) →
    Measures size (form_nodes (changed_form c k (plain_form x))) (form_depth (changed_form c k (plain_form x)))
atom_size size c k x p ts e told =
    let whole : plain_form x ≡ P.Form.Atom p (plain_terms ts) =
    ap plain_form e ∙ ap plain_form (sym (rolls-Atom p ts)) ∙ fold-roll-Form P.Form P.Prog plain_form_step plain_prog_step (L.Atom p ts) in (
      told.0 ∙ ap (λ (u : P.Form). min (form_nodes (changed_form c k u)) (2 ^ 64 - 1)) (sym whole),
      told.1 ∙ ap (λ (u : P.Form). min (form_depth (changed_form c k u)) (2 ^ 32 - 1)) (sym whole),
    )

pub call_size : (size : Size) (c : Change) (k : ℕ) (x : Prog) (p : Callee) (ts : List Term) (rs : List Ref) → x ≡ G.Call p ts rs →
    Measures size (1 + terms_nodes (changed_terms (c k) (plain_terms ts))) (1 + terms_depth (changed_terms (c k) (plain_terms ts))) →
    Measures size (prog_nodes (changed_prog c k (plain_prog x))) (prog_depth (changed_prog c k (plain_prog x)))
call_size size c k x p ts rs e told =
    let whole : plain_prog x ≡ P.Prog.Call p (plain_terms ts) rs =
    ap plain_prog e ∙ ap plain_prog (sym (rolls-Call p ts rs)) ∙ fold-roll-Prog P.Form P.Prog plain_form_step plain_prog_step (L.Call p ts rs) in (
      told.0 ∙ ap (λ (u : P.Prog). min (prog_nodes (changed_prog c k u)) (2 ^ 64 - 1)) (sym whole),
      told.1 ∙ ap (λ (u : P.Prog). min (prog_depth (changed_prog c k u)) (2 ^ 32 - 1)) (sym whole),
    )

-- a formula stays behind a program, which stays, where it does by itself or the program touches one of the terms
module _ (t u : P.Term) (k : ℕ) (x : Form) (a : Prog) (f : Form) (a' : Prog) (f' : Form) (b r : Bool) where
  abbrev behind : Bool → P.Form → P.Form
  behind b g = if b then g else replaced_form t u k g

  stays_behind : a' ≡ a → f' ≡ f → b ≡ touches t u k (plain_prog a') → r ≡ form_eq (behind b (plain_form f')) (plain_form f') →
      r ≡ form_eq (behind (touches t u k (plain_prog a)) (plain_form f)) (plain_form f)
  stays_behind pa pf touched told =
      told ∙ ap (λ (z : Form). form_eq (behind b (plain_form z)) (plain_form z)) pf
      ∙ ap (λ (c : Bool). form_eq (behind c (plain_form f)) (plain_form f)) (touched ∙ ap (λ (z : Prog). touches t u k (plain_prog z)) pa)

  pub stays_after : x ≡ F.After a f → a' ≡ a → f' ≡ f → b ≡ touches t u k (plain_prog a') → r ≡ form_eq (behind b (plain_form f')) (plain_form f') →
      r ≡ form_eq (replaced_form t u k (plain_form x)) (plain_form x)
  stays_after is pa pf touched told =
      stays_behind pa pf touched told
      ∙ sym (ap (λ (c : Bool). c && form_eq (behind (touches t u k (plain_prog a)) (plain_form f)) (plain_form f)) (prog_same (plain_prog a)))
      ∙ sym (ap (λ (z : P.Form). form_eq (replaced_form t u k z) z) (ap plain_form is ∙ plain_after a f))

  pub stays_can : x ≡ F.Can a f → a' ≡ a → f' ≡ f → b ≡ touches t u k (plain_prog a') → r ≡ form_eq (behind b (plain_form f')) (plain_form f') →
      r ≡ form_eq (replaced_form t u k (plain_form x)) (plain_form x)
  stays_can is pa pf touched told =
      stays_behind pa pf touched told
      ∙ sym (ap (λ (c : Bool). c && form_eq (behind (touches t u k (plain_prog a)) (plain_form f)) (plain_form f)) (prog_same (plain_prog a)))
      ∙ sym (ap (λ (z : P.Form). form_eq (replaced_form t u k z) z) (ap plain_form is ∙ plain_can a f))

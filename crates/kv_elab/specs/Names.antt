-- The names that stand in a raw tree, from left to right, and the symbols that they stand for.
use Rattle.std.specs.Prelude.{◌≡◌, List, [], ◌∷◌, ◌++◌, Option, Some, None}
use Rattle.kv_names.specs.Names.{Name}
use Rattle.kv_raw.specs.RawTrees.{RawTerm, RawTerms, RawForm, RawProg}
use Rattle.kv_names.specs.declared.symbols.Profile.{Profile}
use Rattle.kv_names.specs.declared.symbols.Symbol.{Symbol}
use Rattle.kv_names.specs.declared.symbols.Var.{Var}
use Rattle.kv_sig.specs.Signatures.{profile_of}
use Rattle.kv_elab.specs.declared.contexts.Context.{Context}
use Rattle.kv_elab.specs.Elab.{elab_term, elab_form, elab_prog}

-- a binder's variable and its sort
abbrev pub var_names : Var → List Name
var_names x = x.name ∷ x.sort ∷ []

abbrev mutual
  pub term_names : RawTerm → List Name
  term_names (RawTerm.App f ts) = f ∷ terms_names ts

  pub terms_names : RawTerms → List Name
  terms_names RawTerms.none = []
  terms_names (RawTerms.more t ts) = term_names t ++ terms_names ts

abbrev mutual
  pub form_names : RawForm → List Name
  form_names RawForm.True = []
  form_names RawForm.False = []
  form_names (RawForm.Atom p ts) = p ∷ terms_names ts
  form_names (RawForm.Equal s t) = term_names s ++ term_names t
  form_names (RawForm.Not f) = form_names f
  form_names (RawForm.And f g) = form_names f ++ form_names g
  form_names (RawForm.Or f g) = form_names f ++ form_names g
  form_names (RawForm.Imp f g) = form_names f ++ form_names g
  form_names (RawForm.Iff f g) = form_names f ++ form_names g
  form_names (RawForm.All x f) = var_names x ++ form_names f
  form_names (RawForm.Ex x f) = var_names x ++ form_names f
  form_names (RawForm.After a f) = prog_names a ++ form_names f
  form_names (RawForm.Can a f) = prog_names a ++ form_names f

  pub prog_names : RawProg → List Name
  prog_names RawProg.Skip = []
  prog_names RawProg.Abort = []
  prog_names (RawProg.Assign x t) = x ∷ term_names t
  prog_names (RawProg.Seq a b) = prog_names a ++ prog_names b
  prog_names (RawProg.If e a b) = form_names e ++ (prog_names a ++ prog_names b)
  prog_names (RawProg.While e a) = form_names e ++ prog_names a
  prog_names (RawProg.Local x t a) = var_names x ++ (term_names t ++ prog_names a)
  prog_names (RawProg.Call p ts rs) = p ∷ (terms_names ts ++ rs)
  prog_names (RawProg.Choice a b) = prog_names a ++ prog_names b

-- the symbol of that name, where there is one
abbrev pub symbol_where : Name → Option Profile → List Symbol
symbol_where n None = []
symbol_where n (Some p) = record { name = n; profile = p } ∷ []

-- the symbols that these names stand for
abbrev pub symbols_named : (Name → Option Profile) → List Name → List Symbol
symbols_named look [] = []
symbols_named look (n ∷ ns) = symbol_where n (look n) ++ symbols_named look ns

-- typing needs no other symbols than those of the tree's names
pub record TypedByNames : Type 0 where
  pub of_term : (sig : List Symbol) (c : Context) (t : RawTerm) → elab_term (symbols_named (profile_of sig) (term_names t)) c t ≡ elab_term sig c t
  pub of_form : (sig : List Symbol) (c : Context) (f : RawForm) → elab_form (symbols_named (profile_of sig) (form_names f)) c f ≡ elab_form sig c f
  pub of_prog : (sig : List Symbol) (c : Context) (a : RawProg) → elab_prog (symbols_named (profile_of sig) (prog_names a)) c a ≡ elab_prog sig c a

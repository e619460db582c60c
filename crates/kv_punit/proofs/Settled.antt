-- From the parts of a project to what is answered of it.
use Rattle.std.proofs.Common.{◌≡◌, List, [], refl, sym, subst}
use Rattle.std.specs.Prelude.{Result, Ok, Err}
use Rattle.kv_lex.specs.declared.token.TokenKind.{TokenKind}
use Rattle.kv_syn.specs.Projects as P
use Rattle.kv_syn.specs.declared.projects.Project.{Project}
use Rattle.kv_punit.specs.Grammar.{AreUnits}
use Rattle.kv_punit.specs.Limits.{IsWellformed}
use Rattle.kv_punit.specs.Settles.{Settles}
use Rattle.kv_punit.specs.declared.errors.TextError.{TextError}
use Rattle.kv_punit.specs.declared.errors.TextError.TheVariants as error
use Rattle.kv_punit.specs.declared.errors.Which.TheVariants.{Steps, Units, Theorems}
use Rattle.kv_punit.proofs.One.{one_units}

-- names that are equal
pub unwell : (ts : List TokenKind) (q : P.Project) → AreUnits ts q [] → (IsWellformed q → ⊥) → Settles (λ p. AreUnits ts p []) (Err error.Syntax)
unwell ts q are not p spelt well = not (subst IsWellformed (one_units spelt are refl refl) well)

-- what is told of one project is told of all that are spelt
pub settled : (ts : List TokenKind) (q : P.Project) (r : Result Project TextError) → AreUnits ts q [] → IsWellformed q → Settles (λ p. p ≡ q) r → Settles (λ p. AreUnits ts p []) r
settled ts q (Ok p) are well s = (subst (λ x. AreUnits ts x []) (sym s.0) are, s.1, s.2, s.3, s.4)
settled ts q (Err error.Syntax) are well s = absurd (s q refl well)
settled ts q (Err (error.Limit Steps)) are well s = (s.0, subst (λ x. AreUnits ts x []) (sym s.1) are, s.2, s.3)
settled ts q (Err (error.Limit Units)) are well s = (s.0, subst (λ x. AreUnits ts x []) (sym s.1) are, s.2, s.3, s.4)
settled ts q (Err (error.Limit Theorems)) are well s = (s.0, subst (λ x. AreUnits ts x []) (sym s.1) are, s.2, s.3, s.4, s.5)
settled ts q (Err (error.Token place)) are well s = absurd s
settled ts q (Err error.Version) are well s = absurd s
settled ts q (Err error.NoMemory) are well s = tt

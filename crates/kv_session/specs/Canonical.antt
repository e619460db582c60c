-- Texts and projects.
use Rattle.std.specs.Prelude.{ℕ, List, ◌≡◌, ◌↔◌}
use Rattle.kv_print.specs.Layout.{project_text}
use Rattle.kv_punit.specs.ReadsAs.{Reads}
use Rattle.kv_session.specs.Spellable.{IsSpellable}
use Rattle.kv_syn.specs.Projects as P

-- what a text spells can be spelt
abbrev pub SpellsSpellable : Type 0
SpellsSpellable = (text : List ℕ) (p : P.Project) → Reads text p → IsSpellable p

-- the canonical text of such a project reads as that project, and as no other
abbrev pub ReadsBack : Type 0
ReadsBack = (p : P.Project) → IsSpellable p → (q : P.Project) → Reads (project_text p) q ↔ (q ≡ p)

-- so the canonical text of what a text spells reads as just that again
abbrev pub ReadsAgain : Type 0
ReadsAgain = (text : List ℕ) (p : P.Project) → Reads text p → (q : P.Project) → Reads (project_text p) q ↔ (q ≡ p)

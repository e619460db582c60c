-- The steps that texts have so far: what stands behind the word of each rule, and the step that it makes.
use Rattle.std.specs.Prelude.{ℕ, ◌==◌, Bool, if◌then◌else◌, List, [], ◌∷◌, Option, Some, None, codes}
use Rattle.std.specs.List.{list_any}
use Rattle.kv_names.specs.Names.{Name}
use Rattle.kv_raw.specs.RawTrees.{RawTerm, RawForm}
use Rattle.kv_syn.specs.Scripts.{Step, StepText}
use Rattle.kv_syn.specs.declared.scripts.Side.{Side}
use Rattle.kv_syn.specs.declared.scripts.Side.TheVariants.{L, R}
use Rattle.kv_punit.specs.declared.steps.Takes.{Takes}
use Rattle.kv_punit.specs.declared.steps.Takes.TheVariants as take
use Rattle.kv_table.specs.Rules as rule

abbrev pub is_one_of : List ℕ → ℕ → Bool
is_one_of rows row = list_any (λ r. row == r) rows

-- what stands behind the word of a rule: a number; two numbers; a number, `as` and a name; a number, `with` and a term;
-- a formula; a side and a number; a number, a side and a number. Texts don't have the other rules yet
unfoldable pub takes : ℕ → Option Takes
takes row =
    if is_one_of (rule.FALSE_L ∷ rule.TRUE_R ∷ rule.NOT_L ∷ rule.NOT_R ∷ rule.AND_L ∷ rule.OR_R ∷ rule.AND_R ∷ rule.OR_L ∷ rule.IMP_L ∷ rule.IMP_R
    ∷ rule.IFF_L ∷ rule.IFF_R ∷ rule.DROP_L ∷ rule.DROP_R ∷ rule.REFL ∷ []) row then Some take.One
    else (if is_one_of (rule.CLOSE ∷ []) row then Some take.Two
    else (if is_one_of (rule.ALL_R ∷ rule.EX_L ∷ []) row then Some take.Name
    else (if is_one_of (rule.ALL_L ∷ rule.EX_R ∷ []) row then Some take.Term
    else (if is_one_of (rule.CUT ∷ []) row then Some take.Form
    else (if is_one_of (rule.SWAP ∷ []) row then Some take.Side
    else (if is_one_of (rule.SUBST ∷ []) row then Some take.TwoSided else None))))))

-- the name of a side
abbrev pub side_name : Side → Name
side_name L = codes "L"
side_name R = codes "R"

-- ---- the steps, by what their rule takes

abbrev pub step_with : ℕ → Option Side → List ℕ → StepText → Step
step_with row side numbers text = record { rule = row; side = side; numbers = numbers; text = text }

abbrev pub numbered : ℕ → List ℕ → Step
numbered row numbers = step_with row None numbers StepText.Nothing

abbrev pub with_name : ℕ → ℕ → Name → Step
with_name row i x = step_with row None (i ∷ []) (StepText.Fresh x)

abbrev pub with_term : ℕ → ℕ → RawTerm → Step
with_term row i t = step_with row None (i ∷ []) (StepText.OfTerm t)

abbrev pub with_form : ℕ → RawForm → Step
with_form row f = step_with row None [] (StepText.OfForm f)

abbrev pub sided : ℕ → Side → List ℕ → Step
sided row side numbers = step_with row (Some side) numbers StepText.Nothing

-- Scripts of the code and their plain data.
use Rattle.std.proofs.Common.{◌≡◌, suc, List, [], ◌∷◌, length, refl, ap}
use Rattle.kv_script.specs.Answers.{count}
use Rattle.kv_syn.specs.ScriptBridge.{plain_scripts}
use Rattle.kv_syn.specs.declared.scripts.Script.{Script}

pub count_of : (children : List Script) → count (plain_scripts children) ≡ length children
count_of [] = refl
count_of (k ∷ children) = ap suc (count_of children)

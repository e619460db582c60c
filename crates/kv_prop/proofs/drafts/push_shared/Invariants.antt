use Rattle.std.proofs.Common.{◌≡◌, ◌++◌, take}
use Rattle.kv_prop.proofs.drafts.push_shared.Given as goal

abbrev pub invariant-loop-form : goal.invariant-loop-form
invariant-loop-form l = l.all ≡ l.initial.all ++ take l.form-index l.forms

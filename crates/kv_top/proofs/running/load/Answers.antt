use Rattle.std.proofs.Common.{List, ℕ, subst}
use Rattle.kv_top.specs.Files.{ReadSays}
use Rattle.kv_top.proofs.Files.{says_held, read_among, read_no_fault}
use Rattle.kv_top.proofs.running.load.Goals as goal

pub returns-in-Ok-Some-clause-says : goal.returns-in-Ok-Some-clause-says
returns-in-Ok-Some-clause-says g c =
    let bytes = c.in-Ok-Some.bytes in
    let told = rw c.in-Ok-Some.field-0-is at c.in-Ok-Some.ensures.loads in
    let small = rw c.in-Ok-Some.field-0-is at c.in-Ok-Some.ensures.limit in
    says_held (g.S.Store.held c.args.store.now) bytes c.read.result small told
    (subst (λ (text : List ℕ). ReadSays text c.read.result) c.bytes-in-Ok-Some.ensures c.read.ensures.says)

pub returns-in-Ok-Some-clause-among : goal.returns-in-Ok-Some-clause-among
returns-in-Ok-Some-clause-among g c = read_among c.bytes-in-Ok-Some.result.now c.read.result c.read.ensures.says

pub returns-in-Ok-Some-clause-store_fault : goal.returns-in-Ok-Some-clause-store_fault
returns-in-Ok-Some-clause-store_fault g c = λ e. absurd (read_no_fault c.bytes-in-Ok-Some.result.now c.read.result c.read.ensures.says e)

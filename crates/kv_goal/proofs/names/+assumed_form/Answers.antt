use Rattle.std.proofs.Common.{subst, sym}
use Rattle.kv_goal.proofs.Pushed.{Adds, loop_parts, two_added, two_forms, two_progs}
use Rattle.kv_goal.proofs.names.+assumed_form.Goals as goal

pub push_assumed_form-returns-in_ok-shared_form-in-And :
    goal.push_assumed_form-returns-in_ok-shared_form-in-And
push_assumed_form-returns-in_ok-shared_form-in-And t c =
    let both = two_added c.shared_form-in-And-2.result _ _ _ _ _ c.in_ok-shared_form-in-And.ensures c.shared_form-in-And-2.ensures in
    subst (λ xs. Adds c.shared_form-in-And-2.result c.args.procedures.now c.shared_form-in-And-2.new.procedures xs) (sym (two_forms c.args.form.now c.in-And.f c.in-And.g c.in-And.is)) both

pub push_assumed_prog-returns-in_ok-shared_form-in-While :
    goal.push_assumed_prog-returns-in_ok-shared_form-in-While
push_assumed_prog-returns-in_ok-shared_form-in-While t c =
    let both = two_added c.shared_prog-in-While.result _ _ _ _ _ c.in_ok-shared_form-in-While.ensures c.shared_prog-in-While.ensures in
    subst (λ xs. Adds c.shared_prog-in-While.result c.args.procedures.now c.shared_prog-in-While.new.procedures xs) (sym (loop_parts c.args.prog.now c.in-While.e c.in-While.a c.in-While.is)) both

pub push_assumed_prog-returns-in_ok-shared_prog-in-Seq :
    goal.push_assumed_prog-returns-in_ok-shared_prog-in-Seq
push_assumed_prog-returns-in_ok-shared_prog-in-Seq t c =
    let both = two_added c.shared_prog-in-Seq-2.result _ _ _ _ _ c.in_ok-shared_prog-in-Seq.ensures c.shared_prog-in-Seq-2.ensures in
    subst (λ xs. Adds c.shared_prog-in-Seq-2.result c.args.procedures.now c.shared_prog-in-Seq-2.new.procedures xs) (sym (two_progs c.args.prog.now c.in-Seq.a c.in-Seq.b c.in-Seq.is)) both

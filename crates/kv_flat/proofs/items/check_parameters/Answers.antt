use Rattle.std.proofs.Common.{rules, Err, List, [], drop, map, subst, ◌+◌}
use Rattle.std.specs.Borrow.{Bor}
use Rattle.std.specs.Prelude.{Option}
use Rattle.kv_flat.proofs.Parameters.{SoFar, by_sort, left_at, none_yet, one_more, repeated, sort_told, told_all}
use Rattle.kv_flat.specs.Faults.{Finds}
use Rattle.kv_flat.specs.Items.{parameters_fault, sort_fault}
use Rattle.kv_syn.specs.declared.outcomes.Reason.{Reason}
use Rattle.kv_names.specs.declared.symbols.Var.{Var}
use Rattle.kv_flat.proofs.items.check_parameters.Goals as goal

pub loop-parameter-init : goal.loop-parameter-init
loop-parameter-init c = none_yet c.args.sig.now c.new-before.result (map (λ (x : Bor Var). x.now) c.args.parameters.now) c.new-before.ensures.empty

pub returns-then-not-is_new-clause-fault : goal.returns-then-not-is_new-clause-fault
returns-then-not-is_new-clause-fault c =
    let all = map (λ (x : Bor Var). x.now) c.args.parameters.now in
    let x = c.parameter-item.result in
    let rest = map (λ (x : Bor Var). x.now) (drop (c.loop-parameter.parameter-index + 1) c.args.parameters.now) in
    let turn = subst (λ (left : List Var). SoFar c.args.sig.now c.loop-parameter.before left all) (left_at c.args.parameters.now c.loop-parameter.parameter-index x c.loop-parameter-test.true c.parameter-item.is) c.loop-parameter.invariant in
    told_all c.fault.result (repeated c.args.sig.now c.loop-parameter.before all x.now rest turn c.bytes.result c.bytes.ensures c.in-Ok.is_new c.in-Ok.ensures.added c.if-not-is_new.true) c.fault.ensures.fault

pub returns-in_err-check_sort-clause-fault : goal.returns-in_err-check_sort-clause-fault
returns-in_err-check_sort-clause-fault c =
    let all = map (λ (x : Bor Var). x.now) c.args.parameters.now in
    let x = c.parameter-item.result in
    let rest = map (λ (x : Bor Var). x.now) (drop (c.loop-parameter.parameter-index + 1) c.args.parameters.now) in
    let turn = subst (λ (left : List Var). SoFar c.args.sig.now c.loop-parameter.before left all) (left_at c.args.parameters.now c.loop-parameter.parameter-index x c.loop-parameter-test.true c.parameter-item.is) c.loop-parameter.invariant in
    let h : Finds (parameters_fault c.args.sig.now [] all) (Err c.in_err-check_sort.field-0.0) =
    sort_told c.in_err-check_sort.field-0.0 (sort_fault c.args.sig.now x.now.sort) c.in_err-check_sort.ensures.fault
    (λ (fault : Option Reason) told. by_sort c.args.sig.now c.loop-parameter.before all x.now rest turn c.bytes.result c.bytes.ensures c.in-Ok.is_new c.in-Ok.ensures.added c.if-not-is_new.false fault told) in
    search rules

pub loop-parameter-preserved : goal.loop-parameter-preserved
loop-parameter-preserved c =
    let all = map (λ (x : Bor Var). x.now) c.args.parameters.now in
    let x = c.parameter-item.result in
    let rest = map (λ (x : Bor Var). x.now) (drop (c.loop-parameter.parameter-index + 1) c.args.parameters.now) in
    let turn = subst (λ (left : List Var). SoFar c.args.sig.now c.loop-parameter.before left all) (left_at c.args.parameters.now c.loop-parameter.parameter-index x c.loop-parameter-test.true c.parameter-item.is) c.loop-parameter.invariant in
    one_more c.args.sig.now c.loop-parameter.before all x.now rest turn c.bytes.result c.bytes.ensures c.in-Ok.is_new c.in-Ok.ensures.added c.if-not-is_new.false c.in_ok-check_sort.ensures.fault c.insert.new.self c.in-Ok.ensures.updates

use Rattle.std.proofs.Common.{◌∙◌, ap, sym, [], below_more, arith}
use Rattle.std.specs.Str.{bytes_eq}
use Rattle.std.proofs.lemmas.List.{length-map, get_or-map}
use Rattle.std.proofs.lemmas.Slice.Eq.{bytes_eq-Decides}
use Rattle.kv_table.proofs.Lookup.{row_of_first, row_of_none, exact_row}
use Rattle.kv_table.proofs.names.Names.find.Goals as goal

pub returns-then-eq-clause-value : goal.returns-then-eq-clause-value
returns-then-eq-clause-value g c =
    let row = get_or-map (λ row. row.now) c.self.inside.rows.now c.loop-i.i _ [] c.loop-i-test.true in
    let same = (bytes_eq-Decides _ _).0 (sym c.eq.ensures ∙ c.if-eq.true) in
    rw (← c.self.view_is) (sym (row_of_first _ c.args.text.now c.loop-i.i (simp length-map c.loop-i-test.true) (row ∙ same) c.loop-i.invariant))

pub returns-then-eq-clause-exact : goal.returns-then-eq-clause-exact
returns-then-eq-clause-exact g c = exact_row _ _ _ (returns-then-eq-clause-value g c) (rw (← c.self.view_is) c.self.invariant.1)

pub loop-i-preserved : goal.loop-i-preserved
loop-i-preserved g c =
    let row = get_or-map (λ row. row.now) c.self.inside.rows.now c.loop-i.i _ [] c.loop-i-test.true in
    below_more _ _ c.loop-i.invariant (ap (λ row. bytes_eq row c.args.text.now) row ∙ sym c.eq.ensures ∙ c.if-eq.false)

pub returns-clause-value : goal.returns-clause-value
returns-clause-value g c =
    rw (← c.self.view_is) (sym (row_of_none _ c.args.text.now (λ k within. c.loop-i.invariant k (omega (arith, simp length-map at within)))))

pub returns-clause-exact : goal.returns-clause-exact
returns-clause-exact g c = exact_row _ _ _ (returns-clause-value g c) (rw (← c.self.view_is) c.self.invariant.1)

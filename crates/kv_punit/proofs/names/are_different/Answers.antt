use Rattle.std.proofs.Common.{ℕ, List, [], get_or, ◌∙◌, sym}
use Rattle.std.specs.Borrow.{Bor}
use Rattle.std.proofs.lemmas.Option.{slice_get-get_or}
use Rattle.kv_punit.proofs.Differing.{has_equal, none_different, different_more, any_more, was_there, was_new}
use Rattle.kv_punit.proofs.names.are_different.Goals as goal

pub loop-name-init : goal.loop-name-init
loop-name-init c = record { differ = none_different; seen = λ q. rw c.new-seen.ensures.empty }

pub returns-then-not-branch : goal.returns-then-not-branch
returns-then-not-branch c = (
  λ h. absurd (cc),
  λ d.
      let none : Bor (List ℕ) = record { ref_ptr = (0, 0); now = [] } in
      let x = get_or c.args.names.now c.loop-name.name-index none in
      let there = was_there _ _ c.in_ok-insert.ensures.added c.if-not-branch.true in
      absurd (has_equal (λ (n : Bor (List ℕ)). n.now) c.args.names.now c.loop-name.name-index x (slice_get-get_or c.args.names.now c.loop-name.name-index none c.loop-name-test.true) (sym (c.loop-name.invariant.seen x) ∙ there) d),
)

pub loop-name-preserved : goal.loop-name-preserved
loop-name-preserved c =
    let inv = c.loop-name.invariant in
    let e = c.in_ok-insert.ensures in
    let none : Bor (List ℕ) = record { ref_ptr = (0, 0); now = [] } in
    let x = get_or c.args.names.now c.loop-name.name-index none in
    let is = slice_get-get_or c.args.names.now c.loop-name.name-index none c.loop-name-test.true in
    record {
      differ = different_more (λ (n : Bor (List ℕ)). n.now) c.args.names.now c.loop-name.name-index x is inv.differ (sym (inv.seen x) ∙ was_new _ _ e.added c.if-not-branch.false);
      seen = λ q. e.updates.0 q ∙ sym (any_more (λ (n : Bor (List ℕ)). n.now) c.args.names.now c.loop-name.name-index x is q.now _ (sym (inv.seen q)));
    }

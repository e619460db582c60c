use Rattle.std.proofs.Common.{◌≡◌, drop}
use Rattle.kv_trees.specs.Bridge.{plain_term, plain_terms}
use Rattle.kv_trees.specs.Same.{terms_eq}
use Rattle.kv_subst.specs.Opening.{raised_term}
use Rattle.kv_prop.specs.Replacing.{replaced_terms}
use Rattle.kv_prop.proofs.replacing.+term_stays.Given as goal

abbrev pub invariant-terms_stay-loop-term : goal.invariant-terms_stay-loop-term
invariant-terms_stay-loop-term l =
    let from = raised_term l.depth (plain_term l.from) in
    let to = raised_term l.depth (plain_term l.to) in
    terms_eq (replaced_terms from to (plain_terms (drop l.term-index l.terms))) (plain_terms (drop l.term-index l.terms)) ≡ terms_eq (replaced_terms from to (plain_terms l.terms)) (plain_terms l.terms)

-- The term at which the code opens a body.
use Rattle.kv_trees.specs.Bridge.{plain_term}
use Rattle.kv_trees.specs.Trees.{Term}
use Rattle.kv_trees.specs.declared.trees.Ref.TheVariants.{Free}
use Rattle.kv_subst.specs.declared.at.At.{At}
use Rattle.kv_subst.specs.declared.at.At.TheVariants as at

abbrev pub term_at : At → Term
term_at (at.Term t) = plain_term t.now
term_at (at.Var x) = Term.Place (Free x.now)

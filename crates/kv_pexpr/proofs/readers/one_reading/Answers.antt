use Rattle.kv_pexpr.proofs.One.{one_tree, one_reading, one_term_tree, one_term_reading}
use Rattle.kv_pexpr.proofs.readers.one_reading.Goals as goal

pub returns-clause-tree : goal.returns-clause-tree
returns-clause-tree c = one_tree

pub returns-clause-whole : goal.returns-clause-whole
returns-clause-whole c = one_reading

pub returns-clause-term_tree : goal.returns-clause-term_tree
returns-clause-term_tree c = one_term_tree

pub returns-clause-term_whole : goal.returns-clause-term_whole
returns-clause-term_whole c = one_term_reading

use Rattle.kv_lex.proofs.Whole.{reads_exactly}
use Rattle.kv_lex.proofs.laws.reading_is_exact.Goals as goal

pub returns : goal.returns
returns c = reads_exactly

use Rattle.std.proofs.Common.{subst}
use Rattle.std.specs.List.{IsDistinct}
use Rattle.std.specs.Str.{bytes_eq}
use Rattle.kv_sig.specs.Signatures.{names_of}
use Rattle.kv_sig.proofs.Kept.{different}
use Rattle.kv_sig.proofs.sigs.Sig.symbols.Goals as goal

pub returns-clause-different : goal.returns-clause-different
returns-clause-different c = subst (λ xs. IsDistinct bytes_eq (names_of xs)) c.self.view_is (different c.self.inside.symbols c.self.inside.places c.self.invariant)

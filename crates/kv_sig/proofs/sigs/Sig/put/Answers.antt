use Rattle.std.proofs.Common.{◌≡◌, ◌∙◌, None, ap, length, subst, sym}
use Rattle.kv_sig.specs.Signatures.{profile_of}
use Rattle.kv_sig.proofs.Kept.{kept, no_profile, after_push}
use Rattle.kv_sig.proofs.sigs.Sig.put.Goals as goal

pub invariant_of-self : goal.invariant_of-self
invariant_of-self c = kept c.self.inside.symbols c.self.inside.places c.insert.new.self c.in_err-insert.ensures.err c.self.invariant

pub invariant_of-self-2 : goal.invariant_of-self-2
invariant_of-self-2 c =
    after_push c.self.inside.symbols c.self.inside.places c.insert.new.self c.self.invariant c.args.symbol c.in_ok-name.name
    (c.in_ok-name.ensures.items ∙ c.bytes.ensures)
    (no_profile c.self.inside.symbols c.args.symbol.name (subst (λ xs. profile_of xs c.args.symbol.name ≡ None) (sym c.self.view_is) c.requires))
    (length c.items-place.result.now) (ap length c.items-place.ensures) c.in_ok-insert.ensures.updates
    c.push.new.self c.push.result c.push.ensures.ok c.push.ensures.err

use Rattle.std.proofs.Common.{◌∙◌, ap}
use Rattle.std.specs.List.{find}
use Rattle.std.specs.Str.{bytes_eq}
use Rattle.kv_sig.specs.Index.{told, at_place}
use Rattle.kv_sig.proofs.Found.{found}
use Rattle.kv_sig.proofs.sigs.Sig.find.Goals as goal

pub returns : goal.returns
returns c =
    c.symbol_at.ensures
    ∙ ap (λ xs. at_place xs c.args.name.now (told c.self.inside.places c.args.name.now)) c.items.ensures
    ∙ found c.self.inside.symbols c.self.inside.places c.self.invariant c.args.name.now
    ∙ ap (find (λ x. bytes_eq x.name c.args.name.now)) c.self.view_is

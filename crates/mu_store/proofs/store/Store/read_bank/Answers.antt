use Rattle.std.proofs.Common.{◌∙◌}
use Rattle.mu_store.proofs.ReadLemmas.{image_part}
use Rattle.mu_store.proofs.store.Store.read_bank.Goals as goal

pub returns-clause-image : goal.returns-clause-image
returns-clause-image g c d holds octets content within =
    let base = c.args.self.now.base in
    c.in_ok-read_bank.ensures.gives holds.at.told
    ∙ (image_part c.known.ensures) (g.F.Flash.seen base.flash) base.place.page base.place.fresh d holds.at base.fields holds.fields c.args.b c.requires.there octets content c.args.at _ within

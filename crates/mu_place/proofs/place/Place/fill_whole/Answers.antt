use Rattle.mu_place.proofs.WholeBank.{filled_whole, fails_whole}
use Rattle.mu_place.proofs.place.Place.fill_whole.Goals as goal

pub returns-in-Ok-clause-filled : goal.returns-in-Ok-clause-filled
returns-in-Ok-clause-filled g c =
    rw c.in-Rest.is (filled_whole g.F.Flash.seen c.in-Rest.store _ _ _ c.in-Ok.store c.in-Ok.ensures.filled c.in-Ok.ensures.fresh)

pub returns-in-Err-clause-fails : goal.returns-in-Err-clause-fails
returns-in-Err-clause-fails g c =
    rw c.in-Rest.is
    (fails_whole g.F.Flash.seen c.in-Rest.store (record { bank = c.args.bank; version = c.args.version; tag = c.args.tag.now }) (g.S.Source.left c.args.source.now) (g.S.Source.left c.fill_whole.new.source)
    (g.F.Flash.seen c.in-Err.fail.flash) c.in-Err.fail.why c.in-Err.ensures.fails)

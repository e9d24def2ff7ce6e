use Rattle.std.proofs.Common.{refl}
use Rattle.mu_distributor_server.proofs.Plugged.{same_shows, same_holds}
use Rattle.mu_distributor_server.proofs.distributor.Distributor.disarm.Goals as goal

pub returns-clause-shows : goal.returns-clause-shows
returns-clause-shows g c s h = same_shows _ _ c.disarm.ensures.same c.disarm.ensures.session refl refl s h

pub returns-clause-holds : goal.returns-clause-holds
returns-clause-holds g c s h = same_holds _ _ c.disarm.ensures.same c.disarm.ensures.session refl refl g.F.Flash.seen c.disarm.ensures.holds s h

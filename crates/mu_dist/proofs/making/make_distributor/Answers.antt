use Rattle.std.proofs.Common.{sym, subst}
use Rattle.mu_dist.proofs.Made.{made}
use Rattle.mu_dist.proofs.making.make_distributor.Goals as goal

pub returns-in-Ok-clause-makes : goal.returns-in-Ok-clause-makes
returns-in-Ok-clause-makes g c = record {
  represents = λ told.
      made c.args.pages c.requires.pages_least c.requires.pages_most g.F.Flash.seen c.states_are_sound.ensures.new c.represented_is_sound.ensures.store c.written_distributor.ensures.read_back c.new_tag.result c.new_tag.ensures
      c.in-Ok.store c.into_flash.result c.into_flash.ensures (c.in-Ok.ensures.state told);
  done = rw c.into_flash.ensures c.in-Ok.ensures.runs;
}

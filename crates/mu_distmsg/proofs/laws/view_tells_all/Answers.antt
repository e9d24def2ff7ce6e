use Rattle.mu_distmsg.proofs.Back.{tells_all}
use Rattle.mu_distmsg.proofs.laws.view_tells_all.Goals as goal

pub returns : goal.returns
returns c = tells_all c.what_is_shown_is_found.ensures.numbers c.what_is_shown_is_found.ensures.octets c.what_is_shown_is_found.ensures.own c.what_is_shown_is_found.ensures.other

use Rattle.std.proofs.Common.{sym, subst}
use Rattle.mu_model_record.specs.Store.{StoreState}
use Rattle.mu_model_record.specs.Changes.{tagged}
use Rattle.mu_store.specs.Base.{BaseHolds}
use Rattle.mu_store.proofs.StoreLemmas.{last_steps, tagged_then, tagged_is}
use Rattle.mu_store.proofs.store.Store.commit.Goals as goal

pub returns-in-Ok-clause-runs : goal.returns-in-Ok-clause-runs
returns-in-Ok-clause-runs g c d holds =
    let base = c.args.self.base in
    let seen = g.F.Flash.seen base.flash in
    let next = (tagged_then c.known.ensures) seen base.place.page base.place.fresh d holds.at base.fields holds.fields c.if-base.false c.args.tag.now c.told-tag c.fits-tag in
    let is = (tagged_is c.known.ensures) seen base.place.page base.place.fresh d holds.at base.fields holds.fields c.if-base.false c.args.tag.now c.told-tag c.fits-tag in
    let w = c.in-Ok.ensures.runs d (tagged d c.args.tag.now) holds next is in
    (w.0, subst (λ (e : StoreState). BaseHolds g.F.Flash.seen c.in-Ok.base e) (sym (last_steps base.place.fresh d (tagged d c.args.tag.now))) w.1)

pub returns-in-Err-clause-runs : goal.returns-in-Err-clause-runs
returns-in-Err-clause-runs g c d holds why =
    let base = c.args.self.base in
    let seen = g.F.Flash.seen base.flash in
    let next = (tagged_then c.known.ensures) seen base.place.page base.place.fresh d holds.at base.fields holds.fields c.if-base.false c.args.tag.now c.told-tag c.fits-tag in
    let is = (tagged_is c.known.ensures) seen base.place.page base.place.fresh d holds.at base.fields holds.fields c.if-base.false c.args.tag.now c.told-tag c.fits-tag in
    c.in-Err.ensures.runs d (tagged d c.args.tag.now) holds next is

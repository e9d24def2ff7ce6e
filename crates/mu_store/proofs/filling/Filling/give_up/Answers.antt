use Rattle.std.proofs.Common.{sym, subst}
use Rattle.mu_model_record.specs.Store.{StoreState}
use Rattle.mu_model_record.specs.Changes.{emptied}
use Rattle.mu_store.specs.Base.{BaseHolds}
use Rattle.mu_store.proofs.StoreLemmas.{last_steps}
use Rattle.mu_store.proofs.FillLemmas.{emptied_then, emptied_is}
use Rattle.mu_store.proofs.filling.Filling.give_up.Goals as goal

pub returns-in-Ok-clause-runs : goal.returns-in-Ok-clause-runs
returns-in-Ok-clause-runs g c d holds =
    let base = c.args.self.base in
    let seen = g.F.Flash.seen base.flash in
    let next = (emptied_then c.known.ensures) seen base.place.page base.place.fresh d holds.base.at base.fields holds.base.fields c.if-base.false c.args.tag.now c.told-tag c.fits-tag c.args.self.bank c.args.self.there in
    let is = (emptied_is c.known.ensures) seen base.place.page base.place.fresh d holds.base.at base.fields holds.base.fields c.if-base.false c.args.tag.now c.told-tag c.fits-tag c.args.self.bank c.args.self.there c.with_entry.result c.with_entry.ensures in
    let w = c.in-Ok.ensures.runs d (emptied d c.args.self.bank c.args.tag.now) holds.base next is in
    (w.0, subst (λ (e : StoreState). BaseHolds g.F.Flash.seen c.in-Ok.base e) (sym (last_steps base.place.fresh d (emptied d c.args.self.bank c.args.tag.now))) w.1)

pub returns-in-Err-clause-runs : goal.returns-in-Err-clause-runs
returns-in-Err-clause-runs g c d holds why =
    let base = c.args.self.base in
    let seen = g.F.Flash.seen base.flash in
    let next = (emptied_then c.known.ensures) seen base.place.page base.place.fresh d holds.base.at base.fields holds.base.fields c.if-base.false c.args.tag.now c.told-tag c.fits-tag c.args.self.bank c.args.self.there in
    let is = (emptied_is c.known.ensures) seen base.place.page base.place.fresh d holds.base.at base.fields holds.base.fields c.if-base.false c.args.tag.now c.told-tag c.fits-tag c.args.self.bank c.args.self.there c.with_entry.result c.with_entry.ensures in
    c.in-Err.ensures.runs d (emptied d c.args.self.bank c.args.tag.now) holds.base next is

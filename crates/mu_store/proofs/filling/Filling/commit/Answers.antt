use Rattle.std.proofs.Common.{◌∙◌, ◌<◌, sym, subst, ap, arith}
use Rattle.mu_model_record.specs.declared.Record.{Record}
use Rattle.mu_model_record.specs.Record.{entry_of}
use Rattle.mu_model_record.specs.Store.{StoreState, content_of_bank, mark_place}
use Rattle.mu_model_record.specs.Changes.{tagged}
use Rattle.mu_store.specs.Base.{BaseHolds}
use Rattle.mu_store.proofs.StoreLemmas.{last_steps, tagged_then, tagged_is}
use Rattle.mu_store.proofs.RunLemmas.{told_back}
use Rattle.mu_store.proofs.filling.Filling.commit.Goals as goal

pub invariant_of-result : goal.invariant_of-result
invariant_of-result g c =
    let base = c.args.self.base in
    let seen = g.F.Flash.seen base.flash in
    let next = g.F.Flash.seen c.in-Ok.base.flash in
    record {
      there = subst (λ (r : Record). c.args.self.bank < r.number) (sym c.in-Ok.ensures.fields) c.args.self.there;
      few = c.args.self.few;
      as_many = c.args.self.as_many;
      entry = ap (λ (r : Record). entry_of r c.args.self.bank) c.in-Ok.ensures.fields ∙ c.args.self.entry;
      unset = λ told i lt no.
          let was = told_back seen next c.in-Ok.ensures.keeps told in
          (c.in-Ok.ensures.stays was).after (mark_place c.args.self.bank i) (omega arith) ∙ c.args.self.unset was i lt no;
    }

pub returns-in-Ok-clause-runs : goal.returns-in-Ok-clause-runs
returns-in-Ok-clause-runs g c d holds =
    let base = c.args.self.base in
    let seen = g.F.Flash.seen base.flash in
    let next = (tagged_then c.known.ensures) seen base.place.page base.place.fresh d holds.base.at base.fields holds.base.fields c.if-base.false c.args.tag.now c.told-tag c.fits-tag in
    let is = (tagged_is c.known.ensures) seen base.place.page base.place.fresh d holds.base.at base.fields holds.base.fields c.if-base.false c.args.tag.now c.told-tag c.fits-tag in
    let w = c.in-Ok.ensures.runs d (tagged d c.args.tag.now) holds.base next is in
    let last = last_steps base.place.fresh d (tagged d c.args.tag.now) in (
      w.0,
      record {
        base = subst (λ (e : StoreState). BaseHolds g.F.Flash.seen c.in-Ok.base e) (sym last) w.1;
        blocks = holds.blocks;
        content = ap (λ (e : StoreState). content_of_bank e c.args.self.bank) last ∙ holds.content;
        flags = holds.flags;
      },
    )

pub returns-in-Err-clause-runs : goal.returns-in-Err-clause-runs
returns-in-Err-clause-runs g c d holds why =
    let base = c.args.self.base in
    let seen = g.F.Flash.seen base.flash in
    let next = (tagged_then c.known.ensures) seen base.place.page base.place.fresh d holds.base.at base.fields holds.base.fields c.if-base.false c.args.tag.now c.told-tag c.fits-tag in
    let is = (tagged_is c.known.ensures) seen base.place.page base.place.fresh d holds.base.at base.fields holds.base.fields c.if-base.false c.args.tag.now c.told-tag c.fits-tag in
    c.in-Err.ensures.runs d (tagged d c.args.tag.now) holds.base next is

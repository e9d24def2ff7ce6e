use Rattle.std.proofs.Common.{◌≡◌, ◌∙◌, ℕ, ◌<◌, true, false, None, List, [], sym, subst, ap, arith}
use Rattle.std.specs.Prelude.{slice_index_or}
use Rattle.mu_model_flash.specs.Run.{either, last_of, Ran, Broke}
use Rattle.mu_model_image.specs.Pieces.{block_count}
use Rattle.mu_model_record.specs.Store.{StoreState}
use Rattle.mu_model_record.specs.Represents.{RepresentsStore}
use Rattle.mu_model_record.specs.Next.{record_steps}
use Rattle.mu_model_record.specs.Changes.{joined, sealed_up, emptied, sealed_or_not}
use Rattle.mu_record.specs.declared.write.Place.{Place}
use Rattle.mu_store.specs.Base.{BaseHolds}
use Rattle.mu_store.specs.Booted.{is_held}
use Rattle.mu_store.specs.Sealed.{HasDigest}
use Rattle.mu_model_record.specs.Ways.{as_store}
use Rattle.mu_store.proofs.StoreLemmas.{last_steps}
use Rattle.mu_store.proofs.FlagLemmas.{taken}
use Rattle.mu_store.proofs.HashLemmas.{read_ran, read_broke}
use Rattle.mu_store.proofs.SealLemmas.{most}
use Rattle.mu_store.proofs.SealRuns.{hashed_holds, steps_are, next_then, octets_fit, octets_unfit, present_then, test_true, test_false, sealed_where, emptied_where}
use Rattle.mu_store.proofs.filling.Filling.seal.Goals as goal

pub returns-in-Err-clause-runs : goal.returns-in-Err-clause-runs
returns-in-Err-clause-runs g c d holds why =
    let self = c.args.self in
    let base = self.base in
    read_broke (g.F.Flash.seen base.flash) (g.F.Flash.seen c.in-Err.stopped.flash) (g.met.F.Flash.sound base.flash) c.in-Err.ensures.reads base.place.page base.place.fresh d holds.base.at (c.runs.ensures.read base.flash c.in-Err.stopped.flash)
    (record_steps base.place.fresh d (sealed_or_not d self.bank c.args.meta.now c.args.fit.now c.args.unfit.now)) (c.in-Err.ensures.cause.1 c.in-Err.ensures.why) c.in-Err.ensures.off

pub returns-in-Ok-close-clause-fit : goal.returns-in-Ok-close-clause-fit
returns-in-Ok-close-clause-fit g c d holds =
    let self = c.args.self in
    let base = self.base in
    sym ((test_true c.known.ensures) (g.F.Flash.seen base.flash) base.place.page base.place.fresh d holds.base.at base.fields holds.base.fields self.bank self.size self.log self.there self.entry holds.blocks holds.content
    (λ i lt. sym (holds.flags i lt) ∙ (sym (taken self.held (block_count self.size self.log) i lt) ∙ c.requires.all i false (omega (arith, lt, self.as_many)))) ((most c.known.ensures) base.fields base.in_range self.bank self.size self.log self.there self.entry c.args.meta.now) c.args.meta.now c.images.ensures.tested
    ((c.in-Ok.ensures.fit holds.base.at.told).0 c.if-is_fit.true))

pub returns-in-Ok-give_up-clause-fit : goal.returns-in-Ok-give_up-clause-fit
returns-in-Ok-give_up-clause-fit g c d holds =
    let self = c.args.self in
    let base = self.base in
    sym ((test_false c.known.ensures) (g.F.Flash.seen base.flash) base.place.page base.place.fresh d holds.base.at base.fields holds.base.fields self.bank self.size self.log self.there self.entry holds.blocks holds.content
    (λ i lt. sym (holds.flags i lt) ∙ (sym (taken self.held (block_count self.size self.log) i lt) ∙ c.requires.all i false (omega (arith, lt, self.as_many)))) ((most c.known.ensures) base.fields base.in_range self.bank self.size self.log self.there self.entry c.args.meta.now) c.args.meta.now c.images.ensures.tested
    (λ has. absurd (cc ((c.in-Ok.ensures.fit holds.base.at.told).1 has, c.if-is_fit.false))))

pub returns-in-Ok-close-clause-size : goal.returns-in-Ok-close-clause-size
returns-in-Ok-close-clause-size g c fit = c.in-Ok.ensures.size c.if-is_fit.true

pub returns-in-Ok-give_up-clause-size : goal.returns-in-Ok-give_up-clause-size
returns-in-Ok-give_up-clause-size g c fit = absurd (cc fit)

pub returns-in-Ok-close-clause-octets : goal.returns-in-Ok-close-clause-octets
returns-in-Ok-close-clause-octets g c told =
    let self = c.args.self in
    let base = self.base in
    sym ((octets_fit c.known.ensures) (g.F.Flash.seen base.flash) (g.met.F.Flash.sound base.flash) told base.fields base.pages self.bank self.size self.there
    ((most c.known.ensures) base.fields base.in_range self.bank self.size self.log self.there self.entry c.args.meta.now) c.args.meta.now c.images.ensures.tested
    ((c.in-Ok.ensures.fit told).0 c.if-is_fit.true))

pub returns-in-Ok-give_up-clause-octets : goal.returns-in-Ok-give_up-clause-octets
returns-in-Ok-give_up-clause-octets g c told =
    let self = c.args.self in
    let base = self.base in
    sym ((octets_unfit c.known.ensures) (g.F.Flash.seen base.flash) (g.met.F.Flash.sound base.flash) told base.fields base.pages self.bank self.size self.there
    ((most c.known.ensures) base.fields base.in_range self.bank self.size self.log self.there self.entry c.args.meta.now) c.args.meta.now c.images.ensures.tested
    (λ has. absurd (cc ((c.in-Ok.ensures.fit told).1 has, c.if-is_fit.false))))

pub returns-in-Ok-close-clause-runs : goal.returns-in-Ok-close-clause-runs
returns-in-Ok-close-clause-runs g c d holds =
    let self = c.args.self in
    let base = self.base in
    let seen = g.F.Flash.seen in
    let meta = c.args.meta.now in
    let at = holds.base.at in
    let hashed = c.in-Ok.hashed.filling in
    let same = c.in-Ok.ensures.same in
    let reads = c.in-Ok.ensures.reads in
    let a = seen base.flash in
    let b = seen hashed.base.flash in
    let sound = g.met.F.Flash.sound base.flash in
    let few = (most c.known.ensures) base.fields base.in_range self.bank self.size self.log self.there self.entry meta in
    let all : (i : ℕ) → i < block_count self.size self.log → is_held (slice_index_or holds.blocks i None) ≡ true = λ i lt. sym (holds.flags i lt) ∙ (sym (taken self.held (block_count self.size self.log) i lt) ∙ c.requires.all i false (omega (arith, lt, self.as_many))) in
    let now = hashed_holds seen self hashed sound reads same d holds in
    let has = (c.in-Ok.ensures.fit at.told).0 c.if-is_fit.true in
    let e = sealed_up d self.bank meta (joined holds.blocks) c.args.fit.now in
    let ends = (sealed_where c.known.ensures) a base.place.page base.place.fresh d at base.fields holds.base.fields self.bank self.size self.log self.there self.entry holds.blocks holds.content all few meta c.images.ensures.tested c.args.fit.now c.args.unfit.now has in
    let next = (next_then c.known.ensures) a base.place.page base.place.fresh d at base.fields holds.base.fields self.bank self.size self.log self.there self.entry holds.blocks holds.content all few meta b reads c.if-self-eq4294967295.false c.args.fit.now c.told-fit c.fits-fit c.close.ensures.meta has in
    let is = (present_then c.known.ensures) a base.place.page base.place.fresh d at base.fields holds.base.fields self.bank self.size self.log self.there self.entry holds.blocks holds.content all few meta hashed.base.fields same.fields hashed.bank same.bank c.args.fit.now in
    let steps = steps_are hashed.base.place.fresh base.place.fresh (ap (λ (p : Place). p.fresh) same.place) d e (sealed_or_not d self.bank meta c.args.fit.now c.args.unfit.now) ends in
    let w = c.in-Ok-close.ensures.runs d e now next is in (
      subst (λ (l : List StoreState). Ran (either RepresentsStore) d l a (seen c.in-Ok-close.store.base.flash)) steps
          ((c.runs.ensures.join base.flash hashed.base.flash c.in-Ok-close.store.base.flash).ran as_store d [] (record_steps hashed.base.place.fresh d e) (read_ran a b sound reads base.place.page base.place.fresh d at (c.runs.ensures.read base.flash hashed.base.flash)) w.0),
      subst (λ (s : StoreState). BaseHolds seen c.in-Ok-close.store.base s) (sym (last_steps base.place.fresh d (sealed_or_not d self.bank meta c.args.fit.now c.args.unfit.now) ∙ ends)) w.1,
    )

pub returns-in-Err-close-clause-runs : goal.returns-in-Err-close-clause-runs
returns-in-Err-close-clause-runs g c d holds why =
    let self = c.args.self in
    let base = self.base in
    let seen = g.F.Flash.seen in
    let meta = c.args.meta.now in
    let at = holds.base.at in
    let hashed = c.in-Ok.hashed.filling in
    let same = c.in-Ok.ensures.same in
    let reads = c.in-Ok.ensures.reads in
    let a = seen base.flash in
    let b = seen hashed.base.flash in
    let sound = g.met.F.Flash.sound base.flash in
    let few = (most c.known.ensures) base.fields base.in_range self.bank self.size self.log self.there self.entry meta in
    let all : (i : ℕ) → i < block_count self.size self.log → is_held (slice_index_or holds.blocks i None) ≡ true = λ i lt. sym (holds.flags i lt) ∙ (sym (taken self.held (block_count self.size self.log) i lt) ∙ c.requires.all i false (omega (arith, lt, self.as_many))) in
    let now = hashed_holds seen self hashed sound reads same d holds in
    let has = (c.in-Ok.ensures.fit at.told).0 c.if-is_fit.true in
    let e = sealed_up d self.bank meta (joined holds.blocks) c.args.fit.now in
    let ends = (sealed_where c.known.ensures) a base.place.page base.place.fresh d at base.fields holds.base.fields self.bank self.size self.log self.there self.entry holds.blocks holds.content all few meta c.images.ensures.tested c.args.fit.now c.args.unfit.now has in
    let next = (next_then c.known.ensures) a base.place.page base.place.fresh d at base.fields holds.base.fields self.bank self.size self.log self.there self.entry holds.blocks holds.content all few meta b reads c.if-self-eq4294967295.false c.args.fit.now c.told-fit c.fits-fit c.close.ensures.meta has in
    let is = (present_then c.known.ensures) a base.place.page base.place.fresh d at base.fields holds.base.fields self.bank self.size self.log self.there self.entry holds.blocks holds.content all few meta hashed.base.fields same.fields hashed.bank same.bank c.args.fit.now in
    let steps = steps_are hashed.base.place.fresh base.place.fresh (ap (λ (p : Place). p.fresh) same.place) d e (sealed_or_not d self.bank meta c.args.fit.now c.args.unfit.now) ends in
    subst (λ (l : List StoreState). Broke (either RepresentsStore) d l a (seen c.in-Err-close.stopped.flash)) steps
    ((c.runs.ensures.join base.flash hashed.base.flash c.in-Err-close.stopped.flash).broke as_store d [] (record_steps hashed.base.place.fresh d e) (read_ran a b sound reads base.place.page base.place.fresh d at (c.runs.ensures.read base.flash hashed.base.flash)) (c.in-Err-close.ensures.runs d e now next is))

pub returns-in-Ok-give_up-clause-runs : goal.returns-in-Ok-give_up-clause-runs
returns-in-Ok-give_up-clause-runs g c d holds =
    let self = c.args.self in
    let base = self.base in
    let seen = g.F.Flash.seen in
    let meta = c.args.meta.now in
    let at = holds.base.at in
    let hashed = c.in-Ok.hashed.filling in
    let same = c.in-Ok.ensures.same in
    let reads = c.in-Ok.ensures.reads in
    let a = seen base.flash in
    let b = seen hashed.base.flash in
    let sound = g.met.F.Flash.sound base.flash in
    let few = (most c.known.ensures) base.fields base.in_range self.bank self.size self.log self.there self.entry meta in
    let all : (i : ℕ) → i < block_count self.size self.log → is_held (slice_index_or holds.blocks i None) ≡ true = λ i lt. sym (holds.flags i lt) ∙ (sym (taken self.held (block_count self.size self.log) i lt) ∙ c.requires.all i false (omega (arith, lt, self.as_many))) in
    let now = hashed_holds seen self hashed sound reads same d holds in
    let never : HasDigest base.fields self.bank self.size meta a.octets → ⊥ = λ has. absurd (cc ((c.in-Ok.ensures.fit at.told).1 has, c.if-is_fit.false)) in
    let e = emptied d hashed.bank c.args.unfit.now in
    let ends = (emptied_where c.known.ensures) a base.place.page base.place.fresh d at base.fields holds.base.fields self.bank self.size self.log self.there self.entry holds.blocks holds.content all few meta c.images.ensures.tested c.args.fit.now c.args.unfit.now never ∙ ap (λ (n : ℕ). emptied d n c.args.unfit.now) (sym same.bank) in
    let steps = steps_are hashed.base.place.fresh base.place.fresh (ap (λ (p : Place). p.fresh) same.place) d e (sealed_or_not d self.bank meta c.args.fit.now c.args.unfit.now) ends in
    let w = c.in-Ok-give_up.ensures.runs d now in (
      subst (λ (l : List StoreState). Ran (either RepresentsStore) d l a (seen c.in-Ok-give_up.store.base.flash)) steps
          ((c.runs.ensures.join base.flash hashed.base.flash c.in-Ok-give_up.store.base.flash).ran as_store d [] (record_steps hashed.base.place.fresh d e) (read_ran a b sound reads base.place.page base.place.fresh d at (c.runs.ensures.read base.flash hashed.base.flash)) w.0),
      subst (λ (l : List StoreState). BaseHolds seen c.in-Ok-give_up.store.base (last_of d l)) steps w.1,
    )

pub returns-in-Err-give_up-clause-runs : goal.returns-in-Err-give_up-clause-runs
returns-in-Err-give_up-clause-runs g c d holds why =
    let self = c.args.self in
    let base = self.base in
    let seen = g.F.Flash.seen in
    let meta = c.args.meta.now in
    let at = holds.base.at in
    let hashed = c.in-Ok.hashed.filling in
    let same = c.in-Ok.ensures.same in
    let reads = c.in-Ok.ensures.reads in
    let a = seen base.flash in
    let b = seen hashed.base.flash in
    let sound = g.met.F.Flash.sound base.flash in
    let few = (most c.known.ensures) base.fields base.in_range self.bank self.size self.log self.there self.entry meta in
    let all : (i : ℕ) → i < block_count self.size self.log → is_held (slice_index_or holds.blocks i None) ≡ true = λ i lt. sym (holds.flags i lt) ∙ (sym (taken self.held (block_count self.size self.log) i lt) ∙ c.requires.all i false (omega (arith, lt, self.as_many))) in
    let now = hashed_holds seen self hashed sound reads same d holds in
    let never : HasDigest base.fields self.bank self.size meta a.octets → ⊥ = λ has. absurd (cc ((c.in-Ok.ensures.fit at.told).1 has, c.if-is_fit.false)) in
    let e = emptied d hashed.bank c.args.unfit.now in
    let ends = (emptied_where c.known.ensures) a base.place.page base.place.fresh d at base.fields holds.base.fields self.bank self.size self.log self.there self.entry holds.blocks holds.content all few meta c.images.ensures.tested c.args.fit.now c.args.unfit.now never ∙ ap (λ (n : ℕ). emptied d n c.args.unfit.now) (sym same.bank) in
    let steps = steps_are hashed.base.place.fresh base.place.fresh (ap (λ (p : Place). p.fresh) same.place) d e (sealed_or_not d self.bank meta c.args.fit.now c.args.unfit.now) ends in
    subst (λ (l : List StoreState). Broke (either RepresentsStore) d l a (seen c.in-Err-give_up.stopped.flash)) steps
    ((c.runs.ensures.join base.flash hashed.base.flash c.in-Err-give_up.stopped.flash).broke as_store d [] (record_steps hashed.base.place.fresh d e) (read_ran a b sound reads base.place.page base.place.fresh d at (c.runs.ensures.read base.flash hashed.base.flash)) (c.in-Err-give_up.ensures.runs d now why))

use Rattle.std.proofs.Common.{◌≡◌, ◌∙◌, ◌+◌, ◌*◌, ◌<◌, ◌≤◌, ℕ, [], ◌∷◌, true, Some, length, replicate, refl, sym, subst, ap, arith, rules}
use Rattle.std.proofs.Math.ListN.{set}
use Rattle.std.proofs.lemmas.List.{length-set}
use Rattle.mu_model_image.specs.Pieces.{block_count, piece_count}
use Rattle.mu_model_flash.specs.Run.{either, Ran, Broke}
use Rattle.mu_model_record.specs.declared.Record.{Record}
use Rattle.mu_model_record.specs.Record.{entry_of}
use Rattle.mu_model_record.specs.Represents.{RepresentsStore}
use Rattle.mu_model_record.specs.Store.{StoreState, content_of_bank, mark_place}
use Rattle.mu_model_record.specs.Changes.{with_block}
use Rattle.mu_record.specs.declared.write.Place.{Place}
use Rattle.mu_record.specs.Place.{HoldsAt}
use Rattle.mu_store.specs.Base.{BaseHolds}
use Rattle.mu_model_record.specs.Ways.{as_store}
use Rattle.mu_store.proofs.BlockPut.{few_of, block_small, filling_range, put_free, mark_ran, mark_broke, put_content, put_flags, blocks_long, unset_then, last_block}
use Rattle.mu_store.proofs.FlagLemmas.{length-taken, taken, taken_set}
use Rattle.mu_store.proofs.RunLemmas.{last_same, told_back}
use Rattle.mu_store.proofs.filling.Filling.put_block.Goals as goal

pub block_page-first-requires-clause-few : goal.block_page-first-requires-clause-few
block_page-first-requires-clause-few g c =
    let self = c.args.self in
    omega (arith, c.requires.there, (few_of c.known.ensures) self.base.fields self.bank self.size self.log self.base.in_range self.there self.entry)

pub bounds-held-i : goal.bounds-held-i
bounds-held-i g c =
    let self = c.args.self in
    omega (arith, c.requires.there, (few_of c.known.ensures) self.base.fields self.bank self.size self.log self.base.in_range self.there self.entry)

pub put-requires-clause-few : goal.put-requires-clause-few
put-requires-clause-few g c =
    let self = c.args.self in
    let range = filling_range self.base.fields self.bank self.size self.log self.base.in_range self.there self.entry in
    omega (arith, c.requires.whole, block_small self.size self.log c.args.i range.2 range.3)

pub returns-in-Err-clause-runs : goal.returns-in-Err-clause-runs
returns-in-Err-clause-runs g c d holds why =
    let self = c.args.self in
    let base = self.base in
    let seen = g.F.Flash.seen in
    let octets = c.args.octets.now in
    let i = c.args.i in
    let at : ℕ = 4096 * c.block_page-first.result in
    let free = (put_free c.known.ensures) d base.fields holds.base.fields self.bank self.size self.log self.there self.entry holds.blocks holds.content i c.requires.there (seen base.flash) base.place.page base.place.fresh holds.base.at
    self.held (sym (taken self.held (block_count self.size self.log) i c.requires.there) ∙ c.requires.free) (holds.flags i c.requires.there) at (length octets) c.block_page-first.ensures c.requires.whole in
    let n : ℕ = piece_count (length octets) 4096 in
    (c.runs.ensures.read base.flash c.in-Err.stopped.flash).longer as_store d (replicate (n + n) d) (with_block d self.bank i octets ∷ []) (c.in-Err.ensures.runs d holds.base free)

pub set_mark-requires-clause-is_unset : goal.set_mark-requires-clause-is_unset
set_mark-requires-clause-is_unset g c now =
    let self = c.args.self in
    let base = self.base in
    let seen = g.F.Flash.seen in
    let octets = c.args.octets.now in
    let i = c.args.i in
    let at : ℕ = 4096 * c.block_page-first.result in
    let told = told_back (seen base.flash) (seen c.in-Ok.put.flash) c.in-Ok.ensures.keeps now in
    let low = (few_of c.known.ensures) base.fields self.bank self.size self.log base.in_range self.there self.entry in
    let before : mark_place self.bank i < at = omega (arith, c.block_page-first.ensures, c.requires.there, low, self.there) in
    (c.in-Ok.ensures.stays told).before (mark_place self.bank i) before ∙ self.unset told i c.requires.there (sym (taken self.held (block_count self.size self.log) i c.requires.there) ∙ c.requires.free)

pub invariant_of-result : goal.invariant_of-result
invariant_of-result g c =
    let self = c.args.self in
    let base = self.base in
    let seen = g.F.Flash.seen in
    let octets = c.args.octets.now in
    let i = c.args.i in
    let at : ℕ = 4096 * c.block_page-first.result in
    let a = seen base.flash in
    let b = seen c.in-Ok.put.flash in
    let f = seen c.in-Ok-set_mark.base.flash in
    let fields = c.in-Ok-set_mark.ensures.fields ∙ c.in-Ok.ensures.fields in
    let low = (few_of c.known.ensures) base.fields self.bank self.size self.log base.in_range self.there self.entry in
    let many : length self.held ≡ 256 = search rules in
    record {
      there = subst (λ (r : Record). self.bank < r.number) (sym fields) self.there;
      few = self.few;
      as_many = length-taken (set self.held i true) (block_count self.size self.log) (length-set self.held i true ∙ many) self.few;
      entry = ap (λ (r : Record). entry_of r self.bank) fields ∙ self.entry;
      unset = λ now.
          let told_b = told_back b f c.in-Ok-set_mark.ensures.keeps now in
          let told = told_back a b c.in-Ok.ensures.keeps told_b in
          let within : mark_place self.bank i + 1 ≤ length b.octets = omega (arith, ((g.met.F.Flash.sound c.in-Ok.put.flash).is_image told_b).size, c.in-Ok.ensures.keeps.pages, base.pages, self.there, c.requires.there, low, base.in_range.number_most, base.in_range.pages_least) in
          (unset_then c.known.ensures) a.octets b.octets f.octets self.held self.bank i at (4096 * piece_count (length octets) 4096) (block_count self.size self.log) many (omega (arith, c.requires.there, low)) within
          (c.in-Ok-set_mark.ensures.runs.ends told_b) (c.in-Ok.ensures.stays told) (λ j lt. omega (arith, c.block_page-first.ensures, lt, low, self.there)) (self.unset told);
    }

pub returns-in-Ok-set_mark-clause-bank : goal.returns-in-Ok-set_mark-clause-bank
returns-in-Ok-set_mark-clause-bank g c =
    let self = c.args.self in
    (refl, refl, refl, taken_set self.held (block_count self.size self.log) c.args.i true c.requires.there)

pub returns-in-Err-set_mark-clause-runs : goal.returns-in-Err-set_mark-clause-runs
returns-in-Err-set_mark-clause-runs g c d holds why =
    let self = c.args.self in
    let base = self.base in
    let seen = g.F.Flash.seen in
    let octets = c.args.octets.now in
    let i = c.args.i in
    let at : ℕ = 4096 * c.block_page-first.result in
    let free = (put_free c.known.ensures) d base.fields holds.base.fields self.bank self.size self.log self.there self.entry holds.blocks holds.content i c.requires.there (seen base.flash) base.place.page base.place.fresh holds.base.at
    self.held (sym (taken self.held (block_count self.size self.log) i c.requires.there) ∙ c.requires.free) (holds.flags i c.requires.there) at (length octets) c.block_page-first.ensures c.requires.whole in
    let n : ℕ = piece_count (length octets) 4096 in
    let first = c.in-Ok.ensures.runs d holds.base free in
    let present = first.1.fields ∙ c.in-Ok.ensures.fields in
    let last = (mark_broke c.known.ensures) d base.fields present self.bank self.size self.log self.there self.entry holds.blocks holds.content i c.requires.there (seen c.in-Ok.put.flash) c.in-Ok.put.place.page c.in-Ok.put.place.fresh first.1.at
    octets at c.block_page-first.ensures c.requires.whole (c.in-Ok.ensures.put holds.base.at.told) (seen c.in-Err-set_mark.stopped.flash) (c.runs.ensures.read c.in-Ok.put.flash c.in-Err-set_mark.stopped.flash) c.in-Err-set_mark.ensures.runs in
    (c.runs.ensures.join base.flash c.in-Ok.put.flash c.in-Err-set_mark.stopped.flash).broke as_store d (replicate (n + n) d) (with_block d self.bank i octets ∷ []) first.0
    (subst (λ (s : StoreState). Broke (either RepresentsStore) s (with_block d self.bank i octets ∷ []) (seen c.in-Ok.put.flash) (seen c.in-Err-set_mark.stopped.flash)) (sym (last_same d (n + n))) last)

pub returns-in-Ok-set_mark-clause-runs : goal.returns-in-Ok-set_mark-clause-runs
returns-in-Ok-set_mark-clause-runs g c d holds =
    let self = c.args.self in
    let base = self.base in
    let seen = g.F.Flash.seen in
    let octets = c.args.octets.now in
    let i = c.args.i in
    let at : ℕ = 4096 * c.block_page-first.result in
    let free = (put_free c.known.ensures) d base.fields holds.base.fields self.bank self.size self.log self.there self.entry holds.blocks holds.content i c.requires.there (seen base.flash) base.place.page base.place.fresh holds.base.at
    self.held (sym (taken self.held (block_count self.size self.log) i c.requires.there) ∙ c.requires.free) (holds.flags i c.requires.there) at (length octets) c.block_page-first.ensures c.requires.whole in
    let n : ℕ = piece_count (length octets) 4096 in
    let e = with_block d self.bank i octets in
    let first = c.in-Ok.ensures.runs d holds.base free in
    let present = first.1.fields ∙ c.in-Ok.ensures.fields in
    let last = (mark_ran c.known.ensures) d base.fields present self.bank self.size self.log self.there self.entry holds.blocks holds.content i c.requires.there (seen c.in-Ok.put.flash) c.in-Ok.put.place.page c.in-Ok.put.place.fresh first.1.at
    octets at c.block_page-first.ensures c.requires.whole (c.in-Ok.ensures.put holds.base.at.told) (seen c.in-Ok-set_mark.base.flash) (c.runs.ensures.read c.in-Ok.put.flash c.in-Ok-set_mark.base.flash) c.in-Ok-set_mark.ensures.runs in
    let ends = last_block n d e in
    let low = (few_of c.known.ensures) base.fields self.bank self.size self.log base.in_range self.there self.entry in
    let many : length self.held ≡ 256 = search rules in
    let content = (put_content c.known.ensures) d base.fields present self.bank self.size self.log self.there self.entry holds.blocks holds.content i c.requires.there (seen base.flash) base.place.page base.place.fresh holds.base.at octets in
    let long : length holds.blocks ≡ block_count self.size self.log = blocks_long d base.fields present self.bank self.size self.log self.there self.entry holds.blocks holds.content (seen base.flash) base.place.page base.place.fresh holds.base.at in
    let base_holds : BaseHolds seen c.in-Ok-set_mark.base e = record {
      at = subst (λ (p : Place). HoldsAt (seen c.in-Ok-set_mark.base.flash) p.page p.fresh e) (sym c.in-Ok-set_mark.ensures.place) last.1;
      fields = first.1.fields ∙ sym c.in-Ok-set_mark.ensures.fields;
    } in (
      (c.runs.ensures.join base.flash c.in-Ok.put.flash c.in-Ok-set_mark.base.flash).ran as_store d (replicate (n + n) d) (e ∷ []) first.0
          (subst (λ (s : StoreState). Ran (either RepresentsStore) s (e ∷ []) (seen c.in-Ok.put.flash) (seen c.in-Ok-set_mark.base.flash)) (sym (last_same d (n + n))) last.0),
      record {
        base = subst (λ (s : StoreState). BaseHolds seen c.in-Ok-set_mark.base s) (sym ends) base_holds;
        blocks = set holds.blocks i (Some octets);
        content = ap (λ (s : StoreState). content_of_bank s self.bank) ends ∙ content;
        flags = (put_flags c.known.ensures) d base.fields present self.bank self.size self.log self.there self.entry holds.blocks holds.content i c.requires.there (seen base.flash) base.place.page base.place.fresh holds.base.at
            self.held octets many low long holds.flags;
      },
    )

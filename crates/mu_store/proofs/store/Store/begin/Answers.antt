use Rattle.std.proofs.Common.{◌≡◌, ◌∙◌, ◌*◌, ◌<◌, ◌≤◌, ℕ, [], ◌∷◌, Bool, List, None, length, take, replicate, refl, sym, subst, ap, arith, get_or-set_same}
use Rattle.std.specs.Prelude.{slice_index_or}
use Rattle.mu_model_image.specs.Pieces.{block_count}
use Rattle.mu_model_flash.specs.Run.{either, Ran, Broke}
use Rattle.mu_model_record.specs.declared.Record.{Record}
use Rattle.mu_model_record.specs.declared.BankState.{BankState}
use Rattle.mu_model_record.specs.declared.BankState.TheVariants.{Empty, Filling}
use Rattle.mu_model_record.specs.Record.{IsFilling, entry_of}
use Rattle.mu_model_record.specs.Store.{StoreState, content_of_bank, mark_place}
use Rattle.mu_model_record.specs.Represents.{RepresentsStore}
use Rattle.mu_model_record.specs.Next.{record_steps}
use Rattle.mu_model_record.specs.Changes.{begun}
use Rattle.mu_record.specs.declared.write.Place.{Place}
use Rattle.mu_store.specs.Base.{BaseHolds}
use Rattle.mu_model_record.specs.Ways.{as_store}
use Rattle.mu_store.proofs.StoreLemmas.{last_steps}
use Rattle.mu_store.proofs.FillLemmas.{few_blocks, begun_then, begun_is, begun_content, begun_flags}
use Rattle.mu_store.proofs.FlagLemmas.{length-taken, none_taken}
use Rattle.mu_store.proofs.ReadLemmas.{length-no_flags}
use Rattle.mu_store.proofs.RunLemmas.{told_back}
use Rattle.mu_store.proofs.store.Store.begin.Goals as goal

pub returns-in-Err-clause-runs : goal.returns-in-Err-clause-runs
returns-in-Err-clause-runs g c d holds why =
    let base = c.args.self.base in
    let e = begun d c.args.bank c.args.size c.args.log c.args.tag.now in
    (c.runs.ensures.read base.flash c.in-Err.stopped.flash).longer as_store d (d ∷ []) (record_steps base.place.fresh d e) (c.in-Err.ensures.runs d holds c.args.self.rests)

pub invariant_of-result : goal.invariant_of-result
invariant_of-result g c =
    let base = c.args.self.base in
    let erased = c.in-Ok.erased in
    let next = c.in-Ok-write.base in
    let fields = c.in-Ok-write.ensures.fields in
    let few = (few_blocks c.known.ensures) c.args.size c.args.log (omega (arith, c.requires.most, base.in_range.pages_most)) c.requires.log_least c.requires.log_most in
    let there : c.args.bank < length base.fields.banks = omega (arith, c.requires.there, base.in_range.number_most, base.in_range.four) in
    record {
      there = subst (λ (r : Record). c.args.bank < r.number) (sym fields) c.requires.there;
      few = few;
      as_many = length-taken c.no_flags-held.result (block_count c.args.size c.args.log) (ap length c.no_flags-held.ensures ∙ length-no_flags) few;
      entry = ap (λ (r : Record). entry_of r c.args.bank) fields ∙ ap (λ (l : List BankState). slice_index_or l c.args.bank Empty) c.with_entry.ensures
          ∙ get_or-set_same base.fields.banks c.args.bank (Filling c.args.size c.args.log) Empty there;
      unset = λ told i lt no.
          let was = told_back (g.F.Flash.seen erased.flash) (g.F.Flash.seen next.flash) c.in-Ok-write.ensures.keeps told in
          (c.in-Ok-write.ensures.stays was).after (mark_place c.args.bank i) (omega arith) ∙ c.in-Ok.ensures.blank was i (omega (arith, lt, few));
    }

pub returns-in-Ok-write-clause-bank : goal.returns-in-Ok-write-clause-bank
returns-in-Ok-write-clause-bank g c =
    let base = c.args.self.base in
    let n : ℕ = block_count c.args.size c.args.log in
    let few = (few_blocks c.known.ensures) c.args.size c.args.log (omega (arith, c.requires.most, base.in_range.pages_most)) c.requires.log_least c.requires.log_most in
    (refl, refl, refl, ap (λ (flags : List Bool). take n flags) c.no_flags-held.ensures ∙ none_taken n few)

pub returns-in-Err-write-clause-runs : goal.returns-in-Err-write-clause-runs
returns-in-Err-write-clause-runs g c d holds why =
    let base = c.args.self.base in
    let erased = c.in-Ok.erased in
    let seen = g.F.Flash.seen in
    let e = begun d c.args.bank c.args.size c.args.log c.args.tag.now in
    let first = c.in-Ok.ensures.runs d holds c.args.self.rests in
    let not_last = subst (λ (r : Record). r.count ≡ 4294967295 → ⊥) (sym c.in-Ok.ensures.fields) c.if-base.false in
    let there = subst (λ (r : Record). c.args.bank < r.number) (sym c.in-Ok.ensures.fields) c.requires.there in
    let most = subst (λ (r : Record). c.args.size ≤ 4096 * r.pages) (sym c.in-Ok.ensures.fields) c.requires.most in
    let rests = subst (λ (r : Record). (n : ℕ) → ¬ IsFilling (entry_of r n)) (sym c.in-Ok.ensures.fields) c.args.self.rests in
    let next = (begun_then c.known.ensures) (seen erased.flash) erased.place.page erased.place.fresh d first.1.at erased.fields first.1.fields not_last c.args.tag.now c.told-tag c.fits-tag c.args.bank there
    c.args.size c.args.log c.requires.some most c.requires.log_least c.requires.log_most rests (c.in-Ok.ensures.blank first.1.at.told) in
    let is = (begun_is c.known.ensures) (seen base.flash) base.place.page base.place.fresh d holds.at base.fields holds.fields c.if-base.false c.args.tag.now c.told-tag c.fits-tag c.args.bank c.requires.there
    c.args.size c.args.log c.requires.some c.requires.most c.requires.log_least c.requires.log_most c.args.self.rests c.with_entry.result c.with_entry.ensures in
    let broke = subst (λ (p : Place). Broke (either RepresentsStore) d (record_steps p.fresh d e) (seen erased.flash) (seen c.in-Err-write.stopped.flash)) c.in-Ok.ensures.place (c.in-Err-write.ensures.runs d e first.1 next is) in
    (c.runs.ensures.join base.flash erased.flash c.in-Err-write.stopped.flash).broke as_store d (d ∷ []) (record_steps base.place.fresh d e) first.0 broke

pub returns-in-Ok-write-clause-runs : goal.returns-in-Ok-write-clause-runs
returns-in-Ok-write-clause-runs g c d holds =
    let base = c.args.self.base in
    let erased = c.in-Ok.erased in
    let seen = g.F.Flash.seen in
    let e = begun d c.args.bank c.args.size c.args.log c.args.tag.now in
    let first = c.in-Ok.ensures.runs d holds c.args.self.rests in
    let not_last = subst (λ (r : Record). r.count ≡ 4294967295 → ⊥) (sym c.in-Ok.ensures.fields) c.if-base.false in
    let there = subst (λ (r : Record). c.args.bank < r.number) (sym c.in-Ok.ensures.fields) c.requires.there in
    let most = subst (λ (r : Record). c.args.size ≤ 4096 * r.pages) (sym c.in-Ok.ensures.fields) c.requires.most in
    let rests = subst (λ (r : Record). (n : ℕ) → ¬ IsFilling (entry_of r n)) (sym c.in-Ok.ensures.fields) c.args.self.rests in
    let next = (begun_then c.known.ensures) (seen erased.flash) erased.place.page erased.place.fresh d first.1.at erased.fields first.1.fields not_last c.args.tag.now c.told-tag c.fits-tag c.args.bank there
    c.args.size c.args.log c.requires.some most c.requires.log_least c.requires.log_most rests (c.in-Ok.ensures.blank first.1.at.told) in
    let is = (begun_is c.known.ensures) (seen base.flash) base.place.page base.place.fresh d holds.at base.fields holds.fields c.if-base.false c.args.tag.now c.told-tag c.fits-tag c.args.bank c.requires.there
    c.args.size c.args.log c.requires.some c.requires.most c.requires.log_least c.requires.log_most c.args.self.rests c.with_entry.result c.with_entry.ensures in
    let done = c.in-Ok-write.ensures.runs d e first.1 next is in
    let ran = subst (λ (p : Place). Ran (either RepresentsStore) d (record_steps p.fresh d e) (seen erased.flash) (seen c.in-Ok-write.base.flash)) c.in-Ok.ensures.place done.0 in
    let last = last_steps base.place.fresh d e in
    let content = (begun_content c.known.ensures) (seen base.flash) base.place.page base.place.fresh d holds.at base.fields holds.fields c.if-base.false c.args.tag.now c.told-tag c.fits-tag c.args.bank c.requires.there
    c.args.size c.args.log c.requires.some c.requires.most c.requires.log_least c.requires.log_most c.args.self.rests in
    let flags = (begun_flags c.known.ensures) (seen base.flash) base.place.page base.place.fresh d holds.at base.fields holds.fields c.if-base.false c.args.tag.now c.told-tag c.fits-tag c.args.bank c.requires.there
    c.args.size c.args.log c.requires.some c.requires.most c.requires.log_least c.requires.log_most c.args.self.rests in (
      (c.runs.ensures.join base.flash erased.flash c.in-Ok-write.base.flash).ran as_store d (d ∷ []) (record_steps base.place.fresh d e) first.0 ran,
      record {
        base = subst (λ (x : StoreState). BaseHolds seen c.in-Ok-write.base x) (sym last) done.1;
        blocks = replicate (block_count c.args.size c.args.log) None;
        content = ap (λ (x : StoreState). content_of_bank x c.args.bank) last ∙ content;
        flags = flags c.no_flags-held.result c.no_flags-held.ensures;
      },
    )

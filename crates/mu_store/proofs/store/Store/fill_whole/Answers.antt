use Rattle.std.proofs.Common.{◌≡◌, ◌∙◌, ◌<◌, inr, List, ℕ, length, sym, subst, ap, arith}
use Rattle.std.proofs.Math.ListN.{set}
use Rattle.mu_model_flash.specs.Run.{either, Broke}
use Rattle.mu_model_image.specs.declared.Meta.{Meta}
use Rattle.mu_model_image.specs.Meta.{IsMeta, image_of}
use Rattle.mu_model_record.specs.declared.Record.{Record}
use Rattle.mu_model_record.specs.declared.BankState.{BankState}
use Rattle.mu_model_record.specs.declared.BankState.TheVariants.{Sealed}
use Rattle.mu_model_record.specs.Record.{IsFilling, entry_of}
use Rattle.mu_model_record.specs.Represents.{RepresentsStore}
use Rattle.mu_model_record.specs.Changes.{next_record}
use Rattle.mu_store.specs.declared.whole.FillWhy.{FillWhy}
use Rattle.mu_store.specs.Filled.{Asked, filled_up, whole_steps, FailsBy}
use Rattle.mu_store.proofs.FillWhole.{whole_rests, fails_by, fails_empty, meta_is, mid_holds, whole_next, whole_present, whole_ran, whole_broke}
use Rattle.mu_store.proofs.store.Store.fill_whole.Goals as goal

pub returns-in-Err-clause-fails : goal.returns-in-Err-clause-fails
returns-in-Err-clause-fails g c =
    let asked : Asked = record { bank = c.args.bank; version = c.args.version; tag = c.args.tag.now } in
    (fails_by c.known.ensures) g.F.Flash.seen c.args.self asked c.requires.there c.requires.is_empty _ _ c.in-Err.fail c.in-Err.fail.why c.in-Err.ensures.stops

pub returns-then-size-eq0-clause-fails : goal.returns-then-size-eq0-clause-fails
returns-then-size-eq0-clause-fails g c =
    let asked : Asked = record { bank = c.args.bank; version = c.args.version; tag = c.args.tag.now } in
    let fail = c.fail-then-size-eq0 in
    subst (λ (why : FillWhy). FailsBy g.F.Flash.seen c.args.self asked (g.S.Source.left c.args.source.now) (g.S.Source.left c.put_all.new.source) (g.F.Flash.seen fail.result.flash) why) (sym fail.ensures.why)
    ((fails_empty c.known.ensures) g.F.Flash.seen c.args.self asked c.requires.there c.requires.is_empty _ _ c.in-Ok.part c.in-Ok.ensures.all fail.result fail.ensures.flash c.if-size-eq0.true)

pub invariant_of-result : goal.invariant_of-result
invariant_of-result g c =
    let takes = c.in-Ok.ensures.all in
    let base = c.in-Ok.part.base in
    let meta : Meta = record { size = c.in-Ok.part.size; version = c.args.version; digest = c.done.result } in
    let there = subst (λ (r : Record). c.args.bank < r.number) (sym takes.puts.fields) c.requires.there in
    let rests = subst (λ (r : Record). (b : ℕ) → ¬ IsFilling (entry_of r b)) (sym takes.puts.fields) c.args.self.rests in
    let fields : c.in-Ok-write.base.fields ≡ next_record base.fields (set base.fields.banks c.args.bank (Sealed meta)) c.args.tag.now =
    c.in-Ok-write.ensures.fields ∙ ap (λ (entries : List BankState). next_record base.fields entries c.args.tag.now) c.with_entry.ensures in
    record { rests = λ b. subst (λ (x : Record). ¬ IsFilling (entry_of x b)) (sym fields) ((whole_rests c.known.ensures) base.fields base.in_range c.args.bank there meta rests b) }

pub returns-in-Ok-write-clause-filled : goal.returns-in-Ok-write-clause-filled
returns-in-Ok-write-clause-filled g c =
    let asked : Asked = record { bank = c.args.bank; version = c.args.version; tag = c.args.tag.now } in
    let seen = g.F.Flash.seen in
    let self = c.args.self in
    let part = c.in-Ok.part in
    let takes = c.in-Ok.ensures.all in
    let meta : Meta = record { size = part.size; version = c.args.version; digest = c.done.result } in
    let is = (meta_is c.known.ensures) seen self asked c.requires.there c.requires.is_empty _ _ part takes c.done.result (c.done.ensures takes.octets takes.taken) in
    let range = subst (λ (m : Meta). IsMeta m) is c.is_meta.ensures in
    record {
      octets = takes.octets;
      some = omega (arith, takes.size, c.if-size-eq0.false);
      most = takes.most;
      gave = takes.gave;
      at_end = takes.at_end;
      fields = c.in-Ok-write.ensures.fields ∙ ap (λ (entries : List BankState). next_record part.base.fields entries c.args.tag.now) c.with_entry.ensures
          ∙ ap (λ (m : Meta). next_record part.base.fields (set part.base.fields.banks c.args.bank (Sealed m)) c.args.tag.now) is
          ∙ ap (λ (r : Record). next_record r (set r.banks c.args.bank (Sealed (image_of c.args.version takes.octets).meta)) c.args.tag.now) takes.puts.fields;
      runs = λ d holds.
          let e = filled_up d asked takes.octets in
          let mid = (mid_holds c.known.ensures) seen self asked c.requires.there c.requires.is_empty _ _ part takes d holds in
          let next = (whole_next c.known.ensures) seen self asked c.requires.there c.requires.is_empty _ _ part takes d holds c.if-base.false c.told-tag c.fits-tag range in
          let present = (whole_present c.known.ensures) seen self asked c.requires.there c.requires.is_empty _ _ part takes d holds meta is c.with_entry.result c.with_entry.ensures in
          let w = c.in-Ok-write.ensures.runs d e mid next present in
          ((whole_ran c.known.ensures) seen self asked c.requires.there c.requires.is_empty _ _ part takes d holds (seen c.in-Ok-write.base.flash) (c.runs.ensures.join self.base.flash part.base.flash c.in-Ok-write.base.flash) e w.0, w.1);
    }

pub returns-in-Err-write-clause-fails : goal.returns-in-Err-write-clause-fails
returns-in-Err-write-clause-fails g c =
    let asked : Asked = record { bank = c.args.bank; version = c.args.version; tag = c.args.tag.now } in
    let seen = g.F.Flash.seen in
    let self = c.args.self in
    let part = c.in-Ok.part in
    let takes = c.in-Ok.ensures.all in
    let fail = c.fail-in-Err-write in
    let meta : Meta = record { size = part.size; version = c.args.version; digest = c.done.result } in
    let is = (meta_is c.known.ensures) seen self asked c.requires.there c.requires.is_empty _ _ part takes c.done.result (c.done.ensures takes.octets takes.taken) in
    let range = subst (λ (m : Meta). IsMeta m) is c.is_meta.ensures in
    subst (λ (why : FillWhy). FailsBy g.F.Flash.seen c.args.self asked (g.S.Source.left c.args.source.now) (g.S.Source.left c.put_all.new.source) (g.F.Flash.seen fail.result.flash) why) (sym fail.ensures.why)
    (record {
      octets = takes.octets;
      some = omega (arith, takes.size, c.if-size-eq0.false);
      most = takes.most;
      gave = takes.gave;
      runs = λ d holds.
          let e = filled_up d asked takes.octets in
          let mid = (mid_holds c.known.ensures) seen self asked c.requires.there c.requires.is_empty _ _ part takes d holds in
          let next = (whole_next c.known.ensures) seen self asked c.requires.there c.requires.is_empty _ _ part takes d holds c.if-base.false c.told-tag c.fits-tag range in
          let present = (whole_present c.known.ensures) seen self asked c.requires.there c.requires.is_empty _ _ part takes d holds meta is c.with_entry.result c.with_entry.ensures in
          let broke = (whole_broke c.known.ensures) seen self asked c.requires.there c.requires.is_empty _ _ part takes d holds (seen c.in-Err-write.stopped.flash) (c.runs.ensures.join self.base.flash part.base.flash c.in-Err-write.stopped.flash) e (c.in-Err-write.ensures.runs d e mid next present) in
          inr (takes.at_end, subst (λ flash. Broke (either RepresentsStore) d (whole_steps self.base.place.fresh d (length takes.octets) e) (seen self.base.flash) (seen flash)) (sym fail.ensures.flash) broke);
    })

use Rattle.std.proofs.Common.{◌≡◌, ◌∙◌, List, sym, subst, ap, arith}
use Rattle.std.proofs.Math.ListN.{set}
use Rattle.mu_model_record.specs.declared.Record.{Record}
use Rattle.mu_model_record.specs.declared.BankState.{BankState}
use Rattle.mu_model_record.specs.declared.BankState.TheVariants.{Sealed}
use Rattle.mu_model_record.specs.Record.{IsRecord, IsFilling, entry_of}
use Rattle.mu_model_record.specs.Changes.{next_record}
use Rattle.mu_store.proofs.SealLemmas.{sealed_rests, sealed_record, some}
use Rattle.mu_store.proofs.filling.Filling.close.Goals as goal

pub is_meta-requires : goal.is_meta-requires
is_meta-requires g c =
    let self = c.args.self in
    let r = self.base.fields in
    omega (arith, c.requires.same, (some c.known.ensures) r self.base.in_range self.bank self.size self.log self.there self.entry c.args.meta)

pub write-requires-clause-in_range : goal.write-requires-clause-in_range
write-requires-clause-in_range g c =
    let self = c.args.self in
    let r = self.base.fields in
    subst (λ (entries : List BankState). IsRecord (next_record r entries c.args.tag.now)) (sym c.with_entry.ensures)
    ((sealed_record c.known.ensures) r self.base.in_range self.bank self.size self.log self.there self.entry c.args.meta c.args.tag.now (omega (arith, c.requires.not_last)) c.told-tag c.fits-tag c.is_meta.ensures c.requires.same)

pub invariant_of-result : goal.invariant_of-result
invariant_of-result g c =
    let self = c.args.self in
    let r = self.base.fields in
    let fields : c.in-Ok.base.fields ≡ next_record r (set r.banks self.bank (Sealed c.args.meta)) c.args.tag.now =
    c.in-Ok.ensures.fields ∙ ap (λ (entries : List BankState). next_record r entries c.args.tag.now) c.with_entry.ensures in
    record { rests = λ b. subst (λ (x : Record). ¬ IsFilling (entry_of x b)) (sym fields) ((sealed_rests c.known.ensures) r self.base.in_range self.bank self.size self.log self.there self.entry c.args.meta b) }

pub returns-in-Ok-clause-runs : goal.returns-in-Ok-clause-runs
returns-in-Ok-clause-runs g c d e holds next is =
    c.in-Ok.ensures.runs d e holds.base next (is ∙ ap (λ (entries : List BankState). next_record c.args.self.base.fields entries c.args.tag.now) (sym c.with_entry.ensures))

pub returns-in-Err-clause-runs : goal.returns-in-Err-clause-runs
returns-in-Err-clause-runs g c d e holds next is =
    c.in-Err.ensures.runs d e holds.base next (is ∙ ap (λ (entries : List BankState). next_record c.args.self.base.fields entries c.args.tag.now) (sym c.with_entry.ensures))

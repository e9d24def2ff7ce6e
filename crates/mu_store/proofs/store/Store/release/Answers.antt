use Rattle.std.proofs.Common.{◌≡◌, sym, subst, ap, ◌∙◌, List, arith}
use Rattle.mu_model_record.specs.declared.Record.{Record}
use Rattle.mu_model_record.specs.declared.BankState.TheVariants.{Empty}
use Rattle.mu_model_record.specs.Record.{IsRecord, IsFilling, entry_of}
use Rattle.mu_model_record.specs.declared.BankState.{BankState}
use Rattle.mu_model_record.specs.Store.{StoreState}
use Rattle.mu_model_record.specs.Changes.{released, next_record, cleared}
use Rattle.mu_store.specs.Base.{BaseHolds}
use Rattle.mu_store.proofs.StoreLemmas.{last_steps, released_then, released_is, released_rests}
use Rattle.mu_store.proofs.store.Store.release.Goals as goal

pub returns-in-Ok-clause-runs : goal.returns-in-Ok-clause-runs
returns-in-Ok-clause-runs g c d holds =
    let base = c.args.self.base in
    let seen = g.F.Flash.seen base.flash in
    let next = (released_then c.known.ensures) seen base.place.page base.place.fresh d holds.at base.fields holds.fields c.if-base.false c.args.tag.now c.told-tag c.fits-tag c.args.banks in
    let is = (released_is c.known.ensures) seen base.place.page base.place.fresh d holds.at base.fields holds.fields c.if-base.false c.args.tag.now c.told-tag c.fits-tag c.args.banks
    ∙ ap (λ (entries : List BankState). next_record base.fields entries c.args.tag.now) (sym c.cleared.ensures) in
    let w = c.in-Ok.ensures.runs d (released d c.args.banks c.args.tag.now) holds next is in
    (w.0, subst (λ (e : StoreState). BaseHolds g.F.Flash.seen c.in-Ok.base e) (sym (last_steps base.place.fresh d (released d c.args.banks c.args.tag.now))) w.1)

pub returns-in-Err-clause-runs : goal.returns-in-Err-clause-runs
returns-in-Err-clause-runs g c d holds why =
    let base = c.args.self.base in
    let seen = g.F.Flash.seen base.flash in
    let next = (released_then c.known.ensures) seen base.place.page base.place.fresh d holds.at base.fields holds.fields c.if-base.false c.args.tag.now c.told-tag c.fits-tag c.args.banks in
    let is = (released_is c.known.ensures) seen base.place.page base.place.fresh d holds.at base.fields holds.fields c.if-base.false c.args.tag.now c.told-tag c.fits-tag c.args.banks
    ∙ ap (λ (entries : List BankState). next_record base.fields entries c.args.tag.now) (sym c.cleared.ensures) in
    c.in-Err.ensures.runs d (released d c.args.banks c.args.tag.now) holds next is

pub write-requires-clause-in_range : goal.write-requires-clause-in_range
write-requires-clause-in_range g c =
    let base = c.args.self.base in
    subst (λ (entries : List BankState). IsRecord (next_record base.fields entries c.args.tag.now)) (sym c.cleared.ensures)
    (c.known.ensures.records.released base.fields c.args.tag.now base.in_range (omega (arith, c.if-base.false, base.in_range.count_most)) (c.told-tag, c.fits-tag) c.args.banks)

pub invariant_of-result : goal.invariant_of-result
invariant_of-result g c =
    let base = c.args.self.base in
    let fields : c.in-Ok.base.fields ≡ next_record base.fields (cleared Empty c.args.banks base.fields.banks) c.args.tag.now =
    c.in-Ok.ensures.fields ∙ ap (λ (entries : List BankState). next_record base.fields entries c.args.tag.now) c.cleared.ensures in
    record { rests = λ b. subst (λ (r : Record). ¬ IsFilling (entry_of r b)) (sym fields) ((released_rests c.known.ensures) base.fields c.args.banks c.args.self.rests b) }

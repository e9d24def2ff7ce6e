use Rattle.std.proofs.Common.{◌∙◌, sym, ap, subst}
use Rattle.mu_model_record.specs.Kinds.{IsStore}
use Rattle.mu_place.specs.Place.{place_record, place_fresh}
use Rattle.mu_distributor_server.proofs.Boots.{record_placed, fresh_placed, no_store, no_distributor, foreign, is_foreign, never, kinds_of, state_of}
use Rattle.mu_distributor_server.proofs.distributor.Distributor.boot.Goals as goal

pub returns-in-Err-clause-kinds : goal.returns-in-Err-clause-kinds
returns-in-Err-clause-kinds g c told = no_store _ c.in-Err.fail.why (c.in-Err.ensures.kinds told)

pub returns-in-Err-clause-state : goal.returns-in-Err-clause-state
returns-in-Err-clause-state g c told d found = c.in-Err.ensures.state told found.0 found.1

pub returns-in-Err-from_boot-clause-kinds : goal.returns-in-Err-from_boot-clause-kinds
returns-in-Err-from_boot-clause-kinds g c told =
    is_foreign _ c.in-Err-from_boot.fail.why c.in-Err-from_boot.ensures.foreign
    (foreign _ _ _ (c.in-Ok.ensures.kinds told) (record_placed c.in-Ok.booted) (no_distributor _ c.in-Err-from_boot.ensures.none))

pub returns-in-Err-from_boot-clause-state : goal.returns-in-Err-from_boot-clause-state
returns-in-Err-from_boot-clause-state g c told d found =
    never _ _ d c.foreign_to_distributors.ensures.distributors found
    (foreign _ _ _ (c.in-Ok.ensures.kinds told) (record_placed c.in-Ok.booted) (no_distributor _ c.in-Err-from_boot.ensures.none))

pub returns-clause-kinds : goal.returns-clause-kinds
returns-clause-kinds g c told =
    let same = record_placed c.in-Ok.booted ∙ sym (ap place_record c.in-Ok-from_boot.ensures.is) in
    kinds_of (g.F.Flash.seen c.args.flash).octets c.in-Ok-from_boot.server c.distributor_of.result (subst (λ r. IsStore (g.F.Flash.seen c.args.flash).octets r) same (c.in-Ok.ensures.kinds told))
    c.distributor_of.ensures.server c.distributor_of.ensures.foreign c.distributor_of.ensures.none

pub returns-clause-state : goal.returns-clause-state
returns-clause-state g c told d found =
    let server = c.in-Ok-from_boot.server in
    let same = record_placed c.in-Ok.booted ∙ sym (ap place_record c.in-Ok-from_boot.ensures.is) in
    let holds = c.in-Ok-from_boot.ensures.holds found.0 (c.in-Ok.ensures.state told found.0 found.1) in
    (state_of g.F.Flash.seen c.distributor_is_read.ensures.note c.blob_parts.ensures.one c.args.address d found.0 found.2)
    (g.F.Flash.seen c.args.flash).octets server c.distributor_of.result
    (record {
      holds = holds;
      present = c.known.ensures.present found.0 holds;
      shows = c.known.ensures.shows found.0 holds;
      session = c.in-Ok-from_boot.ensures.session;
      fresh = ap place_fresh c.in-Ok-from_boot.ensures.is ∙ sym (fresh_placed c.in-Ok.booted) ∙ c.in-Ok.ensures.fresh;
    })
    (subst (λ r. IsStore (g.F.Flash.seen c.args.flash).octets r) same (c.in-Ok.ensures.kinds told)) c.foreign_to_distributors.ensures.distributors found
    c.distributor_of.ensures.server c.distributor_of.ensures.memory c.distributor_of.ensures.moment c.distributor_of.ensures.none

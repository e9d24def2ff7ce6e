use Rattle.std.proofs.Common.{◌∙◌, sym, ap, subst}
use Rattle.mu_model_record.specs.Kinds.{IsStore}
use Rattle.mu_place.specs.Place.{place_record, place_fresh}
use Rattle.mu_node.proofs.Booted.{record_placed, fresh_placed, no_store, no_node, foreign, is_foreign, never, node_kinds, node_state}
use Rattle.mu_node.proofs.node.Node.boot.Goals as goal

pub returns-in-Err-clause-kinds : goal.returns-in-Err-clause-kinds
returns-in-Err-clause-kinds g c told = no_store _ c.in-Err.fail.why (c.in-Err.ensures.kinds told)

pub returns-in-Err-clause-state : goal.returns-in-Err-clause-state
returns-in-Err-clause-state g c told d found = c.in-Err.ensures.state told found.0 found.1

pub returns-in-Err-from_boot-clause-kinds : goal.returns-in-Err-from_boot-clause-kinds
returns-in-Err-from_boot-clause-kinds g c told =
    is_foreign _ c.in-Err-from_boot.fail.why c.in-Err-from_boot.ensures.foreign
    (foreign _ _ _ (c.in-Ok.ensures.kinds told) (record_placed c.in-Ok.booted) (no_node _ c.in-Err-from_boot.ensures.none))

pub returns-in-Err-from_boot-clause-state : goal.returns-in-Err-from_boot-clause-state
returns-in-Err-from_boot-clause-state g c told d found =
    never _ _ d c.foreign_to_others.ensures.nodes found
    (foreign _ _ _ (c.in-Ok.ensures.kinds told) (record_placed c.in-Ok.booted) (no_node _ c.in-Err-from_boot.ensures.none))

pub returns-clause-kinds : goal.returns-clause-kinds
returns-clause-kinds g c told =
    let same = record_placed c.in-Ok.booted ∙ sym (ap place_record c.in-Ok-from_boot.ensures.is) in
    node_kinds (g.F.Flash.seen c.args.flash).octets c.in-Ok-from_boot.server c.node_of.result (subst (λ r. IsStore (g.F.Flash.seen c.args.flash).octets r) same (c.in-Ok.ensures.kinds told))
    c.node_of.ensures.server c.node_of.ensures.foreign c.node_of.ensures.none

pub returns-clause-state : goal.returns-clause-state
returns-clause-state g c told d found =
    let server = c.in-Ok-from_boot.server in
    let same = record_placed c.in-Ok.booted ∙ sym (ap place_record c.in-Ok-from_boot.ensures.is) in
    let holds = c.in-Ok-from_boot.ensures.holds found.0 (c.in-Ok.ensures.state told found.0 found.1) in
    (node_state g.F.Flash.seen c.memory_is_kept.ensures.shown c.memory_is_kept.ensures.one c.states_are_sound.ensures.boots c.nodes_serve_by_their_blocks.ensures.boots d
    (c.represented_is_sound.ensures.node_octets (g.F.Flash.seen c.args.flash).octets d found).0 found.0 found.2)
    (g.F.Flash.seen c.args.flash).octets server c.node_of.result
    (record {
      holds = holds;
      represents = record { present = c.known.ensures.present found.0 holds; shows = c.known.ensures.shows found.0 holds };
      blob = c.known.ensures.job c.in-Ok-from_boot.ensures.fault;
      session = c.in-Ok-from_boot.ensures.session;
      fresh = ap place_fresh c.in-Ok-from_boot.ensures.is ∙ sym (fresh_placed c.in-Ok.booted) ∙ c.in-Ok.ensures.fresh;
    })
    (subst (λ r. IsStore (g.F.Flash.seen c.args.flash).octets r) same (c.in-Ok.ensures.kinds told)) c.foreign_to_others.ensures.nodes found
    c.node_of.ensures.server c.node_of.ensures.note c.node_of.ensures.moment c.node_of.ensures.none

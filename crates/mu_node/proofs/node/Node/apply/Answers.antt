use Rattle.std.proofs.Common.{◌∙◌, ℕ, List, Some, refl, sym, ap, subst}
use Rattle.std.specs.Option.{option_map}
use Rattle.mu_model_record.specs.declared.Record.{Record}
use Rattle.mu_model_record.specs.Changes.{tagged}
use Rattle.mu_model_record.specs.ChangeLaws.{IsNotLast}
use Rattle.mu_model_node.specs.declared.Stored.TheVariants.{Applied}
use Rattle.mu_model_written_node.specs.Free.{IsFreeBank}
use Rattle.mu_model_written_node.specs.Written.{CanWrite, IsWritten, note_with, applied_note}
use Rattle.mu_model_represents.specs.NodeNote.{note_octets}
use Rattle.mu_note.specs.declared.node.NodeNote.{NodeNote}
use Rattle.mu_note.specs.Views.{part_job, note_job, node_note, active_banks}
use Rattle.mu_place.specs.Place.{place_record}
use Rattle.mu_kept.specs.Tags.{tag_with}
use Rattle.mu_kept.specs.Views.{job_in, part_in}
use Rattle.mu_blobsrv.specs.Views.{store_of, place_of}
use Rattle.mu_update_rows.specs.Rows.{applied_with}
use Rattle.mu_node.proofs.Ran.{not_last, not_last_flash, record_ran, record_broke}
use Rattle.mu_node.proofs.Recorded.{Laws, has_written, goes_with, left_after, same_banks}
use Rattle.mu_node.proofs.Applied.{applied_rules, applied_kept, is_there, in_memory, applied_written, applied_work}
use Rattle.mu_node.proofs.node.Node.apply.Goals as goal

pub invariant_of-self : goal.invariant_of-self
invariant_of-self g c =
    let v = c.args.self.now.server in
    let w = c.commit.new.self in
    let l : NodeNote = record { active = c.args.self.now.note.active; job = Some (record { stored = Applied; ttl = c.args.job.ttl; meta = c.args.job.meta; index = c.args.job.index }) } in
    let laws : Laws = record { written = c.written_in_memory.ensures.node; short = c.written_in_memory.ensures.short; shown = c.memory_goes_on.ensures.next } in
    record {
      its_note = λ none. goes_with w l
          (applied_rules laws v w c.args.self.now.note l (note_job c.args.job)
          (c.known.ensures.memory c.requires.fault) (c.known.ensures.is_record c.requires.fault)
          (has_written v w l _ _ c.node_note_octets.result c.node_note_octets.ensures c.in-Ok.ensures.fields c.in-Ok.ensures.fresh c.in-Ok.ensures.job c.in-Ok.ensures.note)
          refl (ap (option_map note_job) c.requires.job) refl c.written_in_memory.ensures.fits c.rules_go_on.ensures.goes_on c.requires.verified (c.known-in-Ok.ensures.job none));
    }

pub returns-in-Ok-clause-remembers : goal.returns-in-Ok-clause-remembers
returns-in-Ok-clause-remembers g c to n h =
    let v = c.args.self.now.server in
    let w = c.commit.new.self in
    let k = c.args.self.now.note in
    let l : NodeNote = record { active = c.args.self.now.note.active; job = Some (record { stored = Applied; ttl = c.args.job.ttl; meta = c.args.job.meta; index = c.args.job.index }) } in
    let laws : Laws = record { written = c.written_in_memory.ensures.node; short = c.written_in_memory.ensures.short; shown = c.memory_goes_on.ensures.next } in
    let rules = c.known.ensures.memory c.requires.fault in
    let in_range = c.known.ensures.is_record c.requires.fault in
    let wrote = has_written v w l (place_record (place_of v)).banks (job_in (store_of v)) c.node_note_octets.result c.node_note_octets.ensures c.in-Ok.ensures.fields c.in-Ok.ensures.fresh c.in-Ok.ensures.job c.in-Ok.ensures.note in
    let was = ap (option_map note_job) c.requires.job in
    let none = c.in-Ok.ensures.answers in
    let after = applied_rules laws v w k l (note_job c.args.job) rules in_range wrote refl was refl c.written_in_memory.ensures.fits c.rules_go_on.ensures.goes_on c.requires.verified (c.known-in-Ok.ensures.job none) in
    let there = is_there n (part_in (store_of v)) (option_map note_job k.job) (note_job c.args.job) h.kept.blocks (place_record (place_of v)) (active_banks k.active) was rules.job h.kept.job in
    let kept = applied_kept laws v w k l (note_job c.args.job) rules in_range wrote refl was refl n h.kept.blocks there h.kept (h.kept.held ∙ sym c.in-Ok.ensures.flags) in
    in_memory _ n to there.job there.is kept
    ((left_after laws v w k l (place_record (place_of v)).banks (job_in (store_of v)) rules in_range wrote (same_banks (active_banks k.active) (place_record (place_of v)) (tag_with (job_in (store_of v)) (note_octets (node_note l)))) refl) after (c.known-in-Ok.ensures.is_record none) n.fresh h.fresh)
    (h.session ∙ sym c.in-Ok.ensures.session) h.moment

pub returns-in-Ok-clause-runs : goal.returns-in-Ok-clause-runs
returns-in-Ok-clause-runs g c to n h is =
    let node = c.args.self.now in
    let s = h.store in
    let present = c.known-2.ensures.present s h.holds in
    let was = ap (option_map note_job) c.requires.job in
    let last = not_last (place_record (place_of node.server)) (c.known.ensures.is_record c.requires.fault) (c.in-Ok.ensures.worn c.requires.fault) in
    let can : CanWrite s (part_in (store_of node.server)) (node_note node.note) n.durable c.free_bank.result = record {
      state = c.known-2.ensures.state s h.holds;
      counted = subst (λ (r : Record). IsNotLast r) (sym present) last;
      is = h.represents;
      free = subst (λ (r : Record). IsFreeBank r (active_banks node.note.active) c.free_bank.result) (sym present) c.free_bank.ensures;
    } in
    let written = applied_written c.written_in_a_store.ensures.applied s (part_in (store_of node.server)) (node_note node.note) (note_job c.args.job) n to c.free_bank.result can was c.requires.verified is in
    let as_called = subst (λ (o : List ℕ). IsWritten s (tagged s (tag_with (job_in (store_of node.server)) o)) (part_in (store_of node.server)) (note_with (node_note node.note) (Some (applied_note (note_job c.args.job)))) n.durable (applied_with n to n.durable.job).next.durable)
    (sym c.node_note_octets.ensures) written in
    (record_ran g.F.Flash.seen c.runs.ensures node _ n (applied_with n to n.durable.job) s _ _ _ h.shows.fresh
    (applied_work s (part_in (store_of node.server)) (node_note node.note) (note_job c.args.job) n to c.free_bank.result can was) as_called)
    (ap (option_map part_job) c.in-Ok.ensures.job) refl (c.in-Ok.ensures.runs s h.holds)

pub returns-in-Err-clause-runs : goal.returns-in-Err-clause-runs
returns-in-Err-clause-runs g c to n h is flash =
    let node = c.args.self.now in
    let s = h.store in
    let present = c.known-2.ensures.present s h.holds in
    let was = ap (option_map note_job) c.requires.job in
    let last = not_last_flash (place_record (place_of node.server)) c.in-Err.why (c.known.ensures.is_record c.requires.fault) (c.in-Err.ensures.worn c.requires.fault) flash in
    let can : CanWrite s (part_in (store_of node.server)) (node_note node.note) n.durable c.free_bank.result = record {
      state = c.known-2.ensures.state s h.holds;
      counted = subst (λ (r : Record). IsNotLast r) (sym present) last;
      is = h.represents;
      free = subst (λ (r : Record). IsFreeBank r (active_banks node.note.active) c.free_bank.result) (sym present) c.free_bank.ensures;
    } in
    let written = applied_written c.written_in_a_store.ensures.applied s (part_in (store_of node.server)) (node_note node.note) (note_job c.args.job) n to c.free_bank.result can was c.requires.verified is in
    let as_called = subst (λ (o : List ℕ). IsWritten s (tagged s (tag_with (job_in (store_of node.server)) o)) (part_in (store_of node.server)) (note_with (node_note node.note) (Some (applied_note (note_job c.args.job)))) n.durable (applied_with n to n.durable.job).next.durable)
    (sym c.node_note_octets.ensures) written in
    record_broke g.F.Flash.seen c.runs.ensures (place_of node.server) (place_of c.commit.new.self) n (applied_with n to n.durable.job) s _ _ _ h.shows.fresh
    (applied_work s (part_in (store_of node.server)) (node_note node.note) (note_job c.args.job) n to c.free_bank.result can was) as_called (c.in-Err.ensures.runs s h.holds flash)

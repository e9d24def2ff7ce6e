use Rattle.std.proofs.Common.{◌∙◌, ℕ, List, [], None, refl, sym, ap, subst}
use Rattle.std.specs.Option.{option_map}
use Rattle.mu_model_record.specs.declared.Record.{Record}
use Rattle.mu_model_record.specs.ChangeLaws.{IsNotLast}
use Rattle.mu_model_record.specs.Store.{StoreState}
use Rattle.mu_model_node.specs.BlobServer.{unlinked}
use Rattle.mu_model_represents.specs.NodeNote.{note_octets}
use Rattle.mu_model_stored_node.specs.Kept.{with_next}
use Rattle.mu_model_written_node.specs.Free.{IsFreeBank, FillsBank}
use Rattle.mu_model_written_node.specs.Written.{CanWrite, IsWritten, note_with}
use Rattle.mu_note.specs.declared.node.NodeNote.{NodeNote}
use Rattle.mu_note.specs.Views.{part_job, node_note, active_banks}
use Rattle.mu_place.specs.Place.{place_record, place_filling}
use Rattle.mu_kept.specs.Calls.{given_up, banks_given_up}
use Rattle.mu_kept.specs.Tags.{tag_with}
use Rattle.mu_kept.specs.Views.{job_in, part_in}
use Rattle.mu_blobsrv.specs.Views.{store_of, place_of}
use Rattle.mu_update_rows.specs.Rows.{update_stepped}
use Rattle.mu_update_rows.specs.declared.table.UpdateStep.TheVariants.{Lose}
use Rattle.mu_node.proofs.Ran.{not_last, not_last_flash, record_ran, record_broke}
use Rattle.mu_node.proofs.Recorded.{Laws, has_written, goes_with, rules_after, shown_after, left_after, given_up_stay}
use Rattle.mu_node.proofs.Given.{number_of, given_up_is, fills_bank, same_fills}
use Rattle.mu_node.proofs.node.Node.lose.Goals as goal

pub invariant_of-self : goal.invariant_of-self
invariant_of-self g c =
    let v = c.args.self.now.server in
    let w = c.drop_job.new.self in
    let k = c.args.self.now.note in
    let l : NodeNote = record { active = c.args.self.now.note.active; job = None } in
    let laws : Laws = record { written = c.written_in_memory.ensures.node; short = c.written_in_memory.ensures.short; shown = c.memory_goes_on.ensures.next } in
    let rules = c.known.ensures.memory c.requires.fault in
    let banks = banks_given_up (place_filling (place_of v)) (place_record (place_of v)).banks in
    let stay = given_up_stay c.rules_go_on.ensures.others (active_banks k.active) (place_record (place_of v)) (place_filling (place_of v)) (tag_with None (note_octets (node_note l))) rules.active_sealed c.known-2.ensures.entry in
    let wrote = has_written v w l banks None c.node_note_octets.result c.node_note_octets.ensures c.in-Ok.ensures.fields c.in-Ok.ensures.fresh c.in-Ok.ensures.job c.in-Ok.ensures.note in
    record { its_note = λ none. goes_with w l ((rules_after laws v w k l banks None rules (c.known.ensures.is_record c.requires.fault) wrote stay refl) tt (c.known-in-Ok.ensures.job none) tt) }

pub returns-in-Ok-clause-remembers : goal.returns-in-Ok-clause-remembers
returns-in-Ok-clause-remembers g c to n h =
    let v = c.args.self.now.server in
    let w = c.drop_job.new.self in
    let k = c.args.self.now.note in
    let l : NodeNote = record { active = c.args.self.now.note.active; job = None } in
    let laws : Laws = record { written = c.written_in_memory.ensures.node; short = c.written_in_memory.ensures.short; shown = c.memory_goes_on.ensures.next } in
    let rules = c.known.ensures.memory c.requires.fault in
    let in_range = c.known.ensures.is_record c.requires.fault in
    let banks = banks_given_up (place_filling (place_of v)) (place_record (place_of v)).banks in
    let stay = given_up_stay c.rules_go_on.ensures.others (active_banks k.active) (place_record (place_of v)) (place_filling (place_of v)) (tag_with None (note_octets (node_note l))) rules.active_sealed c.known-2.ensures.entry in
    let wrote = has_written v w l banks None c.node_note_octets.result c.node_note_octets.ensures c.in-Ok.ensures.fields c.in-Ok.ensures.fresh c.in-Ok.ensures.job c.in-Ok.ensures.note in
    let none = c.in-Ok.ensures.answers in
    let after = (rules_after laws v w k l banks None rules in_range wrote stay refl) tt (c.known-in-Ok.ensures.job none) tt in
    record {
      kept = (shown_after laws v w k l banks None rules in_range wrote stay refl) n.durable [] h.kept (sym c.in-Ok.ensures.flags);
      fresh = (left_after laws v w k l banks None rules in_range wrote stay refl) after (c.known-in-Ok.ensures.is_record none) n.fresh h.fresh;
      session = ap unlinked h.session ∙ sym c.in-Ok.ensures.session;
      moment = h.moment;
    }

pub returns-in-Ok-clause-runs : goal.returns-in-Ok-clause-runs
returns-in-Ok-clause-runs g c to n h is =
    let node = c.args.self.now in
    let s = h.store in
    let rules = c.known.ensures.memory c.requires.fault in
    let in_range = c.known.ensures.is_record c.requires.fault in
    let present = c.known-2.ensures.present s h.holds in
    let filling = place_filling (place_of node.server) in
    let can : CanWrite s (part_in (store_of node.server)) (node_note node.note) n.durable c.free_bank.result = record {
      state = c.known-2.ensures.state s h.holds;
      counted = subst (λ (r : Record). IsNotLast r) (sym present) (not_last (place_record (place_of node.server)) in_range (c.in-Ok.ensures.worn c.requires.fault));
      is = h.represents;
      free = subst (λ (r : Record). IsFreeBank r (active_banks node.note.active) c.free_bank.result) (sym present) c.free_bank.ensures;
    } in
    let fills = fills_bank (place_record (place_of node.server)) (active_banks node.note.active) c.free_bank.result (job_in (store_of node.server)) (node_note node.note).job filling in_range c.free_bank.ensures rules.active_sealed
    rules.blob.rules rules.job c.known-2.ensures.there c.known-2.ensures.entry (λ e. c.known-2.ensures.fills c.requires.fault (same_fills (place_of node.server) (job_in (store_of node.server)) ∙ e)) in
    let written = c.written_in_a_store.ensures.lost s (part_in (store_of node.server)) (node_note node.note) n.durable c.free_bank.result (number_of filling) can
    (subst (λ (r : Record). FillsBank (number_of filling) r c.free_bank.result) (sym present) fills) is in
    let as_called = subst (λ (o : List ℕ). IsWritten s (given_up filling s (tag_with None o)) None (note_with (node_note node.note) None) n.durable (with_next n.durable None)) (sym c.node_note_octets.ensures)
    (subst (λ (e : StoreState). IsWritten s e None (note_with (node_note node.note) None) n.durable (with_next n.durable None)) (sym (given_up_is filling s (tag_with None (note_octets (note_with (node_note node.note) None))))) written) in
    (record_ran g.F.Flash.seen c.runs.ensures node _ n (update_stepped n to Lose) s _ None (note_with (node_note node.note) None) h.shows.fresh refl as_called)
    (ap (option_map part_job) c.in-Ok.ensures.job) refl (c.in-Ok.ensures.runs s h.holds)

pub returns-in-Err-clause-runs : goal.returns-in-Err-clause-runs
returns-in-Err-clause-runs g c to n h is flash =
    let node = c.args.self.now in
    let s = h.store in
    let rules = c.known.ensures.memory c.requires.fault in
    let in_range = c.known.ensures.is_record c.requires.fault in
    let present = c.known-2.ensures.present s h.holds in
    let filling = place_filling (place_of node.server) in
    let can : CanWrite s (part_in (store_of node.server)) (node_note node.note) n.durable c.free_bank.result = record {
      state = c.known-2.ensures.state s h.holds;
      counted = subst (λ (r : Record). IsNotLast r) (sym present) (not_last_flash (place_record (place_of node.server)) c.in-Err.why in_range (c.in-Err.ensures.worn c.requires.fault) flash);
      is = h.represents;
      free = subst (λ (r : Record). IsFreeBank r (active_banks node.note.active) c.free_bank.result) (sym present) c.free_bank.ensures;
    } in
    let fills = fills_bank (place_record (place_of node.server)) (active_banks node.note.active) c.free_bank.result (job_in (store_of node.server)) (node_note node.note).job filling in_range c.free_bank.ensures rules.active_sealed
    rules.blob.rules rules.job c.known-2.ensures.there c.known-2.ensures.entry (λ e. c.known-2.ensures.fills c.requires.fault (same_fills (place_of node.server) (job_in (store_of node.server)) ∙ e)) in
    let written = c.written_in_a_store.ensures.lost s (part_in (store_of node.server)) (node_note node.note) n.durable c.free_bank.result (number_of filling) can
    (subst (λ (r : Record). FillsBank (number_of filling) r c.free_bank.result) (sym present) fills) is in
    let as_called = subst (λ (o : List ℕ). IsWritten s (given_up filling s (tag_with None o)) None (note_with (node_note node.note) None) n.durable (with_next n.durable None)) (sym c.node_note_octets.ensures)
    (subst (λ (e : StoreState). IsWritten s e None (note_with (node_note node.note) None) n.durable (with_next n.durable None)) (sym (given_up_is filling s (tag_with None (note_octets (note_with (node_note node.note) None))))) written) in
    record_broke g.F.Flash.seen c.runs.ensures (place_of node.server) (place_of c.drop_job.new.self) n (update_stepped n to Lose) s _ None (note_with (node_note node.note) None) h.shows.fresh refl as_called (c.in-Err.ensures.runs s h.holds flash)

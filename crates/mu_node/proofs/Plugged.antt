-- A node whose flash alone is another.
use Rattle.std.proofs.Common.{◌≡◌, ◌∙◌, Option, Some, None, refl, sym, ap, subst}
use Rattle.std.specs.Option.{option_map}
use Rattle.mu_model_flash.specs.Flash.{Seen}
use Rattle.mu_model_record.specs.Record.{entry_of}
use Rattle.mu_model_record.specs.Store.{StoreState}
use Rattle.mu_model_node.specs.NodeState.{NodeState}
use Rattle.mu_model_represents.specs.RepresentsNode.{IsNodeOf}
use Rattle.mu_model_shown_node.specs.Shown.{InMemory, IsShown}
use Rattle.mu_note.specs.declared.blob.BlobJob.{BlobJob}
use Rattle.mu_note.specs.declared.node.NodeNote.{NodeNote as NoteHere}
use Rattle.mu_note.specs.Views.{part_job, node_note}
use Rattle.mu_place.specs.declared.place.Place.{Place}
use Rattle.mu_place.specs.Place.{PlaceHolds, IsSamePlace}
use Rattle.mu_kept.specs.Calls.{IsSameStore}
use Rattle.mu_kept.specs.Views.{flags_of, flags_with}
use Rattle.mu_blobsrv.specs.declared.server.BlobServer.{BlobServer}
use Rattle.mu_blobsrv.specs.Views.{store_of, place_of, session_of}
use Rattle.mu_node.specs.declared.node.Node.{Node}
use Rattle.mu_node.specs.Memory.{memory_with}
use Rattle.mu_node.specs.Views.{server_in, note_in, place_in, memory_of, moment_of, Shows, Holds}

flags_same : {F : Type 0} {g : _} (old new : Place F g) → IsSamePlace old new → (job : Option BlobJob) → flags_of new job ≡ flags_of old job
flags_same old new same None = refl
flags_same old new same (Some j) = λ i. flags_with (entry_of (same.fields i) j.bank) (same.held i) j.parameters

memory_same : {F : Type 0} {g : _} (old new : BlobServer F g) (note : NoteHere) → IsSameStore (store_of old) (store_of new) → memory_with new note ≡ memory_with old note
memory_same old new note same =
    let held = ap (flags_of (place_of new)) same.job ∙ flags_same (place_of old) (place_of new) same.place (store_of old).job in
    λ i. record { present = same.place.fields i; part = option_map part_job (same.job i); note = node_note note; held = held i }

module _ {F : Type 0} {g : _} (old new : Node F g) (store : IsSameStore (store_of (server_in old)) (store_of (server_in new))) (session : session_of (server_in new) ≡ session_of (server_in old))
    (note : note_in new ≡ note_in old) (moment : moment_of new ≡ moment_of old) where
  memory_is : memory_of new ≡ memory_of old
  memory_is = ap (memory_with (server_in new)) note ∙ memory_same (server_in old) (server_in new) (note_in old) store

  pub same_shows : (n : NodeState) → Shows old n → Shows new n
  same_shows n h = record {
    kept = subst (λ (m : InMemory). IsShown m n.durable) (sym memory_is) h.kept;
    fresh = h.fresh ∙ sym store.place.fresh;
    session = h.session ∙ sym session;
    moment = h.moment ∙ sym moment;
    sound = h.sound;
    linked = h.linked;
  }

  pub same_holds : (seen : F → Seen) → ((s : StoreState) → PlaceHolds seen (place_in old) s → PlaceHolds seen (place_in new) s) → (n : NodeState) → Holds seen old n → Holds seen new n
  same_holds seen holds n h = record {
    shows = same_shows n h.shows;
    store = h.store;
    holds = holds h.store h.holds;
    represents = subst (λ (m : InMemory). IsNodeOf h.store m.part m.note n.durable) (sym memory_is) h.represents;
  }

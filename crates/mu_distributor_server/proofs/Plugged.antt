-- A distributor whose flash alone is another.
use Rattle.std.proofs.Common.{◌≡◌, ◌∙◌, Option, Some, None, refl, sym, ap, subst}
use Rattle.std.specs.Option.{option_map}
use Rattle.mu_model_flash.specs.Flash.{Seen}
use Rattle.mu_model_record.specs.declared.Record.{Record}
use Rattle.mu_model_record.specs.Record.{entry_of, capacity_of}
use Rattle.mu_model_record.specs.Store.{StoreState}
use Rattle.mu_model_distributor.specs.DistState.{DistState}
use Rattle.mu_note.specs.declared.blob.BlobJob.{BlobJob}
use Rattle.mu_note.specs.Views.{part_job}
use Rattle.mu_place.specs.declared.place.Place.{Place}
use Rattle.mu_place.specs.Place.{PlaceHolds, IsSamePlace}
use Rattle.mu_kept.specs.Calls.{IsSameStore}
use Rattle.mu_kept.specs.Views.{flags_of, flags_with}
use Rattle.mu_blobsrv.specs.declared.server.BlobServer.{BlobServer}
use Rattle.mu_blobsrv.specs.Views.{store_of, place_of, session_of}
use Rattle.mu_distributor_memory.specs.declared.memory.Memory.{Memory}
use Rattle.mu_distributor_memory.specs.Shows.{IsMemoryOf}
use Rattle.mu_distributor_server.specs.declared.distributor.Distributor.{Distributor}
use Rattle.mu_distributor_server.specs.Shows.{IsServing, Shows, Holds}
use Rattle.mu_distributor_server.specs.Views.{server_in, memory_in, place_in, moment_of}

flags_same : {F : Type 0} {g : _} (old new : Place F g) → IsSamePlace old new → (job : Option BlobJob) → flags_of new job ≡ flags_of old job
flags_same old new same None = refl
flags_same old new same (Some j) = λ i. flags_with (entry_of (same.fields i) j.bank) (same.held i) j.parameters

serving_same : {F : Type 0} {g : _} (old new : BlobServer F g) (s : DistState) → IsSameStore (store_of old) (store_of new) → session_of new ≡ session_of old → IsServing old s → IsServing new s
serving_same old new s same session is = record {
  count = is.count ∙ ap (λ (r : Record). r.count) (sym same.place.fields);
  capacity = is.capacity ∙ ap capacity_of (sym same.place.fields);
  job = is.job ∙ ap (λ (o : Option BlobJob). option_map part_job o) (sym same.job);
  blocks = is.blocks ∙ sym (ap (flags_of (place_of new)) same.job ∙ flags_same (place_of old) (place_of new) same.place (store_of old).job);
  session = is.session ∙ sym session;
}

module _ {F : Type 0} {g : _} (old new : Distributor F g) (store : IsSameStore (store_of (server_in old)) (store_of (server_in new))) (session : session_of (server_in new) ≡ session_of (server_in old))
    (memory : memory_in new ≡ memory_in old) (moment : moment_of new ≡ moment_of old) where
  pub same_shows : (s : DistState) → Shows old s → Shows new s
  same_shows s h = record {
    memory = subst (λ (m : Memory). IsMemoryOf m s) (sym memory) h.memory;
    server = serving_same (server_in old) (server_in new) s store session h.server;
    moment = h.moment ∙ sym moment;
  }

  pub same_holds : (seen : F → Seen) → ((s : StoreState) → PlaceHolds seen (place_in old) s → PlaceHolds seen (place_in new) s) → (s : DistState) → Holds seen old s → Holds seen new s
  same_holds seen holds s h = record {
    shows = same_shows s h.shows;
    carries = record {
      fresh = h.carries.fresh ∙ sym store.place.fresh;
      store = h.carries.store;
      holds = holds h.carries.store h.carries.holds;
      represents = h.carries.represents;
    };
  }

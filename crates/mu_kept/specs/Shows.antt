-- What is kept as the model's server sees it: the octets of the held blocks are handed in, and all else is a function of what is kept.
use Rattle.std.specs.Prelude.{◌≡◌, ℕ, List, [], Option, Some, None}
use Rattle.mu_model_image.specs.Pieces.{block_count}
use Rattle.mu_model_record.specs.Store.{StoreState}
use Rattle.mu_model_node.specs.Slots.{Slots, empty, put, received}
use Rattle.mu_model_node.specs.BlobServer.{Serving, NoJob, serving_of as serving_of_transfer, Change, Same, Begins, Drops, Puts, serving_after}
use Rattle.mu_model_represents.specs.BlobPart.{BlobJob as PartJob, transfer_in}
use Rattle.mu_note.specs.declared.blob.BlobJob.{BlobJob}
use Rattle.mu_blob_rows.specs.Looks.{transfer_with, serving_with}
use Rattle.mu_kept.specs.declared.store.JobStore.{JobStore}
use Rattle.mu_kept.specs.Views.{flags_in, transfer_look, serving_in, kept_in}

-- those blocks are held whose flags say so
abbrev pub Shows : {F : Type 0} {g : _} → JobStore F g → Slots → Type 0
Shows store held = received held ≡ flags_in store

-- what an owner says of a job with these blocks, by the blocks alone
abbrev pub served_with : Option BlobJob → Slots → Serving
served_with None held = NoJob
served_with (Some j) held = serving_of_transfer (transfer_with (transfer_look j) held)

-- ---- of a store's state

abbrev pub held_in : StoreState → Option PartJob → Slots
held_in s None = []
held_in s (Some j) = (transfer_in s j).held

abbrev pub served_in : StoreState → Option PartJob → Serving
served_in s None = NoJob
served_in s (Some j) = serving_of_transfer (transfer_in s j)

-- ---- after a row's change

abbrev pub held_after : Change → Slots → Slots
held_after Same held = held
held_after (Begins p) held = empty (block_count p.size p.log)
held_after Drops held = []
held_after (Puts block octets) held = put held block octets

pub record IsChanged {F : Type 0} {g : _} (old new : JobStore F g) (change : Change) (held : Slots) : Type 0 where
  pub shows : Shows new (held_after change held)
  pub serving : serving_with (serving_in new) (held_after change held) ≡ serving_after change (serving_with (serving_in old) held)
  pub capacity : (kept_in new).capacity ≡ (kept_in old).capacity

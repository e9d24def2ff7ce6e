-- What a node has in memory beside its flash, by its parts.
use Rattle.mu_note.specs.declared.node.NodeNote.{NodeNote}
use Rattle.mu_note.specs.Views.{node_note}
use Rattle.mu_blobsrv.specs.declared.server.BlobServer.{BlobServer}
use Rattle.mu_blobsrv.specs.Views.{store_of, place_of}
use Rattle.mu_kept.specs.Views.{part_in, flags_in}
use Rattle.mu_place.specs.Place.{place_record}
use Rattle.mu_model_shown_node.specs.Shown.{InMemory}

abbrev pub memory_with : {F : Type 0} {g : _} → BlobServer F g → NodeNote → InMemory
memory_with server note = record { present = place_record (place_of server); part = part_in (store_of server); note = node_note note; held = flags_in (store_of server) }

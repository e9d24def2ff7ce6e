-- What a node's flash represents is what the node has in memory.
use Rattle.std.proofs.Common.{◌≡◌, ◌∙◌, Option, Some, None, refl, sym, ap, subst}
use Rattle.mu_model_record.specs.Store.{StoreState}
use Rattle.mu_model_node.specs.Slots.{received}
use Rattle.mu_model_node.specs.NodeState.{NodeDurable}
use Rattle.mu_model_represents.specs.BlobPart.{BlobJob}
use Rattle.mu_model_represents.specs.RepresentsNode.{IsNodeRecord, IsNode, IsNodeOf}
use Rattle.mu_model_represents.specs.BlobPart.{IsBlobRecord}
use Rattle.mu_model_shown_node.specs.Shown.{InMemory, IsNodeMemory, IsShown, blocks_in, memory_of, RepresentedIsShown, MemoryIsOne}
use Rattle.mu_note.specs.declared.node.NodeNote.{NodeNote as NoteHere}
use Rattle.mu_note.specs.Views.{node_note}
use Rattle.mu_kept.specs.Shows.{held_in}
use Rattle.mu_kept.specs.Views.{part_in, flags_in}
use Rattle.mu_place.specs.Place.{place_record}
use Rattle.mu_blobsrv.specs.declared.server.BlobServer.{BlobServer}
use Rattle.mu_blobsrv.specs.Views.{store_of, place_of}
use Rattle.mu_node.specs.Rules.{GoesWith}
use Rattle.mu_node.specs.Memory.{memory_with}

same_blocks : (s : StoreState) (part : Option BlobJob) → blocks_in s part ≡ held_in s part
same_blocks s None = refl
same_blocks s (Some j) = refl

-- what a server says of a state that its flash represents
pub record Represents {F : Type 0} {g : _} (server : BlobServer F g) (s : StoreState) : Type 0 where
  pub present : s.present ≡ place_record (place_of server)
  pub shows : received (held_in s (part_in (store_of server))) ≡ flags_in (store_of server)

module _ {F : Type 0} {g : _} (server : BlobServer F g) (note : NoteHere) (s : StoreState) (is : Represents server s) where
  abbrev part : Option BlobJob
  part = part_in (store_of server)

  held_is : received (blocks_in s part) ≡ flags_in (store_of server)
  held_is = ap received (same_blocks s part) ∙ is.shows

  memory_is : memory_of s part (node_note note) ≡ memory_with server note
  memory_is = λ i. record { present = is.present i; part = part; note = node_note note; held = held_is i }

  pub shown_with : RepresentedIsShown → (d : NodeDurable) → IsNodeOf s part (node_note note) d → IsShown (memory_with server note) d
  shown_with law d of = subst (λ (m : InMemory). IsShown m d) memory_is (law s part (node_note note) d of)

  -- of a node's record there is one such memory
  pub node_with : MemoryIsOne → IsNodeMemory (memory_with server note) → (d : NodeDurable) → IsNode s d → IsNodeOf s part (node_note note) d
  node_with one rules d found =
      let here : IsNodeRecord s.present part (node_note note) = subst (λ r. IsNodeRecord r part (node_note note)) (sym is.present) rules in
      let same = one s part found.0 (node_note note) found.1 d here found.2 in
      subst (λ p. IsNodeOf s p (node_note note) d) same.0 (subst (λ n. IsNodeOf s found.0 n d) same.1 found.2)

-- a node's record, by the rules that its two halves keep
pub rules_with : {F : Type 0} {g : _} (server : BlobServer F g) (note : NoteHere) → IsBlobRecord (place_record (place_of server)) (part_in (store_of server))
    → GoesWith (place_record (place_of server)) (part_in (store_of server)) (node_note note) → IsNodeMemory (memory_with server note)
rules_with server note blob goes = record { blob = blob; note_octets = goes.octets; active_differ = goes.differ; active_sealed = goes.are_sealed; job = goes.job }

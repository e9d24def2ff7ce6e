-- What a chunk finds.
use Rattle.std.proofs.Common.{◌≡◌, ◌∙◌, ℕ, Bool, true, false, List, Option, Some, None, length, refl, sym, ap, subst, cond, arith}
use Rattle.std.specs.Prelude.{is_some, nat_lt}
use Rattle.std.proofs.lemmas.Bool.Decides.{nat_tests}
use Rattle.mu_model_image.specs.Pieces.{block_length, chunk_length}
use Rattle.mu_model_node.specs.declared.Parameters.{Parameters}
use Rattle.mu_model_node.specs.declared.Link.{Link}
use Rattle.mu_model_node.specs.Slots.{at}
use Rattle.mu_model_node.specs.BlobMessages.{ChunkTransfer}
use Rattle.mu_model_node.specs.BlobServer.{Server, heard_at}
use Rattle.mu_model_node.specs.BlobTable.{silently, on_blob}
use Rattle.std.specs.Option.{option_map}
use Rattle.mu_block.specs.Coming.{Coming, chunks_of, octets_of_chunk, with_chunk}
use Rattle.mu_blob_rows.specs.declared.looks.Look.{Look}
use Rattle.mu_blob_rows.specs.declared.looks.TransferLook.{TransferLook}
use Rattle.mu_blob_rows.specs.declared.looks.Serving.{Serving}
use Rattle.mu_blob_rows.specs.declared.looks.Serving.TheVariants.{NoJob, Lacking, Whole}
use Rattle.mu_blob_rows.specs.declared.table.ChunkLook.{ChunkLook}
use Rattle.mu_blob_rows.specs.Rows.{ChunkLooksIn, ChunkLooksBy, ChunkLooksOf, ChunkLooksSo}
use Rattle.mu_blob_session.specs.Blocks.{block_look}
use Rattle.mu_blob_session.specs.Sound.{IsBlockOf, Suits}
use Rattle.mu_blob_session.specs.Came.{chunk_look}

-- ---- the look at a chunk is one at the model's

looks_in : (p : Parameters) (c : Coming) (chunk : ℕ) (below : Bool) → nat_lt chunk (length c.block.chunks) ≡ below → c.size ≡ block_length p.size p.log c.block.number
    → ChunkLooksIn p (record { number = c.block.number; chunk_size = c.block.chunk_size }) chunk c.block.chunks (cond below (Some (record { octets = chunk_length c.size c.block.chunk_size chunk; is_received = is_some (at c.block.chunks chunk) })) None)
looks_in p c chunk true e size = (grind (arith, nat_tests), ap (λ (n : ℕ). chunk_length n c.block.chunk_size chunk) size, refl)
looks_in p c chunk false e size = grind (arith, nat_tests)

abbrev IfComes : Option Parameters → Option Coming → Type 0
IfComes q None = Unit {0}
IfComes q (Some c) = IsBlockOf q c

looks_by : (q : Option Parameters) (coming : Option Coming) (chunk : ℕ) → IfComes q coming → ChunkLooksBy q (block_look coming) chunk (chunks_of coming) (chunk_look coming chunk)
looks_by None None chunk h = tt
looks_by None (Some c) chunk h = tt
looks_by (Some p) None chunk h = tt
looks_by (Some p) (Some c) chunk h = looks_in p c chunk (nat_lt chunk (length c.block.chunks)) refl h.1

comes_of : (t : TransferLook) (link : Link) (coming : Option Coming) → Suits (Lacking t) link coming → IfComes t.parameters coming
comes_of t link None s = tt
comes_of t link (Some c) s = s.1

looks_of : (serving : Serving) (link : Link) (coming : Option Coming) (chunk : ℕ) → Suits serving link coming → ChunkLooksOf serving (block_look coming) chunk (chunks_of coming) (chunk_look coming chunk)
looks_of NoJob link coming chunk s = tt
looks_of (Lacking t) link coming chunk s = looks_by t.parameters coming chunk (comes_of t link coming s)
looks_of (Whole t) link coming chunk s = tt

pub chunk_looks : (v : Look) (serving : Serving) (link : Link) (coming : Option Coming) (chunk : ℕ) → v.serving ≡ serving → v.current ≡ block_look coming → Suits serving link coming → ChunkLooksSo v chunk (chunks_of coming) (chunk_look coming chunk)
chunk_looks v serving link coming chunk e k s =
    rw (e, k) (looks_of serving link coming chunk s)

-- ---- a chunk that is received has its place

place_by : (below : Bool) (n : ℕ) (received : Bool) (l : ChunkLook) → cond below (Some (record { octets = n; is_received = received })) None ≡ Some l → cond below (Some n) None ≡ Some l.octets
place_by true n received l e = cc
place_by false n received l e = absurd (cc e)

pub has_place : (coming : Option Coming) (chunk : ℕ) (l : ChunkLook) (octets : ℕ) → chunk_look coming chunk ≡ Some l → octets ≡ l.octets → octets_of_chunk coming chunk ≡ Some octets
has_place None chunk l octets e k = absurd (cc e)
has_place (Some c) chunk l octets e k =
    place_by (nat_lt chunk (length c.block.chunks)) (chunk_length c.size c.block.chunk_size chunk) (is_some (at c.block.chunks chunk)) l e ∙ ap (λ (n : ℕ). Some n) (sym k)

-- ---- the row of a server that is looked at is that of the server

pub passed : (v w : Server) (from chunk : ℕ) (octets : List ℕ) → v ≡ w → on_blob v from (ChunkTransfer chunk octets) ≡ silently v.session → on_blob w from (ChunkTransfer chunk octets) ≡ silently w.session
passed v w from chunk octets e row = subst (λ (x : Server). on_blob x from (ChunkTransfer chunk octets) ≡ silently x.session) e row

pub heard : (v w : Server) (from chunk : ℕ) (octets : List ℕ) → v ≡ w → on_blob v from (ChunkTransfer chunk octets) ≡ silently (heard_at v.now v.session) → on_blob w from (ChunkTransfer chunk octets) ≡ silently (heard_at w.now w.session)
heard v w from chunk octets e row = subst (λ (x : Server). on_blob x from (ChunkTransfer chunk octets) ≡ silently (heard_at x.now x.session)) e row

-- ---- the block keeps its number

pub same_number : (coming : Option Coming) (chunk : ℕ) (octets : List ℕ) → option_map (λ c. c.block.number) (option_map (λ c. with_chunk c chunk octets) coming) ≡ option_map (λ c. c.block.number) coming
same_number None chunk octets = refl
same_number (Some c) chunk octets = refl

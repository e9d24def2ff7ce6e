-- In a sound state what the BLOB phase has is sound.
use Rattle.std.proofs.Common.{◌≡◌, ◌<◌, ◌≤◌, ℕ, ◌+◌, ◌-◌, ◌*◌, ◌/◌, ◌^◌, length, sym, subst, arith, Option, Some, None}
use Rattle.std.proofs.lemmas.Nat.{div-add-mod', div_below, le-div}
use Rattle.std.proofs.Math.Nat.{mul-le-mul_left}
use Rattle.std.proofs.Math.Pow.{pow_mono}
use Rattle.mu_model_image.specs.Pieces.{piece_count, block_count, block_length, chunk_count}
use Rattle.mu_model_node.specs.Slots.{Slots}
use Rattle.mu_model_node.specs.BlobMessages.{Parameters}
use Rattle.mu_model_node.specs.BlobServer.{Transfer, CurrentBlock, Lacking, Whole, BlobPhase, Inactive, WaitingForStart, NextBlock, NextChunk, Complete, Suspended}
use Rattle.mu_model_node.specs.NodeState.{Job, NodeState, UpdatePhase, Verifying, Succeeded, Applying, update_phase, transfer_of, serving_in, server_of, blob_phase}
use Rattle.mu_model_node.specs.Sound.{AreBlocks, HasBlocks, IsJob, IsNodeState, IsCurrent, IsTransfer, IsComing, IsPhase}
use Rattle.mu_model_node.specs.Laws.{PhasesAreSound, WaitsForChunks, ChunksAreOfTheJob}
use Rattle.mu_model_node.proofs.Places.{block_is_short}
use Rattle.mu_model_node.proofs.BlobSound.{PhaseIs, phase_is, current_of}
use Rattle.mu_model_node.proofs.Moves.{PhaseOf, phase_of}
use Rattle.mu_model_node.proofs.NodeSound.{LackingJob, lacking_job, own_job, current_in}

-- a piece that begins within the whole isn't empty
begins_within : (whole size i : ℕ) → 0 < size → i < piece_count whole size → i * size < whole
begins_within whole size i positive h =
    let most : size * (i + 1) ≤ size * piece_count whole size = mul-le-mul_left size (omega arith) in
    omega (arith, most, div-add-mod' (whole + size - 1) size)

power : (k : ℕ) → 0 < 2 ^ k
power k = let zero_below : 0 ≤ k = omega arith in let least : 2 ^ 0 ≤ 2 ^ k = pow_mono zero_below in least

-- a job of 256 pages has at most 256 blocks
few_count : (size log : ℕ) → size ≤ 1048576 → 12 ≤ log → block_count size log ≤ 256
few_count size log h k =
    let least : 2 ^ 12 ≤ 2 ^ log = pow_mono k in
    let unit : 4096 ≤ 2 ^ log = least in
    let below : block_count size log < 257 = div_below (size + 2 ^ log - 1) (2 ^ log) 257 (omega arith) (omega arith) in
    omega arith

few_blocks : (expected : ℕ) (parameters : Option Parameters) (held : Slots) → expected ≤ 1048576 → HasBlocks expected parameters held → length held ≤ 256
few_blocks expected None held small h = rw h (omega arith)
few_blocks expected (Some p) held small h =
    let size : p.size ≡ expected = h.size in
    rw (h.count) (few_count p.size p.log (omega arith) h.log_above)

job_size : (s : NodeState) (j : Job) → IsNodeState s → IsJob s.durable.capacity s.durable.images j → j.meta.size ≤ 1048576
job_size s j h own =
    let pages = h.durable.capacity in
    let most : pages.0 ≤ 256 = pages.2 in
    let capacity : s.durable.capacity ≡ 4096 * pages.0 = pages.3 in
    let room : j.meta.size ≤ s.durable.capacity = own.room in
    omega arith

transfers : (s : NodeState) (t : Transfer) (p : Parameters) → IsNodeState s → (server_of s).serving ≡ Lacking t → t.parameters ≡ Some p → IsTransfer t p
transfers s t p h is has =
    let l : LackingJob s.durable.job t = lacking_job s.durable.job (update_phase s) t (phase_of s.session.link s.durable.job) is in
    let own : IsJob s.durable.capacity s.durable.images l.of = own_job s l.of h l.is in
    let parameters : l.of.parameters ≡ Some p = subst (λ (x : Transfer). x.parameters ≡ Some p) l.transfer has in
    let here : AreBlocks l.of.meta.size p l.of.held = subst (λ x. HasBlocks l.of.meta.size x l.of.held) parameters own.blocks in
    let blocks : AreBlocks t.size p t.held = subst (λ (x : Transfer). AreBlocks x.size p x.held) (sym l.transfer) here in
    let pages = h.durable.capacity in
    let most : pages.0 ≤ 256 = pages.2 in
    let capacity : s.durable.capacity ≡ 4096 * pages.0 = pages.3 in
    let some : 0 < l.of.meta.size = own.some in
    let room : l.of.meta.size ≤ s.durable.capacity = own.room in
    let size : p.size ≡ l.of.meta.size = here.size in
    let few : length t.held ≤ 256 = subst (λ (x : Transfer). length x.held ≤ 256) (sym l.transfer) (few_blocks l.of.meta.size l.of.parameters l.of.held (job_size s l.of h own) own.blocks) in
    record { some = omega arith; few_octets = omega arith; few_blocks = few; blocks = blocks }

few : (n c : ℕ) → n ≤ 16384 → 8 ≤ c → chunk_count n c ≤ 2048
few n c h k = let below : (n + c - 1) / c < 2049 = div_below (n + c - 1) c 2049 (omega arith) (omega arith) in omega arith

one : (n c : ℕ) → 1 ≤ n → 8 ≤ c → 1 ≤ chunk_count n c
one n c h k = le-div 1 (n + c - 1) c (omega arith) (omega arith)

comes : (t : Transfer) (p : Parameters) (c : CurrentBlock) → IsTransfer t p → IsCurrent p t.held c → IsComing t p c
comes t p c h k =
    let short : block_length p.size p.log c.number ≤ 16384 = block_is_short p.size p.log c.number h.blocks.log_below in
    let within : c.number < block_count p.size p.log = subst (λ n. c.number < n) h.blocks.count k.number in
    let begins : c.number * 2 ^ p.log < p.size = begins_within p.size (2 ^ p.log) c.number (power p.log) within in
    let next : (c.number + 1) * 2 ^ p.log ≡ c.number * 2 ^ p.log + 2 ^ p.log = grind arith in
    let positive : 0 < 2 ^ p.log = power p.log in
    let some : 1 ≤ block_length p.size p.log c.number = rw next (omega arith) in
    record {
      transfer = h;
      current = k;
      some_chunk = rw (k.count) (one (block_length p.size p.log c.number) c.chunk_size some k.size_above);
      few_chunks = rw (k.count) (few (block_length p.size p.log c.number) c.chunk_size short k.size_above);
    }

-- a whole transfer is that of the job
wholes_of : (s : NodeState) (j : Job) (t : Transfer) → IsNodeState s → s.durable.job ≡ Some j → Whole (transfer_of j) ≡ Whole t → length t.held ≤ 256
wholes_of s j t h is e =
    let own : IsJob s.durable.capacity s.durable.images j = own_job s j h is in
    let same : transfer_of j ≡ t = cc in
    subst (λ (x : Transfer). length x.held ≤ 256) same (few_blocks j.meta.size j.parameters j.held (job_size s j h own) own.blocks)

wholes : (s : NodeState) (phase : UpdatePhase) (t : Transfer) → IsNodeState s → PhaseOf s.durable.job phase → serving_in phase ≡ Whole t → length t.held ≤ 256
wholes s (Verifying j) t h is e = wholes_of s j t h is.0 e
wholes s (Succeeded j) t h is e = wholes_of s j t h is.0 e
wholes s (Applying j) t h is e = wholes_of s j t h is.0 e
wholes s _ t h is e = cc

sound_phase : (s : NodeState) (phase : BlobPhase) → IsNodeState s → PhaseIs (server_of s) phase → IsPhase phase
sound_phase s Inactive h is = tt
sound_phase s (WaitingForStart t) h is = tt
sound_phase s (NextBlock t p) h is = transfers s t p h is.0 is.1
sound_phase s (NextChunk t p c) h is =
    comes t p c (transfers s t p h is.0 is.1)
    (current_of (server_of s) t p c is.0 is.1 is.2 (current_in s.durable.job s.session.link s.session.current h.current))
sound_phase s (Complete t) h is = wholes s (update_phase s) t h (phase_of s.session.link s.durable.job) is
sound_phase s (Suspended t p) h is = transfers s t p h is.0 is.1

pub phases_are_sound : PhasesAreSound
phases_are_sound s h = sound_phase s (blob_phase s) h (phase_is (server_of s))

chunks_of : (s : NodeState) (t : Transfer) (p : Parameters) (c : CurrentBlock) → PhaseIs (server_of s) (NextChunk t p c) → WaitsForChunks s t p c
chunks_of s t p c h =
    let l : LackingJob s.durable.job t = lacking_job s.durable.job (update_phase s) t (phase_of s.session.link s.durable.job) h.0 in
    record { of = l.of; is = l.is; transfer = l.transfer; parameters = subst (λ (x : Transfer). x.parameters ≡ Some p) l.transfer h.1; current = h.2 }

pub chunks_are_of_the_job : ChunksAreOfTheJob
chunks_are_of_the_job s t p c e = chunks_of s t p c (subst (PhaseIs (server_of s)) e (phase_is (server_of s)))

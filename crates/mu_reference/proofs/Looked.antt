-- What follows from a decision over a look.
use Rattle.std.proofs.Common.{◌≡◌, ◌≤◌, ◌<◌, ◌∙◌, ℕ, Bool, true, false, List, [], ◌∷◌, length, refl, sym, ap, subst, arith, Option, Some, None, ◌+◌, ◌-◌, ◌*◌, ◌^◌}
use Rattle.std.specs.Prelude.{◌==◌, is_none, is_some}
use Rattle.std.specs.List.{count_by}
use Rattle.std.proofs.lemmas.Bool.Decides.{nat_tests}
use Rattle.std.proofs.lemmas.Nat.{div_below}
use Rattle.std.proofs.lemmas.List.{length-map}
use Rattle.std.proofs.Math.Pow.{pow_mono}
use Rattle.mu_model_wire.specs.Reports.{complement}
use Rattle.mu_model_image.specs.Pieces.{block_count}
use Rattle.mu_model_node.specs.declared.Link.TheVariants.{Running}
use Rattle.mu_model_node.specs.declared.Stored.TheVariants.{Filling}
use Rattle.mu_model_node.specs.Slots.{Slots, at, is_full, missing, received}
use Rattle.mu_model_node.specs.BlobServer.{CurrentBlock, NextBlock, NextChunk, Lacking as LackingModel, server_phase, serving_phase}
use Rattle.mu_model_node.specs.NodeState.{Job, NodeState, UpdatePhase, Idle, TransferError, TransferActive, Verifying, Succeeded, Failed, Applying, transfer_of, serving_in, blob_phase}
use Rattle.mu_model_node.specs.Sound.{HasBlocks, IsJob, HasJob, HasCurrent, IsCurrentOf, IsNodeState, IsTransfer, IsComing, IsPhase}
use Rattle.mu_model_node.specs.Laws.{PhasesAreSound}
use Rattle.mu_reference.proofs.Lacking.{full_test, some_lacking}
use Rattle.mu_model_node.specs.declared.Parameters.{Parameters}
use Rattle.mu_blob_rows.specs.declared.looks.Serving.{Serving}
use Rattle.mu_blob_rows.specs.declared.looks.Serving.TheVariants.{NoJob, Lacking, Whole}
use Rattle.mu_blob_rows.specs.declared.table.TransferChange.{TransferChange}
use Rattle.mu_blob_rows.specs.declared.table.TransferChange.TheVariants.{Nothing, Begin, Drop}
use Rattle.mu_blob_rows.specs.declared.looks.Look.{Look}
use Rattle.mu_blob_rows.specs.declared.looks.BlockLook.{BlockLook}
use Rattle.mu_blob_rows.specs.declared.session.Session.{Session as RowSession}
use Rattle.mu_blob_rows.specs.declared.session.SessionChange.{SessionChange}
use Rattle.mu_blob_rows.specs.declared.session.SessionChange.TheVariants.{Link, Holds, Opens}
use Rattle.mu_blob_rows.specs.declared.table.BlocksLook.{BlocksLook}
use Rattle.mu_blob_rows.specs.declared.table.ReportTold.{ReportTold}
use Rattle.mu_blob_rows.specs.declared.table.ReportTold.TheVariants.{All, Nothing as NoChunk, Missing}
use Rattle.mu_blob_rows.specs.Looks.{transfer_with, serving_with, current_with, session_with, server_with}
use Rattle.mu_blob_rows.specs.Rows.{ChangeFits, BlocksLookSo, LacksWith, SessionFits, ReportFits}
use Rattle.mu_blob_answers.specs.Fits.{CanReport}
use Rattle.mu_reference.specs.UpdateRows.{JobIs}
use Rattle.mu_reference.specs.BlobRows.{held_in, chunks_in, chunks_by, OpensWithin}
use Rattle.mu_reference.specs.Outcomes.{BeginsWithin}

-- a transfer that may be begun fits in the bank
pub begins_within : (serving : Serving) (capacity : ℕ) (p : Parameters) (change : TransferChange) → ChangeFits serving capacity p change → BeginsWithin capacity p change
begins_within serving capacity p Nothing h = tt
begins_within serving capacity p Drop h = tt
begins_within (Lacking t) capacity p Begin h = (h.2, h.3, h.4)
begins_within NoJob capacity p Begin h = absurd h
begins_within (Whole t) capacity p Begin h = absurd h

-- ---- the block that comes

pub missing_of_missing : (slots : Slots) → complement (missing slots) ≡ received slots
missing_of_missing [] = refl
missing_of_missing (None ∷ slots) = ap (λ (bs : List Bool). false ∷ bs) (missing_of_missing slots)
missing_of_missing (Some octets ∷ slots) = ap (λ (bs : List Bool). true ∷ bs) (missing_of_missing slots)

not_zero : (n : ℕ) → 1 ≤ n → (n == 0) ≡ false
not_zero n h = grind (arith, nat_tests)

not_full : (slots : Slots) (place : ℕ) → place < length slots → at slots place ≡ None → is_full slots ≡ false
not_full slots place h e = sym (full_test slots) ∙ not_zero (count_by is_none slots) (some_lacking slots place h e)

-- the node as it is while its link runs
abbrev running : NodeState → NodeState
running s = record s { session = record (s.session) { link = Running } }

coming_phase : (s : NodeState) (j : Job) (p : Parameters) (c : CurrentBlock) → s.durable.job ≡ Some j → j.stored ≡ Filling → j.parameters ≡ Some p → is_full j.held ≡ false → s.session.current ≡ Some c → blob_phase (running s) ≡ NextChunk (transfer_of j) p c
coming_phase s j p c is filling has lacks e = rw (is, filling, has, lacks, e) refl

-- a block that comes has at least one chunk and at most 2048
pub comes : (s : NodeState) (c : CurrentBlock) → PhasesAreSound → IsNodeState s → s.session.current ≡ Some c → (1 ≤ length c.chunks) × (length c.chunks ≤ 2048)
comes s c law h e =
    let own : IsCurrentOf s.durable.job c = subst (HasCurrent s.durable.job) e h.current in
    let lacks : is_full own.of.held ≡ false = not_full own.of.held c.number own.current.number own.current.unheld in
    let phase : blob_phase (running s) ≡ NextChunk (transfer_of own.of) own.parameters c = coming_phase s own.of own.parameters c own.is own.filling own.has lacks e in
    let sound : IsNodeState (running s) = record { durable = h.durable; fresh = h.fresh; current = h.current } in
    let coming : IsComing (transfer_of own.of) own.parameters c = subst IsPhase phase (law (running s) sound) in
    (coming.some_chunk, coming.few_chunks)

few_at : (s : NodeState) (current : Option CurrentBlock) → PhasesAreSound → IsNodeState s → s.session.current ≡ current → length (chunks_in current) ≤ 2048
few_at s None law h e = omega arith
few_at s (Some c) law h e = (comes s c law h e).1

pub few_chunks : (s : NodeState) → PhasesAreSound → IsNodeState s → length (chunks_by s) ≤ 2048
few_chunks s law h = few_at s s.session.current law h refl

some_missing : (s : NodeState) (look : Option BlockLook) (current : Option CurrentBlock) → PhasesAreSound → IsNodeState s → s.session.current ≡ current → current_with look (chunks_in current) ≡ current → is_some look ≡ true → 1 ≤ length (missing (chunks_in current))
some_missing s None current law h e k some = absurd (cc some)
some_missing s (Some b) None law h e k some = absurd (cc k)
some_missing s (Some b) (Some c) law h e k some =
    let count : length (missing c.chunks) ≡ length c.chunks = length-map c.chunks _ in
    let least : 1 ≤ length c.chunks = (comes s c law h e).0 in
    omega arith

pub can_report : (s : NodeState) (v : Look) (report : ReportTold) → PhasesAreSound → IsNodeState s → current_with v.current (chunks_by s) ≡ s.session.current → ReportFits v report → CanReport report (missing (chunks_by s))
can_report s v All law h e f = tt
can_report s v NoChunk law h e f = tt
can_report s v Missing law h e f = some_missing s v.current s.session.current law h refl e f

-- ---- the blocks

few_count : (size log : ℕ) → size ≤ 1048576 → 12 ≤ log → block_count size log ≤ 256
few_count size log h k =
    let least : 2 ^ 12 ≤ 2 ^ log = pow_mono k in
    let unit : 4096 ≤ 2 ^ log = least in
    let below : block_count size log < 257 = div_below (size + 2 ^ log - 1) (2 ^ log) 257 (omega arith) (omega arith) in
    omega arith

few_blocks : (expected : ℕ) (parameters : Option Parameters) (held : Slots) → expected ≤ 1048576 → HasBlocks expected parameters held → length held ≤ 256
few_blocks expected None held small h = rw h (omega arith)
few_blocks expected (Some p) held small h =
    let size : p.size ≡ expected = h.size in
    rw (h.count) (few_count p.size p.log (omega arith) h.log_above)

few_in : (s : NodeState) (j : Job) → IsNodeState s → s.durable.job ≡ Some j → length j.held ≤ 256
few_in s j h e =
    let own : IsJob s.durable.capacity s.durable.images j = subst (HasJob s.durable.capacity s.durable.images) e h.durable.job in
    let pages = h.durable.capacity in
    let most : pages.0 ≤ 256 = pages.2 in
    let capacity : s.durable.capacity ≡ 4096 * pages.0 = pages.3 in
    let room : j.meta.size ≤ s.durable.capacity = own.room in
    few_blocks j.meta.size j.parameters j.held (omega arith) own.blocks

pub few_held : (s : NodeState) (phase : UpdatePhase) → IsNodeState s → JobIs phase s.durable.job → length (held_in (serving_in phase)) ≤ 256
few_held s Idle h e = omega arith
few_held s (Failed j) h e = omega arith
few_held s (TransferError j) h e = few_in s j h e
few_held s (TransferActive j) h e = few_in s j h e
few_held s (Verifying j) h e = few_in s j h e
few_held s (Succeeded j) h e = few_in s j h e
few_held s (Applying j) h e = few_in s j h e

-- ---- a block that is opened

opening : (serving : Serving) (p : Parameters) (l : RowSession) (current : Option BlockLook) (held chunks : Slots) → IsPhase (serving_phase (session_with l current chunks) (serving_with serving held)) → LacksWith serving p → l.link ≡ Running → current ≡ None
    → (p.size ≤ 1048576) × (12 ≤ p.log) × (p.log ≤ 14) × (length held ≡ block_count p.size p.log)
opening NoJob p l current held chunks h lacks runs none = absurd lacks
opening (Whole t) p l current held chunks h lacks runs none = absurd lacks
opening (Lacking t) p l current held chunks h lacks runs none =
    let phase : serving_phase (session_with l current chunks) (LackingModel (transfer_with t held)) ≡ NextBlock (transfer_with t held) p = rw (lacks, runs, none) refl in
    let sound : IsTransfer (transfer_with t held) p = subst IsPhase phase h in
    (sound.few_octets, sound.blocks.log_above, sound.blocks.log_below, sound.blocks.count)

pub opens_within : (v : Look) (held chunks : Slots) (block : ℕ) (blocks : BlocksLook) (change : SessionChange) → IsPhase (server_phase (server_with v held chunks)) → BlocksLookSo held block blocks → SessionFits v blocks change → OpensWithin change
opens_within v held chunks block blocks (Link change) h k f = tt
opens_within v held chunks block blocks (Holds n size) h k f = tt
opens_within v held chunks block blocks (Opens p n size) h k f =
    let sound = opening v.serving p v.session.now v.current held chunks h f.0 f.1 f.2 in
    let below : n < block_count p.size p.log = omega (arith, f.3, k.0, sound.3) in
    (sound.0, sound.1, sound.2, below, f.5, f.6)

-- so where no block is opened
pub never_opens : (v : Look) (change : SessionChange) → SessionFits v (record { count = 0; is_held = true }) change → OpensWithin change
never_opens v (Link change) f = tt
never_opens v (Holds n size) f = tt
never_opens v (Opens p n size) f = absurd (cc f.4)

pub few_missing : (s : NodeState) (phase : UpdatePhase) (set : List Bool) → IsNodeState s → JobIs phase s.durable.job → set ≡ missing (held_in (serving_in phase)) → length set ≤ 256
few_missing s phase set h k e =
    let count : length (missing (held_in (serving_in phase))) ≡ length (held_in (serving_in phase)) = length-map (held_in (serving_in phase)) _ in
    let few : length (held_in (serving_in phase)) ≤ 256 = few_held s phase h k in
    let same : length set ≡ length (missing (held_in (serving_in phase))) = ap length e in
    omega arith

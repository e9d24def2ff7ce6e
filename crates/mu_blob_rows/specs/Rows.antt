-- What the decisions of the table mean, as the model's rows.
use Rattle.std.specs.Prelude.{ℕ, ◌≡◌, ◌<◌, ◌≤◌, ◌==◌, not, if◌then◌else◌, true, false, Bool, List, length, is_some, Option, None, Some}
use Rattle.mu_model_wire.specs.Reports.{report_of}
use Rattle.mu_model_wire.specs.declared.reports.Report.{Report}
use Rattle.mu_model_wire.specs.declared.reports.Report.TheVariants.{All as AllOf, Nothing as NothingOf}
use Rattle.mu_model_image.specs.Pieces.{block_length, chunk_length}
use Rattle.mu_model_node.specs.declared.Parameters.{Parameters}
use Rattle.mu_model_node.specs.declared.Link.TheVariants.{Running}
use Rattle.mu_model_node.specs.BlobMessages.{least_log, most_log, least_chunk, most_chunk}
use Rattle.mu_model_node.specs.BlobServer.{CurrentBlock, unlinked, heard_at, Server, Change, Same, Begins, Drops}
use Rattle.mu_model_node.specs.BlobTable.{Served, silently, tell, tell_block, receives, pulls, to_client}
use Rattle.mu_model_node.specs.Slots.{Slots, at, put, missing}
use Rattle.mu_blob_rows.specs.declared.looks.BlockLook.{BlockLook}
use Rattle.mu_blob_rows.specs.declared.looks.Look.{Look}
use Rattle.mu_blob_rows.specs.declared.looks.Serving.{Serving}
use Rattle.mu_blob_rows.specs.declared.looks.Serving.TheVariants.{NoJob, Lacking, Whole}
use Rattle.mu_blob_rows.specs.declared.session.SessionChange.{SessionChange}
use Rattle.mu_blob_rows.specs.declared.session.SessionChange.TheVariants.{Link as LinkChanges, Holds, Opens}
use Rattle.mu_blob_rows.specs.declared.session.LinkChange.{LinkChange}
use Rattle.mu_blob_rows.specs.declared.session.LinkChange.TheVariants.{Keeps, Hears, Links, Unlinks}
use Rattle.mu_blob_rows.specs.declared.table.TransferChange.{TransferChange}
use Rattle.mu_blob_rows.specs.declared.table.TransferChange.TheVariants.{Nothing, Begin, Drop}
use Rattle.mu_blob_rows.specs.declared.table.Told.{Told}
use Rattle.mu_blob_rows.specs.declared.table.ReportTold.{ReportTold}
use Rattle.mu_blob_rows.specs.declared.table.ReportTold.TheVariants.{All, Nothing as NoChunk, Missing}
use Rattle.mu_blob_rows.specs.declared.table.BlockTold.{BlockTold}
use Rattle.mu_blob_rows.specs.declared.table.BlocksLook.{BlocksLook}
use Rattle.mu_blob_rows.specs.declared.table.ChunkLook.{ChunkLook}
use Rattle.mu_blob_rows.specs.declared.table.ChunkStep.{ChunkStep}
use Rattle.mu_blob_rows.specs.declared.table.ChunkStep.TheVariants.{PassOver, Hear, Receive}
use Rattle.mu_blob_rows.specs.declared.timing.TimeStep.{TimeStep}
use Rattle.mu_blob_rows.specs.declared.timing.TimeStep.TheVariants.{Wait, Unlink, Pull}
use Rattle.mu_blob_rows.specs.Sessions.{link_by, session_by}

-- ---- Transfer Get, Transfer Start, Transfer Cancel

abbrev pub change_by : Parameters → TransferChange → Change
change_by p Nothing = Same
change_by p Begin = Begins p
change_by p Drop = Drops

abbrev pub told_by : Server → ℕ → Parameters → Told → Served
told_by v to p told = tell v (link_by told.link v.now to v.session) (change_by p told.change) to told.status

-- a transfer is begun only where a job has no parameters, with its size, in a bank of so many octets; parameters go only where
-- there are some, and blocks are missing
abbrev pub ChangeFits : Serving → ℕ → Parameters → TransferChange → Type 0
ChangeFits serving capacity p Nothing = Unit {0}
ChangeFits (Lacking t) capacity p Begin = (t.parameters ≡ None) × (p.size ≡ t.size) × (p.size ≤ capacity) × (least_log ≤ p.log) × (p.log ≤ most_log)
ChangeFits (Lacking t) capacity p Drop = is_some t.parameters ≡ true
ChangeFits NoJob capacity p Begin = ⊥
ChangeFits NoJob capacity p Drop = ⊥
ChangeFits (Whole t) capacity p Begin = ⊥
ChangeFits (Whole t) capacity p Drop = ⊥

-- ---- Block Start, Block Get

-- what a Block Start looks at of these blocks
abbrev pub BlocksLookSo : Slots → ℕ → BlocksLook → Type 0
BlocksLookSo held block look = (length held ≡ look.count) × (is_some (at held block) ≡ look.is_held)

-- the report of a set of missing chunks
abbrev pub report_by : ReportTold → List Bool → Report
report_by All set = AllOf
report_by NoChunk set = NothingOf
report_by Missing set = report_of set

abbrev pub block_told_by : Server → ℕ → Slots → BlockTold → Served
block_told_by v to chunks told = tell_block (session_by told.session v.now to v.session) to told.status told.block told.chunk_size (report_by told.report (missing chunks))

-- blocks are missing of a transfer with these parameters
abbrev pub LacksWith : Serving → Parameters → Type 0
LacksWith NoJob p = ⊥
LacksWith (Lacking t) p = t.parameters ≡ Some p
LacksWith (Whole t) p = ⊥

-- chunks are reported as missing only where a block comes
abbrev pub ReportFits : Look → ReportTold → Type 0
ReportFits v Missing = is_some v.current ≡ true
ReportFits v _ = Unit {0}

-- the link stays; a block is opened only where none comes and the link runs, and it is one of the transfer's that isn't held
abbrev pub SessionFits : Look → BlocksLook → SessionChange → Type 0
SessionFits v blocks (LinkChanges Keeps) = Unit {0}
SessionFits v blocks (LinkChanges Hears) = Unit {0}
SessionFits v blocks (LinkChanges Links) = ⊥
SessionFits v blocks (LinkChanges Unlinks) = ⊥
SessionFits v blocks (Holds block size) = Unit {0}
SessionFits v blocks (Opens p block size) =
    LacksWith v.serving p × (v.session.now.link ≡ Running) × (v.current ≡ None) × (block < blocks.count) × (blocks.is_held ≡ false) × (least_chunk ≤ size) × (size ≤ most_chunk)

-- a block that is opened is the one that was asked for
abbrev pub OpensThis : ℕ → SessionChange → Type 0
OpensThis block (Opens p n size) = n ≡ block
OpensThis block _ = Unit {0}

-- the link stays, heard or not
abbrev pub HearsOrKeeps : LinkChange → Type 0
HearsOrKeeps Keeps = Unit {0}
HearsOrKeeps Hears = Unit {0}
HearsOrKeeps Links = ⊥
HearsOrKeeps Unlinks = ⊥

-- ---- Chunk Transfer

-- what is done with a chunk that the block has
abbrev pub chunk_step : Parameters → ChunkLook → ℕ → ChunkStep
chunk_step p look octets = if not (octets == look.octets) then PassOver else if look.is_received then Hear else Receive p

-- what a Chunk Transfer looks at of a chunk, in a block of a transfer with these parameters
abbrev pub ChunkLooksIn : Parameters → BlockLook → ℕ → Slots → Option ChunkLook → Type 0
ChunkLooksIn p b chunk chunks None = length chunks ≤ chunk
ChunkLooksIn p b chunk chunks (Some look) =
    (chunk < length chunks) × (look.octets ≡ chunk_length (block_length p.size p.log b.number) b.chunk_size chunk) × (look.is_received ≡ is_some (at chunks chunk))

abbrev pub ChunkLooksBy : Option Parameters → Option BlockLook → ℕ → Slots → Option ChunkLook → Type 0
ChunkLooksBy (Some p) (Some b) chunk chunks look = ChunkLooksIn p b chunk chunks look
ChunkLooksBy _ _ chunk chunks look = Unit {0}

abbrev pub ChunkLooksOf : Serving → Option BlockLook → ℕ → Slots → Option ChunkLook → Type 0
ChunkLooksOf (Lacking t) current chunk chunks look = ChunkLooksBy t.parameters current chunk chunks look
ChunkLooksOf _ current chunk chunks look = Unit {0}

abbrev pub ChunkLooksSo : Look → ℕ → Slots → Option ChunkLook → Type 0
ChunkLooksSo v chunk chunks look = ChunkLooksOf v.serving v.current chunk chunks look

-- a chunk is received in the block that comes, if one does
abbrev pub received_in : Server → Parameters → ℕ → List ℕ → Option CurrentBlock → Served
received_in v p chunk octets None = silently v.session
received_in v p chunk octets (Some c) = receives (heard_at v.now v.session) p c (put c.chunks chunk octets)

abbrev pub chunk_stepped : Server → ℕ → List ℕ → ChunkStep → Served
chunk_stepped v chunk octets PassOver = silently v.session
chunk_stepped v chunk octets Hear = silently (heard_at v.now v.session)
chunk_stepped v chunk octets (Receive p) = received_in v p chunk octets v.session.current

-- a chunk is received only where a block comes that has such a chunk, of so many octets, and none was received yet
abbrev pub ChunkStepFits : Look → Option ChunkLook → ℕ → ChunkStep → Type 0
ChunkStepFits v (Some look) octets (Receive p) =
    LacksWith v.serving p × (v.session.now.link ≡ Running) × (is_some v.current ≡ true) × (octets ≡ look.octets) × (look.is_received ≡ false)
ChunkStepFits v None octets (Receive p) = ⊥
ChunkStepFits v look octets _ = Unit {0}

-- ---- the time event

-- what is pulled of the block that comes, if one does
abbrev pub pulled : Server → Option CurrentBlock → Served
pulled v None = silently v.session
pulled v (Some c) = pulls v c

abbrev pub time_stepped : Server → TimeStep → Served
time_stepped v Wait = silently v.session
time_stepped v Unlink = silently (unlinked v.session)
time_stepped v Pull = pulled v v.session.current

-- these chunks are asked for, or none is
abbrev pub asked_by : Server → Option (List ℕ) → Served
asked_by v None = silently v.session
asked_by v (Some chunks) = record {
  session = record (v.session) { report = Some (record { moment = v.now; chunks = chunks }) };
  change = Same;
  replies = to_client v.session.client chunks;
}

-- a pull is asked for only where a block comes
abbrev pub TimeStepFits : Look → TimeStep → Type 0
TimeStepFits v Pull = is_some v.current ≡ true
TimeStepFits v _ = Unit {0}

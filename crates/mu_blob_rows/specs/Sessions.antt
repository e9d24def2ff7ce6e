-- A session in memory as the model's, and what a row makes of it.
use Rattle.std.specs.Prelude.{ℕ, Option, Some, None}
pub use Rattle.mu_model_node.specs.There.{there}
use Rattle.mu_model_image.specs.Pieces.{block_length, chunk_count}
use Rattle.mu_model_node.specs.declared.Parameters.{Parameters}
use Rattle.mu_model_node.specs.Slots.{empty}
use Rattle.mu_model_node.specs.BlobServer.{CurrentBlock, PullReport, Session, unlinked, heard_at, linked}
use Rattle.mu_blob_rows.specs.declared.session.PullReport.{PullReport as PullReportHere}
use Rattle.mu_blob_rows.specs.declared.session.Session.{Session as SessionHere}
use Rattle.mu_blob_rows.specs.declared.session.LinkChange.{LinkChange}
use Rattle.mu_blob_rows.specs.declared.session.LinkChange.TheVariants.{Keeps, Hears, Links, Unlinks}
use Rattle.mu_blob_rows.specs.declared.session.SessionChange.{SessionChange}
use Rattle.mu_blob_rows.specs.declared.session.SessionChange.TheVariants.{Link, Holds, Opens}

abbrev pub report_of : PullReportHere → PullReport
report_of r = record { moment = r.moment; chunks = r.chunks.items }

-- the block that comes, with its chunks, is the owner's
abbrev pub session_of : SessionHere → Option CurrentBlock → Session
session_of l current = record { link = l.link; current = current; last = l.last; client = l.client; heard = l.heard; report = there report_of l.report }

-- ---- what a row makes of it, at a moment, by a packet's source

abbrev pub link_by : LinkChange → ℕ → ℕ → Session → Session
link_by Keeps now from l = l
link_by Hears now from l = heard_at now l
link_by Links now from l = linked now from l
link_by Unlinks now from l = unlinked l

-- a block of a transfer with these parameters, with no chunk received
abbrev pub opened : Parameters → ℕ → ℕ → CurrentBlock
opened p block size = record { number = block; chunk_size = size; chunks = empty (chunk_count (block_length p.size p.log block) size) }

abbrev pub session_by : SessionChange → ℕ → ℕ → Session → Session
session_by (Link change) now from l = link_by change now from l
session_by (Holds block size) now from l = heard_at now (record l { last = Some (record { number = block; chunk_size = size }) })
session_by (Opens p block size) now from l = heard_at now (record l { current = Some (opened p block size); report = None })

-- ---- what becomes of the block that comes

abbrev pub current_by_link : LinkChange → Option CurrentBlock → Option CurrentBlock
current_by_link Unlinks current = None
current_by_link _ current = current

abbrev pub current_by : SessionChange → Option CurrentBlock → Option CurrentBlock
current_by (Link change) current = current_by_link change current
current_by (Holds block size) current = current
current_by (Opens p block size) current = Some (opened p block size)

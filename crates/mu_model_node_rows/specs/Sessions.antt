-- What a node has of a link that isn't kept: it goes wherever the link is cut.
use Rattle.std.specs.Prelude.{ℕ, ◌≡◌, ◌++◌, Bool, List, [], ◌∷◌, Option, Some, None, if◌then◌else◌, is_some}
use Rattle.mu_model_node.specs.declared.Link.{Link}
use Rattle.mu_model_node.specs.declared.Link.TheVariants.{Cut, Ready, Running}
use Rattle.mu_model_node.specs.BlobServer.{Session}
use Rattle.mu_model_node.specs.Events.{TimeComes}
use Rattle.mu_model_node.specs.Safe.{Happening, Done}
use Rattle.mu_model_node_rows.specs.Scenes.{said, at, to_start, to_transfer, to_block, to_whole, to_verified, to_applying, to_failed, to_suspended, to_resumed, update_start, update_cancel, start_transfer, transfer_start, transfer_cancel, block_start}

abbrev pub link_number : Link → ℕ
link_number Cut = 0
link_number Ready = 1
link_number Running = 2

abbrev pub client_of : Option ℕ → ℕ
client_of None = 0
client_of (Some client) = client

abbrev pub if_there : Bool → ℕ
if_there there = if there then 1 else 0

-- the link, whether there are a current block and a last one, the client's address or 0, and whether there is a report
abbrev pub seen_of : Session → List ℕ
seen_of l = link_number l.link ∷ if_there (is_some l.current) ∷ if_there (is_some l.last) ∷ client_of l.client ∷ if_there (is_some l.report) ∷ []

abbrev pub left_after : List Happening → List ℕ
left_after happenings = seen_of (at happenings).session

-- a block that is pulled, and asked for
abbrev pub to_pulled : List Happening
to_pulled = to_start ++ said (start_transfer 0x80 7 3 0 12 0x7c 1) ∷ said (block_start 0 8 0) ∷ Done TimeComes 1 ∷ []

pub record Sessions : Type 0 where
  pub started : left_after to_start ≡ 1 ∷ 0 ∷ 0 ∷ 0 ∷ 0 ∷ []
  pub running : left_after to_transfer ≡ 2 ∷ 0 ∷ 0 ∷ 1 ∷ 0 ∷ []
  pub in_block : left_after to_block ≡ 2 ∷ 1 ∷ 0 ∷ 1 ∷ 0 ∷ []
  pub whole : left_after to_whole ≡ 2 ∷ 0 ∷ 1 ∷ 1 ∷ 0 ∷ []
  pub verified : left_after to_verified ≡ 2 ∷ 0 ∷ 1 ∷ 1 ∷ 0 ∷ []
  pub applying : left_after to_applying ≡ 2 ∷ 0 ∷ 1 ∷ 1 ∷ 0 ∷ []
  pub pulled : left_after to_pulled ≡ 2 ∷ 1 ∷ 0 ∷ 1 ∷ 1 ∷ []
  -- where the blocks aren't the image that was offered, where the job goes, and by a timeout, a cancel and a boot
  pub failed : left_after to_failed ≡ 0 ∷ 0 ∷ 0 ∷ 0 ∷ 0 ∷ []
  pub active : left_after (to_applying ++ Done TimeComes 0 ∷ []) ≡ 0 ∷ 0 ∷ 0 ∷ 0 ∷ 0 ∷ []
  pub canceled : left_after (to_whole ++ said update_cancel ∷ []) ≡ 0 ∷ 0 ∷ 0 ∷ 0 ∷ 0 ∷ []
  pub pull_canceled : left_after (to_pulled ++ said update_cancel ∷ []) ≡ 0 ∷ 0 ∷ 0 ∷ 0 ∷ 0 ∷ []
  pub transfer_canceled : left_after (to_pulled ++ said (transfer_cancel 7) ∷ []) ≡ 0 ∷ 0 ∷ 0 ∷ 0 ∷ 0 ∷ []
  pub timed_out : left_after (to_pulled ++ Done TimeComes 10000 ∷ []) ≡ 0 ∷ 0 ∷ 0 ∷ 0 ∷ 0 ∷ []
  pub suspended : left_after to_suspended ≡ 0 ∷ 0 ∷ 0 ∷ 0 ∷ 0 ∷ []
  -- a new job, and one that is started again
  pub anew : left_after (to_failed ++ said update_start ∷ []) ≡ 1 ∷ 0 ∷ 0 ∷ 0 ∷ 0 ∷ []
  pub resumed : left_after to_resumed ≡ 1 ∷ 0 ∷ 0 ∷ 0 ∷ 0 ∷ []
  pub goes_on : left_after (to_resumed ++ said transfer_start ∷ []) ≡ 2 ∷ 0 ∷ 0 ∷ 1 ∷ 0 ∷ []

-- The numbers and sets that a client keeps, within their bounds.
use Rattle.std.specs.Prelude.{ℕ, ◌≡◌, ◌≤◌, ◌<◌, ◌⊎◌, Bool, true, List, [], length}
use Rattle.std.specs.List.{AllByRecursion}
pub use Rattle.mu_model_client.specs.Places.{StepFits, PlaceFits}
use Rattle.mu_model_client.specs.declared.Sending.{Sending}
use Rattle.mu_model_client.specs.declared.Plan.{Plan}
use Rattle.mu_model_client.specs.declared.Stage.{Stage}
use Rattle.mu_model_client.specs.Answers.{Answer}
use Rattle.mu_model_client.specs.Rows.{Row}
use Rattle.mu_model_client.specs.Client.{Step, Block, Chunks, Pull, Get, Receiver, is_active, Place, Before, At, Verified, Client, block_total, chunk_total}
use Rattle.mu_model_client.specs.Begin.{start, start_blob, resume, take_apply, take_cancel}
use Rattle.mu_model_client.specs.Told.{told, most_barren}
use Rattle.mu_model_client.specs.Due.{due}
use Rattle.mu_model_client.specs.Going.{most_silent}
use Rattle.mu_model_client_laws.specs.Laws.{IsSound}

-- ---- sets

-- nothing is known, or a set of numbers below n
abbrev pub HasLength : ℕ → List Bool → Type 0
HasLength n set = (set ≡ []) ⊎ (length set ≡ n)

-- a set of chunks of one of the blocks
pub record IsOfBlock (p : Sending) (set : List Bool) : Type 0 where
  pub block : ℕ
  pub within : block < block_total p
  pub long : length set ≡ chunk_total p block

abbrev pub HasChunks : Sending → List Bool → Type 0
HasChunks p set = (set ≡ []) ⊎ IsOfBlock p set

-- while a block is pulled, of this block
abbrev pub WantsIn : Sending → Step → List Bool → Type 0
WantsIn p (Pull b) set = HasLength (chunk_total p b) set
WantsIn p step set = HasChunks p set

abbrev pub WantsAt : Sending → Place → List Bool → Type 0
WantsAt p (At step) set = WantsIn p step set
WantsAt p place set = HasChunks p set

-- ---- clients

pub record IsWithin (p : Sending) (place : Place) (r : Receiver) : Type 0 where
  pub silent : r.silent ≤ most_silent
  pub barren : r.barren ≤ most_barren
  pub few_barren : is_active r ≡ true → r.barren < most_barren
  pub blocks : HasLength (block_total p) r.blocks
  pub chunks : HasChunks p r.chunks
  pub wanted : WantsAt p place r.wanted

pub record IsBounded (c : Client) : Type 0 where
  pub began : c.began ≤ c.moment
  pub fits : PlaceFits c.sending c.place
  pub receivers : AllByRecursion (IsWithin c.sending c.place) c.receivers

pub record BeginBounded : Type 0 where
  pub starts : (plan : Plan) (to : List (ℕ × ℕ)) → IsBounded (start plan to)
  pub blobs : (p : Sending) (to : List ℕ) → IsBounded (start_blob p to)
  pub resumes : (plan : Plan) (rows : List Row) (stage : Stage) → IsBounded (resume plan rows stage)

abbrev pub BeginsBounded : Type 0
BeginsBounded = BeginBounded

pub record EventsBounded : Type 0 where
  pub tells : (c : Client) (from : ℕ) (answer : Answer) (now : ℕ) → IsSound c → IsBounded c → IsBounded (told c from answer now)
  pub dues : (c : Client) (image : List ℕ) (now : ℕ) → IsSound c → IsBounded c → IsBounded (due c image now).next
  -- where it is Verified
  pub applies : (c : Client) → c.place ≡ Verified → IsBounded c → IsBounded (take_apply c)
  pub cancels : (c : Client) → IsBounded c → IsBounded (take_cancel c)

abbrev pub EventsKeepBounds : Type 0
EventsKeepBounds = EventsBounded

-- What an event comes to at a distributor, and its record: each event that changes what is kept writes one record, at its end and
-- before anything is sent (this profile).
use Rattle.std.specs.Prelude.{ℕ, ◌+◌, ◌==◌, Bool, true, false, ◌&&◌, not, List, [], ◌∷◌, Result, Ok, Err, drop}
use Rattle.mu_model_node.specs.declared.FlashWork.{FlashWork}
use Rattle.mu_model_node.specs.declared.FlashWork.TheVariants.{Untouched, Recorded}
use Rattle.mu_model_node.specs.FlashWork.{fresh_after}
use Rattle.mu_model_distributor.specs.Replies.{DistReply}
use Rattle.mu_model_distributor.specs.DistMessages.{Sent, ByDistribution}
use Rattle.mu_model_distributor.specs.Same.{same_durable}
use Rattle.mu_model_distributor.specs.DistState.{Receiver, DistDurable, DistState, run_upload}

-- the state after an event, what is sent, each with its destination, and what the event does to the flash
pub record Outcome : Type 0 where
  pub next : DistState
  pub sends : List (ℕ × Sent)
  pub work : FlashWork

-- nothing changes
abbrev pub silently : DistState → Outcome
silently s = record { next = s; sends = []; work = Untouched }

-- ---- the record

-- A record has 512 octets before it is long. The receivers stand from octet 448 on, each in 6: address in 2, index, phase, update
-- status, transfer status. So 10 receivers fit; an eleventh has its two statuses past the end, and a twelfth has its address there.
abbrev pub is_past : List Receiver → Bool
is_past [] = false
is_past (r ∷ []) = not ((r.update_status == 0) && (r.transfer_status == 0))
is_past _ = true

abbrev pub is_long : DistDurable → Bool
is_long d = is_past (drop 10 d.receivers)

-- one record, which says the upload phase of the run
abbrev pub recorded : DistState → DistState
recorded t = record t {
  durable = record (t.durable) { count = t.durable.count + 1; upload = run_upload t };
  fresh = fresh_after (is_long t.durable) t.fresh;
  lags = false;
}

-- from s to t, where t is as it should be but for the record: there is one exactly where what is kept would be another
abbrev pub recorded_if : DistState → Bool → DistState
recorded_if t true = t
recorded_if t false = recorded t

abbrev pub work_to : DistState → Bool → FlashWork
work_to t true = Untouched
work_to t false = Recorded (is_long t.durable)

abbrev pub committed : DistState → DistState → DistState
committed s t = recorded_if t (same_durable s.durable t.durable)

-- and what is sent is sent after it
abbrev pub ends : DistState → DistState → (DistState → List (ℕ × Sent)) → Outcome
ends s t says = record { next = committed s t; sends = says (committed s t); work = work_to t (same_durable s.durable t.durable) }

-- ---- answers

-- nothing changes but that this is told
abbrev pub tells : DistState → ℕ → DistReply → Outcome
tells s to reply = record { next = s; sends = (to, ByDistribution reply) ∷ []; work = Untouched }

-- the state that a request leads to, or the status that refuses it; a request that is refused changes nothing
abbrev pub answered : DistState → ℕ → (ℕ → DistState → DistReply) → Result DistState ℕ → Outcome
answered s to show (Ok t) = ends s t (λ u. (to, ByDistribution (show 0 u)) ∷ [])
answered s to show (Err status) = tells s to (show status s)

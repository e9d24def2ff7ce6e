-- The log: what an event, a boot included, did at a node, found by comparing the states before and after (this profile).
use Rattle.std.specs.Prelude.{ℕ, ◌==◌, Bool, true, false, ◌&&◌, ◌||◌, not, List, [], ◌∷◌, ◌++◌, Option, Some, None, if◌then◌else◌}
use Rattle.mu_model_image.specs.declared.Meta.{Meta}
use Rattle.mu_model_node.specs.NodeState.{Stored, Filling, Verified, Refused, Applied, Job, NodeState, update_phase, update_number}
use Rattle.mu_model_node.specs.UpdateTable.{same_meta}

pub data LogEntry : Type 0 where
  -- an Update Start wrote a new job with this BLOB ID, for the image of this index
  Took : (id index : ℕ) → Meta → LogEntry
  -- an Update Apply reached the job verified
  Asked : (id : ℕ) → LogEntry
  -- the active image of an index is another
  Active : (index : ℕ) → Meta → LogEntry
  -- the job went by an Update Cancel
  Canceled : (id : ℕ) → LogEntry
  -- the update phase is this with the job, and wasn't so before, or the job is new
  Reached : (id phase : ℕ) → LogEntry

abbrev pub same_job : Job → Job → Bool
same_job new old = (new.ttl == old.ttl) && (new.base == old.base) && (new.id == old.id) && (new.index == old.index) && same_meta new.meta old.meta

-- a job that was found unfit is filled again only where an Update Start wrote it anew
abbrev pub reopened : Stored → Stored → Bool
reopened Refused Filling = true
reopened _ _ = false

abbrev pub is_new : Option Job → Job → Bool
is_new None new = true
is_new (Some old) new = not (same_job new old) || reopened old.stored new.stored

abbrev pub took : Option Job → Option Job → List LogEntry
took old None = []
took old (Some new) = if is_new old new then Took new.id new.index new.meta ∷ [] else []

abbrev pub asked_by : ℕ → Stored → Stored → List LogEntry
asked_by id Verified Applied = Asked id ∷ []
asked_by id _ _ = []

abbrev pub asked : Option Job → Option Job → List LogEntry
asked (Some old) (Some new) = asked_by new.id old.stored new.stored
asked _ _ = []

-- a job that went: it was applied, or it was canceled
abbrev pub gone_by : Job → Stored → List LogEntry
gone_by old Applied = Active old.index old.meta ∷ []
gone_by old _ = Canceled old.id ∷ []

abbrev pub gone : Option Job → Option Job → List LogEntry
gone (Some old) None = gone_by old old.stored
gone _ _ = []

abbrev pub was_there : Option Job → Job → ℕ → ℕ → Bool
was_there None new before after = false
was_there (Some old) new before after = (before == after) && (old.id == new.id) && not (is_new (Some old) new)

abbrev pub reached : Option Job → Option Job → ℕ → ℕ → List LogEntry
reached old None before after = []
reached old (Some new) before after = if was_there old new before after then [] else Reached new.id after ∷ []

-- from a job to a job, and from an update phase to an update phase
abbrev pub logged_by : Option Job → Option Job → ℕ → ℕ → List LogEntry
logged_by old new before after = took old new ++ (asked old new ++ (gone old new ++ reached old new before after))

-- the entries of an event, from the state before it and the one after it
abbrev pub logged : NodeState → NodeState → List LogEntry
logged before after = logged_by before.durable.job after.durable.job (update_number (update_phase before)) (update_number (update_phase after))

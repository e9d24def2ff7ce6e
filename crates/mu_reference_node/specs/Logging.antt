-- What an event did, as entries of the log.
use Rattle.std.specs.Prelude.{ℕ, List, [], ◌∷◌, Option, Some, None}
use Rattle.mu_model_node.specs.NodeState.{Job}
use Rattle.mu_model_node.specs.Log.{LogEntry, Took as TookEntry, Asked as AskedEntry, Active as ActiveEntry, Canceled as CanceledEntry, Reached as ReachedEntry}
use Rattle.mu_model_node.specs.There.{there}
use Rattle.mu_reference_node.specs.declared.logging.What.{What}
use Rattle.mu_reference_node.specs.declared.logging.What.TheVariants.{Took, Asked, Active, Canceled, Reached}
use Rattle.mu_reference_node.specs.declared.logging.JobGlance.{JobGlance}
use Rattle.mu_reference_node.specs.declared.logging.Glance.{Glance}

abbrev pub what_of : What → LogEntry
what_of (Took id index meta) = TookEntry id index meta
what_of (Asked id) = AskedEntry id
what_of (Active index meta) = ActiveEntry index meta
what_of (Canceled id) = CanceledEntry id
what_of (Reached id phase) = ReachedEntry id phase

abbrev pub listed : Option What → List LogEntry
listed None = []
listed (Some what) = what_of what ∷ []

-- what the log looks at of a job: all but its transfer
abbrev pub bare : Job → Job
bare j = record j { parameters = None; held = [] }

abbrev pub seen : JobGlance → Job
seen g = record { id = g.id; index = g.index; meta = g.meta; ttl = g.ttl; base = g.base; stored = g.stored; parameters = None; held = [] }

abbrev pub job_seen : Glance → Option Job
job_seen g = there seen g.job

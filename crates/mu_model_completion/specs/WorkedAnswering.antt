-- Worked rows: a receiver that answers beside one that falls silent.
use Rattle.std.specs.Prelude.{ℕ, ◌≡◌, List, [], ◌∷◌, map, Option, Some, None}
use Rattle.mu_model_node.specs.declared.NodeConfig.{NodeConfig}
use Rattle.mu_model_node.specs.NodeState.{new_node, restarted}
use Rattle.mu_model_node.specs.UpdateMessages.{MetadataStatus, UpdateStatus}
use Rattle.mu_model_node.specs.Worked.{image_a, image_abc}
use Rattle.mu_model_client.specs.declared.Dropped.{Dropped}
use Rattle.mu_model_client.specs.declared.Dropped.TheVariants.{Silent, Status}
use Rattle.mu_model_client.specs.Answers.{Answer, FromUpdate, FromBlob, InformationIs, TransferIs, own_limits}
use Rattle.mu_model_client.specs.Client.{Receiver, rows}
use Rattle.mu_model_client.specs.Begin.{start, cause_of}
use Rattle.mu_model_completion.specs.Worked.{sending_abc, plan_abc, shown}
use Rattle.mu_model_completion.specs.Answering.{Answering, Turn, turns, InTime, with_index}

-- an update of two receivers of which 2 is a node, and 3 says what it is made to say
abbrev pub two : NodeConfig
two = record { address = 2; group = 0 }

abbrev pub begun : (mode : ℕ) → Answering
begun mode = record { client = start (record plan_abc { sending = record sending_abc { mode = mode } }) (map with_index (2 ∷ 3 ∷ [])); node = restarted (new_node 1 image_a) }

abbrev pub at : ℕ → Turn
at now = record { now = now; others = [] }

abbrev pub says : ℕ → Answer → Turn
says now answer = record { now = now; others = (3, answer) ∷ [] }

-- each receiver's row and drop
pub record Seen : Type 0 where
  pub rows : List (List ℕ)
  pub drops : List (Option Dropped)

abbrev pub seen_after : (mode : ℕ) → List Turn → Seen
seen_after mode ts = record {
  rows = map shown (rows (turns two image_abc.octets (begun mode) ts).client);
  drops = map (λ (r : Receiver). cause_of r.standing) (turns two image_abc.octets (begun mode) ts).client.receivers;
}

-- it never answers: it is dropped after five rounds of 4,100 ms, and the update of the other goes on from there
abbrev pub never_answers : List Turn
never_answers =
    at 100 ∷ at 4200 ∷ at 8300 ∷ at 12400 ∷ at 16500 ∷ at 20600
    ∷ at 20700 ∷ at 20800 ∷ at 20900 ∷ at 21000 ∷ at 21100 ∷ at 21200 ∷ at 21300 ∷ at 21400 ∷ []

-- it falls silent in a block: the five rounds are longer than the other's server timeout of 10,000 ms
abbrev pub falls_silent : List Turn
falls_silent =
    says 100 (FromUpdate (MetadataStatus 0 0))
    ∷ says 200 (FromUpdate (UpdateStatus 0 2 (Some (record { ttl = 5; base = 0; id = sending_abc.id; index = 0 }))))
    ∷ says 300 (FromBlob (InformationIs (own_limits 4096)))
    ∷ says 400 (FromBlob (TransferIs 0 2 (Some sending_abc.id) (Some (record { mode = 1; size = 3; log = 12; mtu = 380 })) (1 ∷ [])))
    ∷ at 500 ∷ at 4600 ∷ at 8700 ∷ at 12800 ∷ at 16900 ∷ at 21000 ∷ at 21100 ∷ []

-- what is seen once the receiver that answers has succeeded
abbrev pub one_succeeds : Seen
one_succeeds = record { rows = (8 ∷ 0 ∷ 0 ∷ 100 ∷ []) ∷ (10 ∷ 0 ∷ 0 ∷ 0 ∷ []) ∷ []; drops = None ∷ Some (Silent 1) ∷ [] }

pub record BesideTheSilent : Type 0 where
  -- the receiver that answers in time succeeds, in push and in pull
  pub in_time_push : InTime two image_abc.octets (begun 1) never_answers
  pub push : seen_after 1 never_answers ≡ one_succeeds
  pub in_time_pull : InTime two image_abc.octets (begun 2) never_answers
  pub pull : seen_after 2 never_answers ≡ one_succeeds
  -- the receiver that isn't asked in time answers with Wrong Phase, and is dropped by that
  pub too_late : seen_after 1 falls_silent ≡ record { rows = (2 ∷ 0 ∷ 4 ∷ 0 ∷ []) ∷ (2 ∷ 0 ∷ 0 ∷ 0 ∷ []) ∷ []; drops = Some (Status 7 4) ∷ Some (Silent 5) ∷ [] }

-- Worked rows: whole updates, turn by turn.
use Rattle.std.specs.Prelude.{ℕ, ◌≡◌, Bool, true, List, [], ◌∷◌, map, replicate, Option, Some, None}
use Rattle.std.specs.List.{flat_map}
pub use Rattle.mu_model_client_laws.specs.Worked.{shown}
use Rattle.mu_model_node.specs.NodeState.{Job, new_node, restarted}
use Rattle.mu_model_node.specs.Slots.{held_count}
use Rattle.mu_model_node.specs.Worked.{image_a, image_abc}
use Rattle.mu_model_client.specs.declared.Sending.{Sending}
use Rattle.mu_model_client.specs.declared.Plan.{Plan}
use Rattle.mu_model_client.specs.Rows.{Row}
use Rattle.mu_model_client.specs.Client.{rows}
use Rattle.mu_model_client.specs.Begin.{start, is_ended}
use Rattle.mu_model_completion.specs.Turn.{Member, Part, IsNode, IsUpdater, settle}

-- a new node with the image 61 as version 1, of so many pages a bank
abbrev pub node_at : (address group pages : ℕ) → Member
node_at address group pages =
    record { config = record { address = address; group = group }; moment = 0; part = IsNode (restarted (new_node pages image_a)) }

abbrev pub sending_abc : Sending
sending_abc = record { from = 1; id = 0x0001_0000_0000_0007; size = 3; log = 12; chunk = 200; mode = 1; group = 0; ttl = 5; base = 0 }

abbrev pub plan_abc : Plan
plan_abc = record { sending = sending_abc; meta = image_abc.meta; apply = true }

abbrev pub updater_abc : Member
updater_abc = record { config = record { address = 1; group = 0 }; moment = 0; part = IsUpdater (start plan_abc ((2, 0) ∷ [])) image_abc.octets }

abbrev pub rows_in : Part → List (List ℕ)
rows_in (IsNode s) = []
rows_in (IsUpdater c image) = map shown (rows c)

abbrev pub all_rows : List Member → List (List ℕ)
all_rows members = flat_map (λ (x : Member). rows_in x.part) members

-- one updater and one node: ten turns, and not nine
pub record OneNodeCompletes : Type 0 where
  pub ten : all_rows (settle 10 (updater_abc ∷ node_at 2 0 1 ∷ [])) ≡ (8 ∷ 0 ∷ 0 ∷ 100 ∷ []) ∷ []
  pub nine : all_rows (settle 9 (updater_abc ∷ node_at 2 0 1 ∷ [])) ≡ (6 ∷ 0 ∷ 0 ∷ 100 ∷ []) ∷ []

-- and so in pull, where the node asks for the one chunk
abbrev pub updater_pull : Member
updater_pull = record { config = record { address = 1; group = 0 }; moment = 0; part = IsUpdater (start (record plan_abc { sending = record sending_abc { mode = 2 } }) ((2, 0) ∷ [])) image_abc.octets }

pub record OneNodePulls : Type 0 where
  pub ten : all_rows (settle 10 (updater_pull ∷ node_at 2 0 1 ∷ [])) ≡ (8 ∷ 0 ∷ 0 ∷ 100 ∷ []) ∷ []
  pub nine : all_rows (settle 9 (updater_pull ∷ node_at 2 0 1 ∷ [])) ≡ (6 ∷ 0 ∷ 0 ∷ 100 ∷ []) ∷ []

-- the node has the offered version already: it is dropped by the check, and the updater has ended
abbrev pub newer_node : Member
newer_node = record { config = record { address = 2; group = 0 }; moment = 0; part = IsNode (restarted (new_node 1 image_abc)) }

abbrev pub ended_in : Part → List Bool
ended_in (IsNode s) = []
ended_in (IsUpdater c image) = is_ended c.place ∷ []

pub record EqualVersionEnds : Type 0 where
  pub row : all_rows (settle 2 (updater_abc ∷ newer_node ∷ [])) ≡ (10 ∷ 5 ∷ 0 ∷ 0 ∷ []) ∷ []
  pub ended : flat_map (λ (x : Member). ended_in x.part) (settle 2 (updater_abc ∷ newer_node ∷ [])) ≡ true ∷ []

-- ---- three receivers and 64 KiB: the first block

abbrev pub octets : List ℕ
octets = replicate 65536 0x61

abbrev pub updater_64 : (mode : ℕ) → Member
updater_64 mode = record {
  config = record { address = 1; group = 0xC000 };
  moment = 0;
  part = IsUpdater (start (record {
    sending = record { from = 1; id = 0x0001_0000_0000_0007; size = 65536; log = 12; chunk = 200; mode = mode; group = 0xC000; ttl = 5; base = 0 };
    meta = record { size = 65536; version = 2; digest = image_abc.meta.digest };
    apply = true;
  }) ((2, 0) ∷ (3, 0) ∷ (4, 0) ∷ [])) octets;
}

abbrev pub three_nodes : List Member
three_nodes = node_at 2 0xC000 16 ∷ node_at 3 0xC000 16 ∷ node_at 4 0xC000 16 ∷ []

abbrev pub held_by : Option Job → List ℕ
held_by None = []
held_by (Some job) = held_count job.held ∷ []

abbrev pub held_in : Part → List ℕ
held_in (IsNode s) = held_by s.durable.job
held_in (IsUpdater c image) = []

-- the blocks that each node holds
abbrev pub held : List Member → List ℕ
held members = flat_map (λ (x : Member). held_in x.part) members

-- four turns for the first steps, then in push four turns a block: one to begin it, two for 21 chunks, one to ask what is missing
-- in pull five: one to begin it, and two for each 16 chunks or fewer
pub record FirstBlock : Type 0 where
  pub push_begun : held (settle 6 (updater_64 1 ∷ three_nodes)) ≡ 0 ∷ 0 ∷ 0 ∷ []
  pub push : held (settle 7 (updater_64 1 ∷ three_nodes)) ≡ 1 ∷ 1 ∷ 1 ∷ []
  pub pull_begun : held (settle 8 (updater_64 2 ∷ three_nodes)) ≡ 0 ∷ 0 ∷ 0 ∷ []
  pub pull : held (settle 9 (updater_64 2 ∷ three_nodes)) ≡ 1 ∷ 1 ∷ 1 ∷ []

-- ---- three receivers, whole

abbrev pub updater_three : (mode group : ℕ) → Member
updater_three mode group = record {
  config = record { address = 1; group = group };
  moment = 0;
  part = IsUpdater (start (record {
    sending = record { from = 1; id = 0x0001_0000_0000_0007; size = 3; log = 12; chunk = 200; mode = mode; group = group; ttl = 5; base = 0 };
    meta = image_abc.meta;
    apply = true;
  }) ((2, 0) ∷ (3, 0) ∷ (4, 0) ∷ [])) image_abc.octets;
}

abbrev pub success : List ℕ
success = 8 ∷ 0 ∷ 0 ∷ 100 ∷ []

abbrev pub applying : List ℕ
applying = 6 ∷ 0 ∷ 0 ∷ 100 ∷ []

-- ten turns: seven, and three for the one block, with a group and without, in push and in pull
pub record ThreeComplete : Type 0 where
  pub push : all_rows (settle 10 (updater_three 1 0xC000 ∷ three_nodes)) ≡ success ∷ success ∷ success ∷ []
  pub push_before : all_rows (settle 9 (updater_three 1 0xC000 ∷ three_nodes)) ≡ applying ∷ applying ∷ applying ∷ []
  pub alone : all_rows (settle 10 (updater_three 1 0 ∷ three_nodes)) ≡ success ∷ success ∷ success ∷ []
  pub pull : all_rows (settle 10 (updater_three 2 0xC000 ∷ three_nodes)) ≡ success ∷ success ∷ success ∷ []

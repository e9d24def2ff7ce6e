-- Completion without loss, of the line `settle`.
use Rattle.std.specs.Prelude.{ℕ, ◌≡◌, ◌≤◌, ◌-◌, ◌==◌, false, List, [], ◌∷◌, length, Some, Ok, Contains}
use Rattle.mu_model_client.specs.declared.Sending.{Sending}
use Rattle.mu_model_completion.specs.Completion.{push_turns, pull_turns, AllFull}
use Rattle.mu_model_updater.specs.Updater.{UpdaterLine, plan_of}
use Rattle.mu_model_script.specs.Event.{Updater, Settle}
use Rattle.mu_model_script.specs.Lines.{script_event}
use Rattle.mu_model_script.specs.Tokens.{Content}
use Rattle.mu_model_world.specs.Outcomes.{content_octets}
use Rattle.mu_model_mesh.specs.Mesh.{Mesh, new_mesh}
use Rattle.mu_model_mesh.specs.MeshOutcomes.{mesh_begun}
use Rattle.mu_model_mesh.specs.MeshRun.{MeshStep, MeshRun}
use Rattle.mu_model_mesh.specs.Settle.{Settles}
use Rattle.mu_model_mesh_completion.specs.Settled.{IsWorld, IsLine, CanSettle, DropsNobody, IsCompleted, IsApplying}

-- a `settle` of so many turns leads from a world to the next
abbrev pub SettlesTo : (turns : ℕ) → Mesh → (text : List ℕ) → Mesh → Type 0
SettlesTo turns m text next = Settles turns (mesh_begun m) text next

abbrev pub sending_of : UpdaterLine → Sending
sending_of line = (plan_of line).sending

-- in push an updater's update is complete after a `settle` of so many turns or more
abbrev pub PushSettles : Type 0
PushSettles =
    (line : UpdaterLine) (m next : Mesh) (text : List ℕ) (turns : ℕ) → IsWorld m → IsLine line → CanSettle line m → line.mode ≡ 1
    → push_turns (sending_of line) (length line.receivers) ≤ turns → SettlesTo turns m text next → IsCompleted line next

-- and not after one turn fewer, where each block is full and up to sixteen receivers are in a group
abbrev pub PushSettlesNoSooner : Type 0
PushSettlesNoSooner =
    (line : UpdaterLine) (m next : Mesh) (text : List ℕ) → IsWorld m → IsLine line → CanSettle line m → line.mode ≡ 1
    → (line.group == 0) ≡ false → length line.receivers ≤ 16 → AllFull (sending_of line)
    → SettlesTo (push_turns (sending_of line) (length line.receivers) - 1) m text next → IsApplying line next

-- in pull it is so where there is one receiver
abbrev pub PullSettles : Type 0
PullSettles =
    (line : UpdaterLine) (to : ℕ) (m next : Mesh) (text : List ℕ) (turns : ℕ) → IsWorld m → IsLine line → CanSettle line m → line.mode ≡ 2 → line.receivers ≡ to ∷ []
    → pull_turns (sending_of line) ≤ turns → SettlesTo turns m text next → IsCompleted line next

-- no receiver is dropped, after however many turns
abbrev pub PushSettleDropsNobody : Type 0
PushSettleDropsNobody =
    (line : UpdaterLine) (m next : Mesh) (text : List ℕ) (turns : ℕ) → IsWorld m → IsLine line → CanSettle line m → line.mode ≡ 1
    → SettlesTo turns m text next → DropsNobody line next

abbrev pub PullSettleDropsNobody : Type 0
PullSettleDropsNobody =
    (line : UpdaterLine) (to : ℕ) (m next : Mesh) (text : List ℕ) (turns : ℕ) → IsWorld m → IsLine line → CanSettle line m → line.mode ≡ 2 → line.receivers ≡ to ∷ []
    → SettlesTo turns m text next → DropsNobody line next

-- ---- scripts

-- each world of each run of a script, whatever its lines are and whatever outcomes its tears have, is as these laws ask
abbrev pub WorldsOfScripts : Type 0
WorldsOfScripts = (lines : List (List ℕ)) (text : List ℕ) (m : Mesh) → MeshRun new_mesh lines text m → IsWorld m

-- one of these lines makes the updater
pub record Makes (lines : List (List ℕ)) (line : UpdaterLine) : Type 0 where
  pub text : List ℕ
  pub within : Contains lines text
  pub content : Content
  pub says :
      script_event text
      ≡ Ok (Some (Updater line.address line.group line.id line.ttl line.base line.mode line.log line.chunk line.version content line.receivers))
  pub octets : line.content ≡ content_octets content

-- a line of a script that says `settle` and is done with so many turns or more
pub record SettlesIn (line : UpdaterLine) (m : Mesh) (least : ℕ) (next : Mesh) : Type 0 where
  pub before : List (List ℕ)
  pub shown : List ℕ
  pub run : MeshRun new_mesh before shown m
  pub made : Makes before line
  pub can : CanSettle line m
  pub settle : List ℕ
  pub turns : ℕ
  pub says : script_event settle ≡ Ok (Some (Settle turns))
  pub enough : least ≤ turns
  pub text : List ℕ
  pub done : MeshStep m settle text next

-- completes the update
abbrev pub PushScriptsComplete : Type 0
PushScriptsComplete =
    (line : UpdaterLine) (m next : Mesh) → line.mode ≡ 1 → SettlesIn line m (push_turns (sending_of line) (length line.receivers)) next → IsCompleted line next

abbrev pub PullScriptsComplete : Type 0
PullScriptsComplete =
    (line : UpdaterLine) (to : ℕ) (m next : Mesh) → line.mode ≡ 2 → line.receivers ≡ to ∷ [] → SettlesIn line m (pull_turns (sending_of line)) next → IsCompleted line next

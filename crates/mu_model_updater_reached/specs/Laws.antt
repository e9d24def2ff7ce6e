-- What an updater's rows show of a node was reached by the node.
use Rattle.std.specs.Prelude.{ℕ, ◌≡◌, true, List, [], ◌∷◌, None}
use Rattle.std.specs.List.{AllByRecursion}
use Rattle.mu_model_image.specs.Meta.{Image, firmware_id, own_company}
use Rattle.mu_model_node.specs.declared.NodeConfig.{NodeConfig}
use Rattle.mu_model_node.specs.Events.{NodeEvent}
use Rattle.mu_model_node.specs.Log.{LogEntry, Reached}
use Rattle.mu_model_node.specs.NodeState.{NodeDurable, restarted}
use Rattle.mu_model_node.specs.Safe.{Happening, InOrder as LogOrder, log_after}
use Rattle.mu_model_node.specs.Sound.{IsNodeDurable}
use Rattle.mu_model_client.specs.declared.Plan.{Plan}
use Rattle.mu_model_client.specs.Client.{rows}
use Rattle.mu_model_client.specs.Rows.{Row, is_reported, apply_success, apply_failed, phase_unknown}
use Rattle.mu_model_told.specs.Laws.{HasNumbers}
use Rattle.mu_model_told.specs.Reached.{HappeningFits, WasReached, IdIsSafe, sent_in}
use Rattle.mu_model_listed.specs.Laws.{ComesFrom}
use Rattle.mu_model_updater.specs.Updater.{new_updater, updater_after, come_in}

-- ---- a node and an updater

-- what each had when it began, and what came to each since
pub record Both : Type 0 where
  pub config : NodeConfig
  pub node : NodeDurable
  pub to_node : List Happening
  pub plan : Plan
  pub image : Image
  pub receivers : List (ℕ × ℕ)
  pub to_updater : List (NodeEvent × ℕ)

-- what came to the updater from the node's address was sent by the node
pub record AreBoth (b : Both) : Type 0 where
  pub node : IsNodeDurable b.node
  pub numbers : HasNumbers b.node.job
  pub to_node : AllByRecursion HappeningFits b.to_node
  pub comes : ComesFrom b.config.address (sent_in b.config (restarted b.node) b.to_node) (come_in b.to_updater)

abbrev pub log_of : Both → List LogEntry
log_of b = log_after b.config (restarted b.node) b.to_node

-- the updater's rows as they stand
abbrev pub rows_of : Both → List Row
rows_of b = rows (updater_after (new_updater b.plan b.image b.receivers) b.to_updater).client

-- the node has an image of the Firmware ID that the updater offers: one that it had, or a whole one that it took, verified, was asked
-- for and made active
abbrev pub HasOffered : Both → (index : ℕ) → Type 0
HasOffered b index = IdIsSafe b.node (log_of b) index (firmware_id own_company b.plan.meta)

-- ---- what a row shows

-- why a row of the node is in its phase
pub data RowIsReached (b : Both) (row : Row) : Type 0 where
  -- the updater's own verdicts
  unknown : row.phase ≡ phase_unknown → RowIsReached b row
  failed : row.phase ≡ apply_failed → RowIsReached b row
  -- the node reached the phase with the updater's BLOB ID, or its boot had found it so
  reached : is_reported row.phase ≡ true → WasReached b.node (log_of b) b.plan.sending.id row.phase → RowIsReached b row
  -- the node reached a phase with it, and has what is offered
  active : (phase : ℕ) → row.phase ≡ apply_success → is_reported phase ≡ true → WasReached b.node (log_of b) b.plan.sending.id phase → HasOffered b row.index → RowIsReached b row

abbrev pub RowsAreReached : Type 0
RowsAreReached = (b : Both) → AreBoth b → AllByRecursion (λ (row : Row). row.address ≡ b.config.address → RowIsReached b row) (rows_of b)

-- ---- from a node without a job on, as each is when it is made

-- each phase that isn't a verdict stands in the node's log
pub data RowIsTrue (b : Both) (row : Row) : Type 0 where
  untold : row.phase ≡ phase_unknown → RowIsTrue b row
  unconfirmed : row.phase ≡ apply_failed → RowIsTrue b row
  logged : is_reported row.phase ≡ true → LogOrder (Reached b.plan.sending.id row.phase ∷ []) (log_of b) → RowIsTrue b row
  updated : (phase : ℕ) → row.phase ≡ apply_success → is_reported phase ≡ true → LogOrder (Reached b.plan.sending.id phase ∷ []) (log_of b) → HasOffered b row.index → RowIsTrue b row

abbrev pub NewRowsAreTrue : Type 0
NewRowsAreTrue = (b : Both) → AreBoth b → b.node.job ≡ None → AllByRecursion (λ (row : Row). row.address ≡ b.config.address → RowIsTrue b row) (rows_of b)

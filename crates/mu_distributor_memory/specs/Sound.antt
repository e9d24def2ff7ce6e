-- What is in memory is in its ranges: it can be written into a record, and shown.
use Rattle.std.specs.Prelude.{◌≡◌, ◌^◌, ℕ, ◌<◌, ◌≤◌, List, [], ◌∷◌}
use Rattle.std.proofs.Props.{props}
use Rattle.std.proofs.Common.{ap, inl, inr, arith}
use Rattle.mu_distmsg.specs.declared.message.ReceiverRow.{ReceiverRow}
use Rattle.mu_model_distributor.specs.declared.Settings.{Settings}
use Rattle.mu_model_distributor.specs.declared.DistPhase.{DistPhase}
use Rattle.mu_model_distributor.specs.declared.DistPhase.TheVariants.{Idle, TransferActive, TransferSuccess, ApplyingUpdate, Completed, Failed, CancelingUpdate, TransferSuspended}
use Rattle.mu_model_distributor.specs.Sound.{IsGroup, AreSettings}
use Rattle.mu_distributor_note.specs.declared.note.NoteHead.{NoteHead}
use Rattle.mu_distributor_note.specs.Rules.{HasModeAndPolicy}
use Rattle.mu_distributor_rows.specs.Replies.{HasSettings}
use Rattle.mu_distributor_rows.specs.Receivers.{IsShownRow, AreShownRows}

pub record IsKept (head : NoteHead) (rows : List ReceiverRow) : Type 0 where
  pub settings : HasModeAndPolicy head.settings
  -- in a distribution, and after it
  pub shown : HasSettings head.phase head.settings
  pub receivers : AreShownRows rows

-- each has one proof at most
group_prop : (group : ℕ) → IsProp (IsGroup group)
group_prop group (inl a) (inl b) = let one : IsProp (group ≡ 0) = hlevel props in ap inl (one a b)
group_prop group (inr a) (inr b) = let one : IsProp ((0xC000 ≤ group) × (group ≤ 0xFFFF)) = hlevel props in ap inr (one a b)
group_prop group (inl a) (inr b) = absurd (omega arith)
group_prop group (inr a) (inl b) = absurd (omega arith)

settings_prop : (settings : Settings) → IsProp (AreSettings settings)
settings_prop settings = hlevel (group_prop, props)

shown_prop : (phase : DistPhase) (settings : Settings) → IsProp (HasSettings phase settings)
shown_prop Idle settings = hlevel props
shown_prop TransferActive settings = settings_prop settings
shown_prop TransferSuccess settings = settings_prop settings
shown_prop ApplyingUpdate settings = settings_prop settings
shown_prop Completed settings = settings_prop settings
shown_prop Failed settings = settings_prop settings
shown_prop CancelingUpdate settings = settings_prop settings
shown_prop TransferSuspended settings = settings_prop settings

rows_prop : (rows : List ReceiverRow) → IsProp (AreShownRows rows)
rows_prop [] = hlevel props
rows_prop (row ∷ rows) = let rest : IsProp (AreShownRows rows) = rows_prop rows in hlevel (rest, props)

pub kept_prop : (head : NoteHead) (rows : List ReceiverRow) → IsProp (IsKept head rows)
kept_prop head rows = hlevel (shown_prop, rows_prop, props)

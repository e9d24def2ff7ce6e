-- What a note says can be kept in memory: it is in its ranges.
use Rattle.std.proofs.Common.{◌≡◌, ℕ, zero, suc, ◌<◌, List, [], ◌∷◌, map, get_or, drop, refl, sym, ap, subst, arith}
use Rattle.mu_distmsg.specs.declared.message.ReceiverRow.{ReceiverRow}
use Rattle.mu_model_distributor.specs.declared.Settings.{Settings}
use Rattle.mu_model_distributor.specs.declared.DistPhase.{DistPhase}
use Rattle.mu_model_distributor.specs.declared.DistPhase.TheVariants.{Idle, TransferActive, TransferSuccess, ApplyingUpdate, Completed, Failed, CancelingUpdate, TransferSuspended}
use Rattle.mu_model_distributor.specs.Sound.{AreSettings, no_settings, AreReceivers}
use Rattle.mu_distributor_kept.specs.Views.{row_receivers}
use Rattle.mu_distributor_note.specs.declared.note.NoteHead.{NoteHead}
use Rattle.mu_distributor_note.specs.Views.{distributor_note}
use Rattle.mu_distributor_note.specs.Rules.{HasModeAndPolicy, IsDistributorNote}
use Rattle.mu_distributor_rows.specs.Replies.{HasSettings}
use Rattle.mu_distributor_rows.specs.Receivers.{AreShownRows}
use Rattle.mu_distributor_memory.specs.Sound.{IsKept}

abbrev Unbegun : ℕ → DistPhase → Settings → Type 0
Unbegun counter phase settings = counter ≡ 0 → (phase ≡ Idle) × (settings ≡ no_settings)

modes : (counter : ℕ) (phase : DistPhase) (settings : Settings) → Unbegun counter phase settings → (0 < counter → AreSettings settings) → HasModeAndPolicy settings
modes zero phase settings unbegun begun = subst HasModeAndPolicy (sym (unbegun refl).1) (record { mode = omega arith; policy = omega arith })
modes (suc n) phase settings unbegun begun = let are : AreSettings settings = begun (omega arith) in record { mode = are.mode_below; policy = are.policy }

begun_shown : (phase : DistPhase) (settings : Settings) → AreSettings settings → HasSettings phase settings
begun_shown Idle settings are = tt
begun_shown TransferActive settings are = are
begun_shown TransferSuccess settings are = are
begun_shown ApplyingUpdate settings are = are
begun_shown Completed settings are = are
begun_shown Failed settings are = are
begun_shown CancelingUpdate settings are = are
begun_shown TransferSuspended settings are = are

shown_in : (counter : ℕ) (phase : DistPhase) (settings : Settings) → Unbegun counter phase settings → (0 < counter → AreSettings settings) → HasSettings phase settings
shown_in zero phase settings unbegun begun = subst (λ (p : DistPhase). HasSettings p settings) (sym (unbegun refl).0) tt
shown_in (suc n) phase settings unbegun begun = begun_shown phase settings (begun (omega arith))

shown_rows : (rows : List ReceiverRow) → map (λ (row : ReceiverRow). row.progress) rows ≡ map (λ (row : ReceiverRow). 0) rows → AreReceivers (row_receivers rows) → AreShownRows rows
shown_rows [] blank are = tt
shown_rows (row ∷ rows) blank are =
    let none : row.progress ≡ 0 = ap (λ (l : List ℕ). get_or l 0 0) blank in
    let rest : map (λ (r : ReceiverRow). r.progress) rows ≡ map (λ (r : ReceiverRow). 0) rows = ap (λ (l : List ℕ). drop 1 l) blank in
    (record { receiver = are.0; progress = omega (arith, none) }, shown_rows rows rest are.1)

pub kept_of : (head : NoteHead) (rows : List ReceiverRow) (octets : List ℕ) → map (λ (row : ReceiverRow). row.progress) rows ≡ map (λ (row : ReceiverRow). 0) rows
    → IsDistributorNote (distributor_note head rows) octets → IsKept head rows
kept_of head rows octets blank is = record {
  settings = modes head.counter head.phase head.settings is.rules.begun.unbegun is.rules.begun.begun;
  shown = shown_in head.counter head.phase head.settings is.rules.begun.unbegun is.rules.begun.begun;
  receivers = shown_rows rows blank is.rules.receivers.0;
}

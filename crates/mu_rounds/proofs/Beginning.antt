-- A machine of rounds that begins, or is asked to apply or to cancel.
use Rattle.std.proofs.Common.{◌≡◌, ◌≤◌, ◌<◌, List, [], ◌++◌, refl, sym, subst, ◌∙◌, Option, None, take, drop, length, arith}
use Rattle.mu_model_client.specs.declared.Sending.{Sending}
use Rattle.mu_model_client.specs.Client.{Purpose, Step, Place, Before, At, Verified, Ended, Pull, Get, Cancel}
use Rattle.mu_model_client.specs.Begin.{at_first, canceled, take_cancel}
use Rattle.mu_receivers.specs.declared.slot.Slot.{Slot}
use Rattle.mu_receivers.specs.Receivers.{receivers_of}
use Rattle.mu_receivers.specs.Slots.{Each, AreFew}
use Rattle.mu_told.specs.Told.{IsSendable}
use Rattle.mu_rounds.specs.After.{PlaceFits}
use Rattle.mu_rounds.specs.Begin.{IsOff, IsCanceled}
use Rattle.mu_rounds.specs.Rounds.{client_of, queue_of, HasShape}
use Rattle.mu_rounds.specs.declared.left.Left.{Left}
use Rattle.mu_rounds.specs.declared.rounds.Rounds.{Rounds}
use Rattle.mu_rounds.proofs.Lists.{each_written, receivers_are}
use Rattle.mu_rounds.proofs.Stepping.{client_same, none_some}

off_no_step : (place : Place) (step : Step) → IsOff place → place ≡ At step → ⊥
off_no_step place step off at = subst IsOff at off

off_queue : (p : Sending) (purpose : Purpose) (slots : List Slot) (left : Option Left) (place : Place) → IsOff place → queue_of p purpose slots left place ≡ []
off_queue p purpose slots left (At step) off = absurd off
off_queue p purpose slots left (Before step) off = refl
off_queue p purpose slots left Verified off = refl
off_queue p purpose slots left (Ended part) off = refl

pub off_client : (r : Rounds) → IsOff r.place → r.began ≡ 0 → r.moment ≡ 0 → client_of r ≡ at_first r.sending r.purpose (receivers_of r.slots.items) r.place
off_client r off began moment =
    client_same (client_of r) (at_first r.sending r.purpose (receivers_of r.slots.items) r.place) refl refl refl refl
    (off_queue r.sending r.purpose r.slots.items r.left r.place off) began moment

pub off_shape : (r : Rounds) → IsSendable r.sending → r.began ≤ r.moment → length r.slots.items ≤ 128 → AreFew r.slots.items → PlaceFits r.sending r.place → IsOff r.place → r.left ≡ None → HasShape r
off_shape r range later most few fits off none = record {
  range = range;
  later = later;
  most = most;
  few = few;
  place = fits;
  left = λ l some. absurd (none_some l (sym none ∙ some));
  wants = λ b k d at lt. absurd (off_no_step r.place (Pull b) off at);
  active = λ b k d at lt. absurd (off_no_step r.place (Get b) off at);
}

pub canceled_whole : (old : Rounds) (held news : List Slot) → HasShape old → held ≡ old.slots.items → Each IsCanceled held news
    → client_of (record old { slots = record { items = take (length old.slots.items) (news ++ drop (length news) old.slots.items) }; place = Before Cancel; left = None }) ≡ take_cancel (client_of old)
canceled_whole old held news shape same all =
    let olds = old.slots.items in
    let items : List Slot = take (length olds) (news ++ drop (length news) olds) in
    client_same (client_of (record old { slots = record { items = items }; place = Before Cancel; left = None })) (take_cancel (client_of old)) refl refl
    (receivers_are IsCanceled canceled olds items (each_written IsCanceled olds held news same all) (λ x y one. one.receiver)) refl refl refl refl

pub canceled_shape : (old : Rounds) (held news : List Slot) → HasShape old → held ≡ old.slots.items → Each IsCanceled held news
    → HasShape (record old { slots = record { items = take (length old.slots.items) (news ++ drop (length news) old.slots.items) }; place = Before Cancel; left = None })
canceled_shape old held news shape same all =
    let olds = old.slots.items in
    let items : List Slot = take (length olds) (news ++ drop (length news) olds) in
    let each : Each IsCanceled olds items = each_written IsCanceled olds held news same all in
    off_shape (record old { slots = record { items = items }; place = Before Cancel; left = None }) shape.range shape.later (omega (arith, each.long, shape.most))
    (λ k d lt. (let here : k < length olds = omega (arith, lt, each.long) in (each.each k d here).few (shape.few k d here))) tt tt refl

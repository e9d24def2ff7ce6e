use Rattle.std.proofs.Common.{◌≡◌, ◌≤◌, ◌<◌, ℕ, List, map, take, drop, length}
use Rattle.std.specs.Prelude.{slice_index_or}
use Rattle.mu_model_client.specs.declared.Sending.{Sending}
use Rattle.mu_model_client.specs.Client.{Purpose}
use Rattle.mu_model_client.specs.Lists.{sent_for}
use Rattle.mu_receivers.specs.Messages.{messages_left}
use Rattle.mu_receivers.specs.Slots.{AreFew}
use Rattle.mu_receivers.specs.declared.slot.Slot.{Slot}
use Rattle.mu_rounds.specs.Sents.{sents_of, HaveOctets}
use Rattle.mu_rounds.specs.Rounds.{IsSaid}
use Rattle.mu_rounds.proofs.sending.send_messages.Given as goal

abbrev pub invariant-loop-i : goal.invariant-loop-i
invariant-loop-i l = record {
  sent : (p : Sending) (purpose : Purpose) (image : List ℕ) → sents_of p purpose l.out.items ≡ map (sent_for p image) (take 16 (messages_left p purpose l.step (take l.i l.fn.slots)));
  left : (p : Sending) (purpose : Purpose) → messages_left p purpose l.step (take l.i l.slots) ≡ drop 16 (messages_left p purpose l.step (take l.i l.fn.slots));
  long : length l.slots ≡ length l.fn.slots;
  done : (k : ℕ) (d : Slot) → k < l.i → IsSaid (slice_index_or l.fn.slots k d) (slice_index_or l.slots k d);
  rest : (k : ℕ) (d : Slot) → l.i ≤ k → slice_index_or l.slots k d ≡ slice_index_or l.fn.slots k d;
  octets : HaveOctets l.out.items;
  few : AreFew l.fn.slots → AreFew l.slots;
}

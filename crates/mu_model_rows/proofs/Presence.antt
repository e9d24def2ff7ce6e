-- A transfer is present until it is canceled.
use Rattle.std.proofs.Common.{◌≡◌, ℕ, Bool, true, false, List, [], ◌∷◌, refl, ap, ◌∙◌, cond, Option, Some, None}
use Rattle.std.specs.Prelude.{◌+◌, nat_le}
use Rattle.std.specs.List.{list_any}
use Rattle.mu_model_client.specs.declared.Sending.{Sending}
use Rattle.mu_model_client.specs.Client as c
use Rattle.mu_model_client.specs.Client.{Purpose, Step, Receiver, Item, Place, At, Before, Client, is_pending, is_begun_for, at_moment as client_at, round_time, is_push, misses_chunks}
use Rattle.mu_model_client.specs.Lists.{chunk_items, wanted_of}
use Rattle.mu_model_client.specs.Told.{is_present}
use Rattle.mu_model_client.specs.Going.{Going, Next, Go, Rests, Ends, after, after_blocks, block_or, least_missed, chunks_or, chunk_step, next_block, after_verify, applies as applies_by, begins_if, goes_on as goes, next_step, round_or_next, after_counting, if_round_over, by_round, by_wanted, list_is_sent, by_list, is_done, by_step, by_place, going}
use Rattle.mu_model_rows.specs.Clients.{PresenceStays}

-- ---- a client's time events keep it

abbrev next_present : Next → Bool
next_present (Go step) = is_present (At step)
next_present Rests = true
next_present (Ends part) = is_present (c.Ended part)

begins_present : (x : Client) (step : Step) (b : Bool) → is_present (begins_if x step b).next.place ≡ is_present (At step)
begins_present x step true = refl
begins_present x step false = refl

goes_present : (x : Client) (next : Next) → is_present (goes x next).next.place ≡ next_present next
goes_present x (Go step) = begins_present x step (list_any (is_begun_for step) x.receivers)
goes_present x Rests = refl
goes_present x (Ends part) = refl

blocks_present : (purpose : Purpose) (found : Option ℕ) → next_present (block_or (after_blocks purpose) found) ≡ true
blocks_present c.Blob None = refl
blocks_present (c.Update meta apply) None = refl
blocks_present purpose (Some b) = refl

chunks_present : (step : Step) (next : Next) (b : Bool) → is_present (At step) ≡ true → next_present next ≡ true → next_present (cond b (Go step) next) ≡ true
chunks_present step next true h k = h
chunks_present step next false h k = k

chunk_present : (p : Sending) (b : ℕ) (push : Bool) → is_present (At (cond push (c.Chunks b) (c.Pull b))) ≡ true
chunk_present p b true = refl
chunk_present p b false = refl

verify_present : (apply : Bool) → next_present (after_verify apply) ≡ true
verify_present true = refl
verify_present false = refl

after_present : (p : Sending) (purpose : Purpose) (rs : List Receiver) (step : Step) → next_present (after p purpose rs step) ≡ is_present (At step)
after_present p purpose rs c.Check = refl
after_present p purpose rs c.Start = refl
after_present p purpose rs c.Information = refl
after_present p purpose rs c.Transfer = blocks_present purpose (least_missed p rs)
after_present p purpose rs (c.Block b) = chunks_present (chunk_step p b) (next_block p purpose rs) (list_any misses_chunks rs) (chunk_present p b (is_push p)) (blocks_present purpose (least_missed p rs))
after_present p purpose rs (c.Chunks b) = refl
after_present p purpose rs (c.Pull b) = blocks_present purpose (least_missed p rs)
after_present p purpose rs (c.Get b) = chunks_present (c.Chunks b) (next_block p purpose rs) (list_any misses_chunks rs) refl (blocks_present purpose (least_missed p rs))
after_present p purpose rs c.Verify = verify_present (applies_by purpose)
after_present p purpose rs c.Apply = refl
after_present p purpose rs c.Confirm = refl
after_present p purpose rs c.Cancel = refl

step_next : (x : Client) (step : Step) → is_present (next_step x step).next.place ≡ is_present (At step)
step_next x step = goes_present x (after x.sending x.purpose x.receivers step) ∙ after_present x.sending x.purpose x.receivers step

-- where it stands at the step
abbrev Stays : Step → Going → Type 0
Stays step d = is_present d.next.place ≡ is_present (At step)

round_or : (x : Client) (step : Step) (b : Bool) → x.place ≡ At step → Stays step (round_or_next x step b)
round_or x step true e = ap is_present e
round_or x step false e = step_next x step

round_over : (x : Client) (step : Step) (b : Bool) → x.place ≡ At step → Stays step (if_round_over x step b)
round_over x step true e = round_or (after_counting x step) step (list_any is_pending (after_counting x step).receivers) e
round_over x step false e = ap is_present e

round : (x : Client) (step : Step) → x.place ≡ At step → Stays step (by_round x step)
round x step e = round_over x step (nat_le (x.began + round_time x.sending) x.moment) e

wanted : (x : Client) (step : Step) (items : List Item) → x.place ≡ At step → Stays step (by_wanted x step items)
wanted x step [] e = round x step e
wanted x step (item ∷ items) e = ap is_present e

sent : (x : Client) (step : Step) → x.place ≡ At step → Stays step (list_is_sent x step)
sent x (c.Pull b) e = wanted x (c.Pull b) (chunk_items x.sending b wanted_of x.receivers) e
sent x step e = round x step e

listed : (x : Client) (step : Step) (items : List Item) → x.place ≡ At step → Stays step (by_list x step items)
listed x step [] e = sent x step e
listed x step (item ∷ items) e = ap is_present e

stepped : (x : Client) (step : Step) (b : Bool) → x.place ≡ At step → Stays step (by_step x step b)
stepped x step true e = step_next x step
stepped x step false e = listed x step x.queue e

placed : (x : Client) (place : Place) → x.place ≡ place → is_present (by_place x place).next.place ≡ is_present place
placed x (Before step) e = goes_present x (Go step)
placed x (At step) e = stepped x step (is_done x step) e
placed x c.Verified e = ap is_present e
placed x (c.Ended part) e = ap is_present e

going_present : (x : Client) (now : ℕ) → is_present (going x now).next.place ≡ is_present x.place
going_present x now = placed (client_at x now) x.place refl

pub presence_stays : PresenceStays
presence_stays = record {
  starts = λ plan to. refl;
  tells = λ x from answer now. refl;
  goes = going_present;
  applies = λ x. refl;
  cancels = λ x. refl;
}

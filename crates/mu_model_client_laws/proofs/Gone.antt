-- Who was dropped is dropped for good.
use Rattle.std.proofs.Common.{◌≡◌, ◌==◌, ℕ, List, [], ◌∷◌, refl, sym, ap, ◌∙◌, true, false, Bool, map}
use Rattle.std.specs.Prelude.{if◌then◌else◌, ◌||◌, not}
use Rattle.std.specs.List.{AllByRecursion}
use Rattle.mu_model_node.specs.UpdateMessages.{UpdateReply, InformationStatus, MetadataStatus, UpdateStatus}
use Rattle.mu_model_client.specs.Answers.{Answer, FromUpdate, FromBlob}
use Rattle.mu_model_client.specs.declared.Sending.{Sending}
use Rattle.mu_model_client.specs.Client.{Purpose, Blob, Update, Step, Check, Start, Information, Transfer, Block, Chunks, Pull, Get, Verify, Apply, Confirm, Cancel, Receiver, is_active, Place, Before, At, Verified, Ended, Client}
use Rattle.mu_model_client.specs.Told as t
use Rattle.mu_model_client.specs.Told.{told}
use Rattle.mu_model_client.specs.Due as d
use Rattle.mu_model_client.specs.Due.{due}
use Rattle.mu_model_client_laws.specs.Laws.{Each, StaysGone, DropsAreForGood, TimeChanges, nothing, fifth, IsAsked, may_ask, may_pend}
use Rattle.mu_model_client_laws.proofs.Fated.{never}
use Rattle.mu_model_client_laws.proofs.Sound.{time_changes}

gone : {A : Type 0} (r : Receiver) → is_active r ≡ true → is_active r ≡ false → A
gone r h k = never (sym k ∙ h)

choice : (b : Bool) (r x y : Receiver) → x.standing ≡ r.standing → y.standing ≡ r.standing → (if b then x else y).standing ≡ r.standing
choice true r x y h k = h
choice false r x y h k = k

cancel_told : (p : Sending) (r : Receiver) (reply : UpdateReply) → (t.update_told p Cancel r reply).standing ≡ r.standing
cancel_told p r (UpdateStatus status phase job) = choice ((phase == 0) || not (t.is_of p.id job)) r (t.answered r) r refl refl
cancel_told p r (InformationStatus count first ids) = refl
cancel_told p r (MetadataStatus status index) = refl

cancel_answer : (p : Sending) (r : Receiver) (answer : Answer) → (t.answer_told p Cancel r answer).standing ≡ r.standing
cancel_answer p r (FromUpdate reply) = cancel_told p r reply
cancel_answer p r (FromBlob answer) = refl

-- a receiver that is asked is active, but in cancelling
step_stays : (p : Sending) (answer : Answer) (r : Receiver) (step : Step) → may_ask step (is_active r) ≡ true → is_active r ≡ false → (t.step_told p answer r step).standing ≡ r.standing
step_stays p answer r Cancel h k = cancel_answer p r answer
step_stays p answer r Check h k = gone r h k
step_stays p answer r Start h k = gone r h k
step_stays p answer r Information h k = gone r h k
step_stays p answer r Transfer h k = gone r h k
step_stays p answer r (Block b) h k = gone r h k
step_stays p answer r (Chunks b) h k = gone r h k
step_stays p answer r (Pull b) h k = gone r h k
step_stays p answer r (Get b) h k = gone r h k
step_stays p answer r Verify h k = gone r h k
step_stays p answer r Apply h k = gone r h k
step_stays p answer r Confirm h k = gone r h k

pending_stays : (p : Sending) (answer : Answer) (r : Receiver) (step : Step) (pending : Bool) → (pending ≡ true → may_ask step (is_active r) ≡ true) → is_active r ≡ false → (t.if_pending p answer step r pending).standing ≡ r.standing
pending_stays p answer r step true h k = step_stays p answer r step (h refl) k
pending_stays p answer r step false h k = refl

place_stays : (p : Sending) (answer : Answer) (r : Receiver) (place : Place) → IsAsked place r → is_active r ≡ false → (t.place_told p answer r place).standing ≡ r.standing
place_stays p answer r (At step) a k = pending_stays p answer r step r.pending a.may k
place_stays p answer r (Before step) a k = refl
place_stays p answer r Verified a k = refl
place_stays p answer r (Ended part) a k = refl

-- its row is told first, and that is no drop
with_row : (c : Client) (answer : Answer) (r : Receiver) (purpose : Purpose) → IsAsked c.place r → is_active r ≡ false → (t.place_told c.sending answer (t.row_told c.sending answer r purpose) c.place).standing ≡ r.standing
with_row c answer r Blob a k = place_stays c.sending answer r c.place a k
with_row c answer r (Update offered apply) a k = place_stays c.sending answer (t.row_told c.sending answer r (Update offered apply)) c.place (record { may = a.may; few = a.few }) k

with_counted : (c : Client) (answer : Answer) (r : Receiver) (present : Bool) → IsAsked c.place r → is_active r ≡ false → (t.place_told c.sending answer (t.row_counted c.sending answer r c.purpose present) c.place).standing ≡ r.standing
with_counted c answer r true a k = with_row c answer r c.purpose a k
with_counted c answer r false a k = place_stays c.sending answer r c.place a k

told_stays : (c : Client) (answer : Answer) (r : Receiver) (is_from : Bool) → IsAsked c.place r → StaysGone r (t.told_if c answer r is_from)
told_stays c answer r true a = record { stays = λ k. with_counted c answer r (t.is_present c.place) a k }
told_stays c answer r false a = record { stays = λ k. refl }

all_stay : (c : Client) (from : ℕ) (answer : Answer) (rs : List Receiver) → AllByRecursion (IsAsked c.place) rs → Each StaysGone rs (map (λ r. t.told_if c answer r (r.row.address == from)) rs)
all_stay c from answer [] h = tt
all_stay c from answer (r ∷ rs) h = (told_stays c answer r (r.row.address == from) h.0, all_stay c from answer rs h.1)

fell_stays : (r : Receiver) (step : Step) → may_ask step (is_active r) ≡ true → is_active r ≡ false → (d.fell_silent r step).standing ≡ r.standing
fell_stays r Cancel h k = refl
fell_stays r Apply h k = refl
fell_stays r Check h k = gone r h k
fell_stays r Start h k = gone r h k
fell_stays r Information h k = gone r h k
fell_stays r Transfer h k = gone r h k
fell_stays r (Block b) h k = gone r h k
fell_stays r (Chunks b) h k = gone r h k
fell_stays r (Pull b) h k = gone r h k
fell_stays r (Get b) h k = gone r h k
fell_stays r Verify h k = gone r h k
fell_stays r Confirm h k = gone r h k

time_stays : (c : Client) (now : ℕ) (r s : Receiver) → IsAsked c.place r → TimeChanges c now r s → StaysGone r s
time_stays c now r s a (nothing h) = record { stays = λ k. h.standing_same }
time_stays c now r s a (fifth step at_ p n over h) = record {
  stays = λ k. h.standing_same ∙ fell_stays r step (ap (λ place. may_pend place (is_active r)) (sym at_) ∙ a.may p) k;
}

each_stays : (c : Client) (now : ℕ) (xs ys : List Receiver) → AllByRecursion (IsAsked c.place) xs → Each (TimeChanges c now) xs ys → Each StaysGone xs ys
each_stays c now [] [] h k = tt
each_stays c now [] (y ∷ ys) h k = absurd k
each_stays c now (x ∷ xs) [] h k = absurd k
each_stays c now (x ∷ xs) (y ∷ ys) h k = (time_stays c now x y h.0 k.0, each_stays c now xs ys h.1 k.1)

pub drops_stay : DropsAreForGood
drops_stay = record {
  tells = λ c from answer now h. all_stay c from answer c.receivers h;
  dues = λ c image now h. each_stays c now c.receivers (due c image now).next.receivers h (time_changes c image now h);
}

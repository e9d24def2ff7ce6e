-- What is sent, what for, and to whom, stays.
use Rattle.std.proofs.Common.{◌≡◌, ◌==◌, ℕ, List, [], ◌∷◌, refl, ap, ◌∙◌, true, false, Bool, Option, Some, None, map}
use Rattle.std.specs.Prelude.{if◌then◌else◌, nat_le, nat_lt}
use Rattle.mu_model_client.specs.Answers.{Answer, FromUpdate, FromBlob}
use Rattle.mu_model_client.specs.Rows.{Row, rank, with_phase}
use Rattle.mu_model_client.specs.declared.Sending.{Sending}
use Rattle.mu_model_client.specs.Client.{Purpose, Blob, Update, Step, Check, Start, Information, Transfer, Block, Chunks, Pull, Get, Verify, Apply, Confirm, Cancel, Receiver, Client, at_moment, row_of, is_in}
use Rattle.mu_model_client.specs.Begin as b
use Rattle.mu_model_client.specs.Told as t
use Rattle.mu_model_client.specs.Told.{told}
use Rattle.mu_model_client.specs.Due as d
use Rattle.mu_model_client.specs.Due.{Due, due}
use Rattle.mu_model_client_laws.specs.Laws.{SamePlan, KeepsPlan}
use Rattle.mu_model_client_laws.proofs.Cases.{counted_as, Ways, each_way}
use Rattle.mu_model_client_laws.proofs.Fated as f

-- a change of receivers that keeps addresses and indexes
pub record Keeps (g : Receiver → Receiver) : Type 0 where
  pub address : (r : Receiver) → (g r).row.address ≡ r.row.address
  pub index : (r : Receiver) → (g r).row.index ≡ r.row.index

addresses : (g : Receiver → Receiver) → Keeps g → (rs : List Receiver) → map (λ (row : Row). row.address) (map row_of (map g rs)) ≡ map (λ (row : Row). row.address) (map row_of rs)
addresses g h [] = refl
addresses g h (r ∷ rs) = rw (h.address r, addresses g h rs) refl

indexes : (g : Receiver → Receiver) → Keeps g → (rs : List Receiver) → map (λ (row : Row). row.index) (map row_of (map g rs)) ≡ map (λ (row : Row). row.index) (map row_of rs)
indexes g h [] = refl
indexes g h (r ∷ rs) = rw (h.index r, indexes g h rs) refl

-- a client whose receivers are changed so
changed : (c next : Client) (g : Receiver → Receiver) → Keeps g → next.sending ≡ c.sending → next.purpose ≡ c.purpose → next.receivers ≡ map g c.receivers → SamePlan c next
changed c next g h sending purpose receivers = record {
  sending = sending;
  purpose = purpose;
  addresses = ap (λ rs. map (λ (row : Row). row.address) (map row_of rs)) receivers ∙ addresses g h c.receivers;
  indexes = ap (λ rs. map (λ (row : Row). row.index) (map row_of rs)) receivers ∙ indexes g h c.receivers;
}

unchanged : (c next : Client) → next.sending ≡ c.sending → next.purpose ≡ c.purpose → next.receivers ≡ c.receivers → SamePlan c next
unchanged c next sending purpose receivers = record {
  sending = sending;
  purpose = purpose;
  addresses = ap (λ rs. map (λ (row : Row). row.address) (map row_of rs)) receivers;
  indexes = ap (λ rs. map (λ (row : Row). row.index) (map row_of rs)) receivers;
}

pub then_same : (a x y : Client) → SamePlan a x → SamePlan x y → SamePlan a y
then_same a x y h k = record {
  sending = k.sending ∙ h.sending;
  purpose = k.purpose ∙ h.purpose;
  addresses = k.addresses ∙ h.addresses;
  indexes = k.indexes ∙ h.indexes;
}

-- ---- packets

row_kept : (p : Sending) (answer : Answer) (r : Receiver) (purpose : Purpose)
    → ((t.row_told p answer r purpose).row.address ≡ r.row.address) × ((t.row_told p answer r purpose).row.index ≡ r.row.index)
row_kept p answer r Blob = (refl, refl)
row_kept p (FromUpdate reply) r (Update offered apply) = (refl, refl)
row_kept p (FromBlob answer) r (Update offered apply) = (refl, refl)

kept_while : (p : Sending) (answer : Answer) (r : Receiver) (purpose : Purpose) (present : Bool)
    → ((t.row_counted p answer r purpose present).row.address ≡ r.row.address) × ((t.row_counted p answer r purpose present).row.index ≡ r.row.index)
kept_while p answer r purpose true = row_kept p answer r purpose
kept_while p answer r purpose false = (refl, refl)

told_kept : (c : Client) (answer : Answer) (r : Receiver) (is_from : Bool)
    → ((t.told_if c answer r is_from).row.address ≡ r.row.address) × ((t.told_if c answer r is_from).row.index ≡ r.row.index)
told_kept c answer r false = (refl, refl)
told_kept c answer r true =
    let x : Receiver = t.row_counted c.sending answer r c.purpose (t.is_present c.place) in
    let fated = f.by_place x c.sending answer c.place in
    let kept = kept_while c.sending answer r c.purpose (t.is_present c.place) in
    (fated.address ∙ kept.0, fated.index ∙ kept.1)

pub told_plan : (c : Client) (from : ℕ) (answer : Answer) (now : ℕ) → SamePlan c (told c from answer now)
told_plan c from answer now =
    changed c (told c from answer now) (λ r. t.told_if c answer r (r.row.address == from))
    (record { address = λ r. (told_kept c answer r (r.row.address == from)).0; index = λ r. (told_kept c answer r (r.row.address == from)).1 }) refl refl refl

-- ---- time

begun_kept : (r : Receiver) (is_in_it : Bool) → ((d.begun_if r is_in_it).row ≡ r.row)
begun_kept r true = refl
begun_kept r false = refl

pub begun_keeps : (step : Step) → Keeps (d.begun step)
begun_keeps step = record { address = λ r. ap (λ (row : Row). row.address) (begun_kept r (is_in step r)); index = λ r. ap (λ (row : Row). row.index) (begun_kept r (is_in step r)) }

pub record SameEnds (r s : Receiver) : Type 0 where
  address : s.row.address ≡ r.row.address
  index : s.row.index ≡ r.row.index

unconfirmed_same : (row : Row) (is_success : Bool)
    → ((if is_success then row else with_phase 9 row).address ≡ row.address) × ((if is_success then row else with_phase 9 row).index ≡ row.index)
unconfirmed_same row true = (refl, refl)
unconfirmed_same row false = (refl, refl)

fell_kept : (r : Receiver) (step : Step) → SameEnds r (d.fell_silent r step)
fell_kept r Check = record { address = refl; index = refl }
fell_kept r Start = record { address = refl; index = refl }
fell_kept r Information = record { address = refl; index = refl }
fell_kept r Transfer = record { address = refl; index = refl }
fell_kept r (Block n) = record { address = refl; index = refl }
fell_kept r (Chunks n) = record { address = refl; index = refl }
fell_kept r (Pull n) = record { address = refl; index = refl }
fell_kept r (Get n) = record { address = refl; index = refl }
fell_kept r Verify = record { address = refl; index = refl }
fell_kept r Apply = record { address = refl; index = refl }
fell_kept r Cancel = record { address = refl; index = refl }
fell_kept r Confirm = record { address = (unconfirmed_same r.row (r.row.phase == 8)).0; index = (unconfirmed_same r.row (r.row.phase == 8)).1 }

silent_kept : (step : Step) (r : Receiver) (n : ℕ) (five : Bool) → SameEnds r (d.silent_if step (d.with_silent n r) five)
silent_kept step r n true = (let k = fell_kept (d.with_silent n r) step in record { address = k.address; index = k.index })
silent_kept step r n false = record { address = refl; index = refl }

counted_kept : (step : Step) (r : Receiver) (pending : Bool) → SameEnds r (d.counted_if step r pending)
counted_kept step r true = silent_kept step r (d.silent_after step r) (nat_le 5 (d.silent_after step r))
counted_kept step r false = record { address = refl; index = refl }

pub counted_keeps : (step : Step) → Keeps (d.round_counted step)
counted_keeps step = record { address = λ r. (counted_kept step r r.pending).address; index = λ r. (counted_kept step r r.pending).index }

counting_plan : (c : Client) (step : Step) → SamePlan c (d.after_counting c step)
counting_plan c step = changed c (d.after_counting c step) (d.round_counted step) (counted_keeps step) refl refl refl

counted_plan : (c : Client) (o : Option Step) → SamePlan c (counted_as c o)
counted_plan c None = unchanged c c refl refl refl
counted_plan c (Some step) = counting_plan c step

in_step_plan : (c : Client) (step : Step) → SamePlan c (d.in_step c step)
in_step_plan c step = changed c (d.in_step c step) (d.begun step) (begun_keeps step) refl refl refl

plan_ways : (c : Client) (image : List ℕ) → Ways c image (λ e. SamePlan c e.next)
plan_ways c image = record {
  idle = unchanged c c refl refl refl;
  rests = λ o k. (let h = counted_plan c o in record { sending = h.sending; purpose = h.purpose; addresses = h.addresses; indexes = h.indexes });
  ends = λ o k part. (let h = counted_plan c o in record { sending = h.sending; purpose = h.purpose; addresses = h.addresses; indexes = h.indexes });
  begins = λ o k step e.
      (let h = then_same c (counted_as c o) (d.in_step (counted_as c o) step) (counted_plan c o) (in_step_plan (counted_as c o) step) in
      record { sending = h.sending; purpose = h.purpose; addresses = h.addresses; indexes = h.indexes });
  goes_on_with = λ items e. record { sending = refl; purpose = refl; addresses = refl; indexes = refl };
  wants = λ n e items k. changed c _ d.unwanted (record { address = λ r. refl; index = λ r. refl }) refl refl refl;
  again = λ step k.
      (let h = counting_plan c step in
      let u = changed (d.after_counting c step) (d.new_round (d.after_counting c step) image step).next d.unheard (record { address = λ r. refl; index = λ r. refl }) refl refl refl in
      then_same c (d.after_counting c step) (d.new_round (d.after_counting c step) image step).next h u);
}

pub due_plan : (c : Client) (image : List ℕ) (now : ℕ) → SamePlan c (due c image now).next
due_plan c image now =
    (let h = each_way c image now (λ e. SamePlan (at_moment c now) e.next) (plan_ways (at_moment c now) image) in
    record { sending = h.sending; purpose = h.purpose; addresses = h.addresses; indexes = h.indexes })

canceled_same : (row : Row) (below : Bool)
    → ((if below then with_phase 7 row else row).address ≡ row.address) × ((if below then with_phase 7 row else row).index ≡ row.index)
canceled_same row true = (refl, refl)
canceled_same row false = (refl, refl)

pub plans_stay : KeepsPlan
plans_stay = record {
  tells = told_plan;
  dues = due_plan;
  applies = λ c. unchanged c (b.take_apply c) refl refl refl;
  cancels = λ c. changed c (b.take_cancel c) b.canceled (record { address = λ r. (canceled_same r.row (nat_lt (rank r.row.phase) 5)).0; index = λ r. (canceled_same r.row (nat_lt (rank r.row.phase) 5)).1 }) refl refl refl;
}

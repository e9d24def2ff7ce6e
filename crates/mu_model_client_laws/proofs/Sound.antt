-- Sound clients, and what time changes of their receivers.
use Rattle.std.proofs.Common.{◌≡◌, ◌⊎◌, inl, inr, ap, ◌≤◌, ◌+◌, ◌==◌, ℕ, List, [], ◌∷◌, refl, sym, ◌∙◌, subst, true, false, Bool, Option, Some, None, arith, map}
use Rattle.std.specs.Prelude.{nat_le, nat_lt, if◌then◌else◌}
use Rattle.std.specs.List.{AllByRecursion}
use Rattle.std.proofs.lemmas.Bool.{eqb-true}
use Rattle.std.proofs.lemmas.Bool.Decides.{nat_tests}
use Rattle.mu_model_client.specs.Answers.{Answer}
use Rattle.mu_model_client.specs.Rows.{Row, row_after, rank, with_phase}
use Rattle.mu_model_client.specs.declared.Sending.{Sending}
use Rattle.mu_model_client.specs.Client.{Purpose, Blob, Update, Step, Check, Start, Information, Transfer, Block, Chunks, Pull, Get, Verify, Apply, Confirm, Cancel, Receiver, is_active, stands_active, is_in, Place, Before, At, Verified, Ended, Client, at_moment}
use Rattle.mu_model_client.specs.Begin as b
use Rattle.mu_model_client.specs.Told as t
use Rattle.mu_model_client.specs.Told.{told}
use Rattle.mu_model_client.specs.Due as d
use Rattle.mu_model_client.specs.Due.{Due, due}
use Rattle.mu_model_client_laws.specs.Laws.{Each, phase_said, FollowsPacket, IsVerdict, RowRises, RankRises, StandsAsBefore, AsBefore, TimeChanges, nothing, fifth, may_pend, IsAsked, IsSound, BeginSound, EventsSound}
use Rattle.mu_model_client_laws.proofs.Cases.{IsCounted, Counted, counted_as, Ways, each_way}
use Rattle.mu_model_client_laws.proofs.Fated as f
use Rattle.mu_model_client_laws.proofs.Rising.{Rises, same_rises, cause_rises, of_answer, both_left, rank_most}

-- ---- lists of receivers

pub each_map : (R : Receiver → Receiver → Type 0) (g : Receiver → Receiver) → ((r : Receiver) → R r (g r)) → (rs : List Receiver) → Each R rs (map g rs)
each_map R g h [] = tt
each_map R g h (r ∷ rs) = (h r, each_map R g h rs)

pub each_same : (R : Receiver → Receiver → Type 0) → ((r : Receiver) → R r r) → (rs : List Receiver) → Each R rs rs
each_same R h [] = tt
each_same R h (r ∷ rs) = (h r, each_same R h rs)

pub all_map : (P Q : Receiver → Type 0) (g : Receiver → Receiver) → ((r : Receiver) → P r → Q (g r)) → (rs : List Receiver) → AllByRecursion P rs → AllByRecursion Q (map g rs)
all_map P Q g h [] a = tt
all_map P Q g h (r ∷ rs) a = (h r a.0, all_map P Q g h rs a.1)

pub all_from : (Q : Receiver → Type 0) (g : Receiver → Receiver) → ((r : Receiver) → Q (g r)) → (rs : List Receiver) → AllByRecursion Q (map g rs)
all_from Q g h [] = tt
all_from Q g h (r ∷ rs) = (h r, all_from Q g h rs)

pub all_new : {A : Type 0} (Q : Receiver → Type 0) (g : A → Receiver) → ((a : A) → Q (g a)) → (xs : List A) → AllByRecursion Q (map g xs)
all_new Q g h [] = tt
all_new Q g h (x ∷ xs) = (h x, all_new Q g h xs)

each_all : (P : Receiver → Type 0) (R : Receiver → Receiver → Type 0) (g : Receiver → Receiver) → ((r : Receiver) → P r → R r (g r)) → (rs : List Receiver) → AllByRecursion P rs → Each R rs (map g rs)
each_all P R g h [] a = tt
each_all P R g h (r ∷ rs) a = (h r a.0, each_all P R g h rs a.1)

each_all_map : (P : Receiver → Type 0) (R : Receiver → Receiver → Type 0) (g k : Receiver → Receiver) → ((r : Receiver) → P r → R r (k (g r))) → (rs : List Receiver) → AllByRecursion P rs → Each R rs (map k (map g rs))
each_all_map P R g k h [] a = tt
each_all_map P R g k h (r ∷ rs) a = (h r a.0, each_all_map P R g k h rs a.1)

-- ---- what a packet does

told_row : (p : Sending) (answer : Answer) (r : Receiver) (purpose : Purpose) → Rises r.row.phase (t.row_told p answer r purpose).row.phase
told_row p answer r Blob = same_rises r.row.phase r.row.phase refl
told_row p answer r (Update offered apply) =
    cause_rises p.id offered r.row answer (row_after p.id offered r.row answer).phase (of_answer p.id offered r.row answer)

told_counted : (p : Sending) (answer : Answer) (r : Receiver) (purpose : Purpose) (present : Bool) → Rises r.row.phase (t.row_counted p answer r purpose present).row.phase
told_counted p answer r purpose true = told_row p answer r purpose
told_counted p answer r purpose false = same_rises r.row.phase r.row.phase refl

pub receiver_rises : (c : Client) (answer : Answer) (r : Receiver) → RowRises r (t.receiver_told c answer r)
receiver_rises c answer r =
    let x : Receiver = t.row_counted c.sending answer r c.purpose (t.is_present c.place) in
    let fated = f.by_place x c.sending answer c.place in
    let grows = told_counted c.sending answer r c.purpose (t.is_present c.place) in
    let rises = same_rises x.row.phase (t.place_told c.sending answer x c.place).row.phase fated.phase in
    record {
      rank_kept = omega (arith, grows.rank_kept, rises.rank_kept);
      verdict_kept = λ v. fated.phase ∙ grows.verdict_kept (subst IsVerdict fated.phase v);
    }

told_rises : (c : Client) (answer : Answer) (r : Receiver) (is_from : Bool) → RowRises r (t.told_if c answer r is_from)
told_rises c answer r true = receiver_rises c answer r
told_rises c answer r false = record { rank_kept = omega arith; verdict_kept = λ v. refl }

pub rows_rise : (c : Client) (from : ℕ) (answer : Answer) (now : ℕ) → Each RowRises c.receivers (told c from answer now).receivers
rows_rise c from answer now =
    each_map RowRises (λ r. t.told_if c answer r (r.row.address == from)) (λ r. told_rises c answer r (r.row.address == from)) c.receivers

-- ---- what a packet says

said_phase : (p : Sending) (answer : Answer) (r : Receiver) (purpose : Purpose) → (t.row_told p answer r purpose).row.phase ≡ phase_said p.id purpose r.row answer
said_phase p answer r Blob = refl
said_phase p answer r (Update offered apply) = refl

counted_phase : (p : Sending) (answer : Answer) (r : Receiver) (purpose : Purpose) (present : Bool) → present ≡ true → (t.row_counted p answer r purpose present).row.phase ≡ phase_said p.id purpose r.row answer
counted_phase p answer r purpose true e = said_phase p answer r purpose
counted_phase p answer r purpose false e = f.never e

uncounted_phase : (p : Sending) (answer : Answer) (r : Receiver) (purpose : Purpose) (present : Bool) → present ≡ false → (t.row_counted p answer r purpose present).row.phase ≡ r.row.phase
uncounted_phase p answer r purpose true e = f.never (sym e)
uncounted_phase p answer r purpose false e = refl

told_follows : (c : Client) (from : ℕ) (answer : Answer) (r : Receiver) (is_from : Bool) → (r.row.address == from) ≡ is_from → FollowsPacket c from answer r (t.told_if c answer r is_from)
told_follows c from answer r true e =
    let x : Receiver = t.row_counted c.sending answer r c.purpose (t.is_present c.place) in
    let phase = (f.by_place x c.sending answer c.place).phase in
    record {
      theirs = λ p k. phase ∙ counted_phase c.sending answer r c.purpose (t.is_present c.place) p;
      others = λ k. absurd (k (eqb-true r.row.address from e));
      canceled = λ p. phase ∙ uncounted_phase c.sending answer r c.purpose (t.is_present c.place) p;
    }
told_follows c from answer r false e = record { theirs = λ p k. absurd (not_same k); others = λ k. refl; canceled = λ p. refl }
  where
    not_same : r.row.address ≡ from → ⊥
    not_same k = grind (arith, nat_tests)

pub rows_follow : (c : Client) (from : ℕ) (answer : Answer) (now : ℕ) → Each (FollowsPacket c from answer) c.receivers (told c from answer now).receivers
rows_follow c from answer now =
    each_map (FollowsPacket c from answer) (λ r. t.told_if c answer r (r.row.address == from)) (λ r. told_follows c from answer r (r.row.address == from) refl) c.receivers

-- ---- soundness

module _ (place : Place) where
  fated_asked : (r s : Receiver) → f.Fated r s → IsAsked place r → IsAsked place s
  fated_asked r s h a =
      let back : s.pending ≡ true → r.pending ≡ true = λ e. h.pending e in
      record {
        may = λ e. subst (λ x. may_pend place (stands_active x) ≡ true) (sym (h.stands e)) (a.may (back e));
        few = λ e. (let k = a.few (back e) in let l = h.silent in omega (arith, k, l));
      }

  row_asked : (p : Sending) (answer : Answer) (r : Receiver) (purpose : Purpose) → IsAsked place r → IsAsked place (t.row_told p answer r purpose)
  row_asked p answer r Blob a = a
  row_asked p answer r (Update offered apply) a = record { may = a.may; few = a.few }

asked_while : (place : Place) (p : Sending) (answer : Answer) (r : Receiver) (purpose : Purpose) (present : Bool) → IsAsked place r → IsAsked place (t.row_counted p answer r purpose present)
asked_while place p answer r purpose true a = row_asked place p answer r purpose a
asked_while place p answer r purpose false a = a

told_asked : (c : Client) (answer : Answer) (r : Receiver) (is_from : Bool) → IsAsked c.place r → IsAsked c.place (t.told_if c answer r is_from)
told_asked c answer r true a =
    let x : Receiver = t.row_counted c.sending answer r c.purpose (t.is_present c.place) in
    fated_asked c.place x (t.place_told c.sending answer x c.place) (f.by_place x c.sending answer c.place)
    (asked_while c.place c.sending answer r c.purpose (t.is_present c.place) a)
told_asked c answer r false a = a

pub told_sound : (c : Client) (from : ℕ) (answer : Answer) (now : ℕ) → IsSound c → IsSound (told c from answer now)
told_sound c from answer now h =
    all_map (IsAsked c.place) (IsAsked c.place) (λ r. t.told_if c answer r (r.row.address == from)) (λ r. told_asked c answer r (r.row.address == from)) c.receivers h

-- nobody is pending
unasked : (place : Place) (r : Receiver) → r.pending ≡ false → IsAsked place r
unasked place r e = record { may = λ h. f.never (sym e ∙ h); few = λ h. f.never (sym e ∙ h) }

pub begins_sound : BeginSound
begins_sound = record {
  starts = λ plan to. all_new (IsAsked (Before Check)) b.new_active (λ x. unasked (Before Check) (b.new_active x) refl) to;
  blobs = λ p to. all_new (IsAsked (Before Information)) (λ (address : ℕ). b.new_active (address, 0)) (λ x. unasked (Before Information) (b.new_active (x, 0)) refl) to;
  resumes = λ plan rows stage. all_new (IsAsked (b.first_place stage)) (b.resumed stage) (λ row. unasked (b.first_place stage) (b.resumed stage row) refl) rows;
}

-- ---- time

-- a step begins: its receivers are those that may be pending
in_may : (step : Step) (r : Receiver) → is_in step r ≡ true → may_pend (At step) (is_active r) ≡ true
in_may Check r h = h
in_may Start r h = h
in_may Information r h = h
in_may Transfer r h = h
in_may (Block n) r h = both_left (is_active r) _ h
in_may (Chunks n) r h = both_left (is_active r) _ h
in_may (Pull n) r h = both_left (is_active r) _ h
in_may (Get n) r h = both_left (is_active r) _ h
in_may Verify r h = h
in_may Apply r h = h
in_may Confirm r h = h
in_may Cancel r h = refl

begun_asked : (step : Step) (r : Receiver) (is_in_it : Bool) → (is_in_it ≡ true → may_pend (At step) (is_active r) ≡ true) → IsAsked (At step) (d.begun_if r is_in_it)
begun_asked step r true h = record { may = λ e. h refl; few = λ e. omega arith }
begun_asked step r false h = unasked (At step) (d.begun_if r false) refl

pub in_step_sound : (c : Client) (step : Step) → IsSound (d.in_step c step)
in_step_sound c step = all_from (IsAsked (At step)) (d.begun step) (λ r. begun_asked step r (is_in step r) (in_may step r)) c.receivers

-- the end of a round
fell_asked : (place : Place) (step : Step) (r : Receiver) → IsAsked place (d.fell_silent r step)
fell_asked place Check r = unasked place _ refl
fell_asked place Start r = unasked place _ refl
fell_asked place Information r = unasked place _ refl
fell_asked place Transfer r = unasked place _ refl
fell_asked place (Block n) r = unasked place _ refl
fell_asked place (Chunks n) r = unasked place _ refl
fell_asked place (Pull n) r = unasked place _ refl
fell_asked place (Get n) r = unasked place _ refl
fell_asked place Verify r = unasked place _ refl
fell_asked place Apply r = unasked place _ refl
fell_asked place Confirm r = unasked place _ refl
fell_asked place Cancel r = unasked place _ refl

silent_asked : (place : Place) (step : Step) (r : Receiver) (n : ℕ) (five : Bool) → five ≡ nat_le 5 n → IsAsked place r → r.pending ≡ true → IsAsked place (d.silent_if step (d.with_silent n r) five)
silent_asked place step r n true e a p = fell_asked place step (d.with_silent n r)
silent_asked place step r n false e a p = record { may = a.may; few = λ h. grind (arith, nat_tests, e) }

counted_asked : (place : Place) (step : Step) (r : Receiver) (pending : Bool) → r.pending ≡ pending → IsAsked place r → IsAsked place (d.counted_if step r pending)
counted_asked place step r true e a = silent_asked place step r (d.silent_after step r) (nat_le 5 (d.silent_after step r)) refl a e
counted_asked place step r false e a = a

pub counting_sound : (c : Client) (step : Step) → IsSound c → IsSound (d.after_counting c step)
counting_sound c step h = all_map (IsAsked c.place) (IsAsked c.place) (d.round_counted step) (λ r. counted_asked c.place step r r.pending refl) c.receivers h

pub unheard_asked : (place : Place) (r : Receiver) → IsAsked place r → IsAsked place (d.unheard r)
unheard_asked place r a = record { may = a.may; few = a.few }

unwanted_asked : (place : Place) (r : Receiver) → IsAsked place r → IsAsked place (d.unwanted r)
unwanted_asked place r a = record { may = a.may; few = a.few }

free : (place : Place) (r : Receiver) → ((active : Bool) → may_pend place active ≡ true) → IsAsked (At Cancel) r → IsAsked place r
free place r free_of a = record { may = λ e. free_of (is_active r); few = a.few }

few_asked : (place : Place) (r : Receiver) → IsAsked place r → IsAsked (At Cancel) r
few_asked place r a = record { may = λ e. refl; few = a.few }

-- where no step is asked
freed : (c : Client) (place : Place) → ((active : Bool) → may_pend place active ≡ true) → IsSound c → AllByRecursion (IsAsked place) c.receivers
freed c place free_of h = all_same c.receivers h
  where
    all_same : (rs : List Receiver) → AllByRecursion (IsAsked c.place) rs → AllByRecursion (IsAsked place) rs
    all_same [] a = tt
    all_same (r ∷ rs) a = (free place r free_of (few_asked c.place r a.0), all_same rs a.1)

pub counted_sound : (c : Client) (o : Option Step) → Counted c o → IsSound c → IsSound (counted_as c o)
counted_sound c None k h = h
counted_sound c (Some step) k h = counting_sound c step h

module _ (c : Client) (image : List ℕ) (h : IsSound c) where
  here_sound : Ways c image (λ e. IsSound e.next)
  here_sound = record {
    idle = h;
    rests = λ o k. freed (counted_as c o) Verified (λ active. refl) (counted_sound c o k h);
    ends = λ o k part. freed (counted_as c o) (Ended part) (λ active. refl) (counted_sound c o k h);
    begins = λ o k step e. in_step_sound (counted_as c o) step;
    goes_on_with = λ items e. h;
    wants = λ n e items k. all_map (IsAsked c.place) (IsAsked c.place) d.unwanted (unwanted_asked c.place) c.receivers h;
    again = λ step k. all_map (IsAsked c.place) (IsAsked c.place) d.unheard (unheard_asked c.place) (d.after_counting c step).receivers (counting_sound c step h);
  }

pub due_sound : (c : Client) (image : List ℕ) (now : ℕ) → IsSound c → IsSound (due c image now).next
due_sound c image now h = each_way c image now (λ e. IsSound e.next) (here_sound (at_moment c now) image h)

canceled_asked : (r : Receiver) → IsAsked (Before Cancel) (b.canceled r)
canceled_asked r = unasked (Before Cancel) (b.canceled r) refl

pub events_sound : EventsSound
events_sound = record {
  tells = told_sound;
  dues = due_sound;
  applies = λ c e h. freed c (Before Apply) (λ active. refl) h;
  cancels = λ c. all_from (IsAsked (Before Cancel)) b.canceled canceled_asked c.receivers;
}

-- ---- what time changes

shown_same : (r : Receiver) → AsBefore r r
shown_same r = record { phase_same = refl; standing_same = refl }

begun_same : (r : Receiver) (is_in_it : Bool) → AsBefore r (d.begun_if r is_in_it)
begun_same r true = record { phase_same = refl; standing_same = refl }
begun_same r false = record { phase_same = refl; standing_same = refl }

fell_same : (r s : Receiver) (n : ℕ) (step : Step) → AsBefore (d.fell_silent (d.with_silent n r) step) s → AsBefore (d.fell_silent r step) s
fell_same r s n Check a = record { phase_same = a.phase_same; standing_same = a.standing_same }
fell_same r s n Start a = record { phase_same = a.phase_same; standing_same = a.standing_same }
fell_same r s n Information a = record { phase_same = a.phase_same; standing_same = a.standing_same }
fell_same r s n Transfer a = record { phase_same = a.phase_same; standing_same = a.standing_same }
fell_same r s n (Block b) a = record { phase_same = a.phase_same; standing_same = a.standing_same }
fell_same r s n (Chunks b) a = record { phase_same = a.phase_same; standing_same = a.standing_same }
fell_same r s n (Pull b) a = record { phase_same = a.phase_same; standing_same = a.standing_same }
fell_same r s n (Get b) a = record { phase_same = a.phase_same; standing_same = a.standing_same }
fell_same r s n Verify a = record { phase_same = a.phase_same; standing_same = a.standing_same }
fell_same r s n Apply a = record { phase_same = a.phase_same; standing_same = a.standing_same }
fell_same r s n Confirm a = record { phase_same = a.phase_same; standing_same = a.standing_same }
fell_same r s n Cancel a = record { phase_same = a.phase_same; standing_same = a.standing_same }

-- a pending receiver's count reaches five by one
pull_most : (r : Receiver) (heard : Bool) → d.pull_silent r heard ≤ r.silent + 1
pull_most r true = omega arith
pull_most r false = omega arith

silent_most : (step : Step) (r : Receiver) → d.silent_after step r ≤ r.silent + 1
silent_most (Pull b) r = pull_most r r.heard
silent_most Check r = omega arith
silent_most Start r = omega arith
silent_most Information r = omega arith
silent_most Transfer r = omega arith
silent_most (Block b) r = omega arith
silent_most (Chunks b) r = omega arith
silent_most (Get b) r = omega arith
silent_most Verify r = omega arith
silent_most Apply r = omega arith
silent_most Confirm r = omega arith
silent_most Cancel r = omega arith

module _ (c : Client) (now : ℕ) (step : Step) (k : IsCounted (at_moment c now) step) where
  -- after the count, whatever else keeps what is shown
  by_five : (r s : Receiver) (five : Bool) → five ≡ nat_le 5 (d.silent_after step r) → r.pending ≡ true → IsAsked c.place r
      → AsBefore (d.silent_if step (d.with_silent (d.silent_after step r) r) five) s → TimeChanges c now r s
  by_five r s true e p a h =
      let few = a.few p in
      let most = silent_most step r in
      let at_least : 5 ≤ d.silent_after step r = grind (arith, nat_tests, e) in
      fifth step k.place_is p (omega (arith, few, most, at_least)) k.over (fell_same r s (d.silent_after step r) step h)
  by_five r s false e p a h = nothing (record { phase_same = h.phase_same; standing_same = h.standing_same })

  by_pending : (r s : Receiver) (pending : Bool) → r.pending ≡ pending → IsAsked c.place r → AsBefore (d.counted_if step r pending) s → TimeChanges c now r s
  by_pending r s true e a h = by_five r s (nat_le 5 (d.silent_after step r)) refl e a h
  by_pending r s false e a h = nothing h

  pub by_count : (r s : Receiver) → IsAsked c.place r → AsBefore (d.round_counted step r) s → TimeChanges c now r s
  by_count r s a h = by_pending r s r.pending refl a h

  counted_then : (g : Receiver → Receiver) → ((r : Receiver) → AsBefore r (g r)) → IsSound c → Each (TimeChanges c now) c.receivers (map g (map (d.round_counted step) c.receivers))
  counted_then g h sound = each_all_map (IsAsked c.place) (TimeChanges c now) (d.round_counted step) g (λ r a. by_count r (g (d.round_counted step r)) a (h (d.round_counted step r))) c.receivers sound

  pub counted_alone : IsSound c → Each (TimeChanges c now) c.receivers (map (d.round_counted step) c.receivers)
  counted_alone sound = each_all (IsAsked c.place) (TimeChanges c now) (d.round_counted step) (λ r a. by_count r (d.round_counted step r) a (shown_same (d.round_counted step r))) c.receivers sound

module _ (c : Client) (image : List ℕ) (now : ℕ) (h : IsSound c) where
  shown : (g : Receiver → Receiver) → ((r : Receiver) → AsBefore r (g r)) → Each (TimeChanges c now) c.receivers (map g c.receivers)
  shown g k = each_map (TimeChanges c now) g (λ r. nothing (k r)) c.receivers

  all_shown : Each (TimeChanges c now) c.receivers c.receivers
  all_shown = each_same (TimeChanges c now) (λ r. nothing (shown_same r)) c.receivers

  as_counted : (o : Option Step) → Counted (at_moment c now) o → Each (TimeChanges c now) c.receivers (counted_as (at_moment c now) o).receivers
  as_counted None k = all_shown
  as_counted (Some step) k = counted_alone c now step k h

  as_begun : (o : Option Step) → Counted (at_moment c now) o → (step : Step) → Each (TimeChanges c now) c.receivers (map (d.begun step) (counted_as (at_moment c now) o).receivers)
  as_begun None k step = shown (d.begun step) (λ r. begun_same r (is_in step r))
  as_begun (Some last) k step = counted_then c now last k (d.begun step) (λ r. begun_same r (is_in step r)) h

  here_changes : Ways (at_moment c now) image (λ e. Each (TimeChanges c now) c.receivers e.next.receivers)
  here_changes = record {
    idle = all_shown;
    rests = as_counted;
    ends = λ o k part. as_counted o k;
    begins = λ o k step e. as_begun o k step;
    goes_on_with = λ items e. all_shown;
    wants = λ n e items k. shown d.unwanted (λ r. record { phase_same = refl; standing_same = refl });
    again = λ step k. counted_then c now step k d.unheard (λ r. record { phase_same = refl; standing_same = refl }) h;
  }

pub time_changes : (c : Client) (image : List ℕ) (now : ℕ) → IsSound c → Each (TimeChanges c now) c.receivers (due c image now).next.receivers
time_changes c image now h = each_way c image now (λ e. Each (TimeChanges c now) c.receivers e.next.receivers) (here_changes c image now h)

-- ---- ranks

unconfirmed_rank : (row : Row) (success : Bool) → rank row.phase ≤ rank (if success then row else with_phase 9 row).phase
unconfirmed_rank row true = omega arith
unconfirmed_rank row false = rank_most row.phase

canceled_rank : (row : Row) (below : Bool) → rank row.phase ≤ rank (if below then with_phase 7 row else row).phase
canceled_rank row true = rank_most row.phase
canceled_rank row false = omega arith

fell_rank : (r : Receiver) (step : Step) → rank r.row.phase ≤ rank (d.fell_silent r step).row.phase
fell_rank r Check = omega arith
fell_rank r Start = omega arith
fell_rank r Information = omega arith
fell_rank r Transfer = omega arith
fell_rank r (Block b) = omega arith
fell_rank r (Chunks b) = omega arith
fell_rank r (Pull b) = omega arith
fell_rank r (Get b) = omega arith
fell_rank r Verify = omega arith
fell_rank r Apply = omega arith
fell_rank r Confirm = unconfirmed_rank r.row (r.row.phase == 8)
fell_rank r Cancel = omega arith

change_rank : (c : Client) (now : ℕ) (r s : Receiver) → TimeChanges c now r s → RankRises r s
change_rank c now r s (nothing a) = record { rank_kept = subst (λ x. rank r.row.phase ≤ rank x) (sym a.phase_same) (omega arith) }
change_rank c now r s (fifth step at_ p n over a) = record { rank_kept = subst (λ x. rank r.row.phase ≤ rank x) (sym a.phase_same) (fell_rank r step) }

each_from : (R S : Receiver → Receiver → Type 0) → ((x y : Receiver) → R x y → S x y) → (xs ys : List Receiver) → Each R xs ys → Each S xs ys
each_from R S h [] [] a = tt
each_from R S h [] (y ∷ ys) a = absurd a
each_from R S h (x ∷ xs) [] a = absurd a
each_from R S h (x ∷ xs) (y ∷ ys) a = (h x y a.0, each_from R S h xs ys a.1)

pub time_ranks : (c : Client) (image : List ℕ) (now : ℕ) → IsSound c → Each RankRises c.receivers (due c image now).next.receivers
time_ranks c image now h = each_from (TimeChanges c now) RankRises (change_rank c now) c.receivers (due c image now).next.receivers (time_changes c image now h)

pub cancel_ranks : (c : Client) → Each RankRises c.receivers (b.take_cancel c).receivers
cancel_ranks c = each_map RankRises b.canceled (λ r. record { rank_kept = canceled_rank r.row (nat_lt (rank r.row.phase) 5) }) c.receivers

-- ---- applying and cancelling

step_in : Place → Step
step_in (At step) = step
step_in _ = Check

same_step : (step other : Step) → At step ≡ At other → step ≡ other
unfolding step_in
same_step step other e = ap step_in e

stays_in : (r : Receiver) (step : Step) → (step ≡ Apply) ⊎ (step ≡ Cancel) → (d.fell_silent r step).standing ≡ r.standing
stays_in r step (inl e) = subst (λ x. (d.fell_silent r x).standing ≡ r.standing) (sym e) refl
stays_in r step (inr e) = subst (λ x. (d.fell_silent r x).standing ≡ r.standing) (sym e) refl

which_step : (place : Place) (step : Step) → place ≡ At step → (place ≡ At Apply) ⊎ (place ≡ At Cancel) → (step ≡ Apply) ⊎ (step ≡ Cancel)
which_step place step e (inl h) = inl (same_step step Apply (sym e ∙ h))
which_step place step e (inr h) = inr (same_step step Cancel (sym e ∙ h))

change_stays : (c : Client) (now : ℕ) → (c.place ≡ At Apply) ⊎ (c.place ≡ At Cancel) → (r s : Receiver) → TimeChanges c now r s → StandsAsBefore r s
change_stays c now h r s (nothing a) = record { standing_same = a.standing_same }
change_stays c now h r s (fifth step at_ p n over a) = record { standing_same = a.standing_same ∙ stays_in r step (which_step c.place step at_ h) }

pub applying_drops_nobody : (c : Client) (image : List ℕ) (now : ℕ) → IsSound c → (c.place ≡ At Apply) ⊎ (c.place ≡ At Cancel) → Each StandsAsBefore c.receivers (due c image now).next.receivers
applying_drops_nobody c image now h place = each_from (TimeChanges c now) StandsAsBefore (change_stays c now place) c.receivers (due c image now).next.receivers (time_changes c image now h)

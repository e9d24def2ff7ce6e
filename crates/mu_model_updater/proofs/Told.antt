-- An updater's rows say what its receivers told it.
use Rattle.std.proofs.Common.{◌≡◌, ◌⊎◌, inl, inr, ◌==◌, ℕ, Bool, true, false, List, [], ◌∷◌, ◌++◌, map, refl, sym, ap, subst, ◌∙◌, cond, arith, append_assoc, Option, Some, None}
use Rattle.std.proofs.lemmas.Bool.{eqb-true}
use Rattle.std.proofs.lemmas.Bool.Decides.{nat_tests}
use Rattle.std.specs.List.{AllByRecursion}
use Rattle.mu_model_image.specs.Meta.{firmware_id, own_company}
use Rattle.mu_model_wire.specs.Packet.{Packet}
use Rattle.mu_model_node.specs.Events.{NodeEvent, PacketComes, TimeComes}
use Rattle.mu_model_node.specs.UpdateMessages.{InformationStatus}
use Rattle.mu_model_client.specs.declared.Plan.{Plan}
use Rattle.mu_model_client.specs.Answers.{Answer, FromUpdate, answer_at}
use Rattle.mu_model_client.specs.Begin.{purpose_of, new_active}
use Rattle.mu_model_client.specs.Client.{Purpose, Step, Check, Start, Information, Transfer, Block, Chunks, Pull, Get, Verify, Apply, Confirm, Cancel, Receiver, Client, rows, row_of}
use Rattle.mu_model_client.specs.Due.{due, fell_silent}
use Rattle.mu_model_client.specs.Packets.{answer_handled, client_packet}
use Rattle.mu_model_client.specs.Rows.{Row, is_reported, row_after}
use Rattle.mu_model_client.specs.Told.{is_present, told as told_client}
use Rattle.mu_model_client_laws.specs.Laws.{Each, PhaseCause, as_before, was_told, was_shown, phase_said, FollowsPacket, RowsChangeByCause, RowsFollowPackets, TimeChangesAtFive, TimeChanges, nothing, fifth}
use Rattle.mu_model_updater.specs.Updater.{Updater, new_updater, updater_step, updater_after, Heard, heard_as, heard_by, heard_in}
use Rattle.mu_model_updater.specs.Laws.{InOrder, none, here, later, ToldPhase, RowIsTold, unknown, failed, told, shown, RowsAreTold}
use Rattle.mu_model_updater.proofs.Runs.{ClientLaws, DoesPlan, begins, event_goes, addresses, indexes, heads, tails}

-- ---- order

in_right : {xs more : List Heard} (heard : List Heard) → InOrder xs more → InOrder xs (heard ++ more)
in_right [] h = h
in_right (x ∷ heard) h = later (in_right heard h)

in_left : {xs heard : List Heard} (more : List Heard) → InOrder xs heard → InOrder xs (heard ++ more)
in_left more none = none
in_left more (here h) = here (in_left more h)
in_left more (later h) = later (in_left more h)

in_order : {xs ys heard more : List Heard} → InOrder xs heard → InOrder ys more → InOrder (xs ++ ys) (heard ++ more)
in_order (none {all = heard}) k = in_right heard k
in_order (here h) k = here (in_order h k)
in_order (later h) k = later (in_order h k)

-- ---- more was heard

phase_more : (id address phase : ℕ) (heard more : List Heard) → ToldPhase id address phase heard → ToldPhase id address phase (heard ++ more)
phase_more id address phase heard more h = record { status = h.status; job = h.job; of = h.of; heard_it = in_left more h.heard_it }

told_more : (plan : Plan) (heard more : List Heard) (row : Row) → RowIsTold plan heard row → RowIsTold plan (heard ++ more) row
told_more plan heard more row (unknown e) = unknown e
told_more plan heard more row (failed e) = failed e
told_more plan heard more row (told e h) = told e (phase_more plan.sending.id row.address row.phase heard more h)
told_more plan heard more row (shown e h) =
    shown e (record { phase = h.phase; reported = h.reported; status = h.status; job = h.job; of = h.of; count = h.count; more = h.more; heard_both = in_left more h.heard_both })

-- ---- a row that stands

same_row : (plan : Plan) (heard : List Heard) (a b : Row) → b.address ≡ a.address → b.index ≡ a.index → b.phase ≡ a.phase → RowIsTold plan heard a → RowIsTold plan heard b
same_row plan heard a b at ind of (unknown e) = unknown (of ∙ e)
same_row plan heard a b at ind of (failed e) = failed (of ∙ e)
same_row plan heard a b at ind of (told e h) = told (rw of e) (rw (at, of) h)
same_row plan heard a b at ind of (shown e h) = shown (of ∙ e) (rw (at, ind) h)

-- ---- an answer

-- what a row was told before it showed success
success_by : (plan : Plan) (old : List Heard) (a b : Row) (count : ℕ) (more : List (List ℕ)) → b.address ≡ a.address → b.index ≡ a.index → b.phase ≡ 8 → is_reported a.phase ≡ true → RowIsTold plan old a
    → RowIsTold plan (old ++ record { from = a.address; answer = FromUpdate (InformationStatus count a.index (firmware_id own_company plan.meta ∷ more)) } ∷ []) b
success_by plan old a b count more at ind of reported (unknown e) = let wrong : true ≡ false = sym reported ∙ ap is_reported e in cc
success_by plan old a b count more at ind of reported (failed e) = let wrong : true ≡ false = sym reported ∙ ap is_reported e in cc
success_by plan old a b count more at ind of reported (shown e h) = let wrong : true ≡ false = sym reported ∙ ap is_reported e in cc
success_by plan old a b count more at ind of reported (told e h) =
    shown of (rw (at, ind) (record { phase = a.phase; reported = reported; status = h.status; job = h.job; of = h.of; count = count; more = more; heard_both = in_order h.heard_it (here none) }))

answered : (plan : Plan) (old : List Heard) (a b : Row) (answer : Answer) → b.address ≡ a.address → b.index ≡ a.index → PhaseCause plan.sending.id plan.meta a answer b.phase → RowIsTold plan old a → RowIsTold plan (old ++ record { from = a.address; answer = answer } ∷ []) b
answered plan old a b answer at ind (as_before e) h = told_more plan old _ b (same_row plan old a b at ind e h)
answered plan old a b answer at ind (was_told status job e of reported rises) h =
    told reported (rw (at, e) (record { status = status; job = job; of = of; heard_it = in_right old (here none) }))
answered plan old a b answer at ind (was_shown count more e reported of) h =
    rw e (success_by plan old a b count more at ind of reported h)

-- ---- a packet

not_same : (a b : ℕ) → (a == b) ≡ false → a ≡ b → ⊥
not_same a b e k = grind (arith, nat_tests)

-- what holds of every client's rows
pub record RowLaws : Type 0 where
  pub clients : ClientLaws
  pub causes : RowsChangeByCause
  pub follow : RowsFollowPackets
  pub time : TimeChangesAtFive

module _ (known : RowLaws) (plan : Plan) where
  row_follows : (c : Client) (from : ℕ) (answer : Answer) (old : List Heard) (a b : Receiver) (is_from : Bool) → (a.row.address == from) ≡ is_from → c.sending ≡ plan.sending → c.purpose ≡ purpose_of plan
      → b.row.address ≡ a.row.address → b.row.index ≡ a.row.index → FollowsPacket c from answer a b → RowIsTold plan old a.row → RowIsTold plan (old ++ record { from = from; answer = answer } ∷ []) b.row
  row_follows c from answer old a b true e sending purpose at ind follows h = by_presence (is_present c.place) refl
    where
      by_presence : (present : Bool) → is_present c.place ≡ present → RowIsTold plan (old ++ record { from = from; answer = answer } ∷ []) b.row
      by_presence false gone = told_more plan old _ b.row (same_row plan old a.row b.row at ind (follows.canceled gone) h)
      by_presence true there =
          let theirs : a.row.address ≡ from = eqb-true a.row.address from e in
          let said : b.row.phase ≡ (row_after plan.sending.id plan.meta a.row answer).phase =
          follows.theirs there theirs ∙ ap (λ (id : ℕ). phase_said id c.purpose a.row answer) (ap (λ s. s.id) sending) ∙ ap (λ (p : Purpose). phase_said plan.sending.id p a.row answer) purpose in
          let cause : PhaseCause plan.sending.id plan.meta a.row answer b.row.phase = subst (λ (phase : ℕ). PhaseCause plan.sending.id plan.meta a.row answer phase) (sym said) (known.causes plan.sending.id plan.meta a.row answer) in
          subst (λ (x : ℕ). RowIsTold plan (old ++ record { from = x; answer = answer } ∷ []) b.row) theirs (answered plan old a.row b.row answer at ind cause h)
  row_follows c from answer old a b false e sending purpose at ind follows h =
      told_more plan old _ b.row (same_row plan old a.row b.row at ind (follows.others (not_same a.row.address from e)) h)

  rows_follow : (c : Client) (from : ℕ) (answer : Answer) (old : List Heard) (was now : List Receiver) → c.sending ≡ plan.sending → c.purpose ≡ purpose_of plan
      → addresses (map row_of now) ≡ addresses (map row_of was) → indexes (map row_of now) ≡ indexes (map row_of was) → Each (FollowsPacket c from answer) was now
      → AllByRecursion (RowIsTold plan old) (map row_of was) → AllByRecursion (RowIsTold plan (old ++ record { from = from; answer = answer } ∷ [])) (map row_of now)
  rows_follow c from answer old [] [] sending purpose at ind k h = tt
  rows_follow c from answer old [] (b ∷ bs) sending purpose at ind k h = absurd k
  rows_follow c from answer old (a ∷ more) [] sending purpose at ind k h = absurd k
  rows_follow c from answer old (a ∷ more) (b ∷ bs) sending purpose at ind k h = (
    row_follows c from answer old a b (a.row.address == from) refl sending purpose (heads b.row.address a.row.address _ _ at) (heads b.row.index a.row.index _ _ ind) k.0 h.0,
    rows_follow c from answer old more bs sending purpose (tails b.row.address a.row.address _ _ at) (tails b.row.index a.row.index _ _ ind) k.1 h.1,
  )

  all_more : (old more : List Heard) (given : List Row) → AllByRecursion (RowIsTold plan old) given → AllByRecursion (RowIsTold plan (old ++ more)) given
  all_more old more [] h = tt
  all_more old more (row ∷ given) h = (told_more plan old more row h.0, all_more old more given h.1)

  answer_tells : (to : List (ℕ × ℕ)) (c : Client) (from now : ℕ) (answer : Option Answer) (old : List Heard) → DoesPlan plan to c → AllByRecursion (RowIsTold plan old) (rows c)
      → AllByRecursion (RowIsTold plan (old ++ heard_as from answer)) (rows (answer_handled c from now answer).next)
  answer_tells to c from now None old k h = all_more old [] (rows c) h
  answer_tells to c from now (Some answer) old k h =
      let same = known.clients.plans.tells c from answer now in
      rows_follow c from answer old c.receivers (told_client c from answer now).receivers k.sending k.purpose same.addresses same.indexes (known.follow c from answer now) h

  packet_tells : (to : List (ℕ × ℕ)) (c : Client) (packet : Packet) (now : ℕ) (old : List Heard) → DoesPlan plan to c → AllByRecursion (RowIsTold plan old) (rows c)
      → AllByRecursion (RowIsTold plan (old ++ heard_by c.sending.from (PacketComes packet))) (rows (client_packet c packet now).next)
  packet_tells to c packet now old k h = by_address (packet.to == c.sending.from)
    where
      by_address : (b : Bool) → AllByRecursion (RowIsTold plan (old ++ cond b (heard_as packet.from (answer_at packet.payload)) [])) (rows (cond b (answer_handled c packet.from now (answer_at packet.payload)) (answer_handled c packet.from now None)).next)
      by_address true = answer_tells to c packet.from now (answer_at packet.payload) old k h
      by_address false = answer_tells to c packet.from now None old k h

  -- ---- time

  -- five silent rounds leave the phase, or the row was asked to confirm in vain
  vain : (row : Row) (success : Bool) → ((cond success row (record row { phase = 9 })).phase ≡ row.phase) ⊎ ((cond success row (record row { phase = 9 })).phase ≡ 9)
  vain row true = inl refl
  vain row false = inr refl

  fell : (r : Receiver) (step : Step) → ((fell_silent r step).row.phase ≡ r.row.phase) ⊎ ((fell_silent r step).row.phase ≡ 9)
  fell r Confirm = vain r.row (r.row.phase == 8)
  fell r Check = inl refl
  fell r Start = inl refl
  fell r Information = inl refl
  fell r Transfer = inl refl
  fell r (Block b) = inl refl
  fell r (Chunks b) = inl refl
  fell r (Pull b) = inl refl
  fell r (Get b) = inl refl
  fell r Verify = inl refl
  fell r Apply = inl refl
  fell r Cancel = inl refl

  or_failed : (old : List Heard) (a b : Row) → b.address ≡ a.address → b.index ≡ a.index → (b.phase ≡ a.phase) ⊎ (b.phase ≡ 9) → RowIsTold plan old a → RowIsTold plan old b
  or_failed old a b at ind (inl e) h = same_row plan old a b at ind e h
  or_failed old a b at ind (inr e) h = failed e

  fell_to : (a b phase : ℕ) → phase ≡ b → (b ≡ a) ⊎ (b ≡ 9) → (phase ≡ a) ⊎ (phase ≡ 9)
  fell_to a b phase e (inl k) = inl (e ∙ k)
  fell_to a b phase e (inr k) = inr (e ∙ k)

  row_waits : (c : Client) (now : ℕ) (old : List Heard) (a b : Receiver) → b.row.address ≡ a.row.address → b.row.index ≡ a.row.index → TimeChanges c now a b → RowIsTold plan old a.row → RowIsTold plan old b.row
  row_waits c now old a b at ind (nothing same) h = same_row plan old a.row b.row at ind same.phase_same h
  row_waits c now old a b at ind (fifth step place pending silent over fallen) h =
      or_failed old a.row b.row at ind (fell_to a.row.phase (fell_silent a step).row.phase b.row.phase fallen.phase_same (fell a step)) h

  rows_wait : (c : Client) (now : ℕ) (old : List Heard) (was new : List Receiver) → addresses (map row_of new) ≡ addresses (map row_of was) → indexes (map row_of new) ≡ indexes (map row_of was)
      → Each (TimeChanges c now) was new → AllByRecursion (RowIsTold plan old) (map row_of was) → AllByRecursion (RowIsTold plan old) (map row_of new)
  rows_wait c now old [] [] at ind k h = tt
  rows_wait c now old [] (b ∷ bs) at ind k h = absurd k
  rows_wait c now old (a ∷ more) [] at ind k h = absurd k
  rows_wait c now old (a ∷ more) (b ∷ bs) at ind k h = (
    row_waits c now old a b (heads b.row.address a.row.address _ _ at) (heads b.row.index a.row.index _ _ ind) k.0 h.0,
    rows_wait c now old more bs (tails b.row.address a.row.address _ _ at) (tails b.row.index a.row.index _ _ ind) k.1 h.1,
  )

  time_tells : (to : List (ℕ × ℕ)) (c : Client) (image : List ℕ) (now : ℕ) (old : List Heard) → DoesPlan plan to c → AllByRecursion (RowIsTold plan old) (rows c) → AllByRecursion (RowIsTold plan old) (rows (due c image now).next)
  time_tells to c image now old k h =
      let same = known.clients.plans.dues c image now in
      rows_wait c now old c.receivers (due c image now).next.receivers same.addresses same.indexes (known.time c image now k.sound) h

  -- ---- runs

  event_tells : (to : List (ℕ × ℕ)) (u : Updater) (event : NodeEvent) (now : ℕ) (old : List Heard) → DoesPlan plan to u.client → AllByRecursion (RowIsTold plan old) (rows u.client)
      → AllByRecursion (RowIsTold plan (old ++ heard_by plan.sending.from event)) (rows (updater_step u event now).next.client)
  event_tells to u (PacketComes packet) now old k h =
      subst (λ (address : ℕ). AllByRecursion (RowIsTold plan (old ++ heard_by address (PacketComes packet))) (rows (updater_step u (PacketComes packet) now).next.client)) (ap (λ s. s.from) k.sending)
      (packet_tells to u.client packet now old k h)
  event_tells to u TimeComes now old k h = all_more old [] _ (time_tells to u.client u.image.octets now old k h)

  run_tells : (to : List (ℕ × ℕ)) (u : Updater) (run : List (NodeEvent × ℕ)) (old : List Heard) → DoesPlan plan to u.client → AllByRecursion (RowIsTold plan old) (rows u.client)
      → AllByRecursion (RowIsTold plan (old ++ heard_in plan.sending.from run)) (rows (updater_after u run).client)
  run_tells to u [] old k h = all_more old [] (rows u.client) h
  run_tells to u (e ∷ run) old k h =
      subst (λ (heard : List Heard). AllByRecursion (RowIsTold plan heard) (rows (updater_after u (e ∷ run)).client)) (append_assoc old (heard_by plan.sending.from e.0) (heard_in plan.sending.from run))
      (run_tells to (updater_step u e.0 e.1).next run (old ++ heard_by plan.sending.from e.0) (event_goes known.clients plan to u e.0 e.1 k) (event_tells to u e.0 e.1 old k h))

new_told : (plan : Plan) (to : List (ℕ × ℕ)) → AllByRecursion (RowIsTold plan []) (map row_of (map new_active to))
new_told plan [] = tt
new_told plan (x ∷ to) = (unknown refl, new_told plan to)

pub rows_are_told : RowLaws → RowsAreTold
rows_are_told known plan image to run = run_tells known plan to (new_updater plan image to) run [] (begins known.clients plan to) (new_told plan to)

-- The rows of an updater are folds.
use Rattle.std.proofs.Common.{◌≡◌, ℕ, Bool, true, false, List, [], ◌∷◌, map, refl, sym, ap, subst, ◌∙◌, cond, Option, Some, None}
use Rattle.std.specs.Prelude.{◌==◌}
use Rattle.std.proofs.lemmas.Bool.{eqb-true, eq-eqb}
use Rattle.mu_model_image.specs.declared.Meta.{Meta}
use Rattle.mu_model_wire.specs.Packet.{Packet}
use Rattle.mu_model_node.specs.Events.{NodeEvent, PacketComes, TimeComes}
use Rattle.mu_model_client.specs.declared.Sending.{Sending}
use Rattle.mu_model_client.specs.Answers.{Answer, answer_at}
use Rattle.mu_model_client.specs.Begin.{new_active}
use Rattle.mu_model_client.specs.Client.{Purpose, Update, Receiver, row_of, Client, rows}
use Rattle.mu_model_client.specs.Going.{going}
use Rattle.mu_model_client.specs.Packets.{answer_handled}
use Rattle.mu_model_client.specs.Rows.{Row, row_unconfirmed}
use Rattle.mu_model_client.specs.Told.{is_present, told}
use Rattle.mu_model_client_laws.specs.Laws.{Each as EachTold, FollowsPacket, RowsFollowPackets, phase_said, SamePlan, PlansStay}
use Rattle.mu_model_updater.specs.Updater.{Updater, new_updater, updater_step, updater_after}
use Rattle.mu_model_rows.specs.Clients.{Each, fails_now, IsInTime, TimeIsExact, PresenceStays}
use Rattle.mu_model_row_folds.specs.Folds.{Counted, Told, Unconfirmed, folded, Folds}
use Rattle.mu_model_row_folds.specs.Updaters.{none_counted, counted_answer, counted_in_time, counted_by, counted_in, first_row, UpdaterRowsAreFolds}
use Rattle.mu_model_row_folds.proofs.Folds.{told_same, unconfirmed_same, folds_then, folds_none}

pub record ClientLaws : Type 0 where
  pub plans : PlansStay
  pub follow : RowsFollowPackets
  pub time : TimeIsExact
  pub presence : PresenceStays

-- ---- receivers at each place

abbrev pub Becomes : ℕ → Meta → (Receiver → List Counted) → Receiver → Receiver → Type 0
Becomes id offered counted r e = e.row.phase ≡ folded id offered r.row.index r.row.phase (counted r)

head_same : (x y : ℕ) (xs ys : List ℕ) → x ∷ xs ≡ y ∷ ys → (x ≡ y) × (xs ≡ ys)
head_same x y xs ys e = (cc, cc)

folds_of : (id : ℕ) (offered : Meta) (counted : Receiver → List Counted) (rs es : List Receiver)
    → map (λ (row : Row). row.address) (map row_of es) ≡ map (λ (row : Row). row.address) (map row_of rs) → map (λ (row : Row). row.index) (map row_of es) ≡ map (λ (row : Row). row.index) (map row_of rs)
    → Each (Becomes id offered counted) rs es → Folds id offered (map row_of rs) (map counted rs) (map row_of es)
folds_of id offered counted [] [] a i h = tt
folds_of id offered counted [] (e ∷ es) a i h = absurd h
folds_of id offered counted (r ∷ rs) [] a i h = absurd h
folds_of id offered counted (r ∷ rs) (e ∷ es) a i h =
    let addresses = head_same e.row.address r.row.address _ _ a in
    let indexes = head_same e.row.index r.row.index _ _ i in
    (record { address_same = addresses.0; index_same = indexes.0; phase_is = h.0 }, folds_of id offered counted rs es addresses.1 indexes.1 h.1)

-- ---- a packet

heard_by : (c : Client) (from : ℕ) (answer : Answer) (offered : Meta) (apply : Bool) (r e : Receiver) (b : Bool) → (r.row.address == from) ≡ b → c.purpose ≡ Update offered apply → is_present c.place ≡ true
    → FollowsPacket c from answer r e → e.row.phase ≡ folded c.sending.id offered r.row.index r.row.phase (cond b (Told answer ∷ []) [])
heard_by c from answer offered apply r e true same is present h =
    h.theirs present (eqb-true r.row.address from same) ∙ (ap (λ (p : Purpose). phase_said c.sending.id p r.row answer) is ∙ sym (told_same c.sending.id offered r.row answer))
heard_by c from answer offered apply r e false same is present h = h.others (λ own. (let yes : (r.row.address == from) ≡ true = eq-eqb r.row.address from own in cc))

heard : (c : Client) (from : ℕ) (answer : Answer) (offered : Meta) (apply : Bool) → c.purpose ≡ Update offered apply → is_present c.place ≡ true → (rs es : List Receiver)
    → EachTold (FollowsPacket c from answer) rs es → Each (Becomes c.sending.id offered (counted_answer from (Some answer))) rs es
heard c from answer offered apply is present [] [] h = tt
heard c from answer offered apply is present [] (e ∷ es) h = absurd h
heard c from answer offered apply is present (r ∷ rs) [] h = absurd h
heard c from answer offered apply is present (r ∷ rs) (e ∷ es) h = (heard_by c from answer offered apply r e (r.row.address == from) refl is present h.0, heard c from answer offered apply is present rs es h.1)

-- ---- time

pub waited_by : (id : ℕ) (offered : Meta) (row : Row) (b : Bool) → cond b (row_unconfirmed row).phase row.phase ≡ folded id offered row.index row.phase (cond b (Unconfirmed ∷ []) [])
waited_by id offered row true = sym (unconfirmed_same id offered row)
waited_by id offered row false = refl

waited : (c : Client) (now id : ℕ) (offered : Meta) (rs es : List Receiver) → Each (IsInTime c now) rs es → Each (Becomes id offered (counted_in_time c now)) rs es
waited c now id offered [] [] h = tt
waited c now id offered [] (e ∷ es) h = absurd h
waited c now id offered (r ∷ rs) [] h = absurd h
waited c now id offered (r ∷ rs) (e ∷ es) h = (h.0.phase_is ∙ waited_by id offered r.row (fails_now c now r), waited c now id offered rs es h.1)

module _ (laws : ClientLaws) where
  -- ---- events

  answer_folds : (c : Client) (from now : ℕ) (offered : Meta) (apply : Bool) (answer : Option Answer) → c.purpose ≡ Update offered apply → is_present c.place ≡ true
      → Folds c.sending.id offered (rows c) (map (counted_answer from answer) c.receivers) (rows (answer_handled c from now answer).next)
  answer_folds c from now offered apply None is present = folds_none row_of c.sending.id offered c.receivers
  answer_folds c from now offered apply (Some answer) is present =
      let same : SamePlan c (told c from answer now) = laws.plans.tells c from answer now in
      folds_of c.sending.id offered (counted_answer from (Some answer)) c.receivers (told c from answer now).receivers same.addresses same.indexes
      (heard c from answer offered apply is present c.receivers (told c from answer now).receivers (laws.follow c from answer now))

  packet_folds : (u : Updater) (packet : Packet) (now : ℕ) (offered : Meta) (apply : Bool) → u.client.purpose ≡ Update offered apply → is_present u.client.place ≡ true → (b : Bool)
      → Folds u.client.sending.id offered (rows u.client) (cond b (map (counted_answer packet.from (answer_at packet.payload)) u.client.receivers) (map none_counted u.client.receivers))
      (rows (cond b (answer_handled u.client packet.from now (answer_at packet.payload)) (answer_handled u.client packet.from now None)).next)
  packet_folds u packet now offered apply is present true = answer_folds u.client packet.from now offered apply (answer_at packet.payload) is present
  packet_folds u packet now offered apply is present false = folds_none row_of u.client.sending.id offered u.client.receivers

  event_folds : (u : Updater) (event : NodeEvent) (now : ℕ) (offered : Meta) (apply : Bool) → u.client.purpose ≡ Update offered apply → is_present u.client.place ≡ true
      → Folds u.client.sending.id offered (rows u.client) (counted_by u event now) (rows (updater_step u event now).next.client)
  event_folds u (PacketComes packet) now offered apply is present = packet_folds u packet now offered apply is present (packet.to == u.client.sending.from)
  event_folds u TimeComes now offered apply is present =
      let same = laws.plans.dues u.client u.image.octets now in
      folds_of u.client.sending.id offered (counted_in_time u.client now) u.client.receivers (going u.client now).next.receivers same.addresses same.indexes
      (waited u.client now u.client.sending.id offered u.client.receivers (going u.client now).next.receivers (laws.time u.client now))

  -- ---- what stays

  record Stays (c next : Client) : Type 0 where
    pub sending : next.sending ≡ c.sending
    pub purpose : next.purpose ≡ c.purpose
    pub present : is_present next.place ≡ is_present c.place

  answer_stays : (c : Client) (from now : ℕ) (answer : Option Answer) → Stays c (answer_handled c from now answer).next
  answer_stays c from now None = record { sending = refl; purpose = refl; present = refl }
  answer_stays c from now (Some answer) =
      let same : SamePlan c (told c from answer now) = laws.plans.tells c from answer now in
      record { sending = same.sending; purpose = same.purpose; present = laws.presence.tells c from answer now }

  event_stays : (u : Updater) (event : NodeEvent) (now : ℕ) → Stays u.client (updater_step u event now).next.client
  event_stays u (PacketComes packet) now =
      elim (packet.to == u.client.sending.from)
      as (λ b. Stays u.client (cond b (answer_handled u.client packet.from now (answer_at packet.payload)) (answer_handled u.client packet.from now None)).next) [
        | true ↦ answer_stays u.client packet.from now (answer_at packet.payload)
        | false ↦ answer_stays u.client packet.from now None
      ]
  event_stays u TimeComes now =
      let same = laws.plans.dues u.client u.image.octets now in
      record { sending = same.sending; purpose = same.purpose; present = laws.presence.goes u.client now }

  -- ---- runs

  run_folds : (u : Updater) (run : List (NodeEvent × ℕ)) (offered : Meta) (apply : Bool) → u.client.purpose ≡ Update offered apply → is_present u.client.place ≡ true
      → Folds u.client.sending.id offered (rows u.client) (counted_in u run) (rows (updater_after u run).client)
  run_folds u [] offered apply is present = folds_none row_of u.client.sending.id offered u.client.receivers
  run_folds u (e ∷ run) offered apply is present =
      let next : Updater = (updater_step u e.0 e.1).next in
      let stays : Stays u.client next.client = event_stays u e.0 e.1 in
      let others = run_folds next run offered apply (stays.purpose ∙ is) (stays.present ∙ present) in
      folds_then u.client.sending.id offered (rows u.client) (rows next.client) (rows (updater_after next run).client) (counted_by u e.0 e.1) (counted_in next run)
      (event_folds u e.0 e.1 offered apply is present)
      (subst (λ (s : Sending). Folds s.id offered (rows next.client) (counted_in next run) (rows (updater_after next run).client)) stays.sending others)

  first_rows : (to : List (ℕ × ℕ)) → map row_of (map new_active to) ≡ map first_row to
  first_rows [] = refl
  first_rows (receiver ∷ to) = ap (λ (more : List Row). first_row receiver ∷ more) (first_rows to)

  pub updater_rows : UpdaterRowsAreFolds
  updater_rows plan image to run =
      subst (λ (first : List Row). Folds plan.sending.id plan.meta first (counted_in (new_updater plan image to) run) (rows (updater_after (new_updater plan image to) run).client)) (first_rows to)
      (run_folds (new_updater plan image to) run plan.meta plan.apply refl (laws.presence.starts plan to))

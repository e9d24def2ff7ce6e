-- A distributor's rows say what its receivers told it.
use Rattle.std.proofs.Common.{◌≡◌, ℕ, ◌+◌, ◌*◌, ◌^◌, Bool, true, false, List, [], ◌∷◌, ◌++◌, map, refl, sym, ap, subst, ◌∙◌, cond, arith, append_assoc, Option, Some, None, ◌⊎◌, inl, inr, ⊎_elim}
use Rattle.std.specs.Prelude.{◌==◌, ◌&&◌, nat_lt, nat_le, bytes_eq}
use Rattle.std.specs.List.{AllByRecursion}
use Rattle.std.proofs.lemmas.Bool.{eqb-true}
use Rattle.std.proofs.lemmas.Bool.Decides.{nat_tests}
use Rattle.std.proofs.lemmas.Slice.Eq.{bytes_eq-Decides}
use Rattle.mu_model_image.specs.declared.Meta.{Meta}
use Rattle.mu_model_image.specs.Meta.{firmware_id, own_company}
use Rattle.mu_model_node.specs.UpdateMessages.{ShownJob, InformationStatus, MetadataStatus, UpdateStatus}
use Rattle.mu_model_node.specs.Events.{NodeEvent, PacketComes, TimeComes}
use Rattle.mu_model_node.specs.Safe.{Happening, Done, CutPower, Torn}
use Rattle.mu_model_node.specs.Laws.{RequestsKeepStatesSound}
use Rattle.mu_model_wire.specs.Packet.{Packet}
use Rattle.mu_model_client.specs.Answers.{Answer, FromUpdate, FromBlob}
use Rattle.mu_model_client.specs.Rows.{Row, is_reported, rank, phase_reported, phase_shown, row_after}
use Rattle.mu_model_distributor.specs.Requests.{Entry}
use Rattle.mu_model_distributor.specs.DistMessages.{Taken, OfReceiver, taken_at}
use Rattle.mu_model_distributor.specs.DistState.{Receiver, DistDurable, DistState, is_at_rest, transfer_id, offered, receiver_of}
use Rattle.mu_model_distributor.specs.Receivers.{has_address, new_receiver, added}
use Rattle.mu_model_distributor.specs.Distribution.{meta_of, renewed}
use Rattle.mu_model_distributor.specs.DistEvents.{dist_step, live}
use Rattle.mu_model_distributor.specs.Runs.{happened, state_after}
use Rattle.mu_model_distributor_laws.specs.RowMoves.{Each, Says, RowChange, stands, told as by_answer, canceled, unconfirmed, RowMoves, ReceiversMove, begins, adds, empties, moves}
use Rattle.mu_model_distributor_laws.specs.Planned.{has_transfer}
use Rattle.mu_model_distributor_laws.specs.RunLaws.{HappeningFits, IsInOrder}
use Rattle.mu_model_distributor_laws.specs.RowsTold.{Heard, heard_as, heard_event, heard_by, heard_in, InOrder, none, here, later, HasFound, ToldPhase, ToldSuccess, ShownSince, Told, verdict, found, told, shown, shown_since, RowsAreToldIn, RowsAreTold}
use Rattle.mu_model_distributor_laws.proofs.RowMoves.{rows_move}
use Rattle.mu_model_distributor_laws.proofs.RunLaws.{left_is, begun, happens}

-- ---- order

in_right : {xs more : List Heard} (heard : List Heard) → InOrder xs more → InOrder xs (heard ++ more)
in_right [] h = h
in_right (x ∷ heard) h = later (in_right heard h)

in_left : {xs heard : List Heard} (more : List Heard) → InOrder xs heard → InOrder xs (heard ++ more)
in_left more none = none
in_left more (here h) = here (in_left more h)
in_left more (later h) = later (in_left more h)

in_order : {xs ys heard more : List Heard} → InOrder xs heard → InOrder ys more → InOrder (xs ++ ys) (heard ++ more)
in_order (none {all = heard}) k = in_right heard k
in_order (here h) k = here (in_order h k)
in_order (later h) k = later (in_order h k)

-- ---- what a packet says of a row

pub data Cause (id : ℕ) (offer : Meta) (row : Row) (answer : Answer) (phase : ℕ) : Type 0 where
  as_before : phase ≡ row.phase → Cause id offer row answer phase
  was_told : (status : ℕ) (job : ShownJob) → answer ≡ FromUpdate (UpdateStatus status phase (Some job)) → job.id ≡ id → is_reported phase ≡ true → Cause id offer row answer phase
  was_shown : (count : ℕ) (more : List (List ℕ)) → answer ≡ FromUpdate (InformationStatus count row.index (firmware_id own_company offer ∷ more)) → is_reported row.phase ≡ true → phase ≡ 8 → Cause id offer row answer phase

reported_cause : (id : ℕ) (offer : Meta) (row : Row) (status phase : ℕ) (job : ShownJob) (b : Bool) → (is_reported phase && (nat_lt (rank row.phase) 5 && nat_le (rank row.phase) (rank phase))) ≡ b → job.id ≡ id → Cause id offer row (FromUpdate (UpdateStatus status phase (Some job))) (cond b phase row.phase)
reported_cause id offer row status phase job true e of = was_told status job refl of (and_left (is_reported phase) _ e)
  where
    and_left : (x y : Bool) → (x && y) ≡ true → x ≡ true
    and_left true y e = refl
    and_left false y e = cc
reported_cause id offer row status phase job false e of = as_before refl

job_cause : (id : ℕ) (offer : Meta) (row : Row) (status phase : ℕ) (job : ShownJob) (b : Bool) → (job.id == id) ≡ b → Cause id offer row (FromUpdate (UpdateStatus status phase (Some job))) (cond b (phase_reported row.phase phase) row.phase)
job_cause id offer row status phase job true e = reported_cause id offer row status phase job (is_reported phase && (nat_lt (rank row.phase) 5 && nat_le (rank row.phase) (rank phase))) refl (eqb-true job.id id e)
job_cause id offer row status phase job false e = as_before refl

shown_cause : (id : ℕ) (offer : Meta) (row : Row) (count first : ℕ) (image : List ℕ) (more : List (List ℕ)) (b : Bool) → (bytes_eq image (firmware_id own_company offer) && is_reported row.phase) ≡ b → first ≡ row.index → Cause id offer row (FromUpdate (InformationStatus count first (image ∷ more))) (cond b 8 row.phase)
shown_cause id offer row count first image more true e at =
    let k = both (bytes_eq image (firmware_id own_company offer)) (is_reported row.phase) e in
    let same : image ≡ firmware_id own_company offer = (bytes_eq-Decides image (firmware_id own_company offer)).0 k.0 in
    was_shown count more (rw (at, same) refl) k.1 refl
  where
    both : (x y : Bool) → (x && y) ≡ true → (x ≡ true) × (y ≡ true)
    both true y e = (refl, e)
    both false y e = cc
shown_cause id offer row count first image more false e at = as_before refl

ids_cause : (id : ℕ) (offer : Meta) (row : Row) (count first : ℕ) (ids : List (List ℕ)) → first ≡ row.index → Cause id offer row (FromUpdate (InformationStatus count first ids)) (phase_shown offer row.phase ids)
ids_cause id offer row count first [] at = as_before refl
ids_cause id offer row count first (image ∷ more) at = shown_cause id offer row count first image more (bytes_eq image (firmware_id own_company offer) && is_reported row.phase) refl at

first_cause : (id : ℕ) (offer : Meta) (row : Row) (count first : ℕ) (ids : List (List ℕ)) (b : Bool) → (first == row.index) ≡ b → Cause id offer row (FromUpdate (InformationStatus count first ids)) (cond b (phase_shown offer row.phase ids) row.phase)
first_cause id offer row count first ids true e = ids_cause id offer row count first ids (eqb-true first row.index e)
first_cause id offer row count first ids false e = as_before refl

pub cause_of : (id : ℕ) (offer : Meta) (row : Row) (answer : Answer) → Cause id offer row answer (row_after id offer row answer).phase
cause_of id offer row (FromUpdate (UpdateStatus status phase None)) = as_before refl
cause_of id offer row (FromUpdate (UpdateStatus status phase (Some job))) = job_cause id offer row status phase job (job.id == id) refl
cause_of id offer row (FromUpdate (InformationStatus count first ids)) = first_cause id offer row count first ids (first == row.index) refl
cause_of id offer row (FromUpdate (MetadataStatus status index)) = as_before refl
cause_of id offer row (FromBlob answer) = as_before refl

-- ---- more was heard

phase_more : (id address phase : ℕ) (heard more : List Heard) → ToldPhase id address phase heard → ToldPhase id address phase (heard ++ more)
phase_more id address phase heard more h = record { status = h.status; job = h.job; of = h.of; offer = h.offer; heard_it = in_left more h.heard_it }

success_more : (id address index : ℕ) (heard more : List Heard) → ToldSuccess id address index heard → ToldSuccess id address index (heard ++ more)
success_more id address index heard more h = record { phase = h.phase; reported = h.reported; status = h.status; job = h.job; of = h.of; earlier = h.earlier; offer = h.offer; count = h.count; more = h.more; heard_both = in_left more h.heard_both }

since_more : (id address index : ℕ) (rows : List Receiver) (heard more : List Heard) → ShownSince id address index rows heard → ShownSince id address index rows (heard ++ more)
since_more id address index rows heard more h = record { phase = h.phase; reported = h.reported; was = h.was; offer = h.offer; count = h.count; more = h.more; heard_it = in_left more h.heard_it }

told_more : (d : DistDurable) (id number : ℕ) (heard more : List Heard) (r : Receiver) → Told d id number heard r → Told d id number (heard ++ more) r
told_more d id number heard more r (verdict h) = verdict h
told_more d id number heard more r (found e h) = found e h
told_more d id number heard more r (told e h) = told e (phase_more id r.address r.phase heard more h)
told_more d id number heard more r (shown e h) = shown e (success_more id r.address r.index heard more h)
told_more d id number heard more r (shown_since e k h) = shown_since e k (since_more id r.address r.index d.receivers heard more h)

all_more : (d : DistDurable) (id number : ℕ) (heard more : List Heard) (rs : List Receiver) → AllByRecursion (Told d id number heard) rs → AllByRecursion (Told d id number (heard ++ more)) rs
all_more d id number heard more [] h = tt
all_more d id number heard more (r ∷ rs) h = (told_more d id number heard more r h.0, all_more d id number heard more rs h.1)

-- ---- a row that stands

same_row : (d : DistDurable) (id number : ℕ) (heard : List Heard) (a b : Receiver) → b.address ≡ a.address → b.index ≡ a.index → b.phase ≡ a.phase → Told d id number heard a → Told d id number heard b
same_row d id number heard a b at ind of (verdict h) = verdict (subst (λ p. (p ≡ 7) ⊎ ((p ≡ 9) ⊎ (p ≡ 10))) (sym of) h)
same_row d id number heard a b at ind of (found e h) = found e (rw (at, ind, of) h)
same_row d id number heard a b at ind of (told e h) = told (rw of e) (rw (at, of) h)
same_row d id number heard a b at ind of (shown e h) = shown (of ∙ e) (rw (at, ind) h)
same_row d id number heard a b at ind of (shown_since e k h) = shown_since (of ∙ e) k (rw (at, ind) h)

-- ---- an answer

-- what a row was told before it showed success
success_by : (d : DistDurable) (id number : ℕ) (old : List Heard) (a b : Receiver) (count : ℕ) (more : List (List ℕ)) (offer : Meta) → b.address ≡ a.address → b.index ≡ a.index → b.phase ≡ 8 → is_reported a.phase ≡ true → Told d id number old a → Told d id number (old ++ record { from = a.address; answer = FromUpdate (InformationStatus count a.index (firmware_id own_company offer ∷ more)); id = id; offer = offer } ∷ []) b
success_by d id number old a b count more offer at ind of reported (verdict h) =
    let never : is_reported a.phase ≡ false = ⊎_elim (λ e. ap is_reported e) (λ k. ⊎_elim (λ e. ap is_reported e) (λ e. ap is_reported e) k) h in
    let wrong : true ≡ false = sym reported ∙ never in
    cc
success_by d id number old a b count more offer at ind of reported (found e h) =
    shown_since of e (rw (at, ind) (record { phase = a.phase; reported = reported; was = h; offer = offer; count = count; more = more; heard_it = in_right old (here none) }))
success_by d id number old a b count more offer at ind of reported (told e h) =
    shown of (rw (at, ind) (record { phase = a.phase; reported = reported; status = h.status; job = h.job; of = h.of; earlier = h.offer; offer = offer; count = count; more = more; heard_both = in_order h.heard_it (here none) }))
success_by d id number old a b count more offer at ind of reported (shown e h) = let wrong : true ≡ false = sym reported ∙ ap is_reported e in cc
success_by d id number old a b count more offer at ind of reported (shown_since e k h) = let wrong : true ≡ false = sym reported ∙ ap is_reported e in cc

answered : (d : DistDurable) (id number : ℕ) (old : List Heard) (row : Row) (b : Receiver) (answer : Answer) (offer : Meta) → b.address ≡ row.address → b.index ≡ row.index → Cause id offer row answer b.phase → Told d id number old (receiver_of row) → Told d id number (old ++ record { from = row.address; answer = answer; id = id; offer = offer } ∷ []) b
answered d id number old row b answer offer at ind (as_before e) h = told_more d id number old _ b (same_row d id number old (receiver_of row) b at ind e h)
answered d id number old row b answer offer at ind (was_told status job e of reported) h =
    told reported (rw (at, e) (record { status = status; job = job; of = of; offer = offer; heard_it = in_right old (here none) }))
answered d id number old row b answer offer at ind (was_shown count more e reported of) h =
    rw e (success_by d id number old (receiver_of row) b count more offer at ind of reported h)

-- ---- an event

heard_once : (address : ℕ) (d : DistDurable) (packet : Packet) (from : ℕ) (answer : Answer) (b : Bool) (taken : Option Taken) → b ≡ true → taken ≡ Some (OfReceiver answer) → has_transfer d.phase ≡ true → cond b (heard_as address d from taken) [] ≡ record { from = from; answer = answer; id = transfer_id address d; offer = meta_of (offered d) } ∷ []
heard_once address d packet from answer b taken e k busy = rw (e, k, busy) refl

eq_true : (a b : ℕ) → a ≡ b → (a == b) ≡ true
eq_true a b e = grind (arith, nat_tests)

heard_is : (address : ℕ) (d : DistDurable) (event : NodeEvent) (from : ℕ) (answer : Answer) → has_transfer d.phase ≡ true → Says address event from (OfReceiver answer) → heard_event address d event ≡ record { from = from; answer = answer; id = transfer_id address d; offer = meta_of (offered d) } ∷ []
heard_is address d (PacketComes packet) from answer busy says =
    heard_once address d packet packet.from answer (packet.to == address) (taken_at packet.payload) (eq_true packet.to address says.0) says.2 busy
    ∙ ap (λ x. record { from = x; answer = answer; id = transfer_id address d; offer = meta_of (offered d) } ∷ []) says.1
heard_is address d TimeComes from answer busy says = absurd says

row_told_by : (address : ℕ) (found_one d : DistDurable) (event : NodeEvent) (old : List Heard) (row : Row) (b : Receiver) (answer : Answer) → has_transfer d.phase ≡ true → Says address event row.address (OfReceiver answer) → b.address ≡ row.address → b.index ≡ row.index → b.phase ≡ (row_after (transfer_id address d) (meta_of (offered d)) row answer).phase → Told found_one (transfer_id address d) d.counter old (receiver_of row) → Told found_one (transfer_id address d) d.counter (old ++ heard_event address d event) b
row_told_by address found_one d event old row b answer busy says at ind of h =
    let cause : Cause (transfer_id address d) (meta_of (offered d)) row answer b.phase = subst (Cause (transfer_id address d) (meta_of (offered d)) row answer) (sym of) (cause_of (transfer_id address d) (meta_of (offered d)) row answer) in
    let k = answered found_one (transfer_id address d) d.counter old row b answer (meta_of (offered d)) at ind cause h in
    subst (λ (heard : List Heard). Told found_one (transfer_id address d) d.counter (old ++ heard) b) (sym (heard_is address d event row.address answer busy says)) k

row_moved : (address : ℕ) (found_one d : DistDurable) (event : NodeEvent) (old : List Heard) (a b : Receiver) → b.address ≡ a.address → b.index ≡ a.index → RowChange address d event a b → Told found_one (transfer_id address d) d.counter old a → Told found_one (transfer_id address d) d.counter (old ++ heard_event address d event) b
row_moved address found_one d event old a b at ind (stands e) h = told_more found_one _ _ old _ b (same_row found_one _ _ old a b at ind e h)
row_moved address found_one d event old a b at ind (by_answer row answer busy same says of) h =
    let own : Told found_one (transfer_id address d) d.counter old (receiver_of row) = subst (Told found_one (transfer_id address d) d.counter old) (sym same) h in
    row_told_by address found_one d event old row b answer busy (subst (λ (r : Receiver). Says address event r.address (OfReceiver answer)) (sym same) says) (subst (λ (r : Receiver). b.address ≡ r.address) (sym same) at) (subst (λ (r : Receiver). b.index ≡ r.index) (sym same) ind) of own
row_moved address found_one d event old a b at ind (canceled from says low of) h = verdict (inl of)
row_moved address found_one d event old a b at ind (unconfirmed e not of) h = verdict (inr (inl of))

rows_moved : (address : ℕ) (found_one d : DistDurable) (event : NodeEvent) (old : List Heard) (was now : List Receiver) → Each (RowMoves address d event) was now → AllByRecursion (Told found_one (transfer_id address d) d.counter old) was → AllByRecursion (Told found_one (transfer_id address d) d.counter (old ++ heard_event address d event)) now
rows_moved address found_one d event old [] [] k h = tt
rows_moved address found_one d event old [] (b ∷ bs) k h = absurd k
rows_moved address found_one d event old (a ∷ more) [] k h = absurd k
rows_moved address found_one d event old (a ∷ more) (b ∷ bs) k h = (row_moved address found_one d event old a b k.0.address_same k.0.index_same k.0.phase_change h.0, rows_moved address found_one d event old more bs k.1 h.1)

renewed_told : (found_one : DistDurable) (id number : ℕ) (heard : List Heard) (rs : List Receiver) → AllByRecursion (Told found_one id number heard) (map renewed rs)
renewed_told found_one id number heard [] = tt
renewed_told found_one id number heard (r ∷ rs) = (verdict (inr (inr refl)), renewed_told found_one id number heard rs)

joined_told : (found_one : DistDurable) (id number : ℕ) (heard : List Heard) (rs : List Receiver) (r : Receiver) → AllByRecursion (Told found_one id number heard) rs → Told found_one id number heard r → AllByRecursion (Told found_one id number heard) (rs ++ r ∷ [])
joined_told found_one id number heard [] r h k = (k, tt)
joined_told found_one id number heard (x ∷ rs) r h k = (h.0, joined_told found_one id number heard rs r h.1 k)

added_one : (found_one : DistDurable) (id number : ℕ) (heard : List Heard) (b : Bool) (x y : List Receiver) → AllByRecursion (Told found_one id number heard) x → AllByRecursion (Told found_one id number heard) y → AllByRecursion (Told found_one id number heard) (cond b x y)
added_one found_one id number heard true x y h k = h
added_one found_one id number heard false x y h k = k

added_told : (found_one : DistDurable) (id number : ℕ) (heard : List Heard) (rs : List Receiver) (entries : List Entry) → AllByRecursion (Told found_one id number heard) rs → AllByRecursion (Told found_one id number heard) (added rs entries)
added_told found_one id number heard rs [] h = h
added_told found_one id number heard rs (e ∷ entries) h =
    added_one found_one id number heard (has_address rs e.address) _ _ (added_told found_one id number heard rs entries h)
    (added_told found_one id number heard (rs ++ new_receiver e ∷ []) entries (joined_told found_one id number heard rs (new_receiver e) h (verdict (inr (inr refl)))))

-- under the number that stands
under : (address : ℕ) (found_one : DistDurable) (heard : List Heard) (rs : List Receiver) (n m : ℕ) → m ≡ n → AllByRecursion (Told found_one (address * 2 ^ 48 + n) n heard) rs → AllByRecursion (Told found_one (address * 2 ^ 48 + m) m heard) rs
under address found_one heard rs n m e h = subst (λ k. AllByRecursion (Told found_one (address * 2 ^ 48 + k) k heard) rs) (sym e) h

move_told : (address : ℕ) (found_one d e : DistDurable) (event : NodeEvent) (old : List Heard) → ReceiversMove address d event e → RowsAreToldIn address found_one old d → RowsAreToldIn address found_one (old ++ heard_event address d event) e
move_told address found_one d e event old (begins from ask says rest counter settings rows) h = rw rows (renewed_told found_one (transfer_id address e) e.counter _ d.receivers)
move_told address found_one d e event old (adds from entries says idle counter rows) h =
    under address found_one _ e.receivers d.counter e.counter counter
    (rw rows (all_more found_one (transfer_id address d) d.counter old (heard_event address d event) (added d.receivers entries) (added_told found_one (transfer_id address d) d.counter old d.receivers entries h)))
move_told address found_one d e event old (empties from says idle counter rows) h = rw rows tt
move_told address found_one d e event old (moves counter each) h =
    under address found_one _ e.receivers d.counter e.counter counter (rows_moved address found_one d event old d.receivers e.receivers each h)

-- ---- runs

found_rows : (d : DistDurable) (id : ℕ) (heard : List Heard) (rs : List Receiver) → ((address index phase : ℕ) → HasFound rs address index phase → HasFound d.receivers address index phase) → AllByRecursion (Told d id d.counter heard) rs
found_rows d id heard [] w = tt
found_rows d id heard (r ∷ rs) w = (found refl (w r.address r.index r.phase (inl (refl, refl, refl))), found_rows d id heard rs (λ address index phase h. w address index phase (inr h)))

happening_told : RequestsKeepStatesSound → (address : ℕ) (found_one : DistDurable) (s : DistState) (h : Happening) (old : List Heard) → HappeningFits h → IsInOrder address s → RowsAreToldIn address found_one old s.durable → RowsAreToldIn address found_one (old ++ heard_by address s.durable h) (happened address s h).durable
happening_told law address found_one s (Done event now) old fits k h = move_told address found_one s.durable (dist_step address s event now).next.durable event old (rows_move address s event now fits k.sound k.planned) h
happening_told law address found_one s CutPower old fits k h = all_more found_one _ _ old [] s.durable.receivers h
happening_told law address found_one s (Torn event now operations) old fits k h =
    left_is (λ d. RowsAreToldIn address found_one (old ++ heard_event address s.durable event) d) address s event now operations
    (all_more found_one _ _ old (heard_event address s.durable event) s.durable.receivers h)
    (move_told address found_one s.durable (dist_step address s event now).next.durable event old (rows_move address s event now fits k.sound k.planned) h)

run_told : RequestsKeepStatesSound → (address : ℕ) (found_one : DistDurable) (s : DistState) (hs : List Happening) (old : List Heard) → AllByRecursion HappeningFits hs → IsInOrder address s → RowsAreToldIn address found_one old s.durable → RowsAreToldIn address found_one (old ++ heard_in address s hs) (state_after address s hs).durable
run_told law address found_one s [] old fits k h = all_more found_one _ _ old [] s.durable.receivers h
run_told law address found_one s (x ∷ hs) old fits k h =
    let next = run_told law address found_one (happened address s x) hs (old ++ heard_by address s.durable x) fits.1 (happens law address s x fits.0 k) (happening_told law address found_one s x old fits.0 k h) in
    subst (λ (heard : List Heard). RowsAreToldIn address found_one heard (state_after address (happened address s x) hs).durable) (append_assoc old (heard_by address s.durable x) (heard_in address (happened address s x) hs)) next

pub rows_are_told : RequestsKeepStatesSound → RowsAreTold
rows_are_told law address d fresh hs h few fits =
    run_told law address d (live address d fresh) hs [] fits (begun address d fresh h few) (found_rows d (transfer_id address d) [] d.receivers (λ a i p x. x))

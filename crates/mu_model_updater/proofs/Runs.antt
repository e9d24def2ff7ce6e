-- What stays through a run of an updater.
use Rattle.std.proofs.Common.{◌≡◌, ◌==◌, ℕ, Bool, true, false, List, [], ◌∷◌, map, refl, sym, ap, subst, ◌∙◌, cond, drop, Option, Some, None}
use Rattle.std.specs.Prelude.{slice_index}
use Rattle.std.specs.List.{AllByRecursion}
use Rattle.mu_model_wire.specs.Packet.{Packet}
use Rattle.mu_model_node.specs.Events.{NodeEvent, PacketComes, TimeComes}
use Rattle.mu_model_node.specs.NodeMessages.{Request}
use Rattle.mu_model_client.specs.declared.Plan.{Plan}
use Rattle.mu_model_client.specs.declared.Sending.{Sending}
use Rattle.mu_model_client.specs.Answers.{Answer, answer_at}
use Rattle.mu_model_client.specs.Begin.{purpose_of, new_active, start}
use Rattle.mu_model_client.specs.Client.{Purpose, Item, Client, rows, row_of, at_moment}
use Rattle.mu_model_client.specs.Due.{due}
use Rattle.mu_model_client.specs.Packets.{answer_handled, client_packet}
use Rattle.mu_model_client.specs.Rows.{Row}
use Rattle.mu_model_client.specs.Told.{told}
use Rattle.mu_model_client_laws.specs.Asked.{address_and_index, receivers_of, IsOfPlan, IsItemOfPlan, SendsPlan, ClientsSendTheirPlans}
use Rattle.mu_model_client_laws.specs.Laws.{SamePlan, KeepsPlan, IsSound, BeginSound, EventsSound}
use Rattle.mu_model_updater.specs.Updater.{Updater, new_updater, updater_step, updater_after, asked_by}
use Rattle.mu_model_updater.specs.Laws.{RowsAreOfReceivers}

-- what holds of every client's plan
pub record ClientLaws : Type 0 where
  pub plans : KeepsPlan
  pub sent : ClientsSendTheirPlans
  pub begins : BeginSound
  pub events : EventsSound

-- ---- receivers

pub heads : (x y : ℕ) (xs ys : List ℕ) → x ∷ xs ≡ y ∷ ys → x ≡ y
heads x y xs ys e = ap (λ (zs : List ℕ). slice_index zs 0) e

pub tails : (x y : ℕ) (xs ys : List ℕ) → x ∷ xs ≡ y ∷ ys → xs ≡ ys
tails x y xs ys e = ap (λ (zs : List ℕ). drop 1 zs) e

abbrev pub addresses : List Row → List ℕ
addresses given = map (λ (row : Row). row.address) given

abbrev pub indexes : List Row → List ℕ
indexes given = map (λ (row : Row). row.index) given

same_pairs : (xs ys : List Row) → addresses xs ≡ addresses ys → indexes xs ≡ indexes ys → map address_and_index xs ≡ map address_and_index ys
same_pairs [] [] h k = refl
same_pairs [] (y ∷ ys) h k = cc
same_pairs (x ∷ xs) [] h k = cc
same_pairs (x ∷ xs) (y ∷ ys) h k =
    rw (heads x.address y.address _ _ h, heads x.index y.index _ _ k)
    (ap (λ (more : List (ℕ × ℕ)). (y.address, y.index) ∷ more) (same_pairs xs ys (tails x.address y.address _ _ h) (tails x.index y.index _ _ k)))

new_pairs : (to : List (ℕ × ℕ)) → map address_and_index (map row_of (map new_active to)) ≡ to
new_pairs [] = refl
new_pairs (x ∷ to) = ap (λ (more : List (ℕ × ℕ)). x ∷ more) (new_pairs to)

-- ---- a client that does a plan

pub record DoesPlan (plan : Plan) (to : List (ℕ × ℕ)) (c : Client) : Type 0 where
  pub sending : c.sending ≡ plan.sending
  pub purpose : c.purpose ≡ purpose_of plan
  pub receivers : receivers_of c ≡ to
  pub queue : AllByRecursion (IsItemOfPlan plan.sending (purpose_of plan) to) c.queue
  pub sound : IsSound c

items_as : {p q : Sending} {a b : Purpose} {x y : List (ℕ × ℕ)} (items : List Item) → p ≡ q → a ≡ b → x ≡ y → AllByRecursion (IsItemOfPlan p a x) items → AllByRecursion (IsItemOfPlan q b y) items
items_as {p} {q} {a} {b} {x} {y} items e f g h =
    subst (λ (z : List (ℕ × ℕ)). AllByRecursion (IsItemOfPlan q b z) items) g
    (subst (λ (z : Purpose). AllByRecursion (IsItemOfPlan q z x) items) f
    (subst (λ (z : Sending). AllByRecursion (IsItemOfPlan z a x) items) e h))

packets_as : {p q : Sending} {a b : Purpose} {x y : List (ℕ × ℕ)} (packets : List (ℕ × Request)) → p ≡ q → a ≡ b → x ≡ y
    → AllByRecursion (λ (s : ℕ × Request). IsOfPlan p a x s.0 s.1) packets → AllByRecursion (λ (s : ℕ × Request). IsOfPlan q b y s.0 s.1) packets
packets_as {p} {q} {a} {b} {x} {y} packets e f g h =
    subst (λ (z : List (ℕ × ℕ)). AllByRecursion (λ (s : ℕ × Request). IsOfPlan q b z s.0 s.1) packets) g
    (subst (λ (z : Purpose). AllByRecursion (λ (s : ℕ × Request). IsOfPlan q z x s.0 s.1) packets) f
    (subst (λ (z : Sending). AllByRecursion (λ (s : ℕ × Request). IsOfPlan z a x s.0 s.1) packets) e h))

module _ (known : ClientLaws) (plan : Plan) (to : List (ℕ × ℕ)) where
  pub begins : DoesPlan plan to (start plan to)
  begins = record { sending = refl; purpose = refl; receivers = new_pairs to; queue = tt; sound = known.begins.starts plan to }

  goes : (c next : Client) → SamePlan c next → IsSound next → AllByRecursion (IsItemOfPlan plan.sending (purpose_of plan) to) next.queue → DoesPlan plan to c → DoesPlan plan to next
  goes c next same sound queue h = record {
    sending = same.sending ∙ h.sending;
    purpose = same.purpose ∙ h.purpose;
    receivers = same_pairs (rows next) (rows c) same.addresses same.indexes ∙ h.receivers;
    queue = queue;
    sound = sound;
  }

  moved : (c : Client) (now : ℕ) → DoesPlan plan to c → DoesPlan plan to (at_moment c now)
  moved c now h = record { sending = h.sending; purpose = h.purpose; receivers = h.receivers; queue = h.queue; sound = h.sound }

  answer_goes : (c : Client) (from now : ℕ) (answer : Option Answer) → DoesPlan plan to c → DoesPlan plan to (answer_handled c from now answer).next
  answer_goes c from now None h = moved c now h
  answer_goes c from now (Some answer) h =
      goes c (told c from answer now) (known.plans.tells c from answer now) (known.events.tells c from answer now h.sound) h.queue h

  packet_goes : (c : Client) (packet : Packet) (now : ℕ) → DoesPlan plan to c → DoesPlan plan to (client_packet c packet now).next
  packet_goes c packet now h = by_address (packet.to == c.sending.from)
    where
      by_address : (b : Bool) → DoesPlan plan to (cond b (answer_handled c packet.from now (answer_at packet.payload)) (answer_handled c packet.from now None)).next
      by_address true = answer_goes c packet.from now (answer_at packet.payload) h
      by_address false = answer_goes c packet.from now None h

  time_sends : (c : Client) (image : List ℕ) (now : ℕ) → DoesPlan plan to c → SendsPlan c (due c image now)
  time_sends c image now h = known.sent c image now (items_as c.queue (sym h.sending) (sym h.purpose) (sym h.receivers) h.queue)

  time_goes : (c : Client) (image : List ℕ) (now : ℕ) → DoesPlan plan to c → DoesPlan plan to (due c image now).next
  time_goes c image now h =
      goes c (due c image now).next (known.plans.dues c image now) (known.events.dues c image now h.sound)
      (items_as (due c image now).next.queue h.sending h.purpose h.receivers (time_sends c image now h).queue) h

  pub event_goes : (u : Updater) (event : NodeEvent) (now : ℕ) → DoesPlan plan to u.client → DoesPlan plan to (updater_step u event now).next.client
  event_goes u (PacketComes packet) now h = packet_goes u.client packet now h
  event_goes u TimeComes now h = time_goes u.client u.image.octets now h

  -- what an event sends is the plan's
  pub event_asks : (u : Updater) (event : NodeEvent) (now : ℕ) → DoesPlan plan to u.client → AllByRecursion (λ (s : ℕ × Request). IsOfPlan plan.sending (purpose_of plan) to s.0 s.1) (asked_by u event now)
  event_asks u (PacketComes packet) now h = tt
  event_asks u TimeComes now h =
      packets_as (due u.client u.image.octets now).packets h.sending h.purpose h.receivers (time_sends u.client u.image.octets now h).packets

  pub run_goes : (u : Updater) (run : List (NodeEvent × ℕ)) → DoesPlan plan to u.client → DoesPlan plan to (updater_after u run).client
  run_goes u [] h = h
  run_goes u (e ∷ run) h = run_goes (updater_step u e.0 e.1).next run (event_goes u e.0 e.1 h)

pub rows_of_receivers : ClientLaws → RowsAreOfReceivers
rows_of_receivers known plan image to run = (run_goes known plan to (new_updater plan image to) run (begins known plan to)).receivers

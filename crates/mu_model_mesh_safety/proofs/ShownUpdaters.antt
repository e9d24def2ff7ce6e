-- What an updater shows of a node, and why.
use Rattle.std.proofs.Common.{◌≡◌, ℕ, ◌==◌, Bool, true, false, cond, List, [], ◌∷◌, map, refl, sym, ap, subst, ◌∙◌, inl, inr, Option, Some, None, Contains}
use Rattle.std.specs.List.{AllByRecursion}
use Rattle.mu_model_image.specs.Meta.{meta_from}
use Rattle.mu_model_wire.specs.Packet.{Packet}
use Rattle.mu_model_node.specs.Events.{NodeEvent, PacketComes, TimeComes}
use Rattle.mu_model_node.specs.UpdateMessages.{UpdateStart}
use Rattle.mu_model_client.specs.Answers.{Answer, answer_at}
use Rattle.mu_model_client.specs.Client.{Client, rows}
use Rattle.mu_model_client.specs.Packets.{answer_handled, client_packet}
use Rattle.mu_model_client.specs.Rows.{Row}
use Rattle.mu_model_client_laws.specs.Asked.{address_and_index, HasReceiver}
use Rattle.mu_model_client_laws.specs.Laws.{KeepsPlan}
use Rattle.mu_model_updater.specs.Laws.{IsOffered}
use Rattle.mu_model_updater.specs.Updater.{Updater, new_updater, updater_step, updater_after, come_in}
use Rattle.mu_model_updater_reached.specs.Laws.{Both, AreBoth, RowIsTrue, untold, unconfirmed, logged, updated}
use Rattle.mu_model_world.specs.Judged.{owner_of}
use Rattle.mu_model_world.specs.World.{Member, config_of}
use Rattle.mu_model_mesh.specs.Mesh.{UpdaterMember, Mesh, node_at, updater_at}
use Rattle.mu_model_mesh_safety.specs.Safe.{RowIsSafe}
use Rattle.mu_model_mesh_safety.specs.Runs.{NodeRun, UpdaterRun}
use Rattle.mu_model_mesh_safety.proofs.Kept.{Kept}
use Rattle.mu_model_mesh_safety.proofs.Shown.{of_all, Starts}
use Rattle.mu_model_mesh_safety.proofs.ShownDistributors.{comes_from, metas_in_range}
use Rattle.mu_model_mesh_safety.proofs.ShownLaws.{MemberLaws}
use Rattle.mu_model_mesh_safety.proofs.ShownNodes.{log_of, state_of, OneOffer, IsIndexOf, IsOfferOf, Cause, by_verdict, by_log, by_image, row_safe}
use Rattle.mu_model_mesh_safety.proofs.ShownStarts.{owner_is, has_no_job, updater_start}

-- ---- the transfer of an updater stays

answer_stays : KeepsPlan → (c : Client) (from now : ℕ) (answer : Option Answer) → (answer_handled c from now answer).next.sending ≡ c.sending
answer_stays law c from now None = refl
answer_stays law c from now (Some answer) = (law.tells c from answer now).sending

packet_stays : KeepsPlan → (c : Client) (p : Packet) (now : ℕ) → (client_packet c p now).next.sending ≡ c.sending
packet_stays law c p now = by_address (p.to == c.sending.from)
  where
    by_address : (b : Bool) → (cond b (answer_handled c p.from now (answer_at p.payload)) (answer_handled c p.from now None)).next.sending ≡ c.sending
    by_address true = answer_stays law c p.from now (answer_at p.payload)
    by_address false = refl

step_stays : KeepsPlan → (u : Updater) (event : NodeEvent) (now : ℕ) → (updater_step u event now).next.client.sending ≡ u.client.sending
step_stays law u (PacketComes p) now = packet_stays law u.client p now
step_stays law u TimeComes now = (law.dues u.client u.image.octets now).sending

pub sending_stays : KeepsPlan → (u : Updater) (run : List (NodeEvent × ℕ)) → (updater_after u run).client.sending ≡ u.client.sending
sending_stays law u [] = refl
sending_stays law u (e ∷ run) = sending_stays law (updater_step u e.0 e.1).next run ∙ step_stays law u e.0 e.1

-- ---- indexes

all_map : {X Y : Type 0} (P : Y → Type 0) (f : X → Y) (xs : List X) → AllByRecursion P (map f xs) → AllByRecursion (λ (x : X). P (f x)) xs
all_map P f [] h = tt
all_map P f (x ∷ xs) h = (h.0, all_map P f xs h.1)

pub first_index : (to : List (ℕ × ℕ)) (address index : ℕ) → AllByRecursion (λ (receiver : ℕ × ℕ). receiver.1 ≡ 0) to → HasReceiver to address index → index ≡ 0
first_index [] address index all h = absurd h
first_index (receiver ∷ to) address index all (inl h) = sym h.1 ∙ all.0
first_index (receiver ∷ to) address index all (inr h) = first_index to address index all.1 h

-- ---- a node and an updater

abbrev both_of : {bag : List Packet} {a x : ℕ} {n : Member} {v : UpdaterMember} → NodeRun bag a n → UpdaterRun bag x v → Both
both_of {a = a} {n = n} nr ur = record {
  config = config_of a n;
  node = nr.made;
  to_node = nr.hs;
  plan = ur.plan;
  image = ur.image;
  receivers = ur.to;
  to_updater = ur.run;
}

are_both : {bag : List Packet} {a x : ℕ} {n : Member} {v : UpdaterMember} (nr : NodeRun bag a n) (ur : UpdaterRun bag x v) → AreBoth (both_of nr ur)
are_both nr ur = record { node = nr.sound; numbers = has_no_job nr; to_node = nr.fits; comes = comes_from nr (come_in ur.run) ur.come }

module _ (laws : MemberLaws) (m : Mesh) (k : Kept m) (x : ℕ) (v : UpdaterMember) (at : updater_at m x ≡ Some v) where
  abbrev run_of : UpdaterRun m.nodes.bag x v
  run_of = k.updaters x v at

  abbrev rows_now : List Row
  rows_now = rows (updater_after (new_updater run_of.plan run_of.image run_of.to) run_of.run).client

  pub owner_at : owner_of run_of.plan.sending.id ≡ x
  owner_at = owner_is x run_of.id run_of.plan.sending.id run_of.blob_id run_of.small

  start_at : (p : Packet) (u : UpdateStart) → Contains m.nodes.bag p → Starts p u → owner_of u.id ≡ x → IsOffered run_of.plan run_of.to p.to u
  start_at p u has s e = updater_start laws.fit laws.read laws.say laws.own m k x v at p u has s e

  -- what it offers
  offer_is : IsOfferOf m.nodes.bag run_of.plan.sending.id run_of.plan.meta
  offer_is p u meta has s e is =
      let o = start_at p u has s (ap owner_of e ∙ owner_at) in
      let same : Some meta ≡ Some run_of.plan.meta = sym is ∙ (ap meta_from o.metadata ∙ laws.again run_of.plan.meta run_of.range.meta) in
      cc

  index_of_row : (row : Row) → Contains rows_now row → row.index ≡ 0
  index_of_row row has =
      let all : AllByRecursion (λ (receiver : ℕ × ℕ). receiver.1 ≡ 0) (map address_and_index rows_now) = subst (AllByRecursion (λ (receiver : ℕ × ℕ). receiver.1 ≡ 0)) (sym (laws.receivers run_of.plan run_of.image run_of.to run_of.run)) run_of.first in
      of_all (λ (r : Row). r.index ≡ 0) rows_now row (all_map (λ (receiver : ℕ × ℕ). receiver.1 ≡ 0) address_and_index rows_now all) has

  module _ (a : ℕ) (n : Member) (there : node_at m a ≡ Some n) where
    abbrev node_of : NodeRun m.nodes.bag a n
    node_of = (k.nodes a n there).0

    -- under each BLOB ID of its own it offers one image
    pub one_of : (id : ℕ) → owner_of id ≡ x → OneOffer m.nodes.bag (config_of a n) id
    one_of id owner = record {
      metas = λ p q u w hp hq sp sq e f. (start_at p u hp sp (ap owner_of e ∙ owner)).metadata ∙ sym (start_at q w hq sq (ap owner_of f ∙ owner)).metadata;
      indexes = λ p q u w hp hq sp sq e f i j.
          first_index run_of.to p.to u.index run_of.first (start_at p u hp sp (ap owner_of e ∙ owner)).receiver
          ∙ sym (first_index run_of.to q.to w.index run_of.first (start_at q w hq sq (ap owner_of f ∙ owner)).receiver);
    }

    index_is : (row : Row) → Contains rows_now row → IsIndexOf m.nodes.bag (config_of a n) run_of.plan.sending.id row.index
    index_is row has p u there_is s e is =
        index_of_row row has ∙ sym (first_index run_of.to p.to u.index run_of.first (start_at p u there_is s (ap owner_of e ∙ owner_at)).receiver)

    cause_of : (row : Row) → Contains rows_now row → RowIsTrue (both_of node_of run_of) row → Cause node_of run_of.plan.sending.id row.index row.phase
    cause_of row has (untold e) = by_verdict (inr (inr e))
    cause_of row has (unconfirmed e) = by_verdict (inr (inl e))
    cause_of row has (logged is o) = by_log is o (index_is row has)
    cause_of row has (updated phase is reports o own) = by_image phase run_of.plan.meta is o (index_is row has) offer_is own

    pub row_of_node : (row : Row) → Contains rows_now row → row.address ≡ a → RowIsSafe m.nodes.bag (log_of node_of) (state_of node_of) run_of.plan.sending.id row.index row.phase
    row_of_node row has of =
        let b : Both = both_of node_of run_of in
        let why : RowIsTrue b row = of_all (λ (r : Row). r.address ≡ a → RowIsTrue b r) rows_now row (laws.row_true b (are_both node_of run_of) node_of.jobless) has of in
        row_safe laws.taken laws.asked laws.rise laws.since laws.held laws.came laws.ids node_of run_of.plan.sending.id row.index row.phase (one_of run_of.plan.sending.id owner_at) (metas_in_range laws m k)
        (cause_of row has why)

-- What a distributor shows of a node, and why.
use Rattle.std.proofs.Common.{arith, ◌≡◌, ◌⊎◌, ℕ, ◌<◌, ◌≤◌, ◌==◌, ◌^◌, Bool, true, false, List, [], ◌∷◌, refl, sym, ap, subst, ◌∙◌, inl, inr, Some, None, Contains}
use Rattle.std.proofs.lemmas.Bool.{eqb-true, eq-eqb}
use Rattle.std.specs.Prelude.{IsTrue, ◌&&◌, ◌||◌, not}
use Rattle.mu_model_image.specs.declared.Meta.{Meta}
use Rattle.mu_model_image.specs.Meta.{meta_octets, meta_from}
use Rattle.mu_model_wire.specs.Packet.{Packet}
use Rattle.mu_model_node.specs.declared.NodeConfig.{NodeConfig}
use Rattle.mu_model_node.specs.Events.{PacketComes, TimeComes}
use Rattle.mu_model_node.specs.Log.{LogEntry, Reached}
use Rattle.mu_model_node.specs.NodeState.{NodeDurable, restarted, is_addressee}
use Rattle.mu_model_node.specs.Safe.{Happening, Done, CutPower, Torn, InOrder}
use Rattle.mu_model_node.specs.UpdateMessages.{UpdateStart}
use Rattle.mu_model_client.specs.Rows.{phase_unknown}
use Rattle.mu_model_distributor.specs.DistState.{Receiver, transfer_id}
use Rattle.mu_model_distributor_laws.specs.RowsTold.{Heard, HasFound}
use Rattle.mu_model_fates.specs.Laws.{come_in}
use Rattle.mu_model_listed.specs.Laws.{Both, AreBoth, HasPayload, ComesFrom, AreNew, WasOffered, RowIsReached, verdict, found, reached, active, active_since, IsShownTruly, ruled, logged, updated, come_in as listed_come_in}
use Rattle.mu_model_offers.specs.Laws.{HasStart, sent_of, kept_of, IsUnheard}
use Rattle.mu_model_told.specs.Reached.{WasReached, sent_in}
use Rattle.mu_model_world.specs.Judged.{owner_of}
use Rattle.mu_model_world.specs.World.{Member, config_of}
use Rattle.mu_model_mesh.specs.Mesh.{DistributorMember, Mesh, node_at, distributor_at}
use Rattle.mu_model_mesh_safety.specs.Safe.{RowIsSafe}
use Rattle.mu_model_mesh_safety.specs.Runs.{AreIn, NodeRun, DistributorRun}
use Rattle.mu_model_mesh_safety.proofs.Kept.{Kept}
use Rattle.mu_model_mesh_safety.proofs.Shown.{of_all, all_of, first_or, Starts}
use Rattle.mu_model_mesh_safety.proofs.ShownLaws.{MemberLaws}
use Rattle.mu_model_mesh_safety.proofs.ShownNodes.{log_of, state_of, OneOffer, MetasInRange, IsIndexOf, IsOfferOf, Cause, by_verdict, by_log, by_image, not_reported, row_safe}
use Rattle.mu_model_mesh_safety.proofs.ShownStarts.{owner_is, has_no_job, distributor_start, own_start, in_range}

-- ---- what came

has_payload : (sent : List Packet) (p : Packet) → Contains sent p → HasPayload p.payload sent
has_payload [] p has =
    let none : has.0 < 0 = has.1 in
    absurd (omega (arith, none))
has_payload (q ∷ sent) p has = elim (first_or q sent p has) [ inl is ↦ inl (ap (λ (x : Packet). x.payload) is) | inr k ↦ inr (has_payload sent p k) ]

-- what came from a node's address was sent by the node
pub comes_from : {bag : List Packet} {a : ℕ} {n : Member} (r : NodeRun bag a n) (come : List Packet) → AreIn bag come → ComesFrom a (sent_in (config_of a n) (restarted r.made) r.hs) come
comes_from {bag = bag} {a = a} {n = n} r come are =
    let sent : List Packet = sent_in (config_of a n) (restarted r.made) r.hs in
    all_of (λ (p : Packet). p.from ≡ a → HasPayload p.payload sent) come (λ p k from. has_payload sent p (of_all (λ (q : Packet). q.from ≡ a → Contains sent q) bag p r.sent (of_all (λ (q : Packet). Contains bag q) come p are k) from))

listed_come : (hs : List Happening) → listed_come_in hs ≡ come_in hs
listed_come [] = refl
listed_come (Done (PacketComes p) now ∷ hs) = ap (λ (ps : List Packet). p ∷ ps) (listed_come hs)
listed_come (Done TimeComes now ∷ hs) = listed_come hs
listed_come (Torn (PacketComes p) now operations ∷ hs) = ap (λ (ps : List Packet). p ∷ ps) (listed_come hs)
listed_come (Torn TimeComes now operations ∷ hs) = listed_come hs
listed_come (CutPower ∷ hs) = listed_come hs

-- ---- a node and a distributor

abbrev pub both_of : {bag : List Packet} {a x : ℕ} {n : Member} {d : DistributorMember} → NodeRun bag a n → DistributorRun bag x d → Both
both_of {a = a} {n = n} nr dr = record {
  config = config_of a n;
  node = nr.made;
  to_node = nr.hs;
  address = dr.run.address;
  distributor = dr.run.durable;
  fresh = dr.run.fresh;
  to_distributor = dr.run.happenings;
}

pub are_both : {bag : List Packet} {a x : ℕ} {n : Member} {d : DistributorMember} (nr : NodeRun bag a n) (dr : DistributorRun bag x d) → AreBoth (both_of nr dr)
are_both {a = a} {n = n} nr dr = record {
  node = nr.sound;
  numbers = has_no_job nr;
  to_node = nr.fits;
  distributor = dr.is.durable;
  fresh = dr.is.fresh;
  to_distributor = dr.is.happenings;
  comes = subst (ComesFrom a (sent_in (config_of a n) (restarted nr.made) nr.hs)) (sym (listed_come dr.run.happenings)) (comes_from nr (come_in dr.run.happenings) dr.come);
}

pub are_new : {bag : List Packet} {a x : ℕ} {n : Member} {d : DistributorMember} (nr : NodeRun bag a n) (dr : DistributorRun bag x d) → AreNew (both_of nr dr)
are_new nr dr = (dr.idle.receivers, nr.jobless)

pub in_log : (d : NodeDurable) (log : List LogEntry) (id phase : ℕ) → d.job ≡ None → WasReached d log id phase → InOrder (Reached id phase ∷ []) log
in_log d log id phase e (inl h) = h
in_log d log id phase e (inr h) =
    let none : Some h.0 ≡ None = sym h.1 ∙ e in
    cc

none_found : {A : Type 0} (rs : List Receiver) (address index phase : ℕ) → rs ≡ [] → HasFound rs address index phase → A
none_found [] address index phase e h = absurd h
none_found (r ∷ rs) address index phase e h = cc

-- nothing was found, so each phase that isn't a verdict stands in the log
shown_truly : (b : Both) (row : Receiver) → AreNew b → RowIsReached b row → IsShownTruly b row
shown_truly b row new (verdict h) = ruled h
shown_truly b row new (found e h) = none_found b.distributor.receivers row.address row.index row.phase new.0 h
shown_truly b row new (reached is h) = logged is (in_log b.node _ _ _ new.1 h)
shown_truly b row new (active phase is reports h has) = updated phase is reports (in_log b.node _ _ _ new.1 h) has
shown_truly b row new (active_since phase is e reports h has) = none_found b.distributor.receivers row.address row.index phase new.0 h

-- ---- addressees

-- what goes to a unicast address and to a node goes to the node's address
pub to_address : (config : NodeConfig) (p : Packet) → (config.group ≡ 0) ⊎ (0xC000 ≤ config.group) → IsTrue (is_addressee config p) → p.to ≤ 0x7FFF → p.to ≡ config.address
to_address config p no_address is small = by_address (p.to == config.address) refl is
  where
    by_group : (b : Bool) → (p.to == config.group) ≡ b → (config.group ≡ 0) ⊎ (0xC000 ≤ config.group) → (not (config.group == 0) && b) ≡ true → p.to ≡ config.address
    by_group b e (inl none) f =
        let zero_group : (config.group == 0) ≡ true = eq-eqb config.group 0 none in
        let never : false ≡ true = subst (λ x. (not x && b) ≡ true) zero_group f in
        absurd cc
    by_group true e (inr above) f =
        let same : p.to ≡ config.group = eqb-true p.to config.group e in
        absurd (omega (arith, same, above, small))
    by_group false e (inr above) f = grind arith

    by_address : (b : Bool) → (p.to == config.address) ≡ b → (b || (not (config.group == 0) && (p.to == config.group))) ≡ true → p.to ≡ config.address
    by_address true e f = eqb-true p.to config.address e
    by_address false e f = by_group (p.to == config.group) refl no_address f

-- ---- a distributor of the world, and a node of the world

-- the index of a row is the one that was asked, unless it was never heard of
abbrev pub AgreesWith : {bag : List Packet} {x : ℕ} {d : DistributorMember} → DistributorRun bag x d → Receiver → Type 0
AgreesWith dr row =
    (to : ℕ) (u : UpdateStart) → HasStart (sent_of dr.run) to u → u.id ≡ transfer_id dr.run.address (kept_of dr.run)
    → row.address ≡ to → (row.index ≡ u.index) ⊎ IsUnheard (kept_of dr.run) row

module _ (laws : MemberLaws) (m : Mesh) (k : Kept m) where
  pub metas_in_range : MetasInRange m.nodes.bag
  metas_in_range p u meta has s is = in_range laws.fit laws.read laws.say laws.own laws.octets laws.again m k p u meta has s is

  module _ (x : ℕ) (d : DistributorMember) (at : distributor_at m x ≡ Some d) where
    abbrev run_of : DistributorRun m.nodes.bag x d
    run_of = k.distributors x d at

    abbrev pub present_id : ℕ
    present_id = transfer_id run_of.run.address (kept_of run_of.run)

    small_counter : (kept_of run_of.run).counter < 2 ^ 48
    small_counter = (laws.order run_of.run.address run_of.run.durable run_of.run.fresh run_of.run.happenings run_of.is.durable run_of.is.fresh run_of.is.happenings).sound.durable.counter

    pub owner_at : owner_of present_id ≡ x
    owner_at = owner_is run_of.run.address (kept_of run_of.run).counter present_id refl small_counter ∙ run_of.own

    -- an Update Start of a BLOB ID of its own is one of its own
    start_at : (p : Packet) (u : UpdateStart) → Contains m.nodes.bag p → Starts p u → owner_of u.id ≡ x → HasStart (sent_of run_of.run) p.to u
    start_at p u has s e = distributor_start laws.fit laws.read laws.say laws.own m k x d at p u has s e

    start_present : (p : Packet) (u : UpdateStart) → Contains m.nodes.bag p → Starts p u → u.id ≡ present_id → HasStart (sent_of run_of.run) p.to u
    start_present p u has s e = start_at p u has s (ap owner_of e ∙ owner_at)

    goes_to : (config : NodeConfig) → (config.group ≡ 0) ⊎ (0xC000 ≤ config.group) → (p : Packet) (u : UpdateStart) → HasStart (sent_of run_of.run) p.to u → IsTrue (is_addressee config p) → p.to ≡ config.address
    goes_to config group p u h is = to_address config p group is (own_start laws.fit laws.read laws.say laws.own m.nodes.bag x d run_of p.to u h).to_below

    module _ (a : ℕ) (n : Member) (there : node_at m a ≡ Some n) where
      abbrev node_of : NodeRun m.nodes.bag a n
      node_of = (k.nodes a n there).0

      -- under each BLOB ID of its own it offers one image
      pub one_of : (id : ℕ) → owner_of id ≡ x → OneOffer m.nodes.bag (config_of a n) id
      one_of id owner = record {
        metas = λ p q u v hp hq sp sq e f. (laws.starts run_of.run p.to q.to u v run_of.is (start_at p u hp sp (ap owner_of e ∙ owner)) (start_at q v hq sq (ap owner_of f ∙ owner)) (e ∙ sym f)).0;
        indexes = λ p q u v hp hq sp sq e f i j.
            let hu = start_at p u hp sp (ap owner_of e ∙ owner) in
            let hv = start_at q v hq sq (ap owner_of f ∙ owner) in
            (laws.starts run_of.run p.to q.to u v run_of.is hu hv (e ∙ sym f)).1
            (goes_to (config_of a n) node_of.group p u hu i ∙ sym (goes_to (config_of a n) node_of.group q v hv j));
      }

      -- it is the one that it heard answers for
      offer_is : (meta : Meta) → WasOffered (both_of node_of run_of) present_id meta → IsOfferOf m.nodes.bag present_id meta
      offer_is meta was p u m has s e is =
          let h : Heard = record { from = was.0; answer = was.1; id = present_id; offer = meta } in
          let octets : u.metadata ≡ meta_octets meta = laws.heard run_of.run p.to u h run_of.is (start_present p u has s e) was.2 (sym e) in
          let same : Some m ≡ Some meta = sym is ∙ (ap meta_from octets ∙ laws.again meta (laws.heard_own run_of.run h run_of.is was.2).is_meta) in
          cc

      index_is : (row : Receiver) → AgreesWith run_of row → row.address ≡ a → (row.phase ≡ phase_unknown → ⊥) → IsIndexOf m.nodes.bag (config_of a n) present_id row.index
      index_is row agrees of known p u has s e is =
          let h = start_present p u has s e in
          elim (agrees p.to u h e (of ∙ sym (goes_to (config_of a n) node_of.group p u h is))) [
            | inl same ↦ same
            | inr never ↦ absurd (known never.1)
          ]

      pub cause_of : (row : Receiver) → AgreesWith run_of row → row.address ≡ a → IsShownTruly (both_of node_of run_of) row → Cause node_of present_id row.index row.phase
      cause_of row agrees of (ruled h) = by_verdict h
      cause_of row agrees of (logged is o) = by_log is o (index_is row agrees of (λ e. not_reported row.phase phase_unknown is e refl))
      cause_of row agrees of (updated phase is reports o has) =
          by_image phase has.meta is o (index_is row agrees of (λ e. omega (arith, is, e))) (offer_is has.meta has.offered) has.active

      pub row_of_node : (row : Receiver) → Contains (kept_of run_of.run).receivers row → row.address ≡ a → RowIsSafe m.nodes.bag (log_of node_of) (state_of node_of) present_id row.index row.phase
      row_of_node row has of =
          let b : Both = both_of node_of run_of in
          let rows = (kept_of run_of.run).receivers in
          let agrees : AgreesWith run_of row = λ to u h e. of_all (λ (r : Receiver). r.address ≡ to → (r.index ≡ u.index) ⊎ IsUnheard (kept_of run_of.run) r) rows row (laws.rows run_of.run to u run_of.is h e) has in
          let why : RowIsReached b row = of_all (λ (r : Receiver). r.address ≡ a → RowIsReached b r) rows row (laws.row_reached b (are_both node_of run_of)) has of in
          row_safe laws.taken laws.asked laws.rise laws.since laws.held laws.came laws.ids node_of present_id row.index row.phase (one_of present_id owner_at) metas_in_range
          (cause_of row agrees of (shown_truly b row (are_new node_of run_of) why))

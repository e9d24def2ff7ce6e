-- A receiver that answers is never dropped.
use Rattle.std.proofs.Common.{◌≡◌, ◌⊎◌, inl, inr, ◌<◌, ◌==◌, ℕ, suc, List, [], ◌∷◌, refl, sym, ap, ◌∙◌, subst, true, false, Bool, Option, Some, None, arith, map, length}
use Rattle.std.specs.Prelude.{◌≢◌, ◌||◌, ◌&&◌, not, nat_eq, is_some}
use Rattle.std.specs.List.{list_any, AllByRecursion}
use Rattle.std.proofs.lemmas.Bool.{eqb-true}
use Rattle.std.proofs.lemmas.Bool.Decides.{nat_tests}
use Rattle.mu_model_image.specs.declared.Meta.{Meta}
use Rattle.mu_model_image.specs.Meta.{Image}
use Rattle.mu_model_image.specs.Laws.{MetaIsReadBack, FitIsTested}
use Rattle.mu_model_node.specs.declared.NodeConfig.{NodeConfig}
use Rattle.mu_model_node.specs.NodeState.{NodeState}
use Rattle.mu_model_node.specs.NodeOutcome.{Outcome}
use Rattle.mu_model_client.specs.declared.Sending.{Sending}
use Rattle.mu_model_client.specs.declared.Plan.{Plan}
use Rattle.mu_model_client.specs.Client.{Receiver, Item, Place, Before, Check, Update, Active, chunk_total}
use Rattle.mu_model_client.specs.Begin.{start, at_first, new_active}
use Rattle.mu_model_client.specs.Lists.{sent_for}
use Rattle.mu_model_client.specs.Due.{Due, due}
use Rattle.mu_model_wire.specs.Reports.{report_of, NamesASet, ReportsNameOneSet, ReportsOfASetAreInOrder, ReportOfASetNamesIt}
use Rattle.mu_model_wire.specs.declared.reports.Report.{Report}
use Rattle.mu_model_client.specs.Sets.{named_set}
use Rattle.mu_model_client_laws.specs.Laws.{KeepsPlan, FieldsAreRead, NamedSetsAreReported, NamedSetsAreRead}
use Rattle.mu_model_completion.specs.Answering.{Answering, Turn, said_by, asked, reaches, with_others, client_timed, node_timed, turn, turns, FromOthers, InTime, IsActiveAt, StaysActive, IsUnicast, with_index}
use Rattle.mu_model_completion.specs.Completion.{IsUpdate, CanTake, NoneTwice}
use Rattle.mu_model_completion.proofs.Nodes.{Offer}
use Rattle.mu_model_completion.proofs.First.{Good, Pushes, Pulls}
use Rattle.mu_model_completion.proofs.Blocks.{Tiles}
use Rattle.mu_model_completion.proofs.Receivers.{rcv}
use Rattle.mu_model_completion.proofs.Planned as pl
use Rattle.mu_model_completion.proofs.Planned.{misses, group_reached}
use Rattle.mu_model_completion.proofs.Among.{Elsewhere, Here, mine}
use Rattle.mu_model_completion.proofs.Hears.{replies_stand, Stands, Asked as WasAsked, all_asked, others_stand}
use Rattle.mu_model_completion.proofs.Moments.{LinkStands}
use Rattle.mu_model_completion.proofs.Spots as s
use Rattle.mu_model_completion.proofs.Spots.{Checks, Starts, Informs, Transfers, Opens, Gets, Verifies, Applies, Confirms, Checked, Started, Informed, Opened, OpenedPull, Verified, Asked, Confirmed, First, Asking, After, Between, Chunking, Pulling, Over}
use Rattle.mu_model_completion.proofs.SpotAsks.{stood}
use Rattle.mu_model_completion.proofs.SpotTurns.{Spot_, place_of, row_of, ListOf, spot_heard}

module _ (laws : KeepsPlan) (fields : FieldsAreRead) (tiles : Tiles) (p : Sending) (meta : Meta) (image : List ℕ) (blocks : ℕ) (good : Good p blocks) (whole : length image ≡ p.size) (chunk_some : 0 < p.chunk)
    (capacity : ℕ) (active : Image) (images : List Image) (o : Offer p meta image capacity active) (config : NodeConfig)
    (counts : (b : ℕ) → b < suc blocks → (c : ℕ) × (chunk_total p b ≡ suc c))
    (to : ℕ) (whose : ((p.group == 0) ≡ true × (to ≡ config.address)) ⊎ ((p.group == 0) ≡ false × (to ≡ p.group) × (reaches p.group config ≡ true))) (mode : Pushes p ⊎ Pulls p)
    (names : (c : ℕ) (missed : List Bool) → length missed ≡ suc c → named_set (suc c) (report_of missed) ≡ Some missed) where
  abbrev a : ℕ
  a = config.address

  abbrev pub Spot : Type 0
  Spot = Spot_ laws fields tiles p meta image blocks good whole chunk_some capacity active images o config counts to whose mode

  abbrev place : Spot → Place
  place spot = place_of laws fields tiles p meta image blocks good whole chunk_some capacity active images o config counts to whose mode spot

  abbrev row : Spot → Receiver
  row spot = row_of laws fields tiles p meta image blocks good whole chunk_some capacity active images o config counts to whose mode spot

  abbrev NodeOf : Spot → NodeState → Type 0
  NodeOf spot n = s.NodeOf laws fields tiles p meta image blocks good whole chunk_some capacity active images o config spot n

  abbrev ListIs : Spot → List Item → Type 0
  ListIs spot list = ListOf laws fields tiles p meta image blocks good whole chunk_some capacity active images o config counts to whose mode spot list

  -- it stands there between turns
  pub record Spotted (x : Answering) : Type 0 where
    pub spot : Spot
    pub queue : List Item
    pub client : Stands laws p meta image config (place spot) queue (row spot) x.client
    pub list : ListIs spot (mine config queue)
    pub node : NodeOf spot x.node

  row_is : (spot : Spot) → ((row spot).row.address ≡ a) × ((row spot).standing ≡ Active)
  row_is First = (refl, refl)
  row_is (Asking Checks chunks) = (refl, refl)
  row_is (Asking Starts chunks) = (refl, refl)
  row_is (Asking Informs chunks) = (refl, refl)
  row_is (Asking Transfers chunks) = (refl, refl)
  row_is (Asking (Opens k n c sum total) chunks) = (refl, refl)
  row_is (Asking (Gets k n c sum total) chunks) = (refl, refl)
  row_is (Asking Verifies chunks) = (refl, refl)
  row_is (Asking Applies chunks) = (refl, refl)
  row_is (Asking Confirms chunks) = (refl, refl)
  row_is (After Checked chunks) = (refl, refl)
  row_is (After Started chunks) = (refl, refl)
  row_is (After Informed chunks) = (refl, refl)
  row_is (After (Opened k n c sum total pushes) chunks) = (refl, refl)
  row_is (After (OpenedPull k n c sum total pulls) chunks) = (refl, refl)
  row_is (After Verified chunks) = (refl, refl)
  row_is (After Asked chunks) = (refl, refl)
  row_is (After Confirmed chunks) = (refl, refl)
  row_is (Between step is k n sum chunks without heard silent) = (refl, refl)
  row_is (Chunking k n c j rem sum total all pushes) = (refl, refl)
  row_is (Pulling k n c sum total pulls chunks some wanted heard silent) = (refl, refl)
  row_is (Over chunks) = (refl, refl)

  -- ---- a turn

  turn_spotted : (x : Answering) (t : Turn) → Spotted x → LinkStands fields tiles p meta image blocks good whole chunk_some capacity active images o p.from t.now x.node → FromOthers a t → Spotted (turn config image x t)
  turn_spotted x t spotted stands others =
      let now : ℕ = t.now in
      let e : Outcome = node_timed now x.node in
      let d : Due = due x.client image now in
      let q = s.spot_timed laws fields tiles p meta image blocks good whole chunk_some capacity active images o config x.node now stands spotted.spot spotted.node in
      let h = spot_heard laws fields tiles p meta image blocks good whole chunk_some capacity active images o config counts to whose mode now x.client spotted.queue e.next spotted.spot spotted.client spotted.list q.next e.replies q.replied in
      let sent = h.sent in
      let r : Receiver = row h.spot in
      let y : Answering = said_by config now d.next e in
      let told = replies_stand laws p meta image config h.place sent.queue now e.replies h.row d.next h.at_ (record { began = sent.began; moment = sent.moment; rs = sent.rs; is = sent.next_is; here = sent.here }) in
      let client_y : Stands laws p meta image config (place h.spot) sent.queue r y.client =
      subst (λ w. Stands laws p meta image config w sent.queue r y.client) (sym h.place_is) (subst (λ w. Stands laws p meta image config h.place sent.queue w y.client) h.told told) in
      let asked0 : WasAsked laws p meta image config (place h.spot) sent.queue (record { r = r; n = e.next }) y = record { client = client_y; at_ = (row_is h.spot).0; node = refl } in
      let asked1 = all_asked laws p meta image config (place h.spot) sent.queue now sent.items (record { r = r; n = e.next }) y asked0 in
      let st = stood laws fields tiles p meta image blocks good whole chunk_some capacity active images o config mode names to h.spot e.next now (mine config sent.items) (mine config sent.queue) h.node (subst (ListIs h.spot) (sym sent.split) h.list_is) in
      let z : Answering = asked config now y (map (sent_for p image) sent.items) in
      let same : client_timed config now e d ≡ z = ap (asked config now y) sent.packets_are in
      let client_z : Stands laws p meta image config (place st.spot) sent.queue (row st.spot) z.client =
      subst (λ w. Stands laws p meta image config w sent.queue (row st.spot) z.client) (sym st.place_is) (subst (λ w. Stands laws p meta image config (place h.spot) sent.queue w z.client) st.row_is asked1.client) in
      let after : Spotted (with_others t z) = record {
        spot = st.spot;
        queue = sent.queue;
        client = others_stand laws p meta image config (place st.spot) sent.queue now t.others (row st.spot) z.client (row_is st.spot).0 client_z others;
        list = st.list;
        node = subst (NodeOf st.spot) (sym asked1.node) st.node;
      } in
      subst (λ w. Spotted (with_others t w)) (sym same) after

  pub all_spotted : (ts : List Turn) (x : Answering) → Spotted x → AllByRecursion (FromOthers a) ts → InTime config image x ts → Spotted (turns config image x ts)
  all_spotted [] x h others in_time = h
  all_spotted (t ∷ ts) x h others in_time = all_spotted ts (turn config image x t) (turn_spotted x t h in_time.0 others.0) others.1 in_time.1

  -- ---- it is active

  elsewhere_active : (xs : List Receiver) → AllByRecursion (Elsewhere config) xs → AllByRecursion (IsActiveAt a) xs
  elsewhere_active [] h = tt
  elsewhere_active (x ∷ xs) h = (not_here x h.0, elsewhere_active xs h.1)
    where
      not_here : (x : Receiver) → Elsewhere config x → IsActiveAt a x
      not_here x e h = absurd (grind (arith, sym (ap (λ b. b || (not (config.group == 0) && (x.row.address == config.group))) h) ∙ e))

  here_active : (r : Receiver) (xs : List Receiver) → r.standing ≡ Active → Here config r xs → AllByRecursion (IsActiveAt a) xs
  here_active r [] e h = tt
  here_active r (x ∷ xs) e (inl h) = ((λ at_. ap (λ (z : Receiver). z.standing) h.0 ∙ e), elsewhere_active xs h.1)
  here_active r (x ∷ xs) e (inr h) = ((elsewhere_active (x ∷ []) (h.0, tt)).0, here_active r xs e h.1)

  pub spotted_active : (x : Answering) → Spotted x → StaysActive a x.client
  spotted_active x h =
      ap_client (here_active (row h.spot) h.client.rs (row_is h.spot).1 h.client.here)
    where
      ap_client : AllByRecursion (IsActiveAt a) h.client.rs → StaysActive a x.client
      ap_client k = subst (StaysActive a) (sym h.client.is) k

-- ---- as it begins

module _ (laws : KeepsPlan) (fields : FieldsAreRead) (tiles : Tiles) (read : MetaIsReadBack) (tested : FitIsTested) (plan : Plan) (image : List ℕ) (to : List ℕ) (config : NodeConfig) (node : NodeState)
    (update : IsUpdate plan image) (mode_is : (plan.sending.mode ≡ 1) ⊎ (plan.sending.mode ≡ 2)) (can : CanTake plan config node)
    (reported : NamedSetsAreReported) (named : NamedSetsAreRead) (one_set : ReportsNameOneSet) (in_order : ReportsOfASetAreInOrder) (of_a_set : ReportOfASetNamesIt) where
  abbrev p : Sending
  p = plan.sending

  -- the report of a set is read as the set
  names : (c : ℕ) (missed : List Bool) → length missed ≡ suc c → named_set (suc c) (report_of missed) ≡ Some missed
  names c missed long =
      let report : Report = report_of missed in
      let ordered : NamesASet report (suc c) = subst (NamesASet report) long (in_order report missed (of_a_set missed)) in
      by_option (named_set (suc c) report) refl (named (suc c) report ordered)
    where
      by_option : (set : Option (List Bool)) → named_set (suc c) (report_of missed) ≡ set → is_some set ≡ true → named_set (suc c) (report_of missed) ≡ Some missed
      by_option None e h = absurd (grind (arith, h))
      by_option (Some set) e h =
          let is = reported (suc c) (report_of missed) set e in
          e ∙ ap Some (one_set (report_of missed) set missed (is.bound ∙ sym long) is.reports (of_a_set missed))

  abbrev news : List ℕ → List Receiver
  news as_ = map new_active (map with_index as_)

  others_elsewhere : (as_ : List ℕ) → AllByRecursion (λ b. config.address ≢ b) as_ → AllByRecursion IsUnicast as_ → AllByRecursion (Elsewhere config) (news as_)
  others_elsewhere [] h u = tt
  others_elsewhere (b ∷ as_) h u = (misses b config u.0 (λ e. h.0 (sym e)) can.some_group, others_elsewhere as_ h.1 u.1)

  its_here : (as_ : List ℕ) → list_any (nat_eq config.address) as_ ≡ true → NoneTwice as_ → AllByRecursion IsUnicast as_ → Here config (rcv config.address 10 [] [] false) (news as_)
  its_here [] e n u = absurd (grind (arith, e))
  its_here (b ∷ as_) e n u = by_case (nat_eq config.address b) refl e (λ k. its_here as_ k n.1 u.1)
    where
      differs : (x y : ℕ) → nat_eq x y ≡ false → y ≢ x
      differs x y h = grind (arith, nat_tests, h)

      by_case : (z : Bool) → nat_eq config.address b ≡ z → (z || list_any (nat_eq config.address) as_) ≡ true
          → (list_any (nat_eq config.address) as_ ≡ true → Here config (rcv config.address 10 [] [] false) (news as_)) → Here config (rcv config.address 10 [] [] false) (news (b ∷ as_))
      by_case true h k rest =
          let same : b ≡ config.address = sym (eqb-true config.address b h) in
          inl (ap (λ z. rcv z 10 [] [] false) same, others_elsewhere as_ (subst (λ z. AllByRecursion (λ c. z ≢ c) as_) same n.0) u.1)
      by_case false h k rest = inr (misses b config u.0 (differs config.address b h) can.some_group, rest k)

  modes : (p.mode ≡ 1) ⊎ (p.mode ≡ 2) → Pushes p ⊎ Pulls p
  modes (inl e) = inl (pl.pushes tiles read tested plan image update e)
  modes (inr e) = inr (pl.pulls tiles read tested plan image update e)

  pub answering_stays : (ts : List Turn) → list_any (nat_eq config.address) to ≡ true → NoneTwice to → AllByRecursion IsUnicast to → AllByRecursion (FromOthers config.address) ts
      → InTime config image (record { client = start plan (map with_index to); node = node }) ts
      → StaysActive config.address (turns config image (record { client = start plan (map with_index to); node = node }) ts).client
  answering_stays ts one_of none_twice unicast others in_time =
      let g = group_reached p config can.in_group (p.group == 0) refl in
      let x : Answering = record { client = start plan (map with_index to); node = node } in
      let offer = pl.offer tiles read tested plan image update config node can in
      let good = pl.good tiles read tested plan image update in
      let mode = modes mode_is in
      let whole = pl.whole tiles read tested plan image update in
      let chunk_some = pl.chunk_some tiles read tested plan image update in
      let blocks : ℕ = pl.blocks tiles read tested plan image update in
      let counts = pl.counts tiles read tested plan image update in
      let first : Spotted laws fields tiles p plan.meta image blocks good whole chunk_some node.durable.capacity can.active can.others offer config counts g.0 g.1 mode names x = record {
        spot = First;
        queue = [];
        client = record {
          began = 0;
          moment = 0;
          rs = news to;
          is = ap (λ apply. at_first p (Update plan.meta apply) (news to) (Before Check)) update.apply;
          here = its_here to one_of none_twice unicast;
        };
        list = refl;
        node = record {
          count = node.durable.count;
          fresh = node.fresh;
          session = node.session;
          moment = node.moment;
          is =
              ap (λ job. record { durable = record { count = node.durable.count; capacity = node.durable.capacity; images = node.durable.images; job = job }; fresh = node.fresh; session = node.session; moment = node.moment }) can.idle
              ∙ ap (λ images. record { durable = record { count = node.durable.count; capacity = node.durable.capacity; images = images; job = None }; fresh = node.fresh; session = node.session; moment = node.moment }) can.images;
        };
      } in
      spotted_active laws fields tiles p plan.meta image blocks good whole chunk_some node.durable.capacity can.active can.others offer config counts g.0 g.1 mode names _
      (all_spotted laws fields tiles p plan.meta image blocks good whole chunk_some node.durable.capacity can.active can.others offer config counts g.0 g.1 mode names ts x first others in_time)

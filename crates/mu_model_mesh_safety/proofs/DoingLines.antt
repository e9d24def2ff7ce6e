-- What each line but `settle` does in a world is a deed.
use Rattle.std.proofs.Common.{◌≡◌, ℕ, ◌*◌, ◌<◌, ◌≤◌, List, [], ◌∷◌, ◌++◌, length, map, replicate, ◌-◌, Option, Some, None, true, false, cond, nat_le, nat_lt, zero, suc, refl, ap, subst, ◌∙◌, ◌⊎◌, ⊎_elim, inl, inr, arith, slice_get, append-nil}
use Rattle.std.specs.Prelude.{◌||◌}
use Rattle.std.specs.List.{AllByRecursion}
use Rattle.std.proofs.lemmas.Bool.{ltb-false}
use Rattle.mu_model_image.specs.Laws.{ImagesFit, ImagesHaveMetadata, MadeImageHasItsSize}
use Rattle.mu_model_image.specs.Meta.{Image, IsMeta, image_of}
use Rattle.mu_model_wire.specs.Packet.{Packet}
use Rattle.mu_model_node.specs.FlashWork.{page_octets}
use Rattle.mu_model_node.specs.NodeMessages.{Request, OfUpdate, request_at}
use Rattle.mu_model_node.specs.NodeState.{NodeDurable}
use Rattle.mu_model_node.specs.Sound.{IsActiveImage, IsNodeDurable}
use Rattle.mu_model_node.specs.UpdateMessages.{UpdateStart, StartUpdate}
use Rattle.mu_model_distributor.specs.DistEvents.{stocked}
use Rattle.mu_model_distributor.specs.Receivers.{banks}
use Rattle.mu_model_script.specs.Event.{Event, Node, Old, Pair, Updater as UpdaterLine, Distributor, Stock, Say, Deliver, Time, Cut, Tear as TearLine, Active, Phase, Settle, Rows, Packet as PacketLine}
use Rattle.mu_model_script.specs.Ranges.{IsUnicast, IsGroup, IsContent, IsUpdater, IsNode, IsInRange as IsEventInRange}
use Rattle.mu_model_script.specs.Tokens.{Content, Hex, Made}
use Rattle.mu_model_script.specs.declared.BadWhy.TheVariants.{Token as BadToken, Member as BadMember, Premise}
use Rattle.mu_model_updater.specs.Laws.{LinesAreInRange}
use Rattle.mu_model_updater.specs.Updater.{UpdaterLine as ScriptLine, plan_of, first_image, updater_of}
use Rattle.mu_model_world.specs.Judged.{Objection, against, or_else, owner_of, offered}
use Rattle.mu_model_world.specs.Outcomes.{content_octets, node_of, pair_of, new_member, counted, with_member}
use Rattle.mu_model_world.specs.World.{Member}
use Rattle.mu_model_mesh.specs.Mesh.{UpdaterMember, DistributorMember, Mesh, is_member, node_at, updater_at, distributor_at}
use Rattle.mu_model_mesh.specs.MeshOutcomes.{MeshOutcome, mesh_begun, mesh_outcomes, of_nodes, in_order, with_new_updater, active_by, phase_by, rows_by, packet_by, stocked_by}
use Rattle.mu_model_mesh.specs.MeshJudged.{against_new, against_past, against_image, against_stock, against_member, against_id, bank, mesh_objection}
use Rattle.mu_model_mesh_safety.proofs.Deeds.{Deed, says, adds_node, adds_updater, adds_distributor, stocks}
use Rattle.mu_model_mesh_safety.proofs.DoingPlaces.{pads, pads_none}
use Rattle.mu_model_mesh_safety.proofs.DoingEvents.{AreDeeds, same, deeds_of_packet, deeds_of_time, deeds_of_cut, deeds_of_tear}

-- what a line leads to: by a deed, where it is a member line, and by one after the world has begun, where it isn't
pub data LineDeed (m next : Mesh) : Type 0 where
  by_member : Deed m next → LineDeed m next
  by_other : Deed (mesh_begun m) next → LineDeed m next

abbrev pub AreLineDeeds : Mesh → List MeshOutcome → Type 0
AreLineDeeds m outs = AllByRecursion (λ (o : MeshOutcome). LineDeed m o.mesh) outs

others : (m : Mesh) (outs : List MeshOutcome) → AreDeeds (mesh_begun m) outs → AreLineDeeds m outs
others m [] deeds = tt
others m (o ∷ outs) deeds = (by_other deeds.0, others m outs deeds.1)

members : (m : Mesh) (outs : List MeshOutcome) → AreDeeds m outs → AreLineDeeds m outs
members m [] deeds = tt
members m (o ∷ outs) deeds = (by_member deeds.0, members m outs deeds.1)

-- ---- what isn't objected to

first_none : (o p : Option Objection) → or_else o p ≡ None → (o ≡ None) × (p ≡ None)
first_none None p h = (refl, h)
first_none (Some x) p h = absurd cc

-- a member line comes early and names an address of no member
record IsNew (m : Mesh) (address : ℕ) : Type 0 where
  pub early : m.nodes.begun ≡ false
  pub free : is_member m address ≡ false

new_at : (m : Mesh) (address : ℕ) → against_new m address ≡ None → IsNew m address
new_at m address h =
    elim m.nodes.begun as (λ b. m.nodes.begun ≡ b → cond (b || nat_le 32 (length m.order)) (against 0 BadMember) (cond (is_member m address) (against 1 BadMember) None) ≡ None → IsNew m address) [
      | true ↦ λ late e. absurd cc
      | false ↦ λ early e. elim (nat_le 32 (length m.order))
          as (λ t. cond (false || t) (against 0 BadMember) (cond (is_member m address) (against 1 BadMember) None) ≡ None → IsNew m address) [
            | true ↦ λ f. absurd cc
            | false ↦ λ f. elim (is_member m address) as (λ u. is_member m address ≡ u → cond u (against 1 BadMember) None ≡ None → IsNew m address) [
              | true ↦ λ there g. absurd cc
              | false ↦ λ free g. record { early = early; free = free }
            ] refl f
          ] e
    ] refl h

no_member : (m : Mesh) (token address : ℕ) → against_member m token address ≡ None → is_member m address ≡ false
no_member m token address h =
    elim (is_member m address) as (λ t. cond t (against token Premise) None ≡ None → t ≡ false) [
      | true ↦ λ e. absurd cc
      | false ↦ λ e. refl
    ] h

fits_bank : (token capacity : ℕ) (content : Content) → against_past token capacity content ≡ None → length (content_octets content) ≤ capacity
fits_bank token capacity content h =
    elim (nat_lt capacity (length (content_octets content)))
    as (λ t. nat_lt capacity (length (content_octets content)) ≡ t → cond t (against token BadToken) None ≡ None → length (content_octets content) ≤ capacity) [
      | true ↦ λ e f. absurd cc
      | false ↦ λ e f. ltb-false _ _ e
    ] refl h

-- ---- shown lines

active_deeds : (m : Mesh) (address : ℕ) (n : Option Member) → AreDeeds m (active_by m address n)
active_deeds m address (Some n) = (same m, tt)
active_deeds m address None = tt

phase_deeds : (m : Mesh) (address : ℕ) (n : Option Member) (u : Option UpdaterMember) (d : Option DistributorMember) → AreDeeds m (phase_by m address n u d)
phase_deeds m address (Some n) u d = (same m, tt)
phase_deeds m address None (Some u) d = (same m, tt)
phase_deeds m address None None (Some d) = (same m, tt)
phase_deeds m address None None None = tt

rows_deeds : (m : Mesh) (u : Option UpdaterMember) (d : Option DistributorMember) → AreDeeds m (rows_by m u d)
rows_deeds m (Some u) d = (same m, tt)
rows_deeds m None (Some d) = (same m, tt)
rows_deeds m None None = tt

shown_deeds : (m : Mesh) (number : ℕ) (packet : Option Packet) → AreDeeds m (packet_by m number packet)
shown_deeds m number (Some packet) = (same m, tt)
shown_deeds m number None = tt

-- ---- strangers

-- an Update Start of a stranger has no member's BLOB ID
not_own : (m : Mesh) (u : UpdateStart) (request : Option Request) → request ≡ Some (OfUpdate (StartUpdate u)) → against_id m (offered request) ≡ None → is_member m (owner_of u.id) ≡ false
not_own m u request is free = no_member m 3 (owner_of u.id) (subst (λ r. against_id m (offered r) ≡ None) is free)

said : (m : Mesh) (from to : ℕ) (payload : List ℕ) → IsEventInRange (Say from to payload) → mesh_objection m (Say from to payload) ≡ None → AreDeeds (mesh_begun m) (mesh_outcomes m (Say from to payload))
said m from to payload range free =
    let f = first_none _ _ free in (
      says (record {
        packet = record { from = from; to = to; payload = payload };
        octets = range.2.1;
        stranger = no_member m 1 from f.0;
        own = λ u is. not_own m u (request_at payload) is f.1;
        air = record { bag = refl; transfers = ap (λ places. m.transfers ++ places) (pads m.nodes.bag (record { from = from; to = to; payload = payload } ∷ [])) };
        nodes = record { members = refl; log = refl };
        updaters = record { updaters = refl };
        distributors = record { distributors = refl };
        on = record { order = refl; begun = refl };
      }),
      tt,
    )

-- ---- member lines

nothing_sent : (m : Mesh) → m.transfers ++ replicate (length m.nodes.bag - length m.nodes.bag) None ≡ m.transfers
nothing_sent m = ap (λ places. m.transfers ++ places) (pads_none (length m.nodes.bag)) ∙ append-nil m.transfers

one_node : (m : Mesh) (address group : ℕ) (d : NodeDurable) → (group ≡ 0) ⊎ IsGroup group → IsUnicast address → IsNew m address → IsNodeDurable d → d.job ≡ None → AllByRecursion (λ (image : Image). IsMeta image.meta) d.images
    → Deed m (of_nodes (in_order m address) (record { world = with_member (counted m.nodes) address (new_member group d); text = [] })).mesh
one_node m address group d grouped unicast new sound jobless metas = adds_node (record {
  address = address;
  group = group;
  no_address = ⊎_elim (λ none. inl none) (λ (some : IsGroup group). inr some.0) grouped;
  made = d;
  sound = sound;
  jobless = jobless;
  metas = metas;
  members = refl;
  log = refl;
  air = record { bag = refl; transfers = nothing_sent m };
  updaters = record { updaters = refl };
  distributors = record { distributors = refl };
  more = record { order = refl; early = new.early; still = new.early; free = new.free; unicast = unicast };
})

one_distributor : (m : Mesh) (address pages : ℕ) → IsUnicast address → 1 ≤ pages → pages ≤ 256 → IsNew m address → AreLineDeeds m (mesh_outcomes m (Distributor address pages))
one_distributor m address pages unicast least most new = (
  by_member (adds_distributor (record {
    address = address;
    pages = pages;
    least = least;
    most = most;
    added = refl;
    nodes = record { members = refl; log = refl };
    air = record { bag = refl; transfers = refl };
    updaters = record { updaters = refl };
    more = record { order = refl; early = new.early; still = new.early; free = new.free; unicast = unicast };
  })),
  tt,
)

module _ (fit : ImagesFit) (metadata : ImagesHaveMetadata) (made : MadeImageHasItsSize) where
  some_octets : (content : Content) → IsContent content → 0 < length (content_octets content)
  some_octets (Hex octets) h = h.0.0
  some_octets (Made seed size) h = rw (made seed size) h.1.0

  few_octets : (content : Content) → IsContent content → length (content_octets content) ≤ 1048576
  few_octets (Hex octets) h =
      let few : length octets ≤ 1024 = h.0.1 in
      omega (arith, few)
  few_octets (Made seed size) h = rw (made seed size) h.1.1

  meta_of_content : (version : ℕ) (content : Content) → version ≤ 4294967295 → IsContent content → IsMeta (image_of version (content_octets content)).meta
  meta_of_content version content most h =
      let few = few_octets content h in
      metadata version (content_octets content) (some_octets content h) (omega (arith, few)) (omega (arith, most))

  fits_in : (token capacity version : ℕ) (content : Content) → IsContent content → against_past token capacity content ≡ None → IsActiveImage capacity (image_of version (content_octets content))
  fits_in token capacity version content h room = record {
    some = some_octets content h;
    room = fits_bank token capacity content room;
    fit = fit version (content_octets content);
  }

  one_image : (pages : ℕ) (image : Image) → IsActiveImage (page_octets * pages) image → (index : ℕ) (x : Image) → slice_get (image ∷ []) index ≡ Some x → IsActiveImage (page_octets * pages) x
  one_image pages image h zero x is =
      let same : image ≡ x = cc in
      subst (λ y. IsActiveImage (page_octets * pages) y) same h
  one_image pages image h (suc index) x is = absurd cc

  two_images : (pages : ℕ) (image second : Image) → IsActiveImage (page_octets * pages) image → IsActiveImage (page_octets * pages) second
      → (index : ℕ) (x : Image) → slice_get (image ∷ second ∷ []) index ≡ Some x → IsActiveImage (page_octets * pages) x
  two_images pages image second h g zero x is =
      let same : image ≡ x = cc in
      subst (λ y. IsActiveImage (page_octets * pages) y) same h
  two_images pages image second h g (suc zero) x is =
      let same : second ≡ x = cc in
      subst (λ y. IsActiveImage (page_octets * pages) y) same g
  two_images pages image second h g (suc (suc index)) x is = absurd cc

  node_sound : (pages version : ℕ) (content : Content) → 1 ≤ pages → pages ≤ 256 → IsContent content → against_past 5 (bank pages) content ≡ None → IsNodeDurable (node_of pages version content)
  node_sound pages version content least most h room = record {
    capacity = (pages, least, most, refl);
    some_image = omega arith;
    two_images = omega arith;
    images = one_image pages _ (fits_in 5 (bank pages) version content h room);
    job = tt;
  }

  pair_sound : (pages version second_version : ℕ) (content second : Content) → 1 ≤ pages → pages ≤ 256 → IsContent content → IsContent second
      → against_past 5 (bank pages) content ≡ None → against_past 7 (bank pages) second ≡ None → IsNodeDurable (pair_of pages version content second_version second)
  pair_sound pages version second_version content second least most h g room more = record {
    capacity = (pages, least, most, refl);
    some_image = omega arith;
    two_images = omega arith;
    images = two_images pages _ _ (fits_in 5 (bank pages) version content h room) (fits_in 7 (bank pages) second_version second g more);
    job = tt;
  }

  node_line : (m : Mesh) (address group pages version : ℕ) (content : Content) → IsNode address group pages version content → or_else (against_new m address) (against_past 5 (bank pages) content) ≡ None
      → Deed m (of_nodes (in_order m address) (record { world = with_member (counted m.nodes) address (new_member group (node_of pages version content)); text = [] })).mesh
  node_line m address group pages version content range free =
      let f = first_none _ _ free in
      one_node m address group (node_of pages version content) range.1 range.0 (new_at m address f.0) (node_sound pages version content range.2.0 range.2.1 range.4 f.1) refl
      (meta_of_content version content range.3.1 range.4, tt)

  pair_line : (m : Mesh) (address group pages version : ℕ) (content : Content) (second_version : ℕ) (second : Content) → IsEventInRange (Pair address group pages version content second_version second)
      → mesh_objection m (Pair address group pages version content second_version second) ≡ None → AreLineDeeds m (mesh_outcomes m (Pair address group pages version content second_version second))
  pair_line m address group pages version content second_version second range free =
      let f = first_none _ _ free in
      let g = first_none _ _ f.1 in
      let r = range.0 in (
        by_member (one_node m address group (pair_of pages version content second_version second) r.1 r.0 (new_at m address f.0)
            (pair_sound pages version second_version content second r.2.0 r.2.1 r.4 range.2 g.0 g.1) refl
            (meta_of_content version content r.3.1 r.4, (meta_of_content second_version second range.1.1 range.2, tt))),
        tt,
      )

  -- ---- a stock

  stock_deed : (m : Mesh) (address version : ℕ) (content : Content) (d : DistributorMember) → distributor_at m address ≡ Some d → version ≤ 4294967295 → IsContent content → m.nodes.begun ≡ false
      → against_past 3 d.state.durable.capacity content ≡ None → AreDeeds m (stocked_by m address version content (Some d))
  stock_deed m address version content d at most range early room = (
    stocks (record {
      address = address;
      old = d;
      new = record d { state = stocked d.state (image_of version (content_octets content)) };
      image = image_of version (content_octets content);
      at = at;
      state = refl;
      meta = meta_of_content version content most range;
      active = fits_in 3 d.state.durable.capacity version content range room;
      distributors = refl;
      nodes = record { members = refl; log = refl };
      air = record { bag = refl; transfers = refl };
      updaters = record { updaters = refl };
      order = refl;
      early = early;
      still = early;
    }),
    tt,
  )

  stock_at : (m : Mesh) (address version : ℕ) (content : Content) (d : Option DistributorMember) → distributor_at m address ≡ d → version ≤ 4294967295 → IsContent content
      → m.nodes.begun ≡ false → against_image content d ≡ None → AreDeeds m (stocked_by m address version content d)
  stock_at m address version content None at most range early free = tt
  stock_at m address version content (Some d) at most range early free =
      elim (nat_le (length banks) (length d.state.durable.images))
      as (λ t. cond t (against 1 BadMember) (against_past 3 d.state.durable.capacity content) ≡ None → AreDeeds m (stocked_by m address version content (Some d))) [
        | true ↦ λ e. absurd cc
        | false ↦ λ e. stock_deed m address version content d at most range early e
      ] free

  stock_line : (m : Mesh) (address version : ℕ) (content : Content) → version ≤ 4294967295 → IsContent content → against_stock m content (distributor_at m address) ≡ None
      → AreDeeds m (stocked_by m address version content (distributor_at m address))
  stock_line m address version content most range free =
      elim m.nodes.begun
      as (λ t. m.nodes.begun ≡ t → cond t (against 0 BadMember) (against_image content (distributor_at m address)) ≡ None → AreDeeds m (stocked_by m address version content (distributor_at m address))) [
        | true ↦ λ late e. absurd cc
        | false ↦ λ early e. stock_at m address version content (distributor_at m address) refl most range early e
      ] refl free

  -- ---- updaters

  first_images : (receivers : List ℕ) → AllByRecursion (λ (receiver : ℕ × ℕ). receiver.1 ≡ 0) (map first_image receivers)
  first_images [] = tt
  first_images (receiver ∷ receivers) = (refl, first_images receivers)

  module _ (lines : LinesAreInRange) where
    updater_line : (m : Mesh) (line : ScriptLine) (content : Content) → line.content ≡ content_octets content → IsUpdater line.address line.group line.id line.ttl line.base line.mode line.log line.chunk line.version content line.receivers
        → IsNew m line.address → Deed m (with_new_updater m line.address (record { moment = 0; updater = updater_of line }))
    updater_line m line content is range new =
        let some : 0 < length line.content = rw is (some_octets content range.content_in) in
        let few : length line.content ≤ 1048576 = rw is (few_octets content range.content_in) in
        let id = range.id_in.1 in
        let address = range.address_in.1 in
        let ttl = range.ttl_in.1 in
        let base = range.base_in.1 in
        let version = range.version_in.1 in
        adds_updater (record {
          address = line.address;
          id = line.id;
          moment = 0;
          plan = plan_of line;
          image = image_of line.version line.content;
          to = map first_image line.receivers;
          from = refl;
          blob_id = refl;
          small = omega (arith, id);
          range = lines line (record {
            address = omega (arith, address);
            id = omega (arith, id);
            ttl = omega (arith, ttl);
            base = omega (arith, base);
            version = omega (arith, version);
            content_least = some;
            content_most = few;
          });
          first = first_images line.receivers;
          added = refl;
          nodes = record { members = refl; log = refl };
          air = record { bag = refl; transfers = refl };
          distributors = record { distributors = refl };
          more = record { order = refl; early = new.early; still = new.early; free = new.free; unicast = range.address_in };
        })

    -- ---- any line

    pub deeds_of_line : (m : Mesh) (event : Event) → IsEventInRange event → mesh_objection m event ≡ None → AreLineDeeds m (mesh_outcomes m event)
    deeds_of_line m (Node address group pages version content) range free = (by_member (node_line m address group pages version content range free), tt)
    deeds_of_line m (Old address group pages version content) range free = (by_member (node_line m address group pages version content range free), tt)
    deeds_of_line m (Pair address group pages version content second_version second) range free = pair_line m address group pages version content second_version second range free
    deeds_of_line m (UpdaterLine address group id ttl base way log chunk version content to) range free =
        (by_member (updater_line m _ content refl range (new_at m address free)), tt)
    deeds_of_line m (Distributor address pages) range free = one_distributor m address pages range.0 range.1.0 range.1.1 (new_at m address free)
    deeds_of_line m (Stock address version content) range free = members m _ (stock_line m address version content range.1.1 range.2 free)
    deeds_of_line m (Say from to payload) range free = others m (mesh_outcomes m (Say from to payload)) (said m from to payload range free)
    deeds_of_line m (Deliver number address) range free = others m _ (deeds_of_packet (mesh_begun m) refl number address)
    deeds_of_line m (Time address ms) range free = others m _ (deeds_of_time (mesh_begun m) refl address ms)
    deeds_of_line m (Cut address) range free = others m _ (deeds_of_cut (mesh_begun m) refl address (node_at m address) (distributor_at m address) refl refl)
    deeds_of_line m (TearLine address operation pattern) range free =
        others m _ (deeds_of_tear (mesh_begun m) address (record { operation = operation; pattern = pattern }) (node_at m address) (distributor_at m address) refl refl)
    deeds_of_line m (Active address) range free = others m _ (active_deeds (mesh_begun m) address (node_at m address))
    deeds_of_line m (Phase address) range free = others m _ (phase_deeds (mesh_begun m) address (node_at m address) (updater_at m address) (distributor_at m address))
    deeds_of_line m (Settle turns) range free = tt
    deeds_of_line m (Rows address) range free = others m _ (rows_deeds (mesh_begun m) (updater_at m address) (distributor_at m address))
    deeds_of_line m (PacketLine number) range free = others m _ (shown_deeds (mesh_begun m) number (slice_get m.nodes.bag number))

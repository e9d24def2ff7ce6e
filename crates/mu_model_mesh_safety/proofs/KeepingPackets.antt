-- The bag grows, and what it has stays as the invariant says it.
use Rattle.std.proofs.Common.{◌≡◌, ℕ, List, [], ◌∷◌, ◌++◌, length, map, Option, true, sym, ap, ap₂, ◌∙◌, subst, Contains, ◌+◌, append_assoc, append-nil}
use Rattle.std.proofs.lemmas.List.{length-append, length-map}
use Rattle.std.proofs.lemmas.List.Elements.{Contains-append_left, Contains-append_right}
use Rattle.std.specs.List.{AllByRecursion}
use Rattle.mu_model_wire.specs.Packet.{Packet}
use Rattle.mu_model_node.specs.Events.{PacketComes, TimeComes}
use Rattle.mu_model_node.specs.Safe.{Happening, Done, CutPower, Torn}
use Rattle.mu_model_distributor_laws.specs.RunLaws.{HappeningFits as DistributorHappeningFits}
use Rattle.mu_model_fates.specs.Laws.{come_by, come_in}
use Rattle.mu_model_packets.specs.Laws.{PacketFits}
use Rattle.mu_model_told.specs.Reached.{HappeningFits}
use Rattle.mu_model_mesh.specs.Mesh.{Mesh, is_member}
use Rattle.mu_model_mesh_safety.specs.Runs.{AreIn, SentBy}
use Rattle.mu_model_mesh_safety.proofs.Kept.{IsPacket}
use Rattle.mu_model_mesh_safety.proofs.KeepingLists.{all_append, all_in, both, of_all, weaker}

-- ---- what a member has of the bag

abbrev pub AllFrom : ℕ → List Packet → Type 0
AllFrom address packets = AllByRecursion (λ (p : Packet). p.from ≡ address) packets

pub in_wider : (bag more packets : List Packet) → AreIn bag packets → AreIn (bag ++ more) packets
in_wider bag more packets are_in = weaker (λ (p : Packet). Contains bag p) (λ (p : Packet). Contains (bag ++ more) p) packets (λ p there. Contains-append_left bag more p there) are_in

-- what another sends is none of its own
pub sent_other : (bag more sent : List Packet) (address other : ℕ) → (address ≡ other → ⊥) → AllFrom other more → SentBy bag address sent → SentBy (bag ++ more) address sent
sent_other bag more sent address other apart from old =
    all_append (λ (p : Packet). p.from ≡ address → Contains sent p) bag more old
    (weaker (λ (p : Packet). p.from ≡ other) (λ (p : Packet). p.from ≡ address → Contains sent p) more (λ p of_other own. absurd (apart (sym own ∙ of_other))) from)

-- what it sends itself stands in its longer run
pub sent_own : (bag more sent : List Packet) (address : ℕ) → SentBy bag address sent → SentBy (bag ++ more) address (sent ++ more)
sent_own bag more sent address old =
    all_append (λ (p : Packet). p.from ≡ address → Contains (sent ++ more) p) bag more
    (weaker (λ (p : Packet). p.from ≡ address → Contains sent p) (λ (p : Packet). p.from ≡ address → Contains (sent ++ more) p) bag (λ p has own. Contains-append_left sent more p (has own)) old)
    (weaker (λ (p : Packet). Contains more p) (λ (p : Packet). p.from ≡ address → Contains (sent ++ more) p) more (λ p has own. Contains-append_right sent more p has) (all_in more))

-- ---- packets

-- the members are the same
pub packets_same : (m next : Mesh) (packets : List Packet) → next.order ≡ m.order → AllByRecursion (IsPacket m) packets → AllByRecursion (IsPacket next) packets
packets_same m next packets order are =
    weaker (IsPacket m) (IsPacket next) packets
    (λ p is. record {
      fits = is.fits;
      stranger = λ none u asks. rw order (is.stranger (rw order at none) u asks);
      octets = λ none u asks. is.octets (rw order at none) u asks;
    }) are

-- what a member sends
pub own_packets : (m : Mesh) (address : ℕ) (packets : List Packet) → is_member m address ≡ true → AllFrom address packets → AllByRecursion PacketFits packets → AllByRecursion (IsPacket m) packets
own_packets m address packets member from fit =
    both (λ (p : Packet). p.from ≡ address) PacketFits (IsPacket m) packets
    (λ p own fits. record {
      fits = fits;
      stranger = λ none u asks.
          let there : is_member m p.from ≡ true = ap (is_member m) own ∙ member in
          absurd cc;
      octets = λ none u asks.
          let there : is_member m p.from ≡ true = ap (is_member m) own ∙ member in
          absurd cc;
    }) from fit

pub padded_more : (bag more : List Packet) (transfers : List (Option ℕ)) (transfer : Option ℕ) → length transfers ≡ length bag → length (transfers ++ map (λ (p : Packet). transfer) more) ≡ length (bag ++ more)
padded_more bag more transfers transfer same =
    length-append transfers (map (λ (p : Packet). transfer) more) ∙ (ap₂ (λ a b. a + b) same (length-map more (λ (p : Packet). transfer)) ∙ sym (length-append bag more))

-- ---- what comes is in the ranges of the grammar

packet_fits : (m : Mesh) (bag : List Packet) (p : Packet) → AllByRecursion (IsPacket m) bag → Contains bag p → PacketFits p
packet_fits m bag p are there = (of_all (IsPacket m) bag p are there).fits

pub happening_fits : (m : Mesh) (bag : List Packet) (h : Happening) → AllByRecursion (IsPacket m) bag → AreIn bag (come_by h) → HappeningFits h
happening_fits m bag (Done (PacketComes p) now) are come = let f = packet_fits m bag p are come.0 in (f.node, f.numbers)
happening_fits m bag (Done TimeComes now) are come = (tt, tt)
happening_fits m bag CutPower are come = tt
happening_fits m bag (Torn (PacketComes p) now operations) are come = let f = packet_fits m bag p are come.0 in (f.node, f.numbers)
happening_fits m bag (Torn TimeComes now operations) are come = (tt, tt)

pub distributor_happening_fits : (m : Mesh) (bag : List Packet) (h : Happening) → AllByRecursion (IsPacket m) bag → AreIn bag (come_by h) → DistributorHappeningFits h
distributor_happening_fits m bag (Done (PacketComes p) now) are come = (packet_fits m bag p are come.0).distributor
distributor_happening_fits m bag (Done TimeComes now) are come = tt
distributor_happening_fits m bag CutPower are come = tt
distributor_happening_fits m bag (Torn (PacketComes p) now operations) are come = (packet_fits m bag p are come.0).distributor
distributor_happening_fits m bag (Torn TimeComes now operations) are come = tt

-- ---- what came in a run that goes on

pub come_more : (hs : List Happening) (h : Happening) → come_in (hs ++ h ∷ []) ≡ come_in hs ++ come_by h
come_more [] h = append-nil (come_by h)
come_more (first ∷ hs) h = ap (λ ps. come_by first ++ ps) (come_more hs h) ∙ sym (append_assoc (come_by first) (come_in hs) (come_by h))

pub come_on : (bag more : List Packet) (hs : List Happening) (h : Happening) → AreIn bag (come_in hs) → AreIn bag (come_by h) → AreIn (bag ++ more) (come_in (hs ++ h ∷ []))
come_on bag more hs h before now =
    in_wider bag more (come_in (hs ++ h ∷ []))
    (subst (AreIn bag) (sym (come_more hs h)) (all_append (λ (p : Packet). Contains bag p) (come_in hs) (come_by h) before now))

-- Each distributor goes on with its run.
use Rattle.std.proofs.Common.{◌≡◌, ℕ, ◌≤◌, List, [], ◌∷◌, ◌++◌, refl, sym, ap, ◌∙◌, append_assoc, append-nil, arith}
use Rattle.std.specs.List.{AllByRecursion}
use Rattle.mu_model_wire.specs.Packet.{Packet}
use Rattle.mu_model_node.specs.Safe.{Happening}
use Rattle.mu_model_distributor.specs.DistState.{DistState}
use Rattle.mu_model_distributor.specs.Runs.{happened, state_after}
use Rattle.mu_model_distributor_laws.specs.RunLaws.{HappeningFits}
use Rattle.mu_model_distributor_laws.specs.Starts.{IsUnused}
use Rattle.mu_model_fates.specs.Laws.{come_by}
use Rattle.mu_model_offers.specs.Laws.{Run, IsRun, begin_of}
use Rattle.mu_model_offers.specs.Packets.{IsPacketOf, PacketsSayStarts, packets_by, packets_in, packets_of}
use Rattle.mu_model_packets.specs.Laws.{PacketFits, DistributorsSendFit}
use Rattle.mu_model_script.specs.Ranges.{IsUnicast}
use Rattle.mu_model_mesh.specs.Mesh.{DistributorMember}
use Rattle.mu_model_mesh_safety.specs.Runs.{AreIn, DistributorRun}
use Rattle.mu_model_mesh_safety.proofs.KeepingLists.{all_append, all_right, weaker}
use Rattle.mu_model_mesh_safety.proofs.KeepingPackets.{AllFrom, in_wider, sent_other, sent_own, come_on}

-- ---- one happening more

state_more : (address : ℕ) (s : DistState) (hs : List Happening) (h : Happening) → state_after address s (hs ++ h ∷ []) ≡ happened address (state_after address s hs) h
state_more address s [] h = refl
state_more address s (first ∷ hs) h = state_more address (happened address s first) hs h

packets_more : (address : ℕ) (s : DistState) (hs : List Happening) (h : Happening) → packets_in address s (hs ++ h ∷ []) ≡ packets_in address s hs ++ packets_by address (state_after address s hs) h
packets_more address s [] h = append-nil (packets_by address s h)
packets_more address s (first ∷ hs) h =
    let next = happened address s first in
    ap (λ ps. packets_by address s first ++ ps) (packets_more address next hs h) ∙ sym (append_assoc (packets_by address s first) (packets_in address next hs) _)

abbrev longer : Run → Happening → Run
longer r h = record r { happenings = r.happenings ++ h ∷ [] }

longer_is : (r : Run) (h : Happening) → HappeningFits h → IsRun r → IsRun (longer r h)
longer_is r h fits is = record { durable = is.durable; fresh = is.fresh; happenings = all_append HappeningFits r.happenings (h ∷ []) is.happenings (fits, tt) }

-- what the longer run has sent
packets_on : (bag : List Packet) (address : ℕ) (old : DistributorMember) (h : Happening) (r : DistributorRun bag address old) → packets_of (longer r.run h) ≡ packets_of r.run ++ packets_by address old.state h
packets_on bag address old h r =
    let hs = r.run.happenings in
    let start = begin_of r.run in
    packets_more r.run.address start hs h
    ∙ (ap (λ a. packets_of r.run ++ packets_by a (state_after a start hs) h) r.own ∙ ap (λ s. packets_of r.run ++ packets_by address s h) (sym r.state))

-- ---- the bag grows by what others send

pub distributor_wider : (bag more : List Packet) (address other : ℕ) (d : DistributorMember) → (address ≡ other → ⊥) → AllFrom other more → DistributorRun bag address d → DistributorRun (bag ++ more) address d
distributor_wider bag more address other d apart from r = record {
  run = r.run;
  own = r.own;
  is = r.is;
  idle = r.idle;
  state = r.state;
  come = in_wider bag more _ r.come;
  sent = sent_other bag more _ address other apart from r.sent;
}

pub distributor_same : (bag : List Packet) (address : ℕ) (old new : DistributorMember) → new.state ≡ old.state → DistributorRun bag address old → DistributorRun bag address new
distributor_same bag address old new same r = record {
  run = r.run;
  own = r.own;
  is = r.is;
  idle = r.idle;
  state = same ∙ r.state;
  come = r.come;
  sent = r.sent;
}

-- ---- a distributor goes through a happening

pub distributor_on : (bag : List Packet) (address : ℕ) (old new : DistributorMember) (h : Happening) → new.state ≡ happened address old.state h → HappeningFits h → AreIn bag (come_by h)
    → DistributorRun bag address old → DistributorRun (bag ++ packets_by address old.state h) address new
distributor_on bag address old new h next fits come r = record {
  run = longer r.run h;
  own = r.own;
  is = longer_is r.run h fits r.is;
  idle = r.idle;
  state = next ∙ (ap (λ s. happened address s h) r.state ∙ sym (state_more address (begin_of r.run) r.run.happenings h));
  come = come_on bag _ r.run.happenings h r.come come;
  sent = rw (packets_on bag address old h r) (sent_own bag (packets_by address old.state h) (packets_of r.run) address r.sent);
}

-- one to which no event has come
pub distributor_begins : (address : ℕ) (d : DistributorMember) → IsUnused address d.state → DistributorRun [] address d
distributor_begins address d unused = record {
  run = record { address = address; durable = d.state.durable; fresh = d.state.fresh; happenings = [] };
  own = refl;
  is = record { durable = unused.durable; fresh = unused.fresh; happenings = tt };
  idle = record { phase = unused.phase; counter = unused.counter; receivers = unused.receivers };
  state = unused.live;
  come = tt;
  sent = tt;
}

-- ---- what it sends

pub distributor_sends_from : PacketsSayStarts → (bag : List Packet) (address : ℕ) (d : DistributorMember) (h : Happening) → IsUnicast address → HappeningFits h → DistributorRun bag address d
    → AllFrom address (packets_by address d.state h)
distributor_sends_from send bag address d h unicast fits r =
    let own = r.own in
    let most : address ≤ 0x7FFF = unicast.1 in
    let all = send (longer r.run h) (longer_is r.run h fits r.is) (omega arith) in
    weaker (IsPacketOf (longer r.run h)) (λ (p : Packet). p.from ≡ address) (packets_by address d.state h) (λ p is. is.from ∙ own)
    (all_right (IsPacketOf (longer r.run h)) (packets_of r.run) (packets_by address d.state h) (rw (packets_on bag address d h r) at all))

pub distributor_sends_fit : DistributorsSendFit → (bag : List Packet) (address : ℕ) (d : DistributorMember) (h : Happening) → DistributorRun bag address d
    → AllByRecursion PacketFits (packets_by address d.state h)
distributor_sends_fit send bag address d h r =
    let all = send (longer r.run h) in
    all_right PacketFits (packets_of r.run) (packets_by address d.state h) (rw (packets_on bag address d h r) at all)

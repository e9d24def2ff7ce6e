-- What an event comes to in a world, from what the code has found and done there.
use Rattle.std.proofs.Common.{◌≡◌, ℕ, ◌<◌, ◌≤◌, max, Bool, true, false, List, [], ◌∷◌, ◌++◌, length, map, Option, Some, None, Contains, nat_eq, nat_le, refl, sym, ap, ◌∙◌, subst, append_assoc, append-nil, arith, slice_get, cond, zero, suc}
use Rattle.std.specs.Prelude.{IsTrue, IsSome, IfSome, OnOk, Result, Ok, Err}
use Rattle.std.proofs.lemmas.Bool.{lt-leb, le-leb}
use Rattle.std.specs.Map.{set_value}
use Rattle.mu_model_flash.specs.declared.Pattern.{Pattern}
use Rattle.mu_model_wire.specs.Packet.{Packet}
use Rattle.mu_model_node.specs.Events.{NodeEvent, PacketComes, TimeComes, NodeStep, node_step, node_work, is_worn}
use Rattle.mu_model_node.specs.Log.{LogEntry}
use Rattle.mu_model_node.specs.NodeState.{NodeDurable, restarted, is_addressee}
use Rattle.mu_model_node.specs.Safe.{left_after}
use Rattle.mu_model_script.specs.Texts.{unread_text, boot_text}
use Rattle.mu_model_script.specs.Event.{Event, Deliver, Time, Cut, Tear as TearLine, Active, Phase}
use Rattle.mu_model_world.specs.World.{Tear, Member, World, member_at, config_of, logged_at}
use Rattle.mu_model_world.specs.Outcomes.{outcomes, one, happens, happens_by, torn, done_by, ran, booted, unread, begun, with_packets, with_changed, sent_texts, active_texts, phase_line, worn}
use Rattle.mu_model_world.specs.Judged.{objection}
use Rattle.mu_reference_node.specs.Logging.{what_of}
use Rattle.mu_world.specs.Member.{BootOf, IsPending, RanWhole, WasTorn}
use Rattle.mu_world.specs.Moved.{Did}
use Rattle.mu_world.specs.declared.member.Boot.{Boot}

-- an event that has one outcome
pub did_one : (w : World) (event : Event) (text before after : List ℕ) (next : World) → objection w event ≡ None → outcomes w event ≡ one next text → after ≡ before ++ text → Did w event before after next
did_one w event text before after next sound is printed = record {
  sound = sound;
  text = text;
  moved = rw is (0, omega arith, refl);
  printed = printed;
}

-- what stands in a list stands in it after a map
mapped : {X Y : Type 0} (f : X → Y) (xs : List X) (x : X) → Contains xs x → Contains (map f xs) (f x)
mapped f [] x p =
    let none : p.0 < 0 = p.1 in
    absurd (omega (arith, none))
mapped f (v ∷ xs) x (zero, within, is) = (zero, omega arith, ap f is)
mapped f (v ∷ xs) x (suc k, within, is) =
    let rest = mapped f xs x (k, omega (arith, within), is) in
    (suc rest.0, omega (arith, rest.1), rest.2)

-- ---- an event at a node

-- a member whose moment is this
abbrev now_at : ℕ → Member → Member
now_at now m = record m { moment = now }

pending : (operations : ℕ) (w : World) (address : ℕ) (m : Member) (event : NodeEvent) (first : List ℕ) (tear : Option Tear)
    → operations ≡ length (node_work (config_of address m) m.state event m.moment) → IsPending operations tear
    → happens_by w address m event first tear ≡ ran w address m first (node_step (config_of address m) m.state event m.moment) ∷ []
pending operations w address m event first None is fewer = refl
pending operations w address m event first (Some tear) is fewer =
    let no : nat_le tear.operation operations ≡ false = lt-leb tear.operation operations fewer in
    rw (← is, no) refl

-- it runs whole
happens_whole : (w : World) (address : ℕ) (m : Member) (event : NodeEvent) (first : List ℕ) → is_worn (config_of address m) m.state event m.moment ≡ false
    → IsPending (length (node_work (config_of address m) m.state event m.moment)) m.tear
    → happens w address m event first ≡ ran w address m first (node_step (config_of address m) m.state event m.moment) ∷ []
happens_whole w address m event first sound fewer = rw sound (pending _ w address m event first m.tear refl fewer)

-- what is left of a member and its world, where an event ran whole
pub in_whole : (w : World) (address : ℕ) (old new : Member) (event : NodeEvent) (now : ℕ) (first : List ℕ) (sent : List Packet) (handled : Bool) (entries : List LogEntry) → RanWhole address old new event now sent handled entries
    → Contains (happens w address (now_at now old) event first)
    (record { world = with_packets (record w { members = set_value (nat_eq address) w.members new; log = w.log ++ logged_at address entries }) sent; text = first ++ sent_texts (length w.bag) sent })
in_whole w address old new event now first sent handled entries r =
    let step : NodeStep = node_step (config_of address old) old.state event now in
    let is = happens_whole w address (now_at now old) event first r.sound r.pending in
    let here : record { world = with_packets (record w { members = set_value (nat_eq address) w.members new; log = w.log ++ logged_at address entries }) sent; text = first ++ sent_texts (length w.bag) sent }
    ≡ ran w address (now_at now old) first step = rw (r.logs, r.next, r.sends) refl in
    rw (here, is) (0, omega arith, refl)

-- where the power went in it
happens_torn : (w : World) (address : ℕ) (m : Member) (event : NodeEvent) (first : List ℕ) (tear : Tear) → is_worn (config_of address m) m.state event m.moment ≡ false → m.tear ≡ Some tear
    → tear.operation ≤ length (node_work (config_of address m) m.state event m.moment) → happens w address m event first ≡ torn w address m event tear
happens_torn w address m event first tear sound is within =
    let yes : nat_le tear.operation (length (node_work (config_of address m) m.state event m.moment)) ≡ true = le-leb tear.operation _ within in
    rw (sound, is, yes) refl

pub in_torn : (w : World) (address : ℕ) (old new : Member) (event : NodeEvent) (now : ℕ) (first : List ℕ) (sent : List Packet) (boot : Boot) → WasTorn address old new event now sent boot
    → Contains (happens w address (now_at now old) event first)
    (record { world = record w { members = set_value (nat_eq address) w.members new; log = w.log ++ logged_at address (map what_of boot.entries.items) }; text = boot_text address boot.count boot.held })
in_torn w address old new event now first sent boot r =
    let t = r.tears in
    let m : Member = now_at now old in
    let left : NodeDurable = left_after (config_of address old) old.state event now r.operations in
    let is = happens_torn w address m event first t.tear r.sound t.is t.within in
    let all = mapped (λ operations. booted w address m (left_after (config_of address m) m.state event m.moment operations)) (done_by t.tear.pattern t.tear.operation) r.operations t.one_of in
    let here : record { world = record w { members = set_value (nat_eq address) w.members new; log = w.log ++ logged_at address (map what_of boot.entries.items) }; text = boot_text address boot.count boot.held }
    ≡ booted w address m left = rw (r.boots.count, r.boots.held, r.boots.entries, r.next) refl in
    rw (here, is) all

-- ---- a packet that comes

pub did_deliver : (w : World) (number address : ℕ) (packet : Packet) (old new : Member) (sent : List Packet) (handled : Bool) (entries : List LogEntry) (before after : List ℕ) (next : World)
    → member_at w address ≡ Some old → slice_get w.bag number ≡ Some packet → is_addressee (config_of address old) packet ≡ true
    → RanWhole address old new (PacketComes packet) old.moment sent handled entries
    → next ≡ with_packets (record (begun w) { members = set_value (nat_eq address) w.members new; log = w.log ++ logged_at address entries }) sent
    → after ≡ (before ++ cond handled [] (unread_text number address)) ++ sent_texts (length w.bag) sent → Did w (Deliver number address) before after next
did_deliver w number address packet old new sent handled entries before after next found in_bag addressed r is printed = record {
  sound = rw (found, in_bag, addressed) refl;
  text = cond handled [] (unread_text number address) ++ sent_texts (length w.bag) sent;
  moved = rw (in_bag, found, is) (rw r.handles (in_whole (begun w) address old new (PacketComes packet) old.moment (unread number address old packet) sent handled entries r));
  printed = printed ∙ append_assoc before (cond handled [] (unread_text number address)) (sent_texts (length w.bag) sent);
}

pub did_deliver_torn : (w : World) (number address : ℕ) (packet : Packet) (old new : Member) (sent : List Packet) (boot : Boot) (before after : List ℕ) (next : World)
    → member_at w address ≡ Some old → slice_get w.bag number ≡ Some packet → is_addressee (config_of address old) packet ≡ true
    → WasTorn address old new (PacketComes packet) old.moment sent boot
    → next ≡ record (begun w) { members = set_value (nat_eq address) w.members new; log = w.log ++ logged_at address (map what_of boot.entries.items) }
    → after ≡ before ++ boot_text address boot.count boot.held → Did w (Deliver number address) before after next
did_deliver_torn w number address packet old new sent boot before after next found in_bag addressed r is printed = record {
  sound = rw (found, in_bag, addressed) refl;
  text = boot_text address boot.count boot.held;
  moved = rw (in_bag, found, is) (in_torn (begun w) address old new (PacketComes packet) old.moment (unread number address old packet) sent boot r);
  printed = printed;
}

pub worn_deliver : (w : World) (number address : ℕ) (packet : Packet) (old : Member) → member_at w address ≡ Some old → slice_get w.bag number ≡ Some packet
    → IsTrue (is_worn (config_of address old) old.state (PacketComes packet) old.moment) → worn w (Deliver number address) ≡ Some address
worn_deliver w number address packet old found in_bag is = rw (in_bag, found, is) refl

-- ---- time that comes

pub did_time : (w : World) (address ms now : ℕ) (old new : Member) (sent : List Packet) (handled : Bool) (entries : List LogEntry) (before after : List ℕ) (next : World)
    → member_at w address ≡ Some old → now ≡ max old.moment ms → RanWhole address old new TimeComes now sent handled entries
    → next ≡ with_packets (record (begun w) { members = set_value (nat_eq address) w.members new; log = w.log ++ logged_at address entries }) sent
    → after ≡ before ++ sent_texts (length w.bag) sent → Did w (Time address ms) before after next
did_time w address ms now old new sent handled entries before after next found moment r is printed = record {
  sound = rw found refl;
  text = sent_texts (length w.bag) sent;
  moved = rw (found, is) (subst (λ n. Contains (happens (begun w) address (now_at n old) TimeComes []) (record { world = with_packets (record (begun w) { members = set_value (nat_eq address) w.members new; log = w.log ++ logged_at address entries }) sent; text = sent_texts (length w.bag) sent })) moment (in_whole (begun w) address old new TimeComes now [] sent handled entries r));
  printed = printed;
}

pub did_time_torn : (w : World) (address ms now : ℕ) (old new : Member) (sent : List Packet) (boot : Boot) (before after : List ℕ) (next : World)
    → member_at w address ≡ Some old → now ≡ max old.moment ms → WasTorn address old new TimeComes now sent boot
    → next ≡ record (begun w) { members = set_value (nat_eq address) w.members new; log = w.log ++ logged_at address (map what_of boot.entries.items) }
    → after ≡ before ++ boot_text address boot.count boot.held → Did w (Time address ms) before after next
did_time_torn w address ms now old new sent boot before after next found moment r is printed = record {
  sound = rw found refl;
  text = boot_text address boot.count boot.held;
  moved = rw (found, is) (subst (λ n. Contains (happens (begun w) address (now_at n old) TimeComes []) (record { world = record (begun w) { members = set_value (nat_eq address) w.members new; log = w.log ++ logged_at address (map what_of boot.entries.items) }; text = boot_text address boot.count boot.held })) moment (in_torn (begun w) address old new TimeComes now [] sent boot r));
  printed = printed;
}

pub worn_time : (w : World) (address ms now : ℕ) (old : Member) → member_at w address ≡ Some old → now ≡ max old.moment ms
    → IsTrue (is_worn (config_of address old) old.state TimeComes now) → worn w (Time address ms) ≡ Some address
worn_time w address ms now old found moment is =
    let there : is_worn (config_of address old) old.state TimeComes (max old.moment ms) ≡ true = rw (← moment) is in
    rw (found, there) refl

-- ---- power that goes between events

pub did_cut : (w : World) (address : ℕ) (old new : Member) (boot : Boot) (before after : List ℕ) (next : World) → member_at w address ≡ Some old
    → new ≡ record old { tear = None; state = restarted old.state.durable } → BootOf old new boot
    → next ≡ record (begun w) { members = set_value (nat_eq address) w.members new; log = w.log ++ logged_at address (map what_of boot.entries.items) }
    → after ≡ before ++ boot_text address boot.count boot.held → Did w (Cut address) before after next
did_cut w address old new boot before after next found now b is printed =
    did_one w (Cut address) (boot_text address boot.count boot.held) before after next (rw found refl) (rw (found, is, b.count, b.held, b.entries, now) refl) printed

-- ---- lines that show or arm

-- what is there
pub record There {X : Type 0} (o : Option X) : Type 0 where
  pub one : X
  pub is : o ≡ Some one

pub there : {X : Type 0} (o : Option X) → IsSome o → There o
there None h = absurd cc
there (Some x) h = record { one = x; is = refl }

pub on_ok_both : {E : Type 0} (r : Result (Unit {0}) E) (P Q R : Type 0) → (P → Q → R) → OnOk r P → OnOk r Q → OnOk r R
on_ok_both (Ok tt) P Q R f p q = f p q
on_ok_both (Err e) P Q R f p q = tt

pub on_ok_map : {E : Type 0} (r : Result (Unit {0}) E) (P Q : Type 0) → (P → Q) → OnOk r P → OnOk r Q
on_ok_map (Ok tt) P Q f p = f p
on_ok_map (Err e) P Q f p = tt

pub if_some_at : {X : Type 0} (o : Option X) (x : X) (P : X → Type 0) → o ≡ Some x → IfSome o P → P x
if_some_at None x P is h = absurd cc
if_some_at (Some y) x P is h =
    let same : y ≡ x = cc in
    subst P same h

pub did_tear : (w : World) (address operation : ℕ) (pattern : Pattern) (old : Member) (before : List ℕ) (next : World) → member_at w address ≡ Some old
    → next ≡ with_changed (begun w) address (record old { tear = Some (record { operation = operation; pattern = pattern }) }) → Did w (TearLine address operation pattern) before before next
did_tear w address operation pattern old before next found is =
    did_one w (TearLine address operation pattern) [] before before next (rw found refl) (rw (found, is) refl) (sym (append-nil before))

pub did_active : (w : World) (address : ℕ) (old : Member) (before after : List ℕ) (next : World) → member_at w address ≡ Some old → next ≡ begun w
    → after ≡ before ++ active_texts address old.state.durable.images → Did w (Active address) before after next
did_active w address old before after next found is printed = did_one w (Active address) (active_texts address old.state.durable.images) before after next (rw found refl) (rw (found, is) refl) printed

pub did_phase : (w : World) (address : ℕ) (old : Member) (before after : List ℕ) (next : World) → member_at w address ≡ Some old → next ≡ begun w
    → after ≡ before ++ phase_line address old.state → Did w (Phase address) before after next
did_phase w address old before after next found is printed = did_one w (Phase address) (phase_line address old.state) before after next (rw found refl) (rw (found, is) refl) printed

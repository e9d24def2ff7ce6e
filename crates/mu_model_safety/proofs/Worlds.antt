-- Every node of a world has gone through a run of its own, which the log tells.
use Rattle.std.proofs.Common.{◌≡◌, ℕ, ◌*◌, ◌<◌, ◌≤◌, List, [], ◌∷◌, ◌++◌, length, Option, Some, None, Bool, true, false, cond, nat_eq, nat_le, nat_lt, zero, suc, refl, sym, ap, ◌∙◌, subst, inl, inr, arith, Contains, slice_get, append_assoc, append-nil, is_some, Result, Ok, Err}
use Rattle.std.specs.Prelude.{◌||◌}
use Rattle.std.specs.List.{AllByRecursion}
use Rattle.std.specs.Map.{lookup}
use Rattle.std.proofs.lemmas.Bool.{ltb-false}
use Rattle.mu_model_flash.specs.declared.Pattern.{Pattern}
use Rattle.mu_model_flash.specs.declared.Pattern.TheVariants.{Old as OldBits, New as NewBits, Made as MadeBits}
use Rattle.mu_model_image.specs.Laws.{ImagesFit, MadeImageHasItsSize}
use Rattle.mu_model_image.specs.Meta.{Image, image_of}
use Rattle.mu_model_wire.specs.Packet.{Packet}
use Rattle.mu_model_node.specs.Events.{NodeEvent, PacketComes, TimeComes, node_step, node_work, is_worn}
use Rattle.mu_model_node.specs.FlashWork.{page_octets}
use Rattle.mu_model_node.specs.Log.{LogEntry, logged}
use Rattle.mu_model_node.specs.NodeState.{NodeDurable, NodeState, restarted}
use Rattle.mu_model_node.specs.Safe.{Happening, Done, CutPower, Torn, left_after, happened, state_after, log_after, found, ImagesAreSafe, OneNodeIsSafe}
use Rattle.mu_model_node.specs.Sound.{IsActiveImage, IsNodeDurable}
use Rattle.mu_model_node.specs.declared.NodeConfig.{NodeConfig}
use Rattle.mu_model_script.specs.Event.{Event, Node, Old, Pair, Say, Deliver, Time, Cut, Tear as TearLine, Active, Phase}
use Rattle.mu_model_script.specs.Laws.{EventIsInRange}
use Rattle.mu_model_script.specs.Lines.{line_event}
use Rattle.mu_model_script.specs.Ranges.{IsInRange, IsContent}
use Rattle.mu_model_script.specs.Tokens.{Content, Hex, Made}
use Rattle.mu_model_script.specs.declared.LineFault.{LineFault}
use Rattle.mu_model_script.specs.declared.BadWhy.TheVariants.{Token as BadToken, Member as BadMember}
use Rattle.mu_model_world.specs.World.{Tear, Member, World, new_world, member_at, config_of, log_at, logged_at}
use Rattle.mu_model_world.specs.Outcomes.{Outcome, outcomes, content_octets, node_of, pair_of, new_member, counted, begun, with_member, with_changed, with_state, delivered, timed, happens, happens_by, torn, at_member, at_moment, unread, ran, booted}
use Rattle.mu_model_world.specs.Judged.{Objection, objection, against, or_else, against_member, against_content, judged_event, judged_by}
use Rattle.mu_model_world.specs.Run.{IsDone, Run}
use Rattle.mu_model_safety.specs.Laws.{EveryWorldIsSafe, EveryCutIsSafe}
use Rattle.mu_model_safety.specs.Safe.{IsSafe}
use Rattle.mu_model_safety.proofs.Places.{AreSame, Yes, No, are_same, added, added_none, changed, changed_none, log_same, log_other}

-- ---- a run of one node, and one more happening

state_more : (config : NodeConfig) (s : NodeState) (hs : List Happening) (h : Happening) → state_after config s (hs ++ h ∷ []) ≡ happened config (state_after config s hs) h
state_more config s [] h = refl
state_more config s (first ∷ hs) h = state_more config (happened config s first) hs h

log_more : (config : NodeConfig) (s : NodeState) (hs : List Happening) (h : Happening)
    → log_after config s (hs ++ h ∷ []) ≡ log_after config s hs ++ logged (state_after config s hs) (happened config (state_after config s hs) h)
log_more config s [] h = append-nil (logged s (happened config s h))
log_more config s (first ∷ hs) h =
    let next = happened config s first in
    ap (λ es. logged s next ++ es) (log_more config next hs h) ∙ sym (append_assoc (logged s next) (log_after config next hs) _)

-- a node of the world, and what the log has of it
pub record HasRun (address : ℕ) (m : Member) (log : List LogEntry) : Type 0 where
  pub made : NodeDurable
  pub hs : List Happening
  pub sound : IsNodeDurable made
  pub jobless : made.job ≡ None
  pub first : m.first ≡ made.images
  pub state : m.state ≡ state_after (config_of address m) (restarted made) hs
  pub log_is : log ≡ log_after (config_of address m) (restarted made) hs

-- what changes of a member but its state
record IsKept (old new : Member) : Type 0 where
  pub group : new.group ≡ old.group
  pub first : new.first ≡ old.first

same_config : (address : ℕ) (old new : Member) → IsKept old new → config_of address old ≡ config_of address new
same_config address old new k = ap (λ (group : ℕ). record { address = address; group = group }) (sym k.group)

run_on : (address : ℕ) (old new : Member) (log : List LogEntry) (h : Happening) → IsKept old new → new.state ≡ happened (config_of address old) old.state h → HasRun address old log
    → HasRun address new (log ++ logged old.state new.state)
run_on address old new log h k next r =
    let config = config_of address old in
    let start = restarted r.made in
    let at = same_config address old new k in
    let state : new.state ≡ state_after config start (r.hs ++ h ∷ []) = next ∙ (ap (λ s. happened config s h) r.state ∙ sym (state_more config start r.hs h)) in
    let steps : logged old.state new.state ≡ logged (state_after config start r.hs) (happened config (state_after config start r.hs) h) =
    ap (λ s. logged old.state s) next ∙ ap (λ s. logged s (happened config s h)) r.state in
    record {
      made = r.made;
      hs = r.hs ++ h ∷ [];
      sound = r.sound;
      jobless = r.jobless;
      first = k.first ∙ r.first;
      state = state ∙ ap (λ c. state_after c start (r.hs ++ h ∷ [])) at;
      log_is = ap (λ l. l ++ logged old.state new.state) r.log_is ∙ (ap (λ es. log_after config start r.hs ++ es) steps ∙ (sym (log_more config start r.hs h) ∙ ap (λ c. log_after c start (r.hs ++ h ∷ [])) at));
    }

run_same : (address : ℕ) (old new : Member) (log : List LogEntry) → IsKept old new → new.state ≡ old.state → HasRun address old log → HasRun address new log
run_same address old new log k same r = record {
  made = r.made;
  hs = r.hs;
  sound = r.sound;
  jobless = r.jobless;
  first = k.first ∙ r.first;
  state = same ∙ (r.state ∙ ap (λ c. state_after c (restarted r.made) r.hs) (same_config address old new k));
  log_is = r.log_is ∙ ap (λ c. log_after c (restarted r.made) r.hs) (same_config address old new k);
}

-- ---- THE INVARIANT of a world

pub record Kept (w : World) : Type 0 where
  pub runs : (address : ℕ) (m : Member) → member_at w address ≡ Some m → HasRun address m (log_at address w.log)
  -- nothing is logged where there is no node
  pub silent : (address : ℕ) → member_at w address ≡ None → log_at address w.log ≡ []

kept_new : Kept new_world
kept_new = record { runs = λ address m is. absurd cc; silent = λ address is. refl }

-- packets, counts and such change nothing of it
kept_same : (w next : World) → next.members ≡ w.members → next.log ≡ w.log → Kept w → Kept next
kept_same w next members log k = record {
  runs = λ address m is. subst (λ l. HasRun address m (log_at address l)) (sym log) (k.runs address m (ap (λ es. lookup (nat_eq address) es) (sym members) ∙ is));
  silent = λ address is. ap (log_at address) log ∙ k.silent address (ap (λ es. lookup (nat_eq address) es) (sym members) ∙ is);
}

-- a node more
kept_added : (w : World) (address : ℕ) (m : Member) → member_at w address ≡ None → HasRun address m [] → Kept w → Kept (with_member w address m)
kept_added w address m free r k = record {
  runs = λ b found is.
      elim (added w.members address b m found is) [
        | inl there ↦ k.runs b found there
        | inr here ↦ subst (λ x. HasRun b x (log_at b w.log)) (sym here.1) (subst (λ x. HasRun x m (log_at x w.log)) (sym here.0) (subst (HasRun address m) (sym (k.silent address free)) r))
      ];
  silent = λ b none. k.silent b (added_none w.members address b m none);
}

-- a node changes, and its entries are logged
kept_changed : (w : World) (address : ℕ) (old m : Member) (entries : List LogEntry) → member_at w address ≡ Some old → HasRun address m (log_at address w.log ++ entries) → Kept w
    → Kept (record (with_changed w address m) { log = w.log ++ logged_at address entries })
kept_changed w address old m entries at r k = record {
  runs = λ b found is.
      elim (changed w.members address b m found is) [
        | inl here ↦ subst (λ x. HasRun b x (log_at b (w.log ++ logged_at address entries))) (sym here.1)
            (subst (λ x. HasRun x m (log_at x (w.log ++ logged_at address entries))) (sym here.0) (subst (HasRun address m) (sym (log_same w.log address entries)) r))
        | inr there ↦ subst (HasRun b found) (sym (log_other w.log address b entries there.0)) (k.runs b found there.1)
      ];
  silent = λ b none. silent_still b (changed_none w.members address b m none) (are_same b address);
}
  where
    silent_still : (b : ℕ) → lookup (nat_eq b) w.members ≡ None → {t : Bool} → AreSame b address t → log_at b (w.log ++ logged_at address entries) ≡ []
    silent_still b none (Yes same) =
        let there : lookup (nat_eq b) w.members ≡ Some old = subst (λ x. lookup (nat_eq x) w.members ≡ Some old) (sym same) at in
        absurd cc
    silent_still b none (No other) = log_other w.log address b entries other ∙ k.silent b none

-- ---- what an event comes to

-- the member went through a happening
kept_happened : (w : World) (address : ℕ) (old new : Member) (state : NodeState) (h : Happening) → IsKept old new → new.state ≡ old.state → member_at w address ≡ Some old
    → state ≡ happened (config_of address old) old.state h → Kept w → Kept (with_state w address new state)
kept_happened w address old new state h kept same is next k =
    kept_changed w address old (record new { state = state }) (logged new.state state) is
    (subst (λ s. HasRun address (record new { state = state }) (log_at address w.log ++ logged s state)) (sym same)
    (run_on address old (record new { state = state }) (log_at address w.log) h (record { group = kept.group; first = kept.first }) next (k.runs address old is))) k

abbrev AreKept : List Outcome → Type 0
AreKept outs = AllByRecursion (λ (o : Outcome). Kept o.world) outs

-- `old` is the member of the world, and `m` is it with its moment and its tear as they are now
record IsNow (w : World) (address : ℕ) (old m : Member) : Type 0 where
  pub is : member_at w address ≡ Some old
  pub kept : IsKept old m
  pub state : m.state ≡ old.state

config_now : (w : World) (address : ℕ) (old m : Member) → IsNow w address old m → config_of address m ≡ config_of address old
config_now w address old m n = sym (same_config address old m n.kept)

kept_ran : (w : World) (address : ℕ) (old m : Member) (event : NodeEvent) (first : List ℕ) → IsNow w address old m → Kept w
    → Kept (ran w address m first (node_step (config_of address m) m.state event m.moment)).world
kept_ran w address old m event first n k =
    let next : NodeState = (node_step (config_of address m) m.state event m.moment).next in
    kept_same (with_state w address m next) _ refl refl
    (kept_happened w address old m next (Done event m.moment) n.kept n.state n.is
    (ap (λ c. happened c m.state (Done event m.moment)) (config_now w address old m n) ∙ ap (λ s. happened (config_of address old) s (Done event m.moment)) n.state) k)

kept_booted : (w : World) (address : ℕ) (old m : Member) (h : Happening) (left : NodeDurable) → IsNow w address old m → restarted left ≡ happened (config_of address m) m.state h → Kept w
    → Kept (booted w address m left).world
kept_booted w address old m h left n next k =
    kept_happened w address old (record m { tear = None }) (restarted left) h (record { group = n.kept.group; first = n.kept.first }) n.state n.is
    (next ∙ (ap (λ c. happened c m.state h) (config_now w address old m n) ∙ ap (λ s. happened (config_of address old) s h) n.state)) k

kept_left : (w : World) (address : ℕ) (old m : Member) (event : NodeEvent) (operations : ℕ) → IsNow w address old m → Kept w
    → Kept (booted w address m (left_after (config_of address m) m.state event m.moment operations)).world
kept_left w address old m event operations n k = kept_booted w address old m (Torn event m.moment operations) _ n refl k

kept_torn : (w : World) (address : ℕ) (old m : Member) (event : NodeEvent) (operation : ℕ) (pattern : Pattern) → IsNow w address old m → Kept w
    → AreKept (torn w address m event (record { operation = operation; pattern = pattern }))
kept_torn w address old m event operation OldBits n k = (kept_left w address old m event _ n k, tt)
kept_torn w address old m event operation NewBits n k = (kept_left w address old m event _ n k, tt)
kept_torn w address old m event operation (MadeBits seed) n k = (kept_left w address old m event _ n k, (kept_left w address old m event _ n k, tt))

kept_happens_by : (w : World) (address : ℕ) (old m : Member) (event : NodeEvent) (first : List ℕ) (tear : Option Tear) → IsNow w address old m → Kept w → AreKept (happens_by w address m event first tear)
kept_happens_by w address old m event first None n k = (kept_ran w address old m event first n k, tt)
kept_happens_by w address old m event first (Some tear) n k =
    elim (nat_le tear.operation (length (node_work (config_of address m) m.state event m.moment)))
    as (λ b. AreKept (cond b (torn w address m event tear) (ran w address m first (node_step (config_of address m) m.state event m.moment) ∷ []))) [
      | true ↦ kept_torn w address old m event tear.operation tear.pattern n k
      | false ↦ (kept_ran w address old m event first n k, tt)
    ]

kept_happens : (w : World) (address : ℕ) (old m : Member) (event : NodeEvent) (first : List ℕ) → IsNow w address old m → Kept w → AreKept (happens w address m event first)
kept_happens w address old m event first n k =
    elim (is_worn (config_of address m) m.state event m.moment) as (λ b. AreKept (cond b [] (happens_by w address m event first m.tear))) [
      | true ↦ tt
      | false ↦ kept_happens_by w address old m event first m.tear n k
    ]

kept_delivered : (w : World) (number address : ℕ) (packet : Option Packet) (m : Option Member) → member_at w address ≡ m → Kept w → AreKept (delivered w number address packet m)
kept_delivered w number address (Some packet) (Some m) is k =
    kept_happens w address m m (PacketComes packet) (unread number address m packet) (record { is = is; kept = record { group = refl; first = refl }; state = refl }) k
kept_delivered w number address (Some packet) None is k = tt
kept_delivered w number address None m is k = tt

kept_timed : (w : World) (address ms : ℕ) (m : Option Member) → member_at w address ≡ m → Kept w → AreKept (timed w address ms m)
kept_timed w address ms (Some m) is k =
    kept_happens w address m (at_moment ms m) TimeComes [] (record { is = is; kept = record { group = refl; first = refl }; state = refl }) k
kept_timed w address ms None is k = tt

kept_at_member : (m : Option Member) (f : Member → Outcome) → ((one : Member) → m ≡ Some one → Kept (f one).world) → AreKept (at_member m f)
kept_at_member (Some m) f h = (h m refl, tt)
kept_at_member None f h = tt

-- ---- new nodes

none_of : {X : Type 0} (o : Option X) → is_some o ≡ false → o ≡ None
none_of None h = refl
none_of (Some x) h = absurd cc

-- a member line against which nothing stands names an address of no member
free_at : (w : World) (address : ℕ) → against_member w address ≡ None → member_at w address ≡ None
free_at w address h =
    elim (w.begun || nat_le 32 (length w.members))
    as (λ t. cond t (against 0 BadMember) (cond (is_some (member_at w address)) (against 1 BadMember) None) ≡ None → member_at w address ≡ None) [
      | true ↦ λ e. absurd cc
      | false ↦ λ e. elim (is_some (member_at w address)) as (λ u. is_some (member_at w address) ≡ u → cond u (against 1 BadMember) None ≡ None → member_at w address ≡ None) [
        | true ↦ λ there f. absurd cc
        | false ↦ λ there f. none_of (member_at w address) there
      ] refl e
    ] h

first_none : (o p : Option Objection) → or_else o p ≡ None → (o ≡ None) × (p ≡ None)
first_none None p h = (refl, h)
first_none (Some x) p h = absurd cc

fits_bank : (token pages : ℕ) (content : Content) → against_content token pages content ≡ None → length (content_octets content) ≤ page_octets * pages
fits_bank token pages content h =
    elim (nat_lt (page_octets * pages) (length (content_octets content)))
    as (λ t. nat_lt (page_octets * pages) (length (content_octets content)) ≡ t → cond t (against token BadToken) None ≡ None → length (content_octets content) ≤ page_octets * pages) [
      | true ↦ λ e f. absurd cc
      | false ↦ λ e f. ltb-false _ _ e
    ] refl h

module _ (fit : ImagesFit) (made : MadeImageHasItsSize) where
  some_octets : (content : Content) → IsContent content → 0 < length (content_octets content)
  some_octets (Hex octets) h = h.0.0
  some_octets (Made seed size) h = rw (made seed size) h.1.0

  first_image : (pages version token : ℕ) (content : Content) → IsContent content → against_content token pages content ≡ None → IsActiveImage (page_octets * pages) (image_of version (content_octets content))
  first_image pages version token content h room = record {
    some = some_octets content h;
    room = fits_bank token pages content room;
    fit = fit version (content_octets content);
  }

  one_image : (pages : ℕ) (image : Image) → IsActiveImage (page_octets * pages) image → (index : ℕ) (x : Image) → slice_get (image ∷ []) index ≡ Some x → IsActiveImage (page_octets * pages) x
  one_image pages image h zero x is =
      let same : image ≡ x = cc in
      subst (λ y. IsActiveImage (page_octets * pages) y) same h
  one_image pages image h (suc index) x is = absurd cc

  two_images : (pages : ℕ) (image second : Image) → IsActiveImage (page_octets * pages) image → IsActiveImage (page_octets * pages) second
      → (index : ℕ) (x : Image) → slice_get (image ∷ second ∷ []) index ≡ Some x → IsActiveImage (page_octets * pages) x
  two_images pages image second h g zero x is =
      let same : image ≡ x = cc in
      subst (λ y. IsActiveImage (page_octets * pages) y) same h
  two_images pages image second h g (suc zero) x is =
      let same : second ≡ x = cc in
      subst (λ y. IsActiveImage (page_octets * pages) y) same g
  two_images pages image second h g (suc (suc index)) x is = absurd cc

  node_sound : (pages version : ℕ) (content : Content) → 1 ≤ pages → pages ≤ 256 → IsContent content → against_content 5 pages content ≡ None → IsNodeDurable (node_of pages version content)
  node_sound pages version content least most h room = record {
    capacity = (pages, least, most, refl);
    some_image = omega arith;
    two_images = omega arith;
    images = one_image pages _ (first_image pages version 5 content h room);
    job = tt;
  }

  pair_sound : (pages version second_version : ℕ) (content second : Content) → 1 ≤ pages → pages ≤ 256 → IsContent content → IsContent second → against_content 5 pages content ≡ None → against_content 7 pages second ≡ None
      → IsNodeDurable (pair_of pages version content second_version second)
  pair_sound pages version second_version content second least most h g room more = record {
    capacity = (pages, least, most, refl);
    some_image = omega arith;
    two_images = omega arith;
    images = two_images pages _ _ (first_image pages version 5 content h room) (first_image pages second_version 7 second g more);
    job = tt;
  }

  starts : (address group : ℕ) (d : NodeDurable) → IsNodeDurable d → d.job ≡ None → HasRun address (new_member group d) []
  starts address group d sound none = record { made = d; hs = []; sound = sound; jobless = none; first = refl; state = refl; log_is = refl }

  kept_member : (w : World) (address group : ℕ) (d : NodeDurable) → against_member w address ≡ None → IsNodeDurable d → d.job ≡ None → Kept w → AreKept (record { world = with_member (counted w) address (new_member group d); text = [] } ∷ [])
  kept_member w address group d free sound none k =
      (kept_added (counted w) address (new_member group d) (free_at w address free) (starts address group d sound none) (kept_same w (counted w) refl refl k), tt)

  -- ---- any event

  kept_outcomes : (w : World) (event : Event) → IsInRange event → objection w event ≡ None → Kept w → AreKept (outcomes w event)
  kept_outcomes w (Node address group pages version content) range free k =
      let f = first_none _ _ free in
      kept_member w address group (node_of pages version content) f.0 (node_sound pages version content range.2.0 range.2.1 range.4 f.1) refl k
  kept_outcomes w (Old address group pages version content) range free k =
      let f = first_none _ _ free in
      kept_member w address group (node_of pages version content) f.0 (node_sound pages version content range.2.0 range.2.1 range.4 f.1) refl k
  kept_outcomes w (Pair address group pages version content second_version second) range free k =
      let f = first_none _ _ free in
      let g = first_none _ _ f.1 in
      let r = range.0 in
      kept_member w address group (pair_of pages version content second_version second) f.0 (pair_sound pages version second_version content second r.2.0 r.2.1 r.4 range.2 g.0 g.1) refl k
  kept_outcomes w (Say from to payload) range free k = (kept_same w _ refl refl k, tt)
  kept_outcomes w (Deliver number address) range free k = kept_delivered (begun w) number address (slice_get w.bag number) (member_at w address) refl (kept_same w (begun w) refl refl k)
  kept_outcomes w (Time address ms) range free k = kept_timed (begun w) address ms (member_at w address) refl (kept_same w (begun w) refl refl k)
  kept_outcomes w (Cut address) range free k =
      kept_at_member (member_at w address) _ (λ m is. kept_booted (begun w) address m m CutPower m.state.durable (record { is = is; kept = record { group = refl; first = refl }; state = refl }) refl (kept_same w (begun w) refl refl k))
  kept_outcomes w (TearLine address operation pattern) range free k =
      kept_at_member (member_at w address) _ (λ m is.
      let tear : Option Tear = Some (record { operation = operation; pattern = pattern }) in
      let at : Member = record m { tear = tear } in
      let same = run_same address m at (log_at address w.log) (record { group = refl; first = refl }) refl (k.runs address m is) in
      kept_same (record (with_changed (begun w) address at) { log = w.log ++ logged_at address [] }) _ refl (sym (append-nil w.log))
      (kept_changed (begun w) address m at [] is (subst (HasRun address at) (sym (append-nil (log_at address w.log))) same) (kept_same w (begun w) refl refl k)))
  kept_outcomes w (Active address) range free k = kept_at_member (member_at w address) _ (λ m is. kept_same w (begun w) refl refl k)
  kept_outcomes w (Phase address) range free k = kept_at_member (member_at w address) _ (λ m is. kept_same w (begun w) refl refl k)
  kept_outcomes w _ range free k = tt

  -- ---- runs

  of_all : {X : Type 0} (P : X → Type 0) (xs : List X) (x : X) → AllByRecursion P xs → Contains xs x → P x
  of_all P [] x all p =
      let none : p.0 < 0 = p.1 in
      absurd (omega (arith, none))
  of_all P (v ∷ xs) x all (zero, within, is) = subst P is all.0
  of_all P (v ∷ xs) x all (suc k, within, is) = of_all P xs x all.1 (k, omega (arith, within), is)

  module _ (in_range : EventIsInRange) where
    kept_event : (w : World) (line : List ℕ) (event : Event) (against : Option Objection) (text : List ℕ) (next : World) → line_event line ≡ Ok (Some event) → objection w event ≡ against → Kept w
        → IsDone w (judged_event line event against) text next → Kept next
    kept_event w line event None text next read free k done = of_all (λ (o : Outcome). Kept o.world) (outcomes w event) _ (kept_outcomes w event (in_range line event read) free k) done
    kept_event w line event (Some o) text next read free k done = absurd done

    kept_line : (w : World) (line : List ℕ) (read : Result (Option Event) LineFault) (text : List ℕ) (next : World) → line_event line ≡ read → Kept w → IsDone w (judged_by w line read) text next → Kept next
    kept_line w line (Ok None) text next is k done = subst Kept (sym done.1) k
    kept_line w line (Ok (Some event)) text next is k done = kept_event w line event (objection w event) text next is refl k done
    kept_line w line (Err fault) text next is k done = absurd done

    kept_run : (w : World) (lines : List (List ℕ)) (text : List ℕ) (end : World) → Kept w → Run w lines text end → Kept end
    kept_run w [] text end k run = subst Kept (sym run.1) k
    kept_run w (line ∷ lines) text end k run = kept_run run.0 lines run.2 end (kept_line w line (line_event line) run.1 run.0 refl k run.3.done) run.4

    module _ (one_node : OneNodeIsSafe) where
      safe_run : (address : ℕ) (m : Member) (log : List LogEntry) → HasRun address m log → ImagesAreSafe m.first log m.state.durable.images
      safe_run address m log r =
          let safe = one_node (config_of address m) r.made r.hs r.sound in
          let none : found r.made.job ≡ [] = ap found r.jobless in
          rw (r.first, r.log_is, r.state) (subst (λ es. ImagesAreSafe r.made.images (es ++ log_after (config_of address m) (restarted r.made) r.hs) (state_after (config_of address m) (restarted r.made) r.hs).durable.images) none safe)

      safe : (w : World) → Kept w → IsSafe w
      safe w k address m is = safe_run address m (log_at address w.log) (k.runs address m is)

      pub every_world : EveryWorldIsSafe
      every_world lines text w run = safe w (kept_run new_world lines text w kept_new run)

      pub every_cut : EveryCutIsSafe
      every_cut lines text w run address m is event now operations =
          let k = kept_run new_world lines text w kept_new run in
          safe _ (kept_booted w address m m (Torn event now operations) _ (record { is = is; kept = record { group = refl; first = refl }; state = refl }) refl k)

-- Each node goes on with its run.
use Rattle.std.proofs.Common.{◌≡◌, ◌⊎◌, ◌≤◌, ℕ, arith, List, [], ◌∷◌, ◌++◌, Option, Some, None, true, false, cond, refl, sym, ap, subst, ◌∙◌, append_assoc, append-nil, map}
use Rattle.std.specs.List.{AllByRecursion}
use Rattle.mu_model_image.specs.Meta.{Image, IsMeta}
use Rattle.mu_model_wire.specs.Packet.{Packet}
use Rattle.mu_model_node.specs.declared.NodeConfig.{NodeConfig}
use Rattle.mu_model_node.specs.Events.{NodeEvent, PacketComes, TimeComes, on_packet, at_moment, node_step}
use Rattle.mu_model_node.specs.Log.{LogEntry, logged}
use Rattle.mu_model_node.specs.NodeMessages.{Request, Reply, request_at, reply_packet}
use Rattle.mu_model_node.specs.NodeState.{NodeDurable, NodeState, restarted, is_addressee}
use Rattle.mu_model_node.specs.Safe.{Happening, Done, CutPower, Torn, happened, state_after, log_after}
use Rattle.mu_model_node.specs.Sound.{IsNodeDurable}
use Rattle.mu_model_fates.specs.Laws.{come_by}
use Rattle.mu_model_fates.specs.Moments.{MomentsAreTheGreatest}
use Rattle.mu_model_packets.specs.Laws.{PacketFits, IsAnswer, NodesSendFit}
use Rattle.mu_model_told.specs.Reached.{HappeningFits, sent_by, sent_in}
use Rattle.mu_model_world.specs.World.{Member, config_of}
use Rattle.mu_model_world.specs.Outcomes.{new_member}
use Rattle.mu_model_mesh_safety.specs.Runs.{AreIn, NodeRun}
use Rattle.mu_model_mesh_safety.proofs.Deeds.{IsBy}
use Rattle.mu_model_mesh_safety.proofs.Kept.{IsLogOf}
use Rattle.mu_model_mesh_safety.proofs.KeepingLists.{all_append, weaker}
use Rattle.mu_model_mesh_safety.proofs.KeepingPackets.{AllFrom, in_wider, sent_other, sent_own, come_on}

-- a node, and what the log has of it
abbrev pub HasRun : (bag : List Packet) (address : ℕ) (n : Member) → List LogEntry → Type 0
HasRun bag address n log = (r : NodeRun bag address n) × IsLogOf bag address n r log

-- ---- one happening more

state_more : (config : NodeConfig) (s : NodeState) (hs : List Happening) (h : Happening) → state_after config s (hs ++ h ∷ []) ≡ happened config (state_after config s hs) h
state_more config s [] h = refl
state_more config s (first ∷ hs) h = state_more config (happened config s first) hs h

log_more : (config : NodeConfig) (s : NodeState) (hs : List Happening) (h : Happening)
    → log_after config s (hs ++ h ∷ []) ≡ log_after config s hs ++ logged (state_after config s hs) (happened config (state_after config s hs) h)
log_more config s [] h = append-nil (logged s (happened config s h))
log_more config s (first ∷ hs) h =
    let next = happened config s first in
    ap (λ es. logged s next ++ es) (log_more config next hs h) ∙ sym (append_assoc (logged s next) (log_after config next hs) _)

sent_more : (config : NodeConfig) (s : NodeState) (hs : List Happening) (h : Happening) → sent_in config s (hs ++ h ∷ []) ≡ sent_in config s hs ++ sent_by config (state_after config s hs) h
sent_more config s [] h = append-nil (sent_by config s h)
sent_more config s (first ∷ hs) h =
    let next = happened config s first in
    ap (λ ps. sent_by config s first ++ ps) (sent_more config next hs h) ∙ sym (append_assoc (sent_by config s first) (sent_in config next hs) _)

-- ---- packets come from the node's address

replies_from : (address : ℕ) (replies : List (ℕ × Reply)) → AllFrom address (map (reply_packet address) replies)
replies_from address [] = tt
replies_from address (reply ∷ replies) = (refl, replies_from address replies)

request_from : (config : NodeConfig) (s : NodeState) (from : ℕ) (request : Option Request) → AllFrom config.address (on_packet config s from request).sent
request_from config s from (Some request) = replies_from config.address _
request_from config s from None = tt

step_from : (config : NodeConfig) (s : NodeState) (event : NodeEvent) (now : ℕ) → AllFrom config.address (node_step config s event now).sent
step_from config s (PacketComes p) now =
    elim (is_addressee config p) as (λ t. AllFrom config.address (cond t (on_packet config (at_moment s now) p.from (request_at p.payload)) (on_packet config (at_moment s now) p.from None)).sent) [
      | true ↦ request_from config (at_moment s now) p.from (request_at p.payload)
      | false ↦ tt
    ]
step_from config s TimeComes now = replies_from config.address _

pub node_sends_from : (config : NodeConfig) (s : NodeState) (h : Happening) → AllFrom config.address (sent_by config s h)
node_sends_from config s (Done event now) = step_from config s event now
node_sends_from config s CutPower = tt
node_sends_from config s (Torn event now operations) = tt

-- ---- the bag grows by what others send

pub node_wider : (bag more : List Packet) (address other : ℕ) (n : Member) (log : List LogEntry) → (address ≡ other → ⊥) → AllFrom other more → HasRun bag address n log → HasRun (bag ++ more) address n log
node_wider bag more address other n log apart from (r, is_log) = (
  record {
    made = r.made;
    hs = r.hs;
    sound = r.sound;
    jobless = r.jobless;
    metas = r.metas;
    first = r.first;
    group = r.group;
    state = r.state;
    fits = r.fits;
    come = in_wider bag more _ r.come;
    sent = sent_other bag more _ address other apart from r.sent;
    handed = r.handed;
  },
  is_log,
)

-- ---- what else changes of a node

pub record IsLike (old new : Member) : Type 0 where
  pub group : new.group ≡ old.group
  pub first : new.first ≡ old.first

same_config : (address : ℕ) (old new : Member) → IsLike old new → config_of address old ≡ config_of address new
same_config address old new l = ap (λ (group : ℕ). record { address = address; group = group }) (sym l.group)

pub node_same : (bag : List Packet) (address : ℕ) (old new : Member) (log : List LogEntry) → IsLike old new → new.state ≡ old.state → old.moment ≤ new.moment → HasRun bag address old log → HasRun bag address new log
node_same bag address old new log l same later (r, is_log) =
    let at = same_config address old new l in
    let before = r.handed in (
      record {
        made = r.made;
        hs = r.hs;
        sound = r.sound;
        jobless = r.jobless;
        metas = r.metas;
        first = l.first ∙ r.first;
        group = rw l.group r.group;
        state = same ∙ (r.state ∙ ap (λ c. state_after c (restarted r.made) r.hs) at);
        fits = r.fits;
        come = r.come;
        sent = rw (← at) r.sent;
        handed = rw same (omega (arith, before, later));
      },
      is_log ∙ ap (λ c. log_after c (restarted r.made) r.hs) at,
    )

-- ---- a node goes through a happening

-- no moment that it was handed is later than its present one
handed_by : MomentsAreTheGreatest → (config : NodeConfig) (s : NodeState) (moment : ℕ) (h : Happening) → s.moment ≤ moment → IsBy moment h → (happened config s h).moment ≤ moment
handed_by greatest config s moment (Done event now) before by =
    let is = greatest config s event now in
    omega (arith, before, by, is)
handed_by greatest config s moment CutPower before by = omega arith
handed_by greatest config s moment (Torn event now operations) before by = omega arith

pub node_on : MomentsAreTheGreatest → (bag : List Packet) (address : ℕ) (old new : Member) (h : Happening) (log : List LogEntry) → IsLike old new → new.state ≡ happened (config_of address old) old.state h
    → old.moment ≤ new.moment → IsBy new.moment h → HappeningFits h → AreIn bag (come_by h) → HasRun bag address old log
    → HasRun (bag ++ sent_by (config_of address old) old.state h) address new (log ++ logged old.state new.state)
node_on greatest bag address old new h log l next later by fits come (r, is_log) =
    let config = config_of address old in
    let start = restarted r.made in
    let at = same_config address old new l in
    let hs : List Happening = r.hs ++ h ∷ [] in
    let before = r.handed in
    let handed : old.state.moment ≤ new.moment = omega (arith, before, later) in
    let state : new.state ≡ state_after config start hs = next ∙ (ap (λ s. happened config s h) r.state ∙ sym (state_more config start r.hs h)) in
    let steps : logged old.state new.state ≡ logged (state_after config start r.hs) (happened config (state_after config start r.hs) h) =
    ap (λ s. logged old.state s) next ∙ ap (λ s. logged s (happened config s h)) r.state in
    let sent : sent_in config start r.hs ++ sent_by config old.state h ≡ sent_in config start hs =
    ap (λ s. sent_in config start r.hs ++ sent_by config s h) r.state ∙ sym (sent_more config start r.hs h) in (
      record {
        made = r.made;
        hs = hs;
        sound = r.sound;
        jobless = r.jobless;
        metas = r.metas;
        first = l.first ∙ r.first;
        group = rw l.group r.group;
        state = state ∙ ap (λ c. state_after c start hs) at;
        fits = all_append HappeningFits r.hs (h ∷ []) r.fits (fits, tt);
        come = come_on bag _ r.hs h r.come come;
        sent = rw (← at) (rw (← sent) (sent_own bag (sent_by config old.state h) (sent_in config start r.hs) address r.sent));
        handed = rw next (handed_by greatest config old.state new.moment h handed by);
      },
      ap (λ es. es ++ logged old.state new.state) is_log ∙ (ap (λ es. log_after config start r.hs ++ es) steps ∙ (sym (log_more config start r.hs h) ∙ ap (λ c. log_after c start hs) at)),
    )

pub node_begins : (address group : ℕ) (made : NodeDurable) → (group ≡ 0) ⊎ (0xC000 ≤ group) → IsNodeDurable made → made.job ≡ None → AllByRecursion (λ (image : Image). IsMeta image.meta) made.images → HasRun [] address (new_member group made) []
node_begins address group made no_address sound jobless metas = (
  record {
    made = made;
    hs = [];
    sound = sound;
    jobless = jobless;
    metas = metas;
    first = refl;
    group = no_address;
    state = refl;
    fits = tt;
    come = tt;
    sent = tt;
    handed = omega arith;
  },
  refl,
)

-- ---- what it sends is in the ranges of the grammar

pub node_sends_fit : NodesSendFit → (bag : List Packet) (address : ℕ) (n : Member) (h : Happening) → AllByRecursion PacketFits (sent_by (config_of address n) n.state h)
node_sends_fit send bag address n h =
    let sent : List Packet = sent_by (config_of address n) n.state h in
    weaker IsAnswer PacketFits sent (λ p is. is.fits) (subst (λ (all : List Packet). AllByRecursion IsAnswer all) (append-nil sent) (send (config_of address n) n.state (h ∷ [])))

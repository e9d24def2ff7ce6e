-- What a line of a script comes to.
use Rattle.std.proofs.Common.{◌≡◌, ◌<◌, arith, ℕ, Bool, true, false, List, [], ◌∷◌, refl, sym, ap, subst, ◌∙◌, cond, Option, Some, None, Result, Ok, Err, Contains, ◌⊎◌, inl, inr}
use Rattle.std.specs.Prelude.{slice_get, is_some, nat_le, map, length}
use Rattle.mu_model_wire.specs.Packet.{Packet}
use Rattle.mu_model_node.specs.Events.{NodeEvent, PacketComes, TimeComes, is_worn, node_step, node_work}
use Rattle.mu_model_distributor.specs.DistEvents.{is_worn as dist_is_worn, dist_step, dist_work}
use Rattle.mu_model_flash.specs.declared.Pattern.{Pattern}
use Rattle.mu_model_flash.specs.declared.Pattern.TheVariants.{Old as OldBits, New as NewBits, Made as MadeBits}
use Rattle.mu_model_script.specs.Event.{Event, Node, Old, Pair, Updater as UpdaterLine, Distributor, Stock, Say, Deliver, Time, Cut, Tear as TearLine, Active, Phase, Settle, Rows, Packet as PacketLine}
use Rattle.mu_model_script.specs.Lines.{script_event}
use Rattle.mu_model_script.specs.declared.LineFault.{LineFault}
use Rattle.mu_model_world.specs.World.{Tear, Member, World, config_of}
use Rattle.mu_model_world.specs.Judged.{Objection, Judged, Silent, Refused, Sound, judged_event}
use Rattle.mu_model_world.specs.Outcomes as w
use Rattle.mu_model_mesh.specs.Mesh.{UpdaterMember, DistributorMember, Mesh, is_member, node_at, updater_at, distributor_at}
use Rattle.mu_model_mesh.specs.MeshOutcomes.{MeshOutcome, mesh_outcomes, mesh_begun, given, given_packet, given_by, time_comes, timed_by, all_of_nodes, dist_happens, dist_happens_by, dist_torn, dist_later}
use Rattle.mu_model_mesh.specs.MeshJudged.{mesh_judged, mesh_judged_by, mesh_objection, is_past}
use Rattle.mu_model_mesh.specs.MeshRun.{MeshMoves, IsDone, MeshStep, PassesNone, MeshBars}
use Rattle.mu_model_mesh_runs.specs.Goes.{Coming, ByTime, ByPacket}
use Rattle.mu_model_mesh_runs.specs.Stops.{worn_by, node_later, distributor_later, packet_wears, would_wear, EventWears, MeshWears, MeshPasses}
use Rattle.mu_model_mesh_runs.specs.Laws.{IsOther, IsNoSettle, ComesToOne, LinesComeToOneThing}

-- ---- what was judged

false_true : {A : Type 0} → false ≡ true → A
false_true e = cc

done_within : (m : Mesh) (line : List ℕ) (event : Event) (text : List ℕ) (next : Mesh) (o : Option Objection) → IsDone m (judged_event line event o) text next → is_past m event ≡ false
done_within m line event text next None h = h.0
done_within m line event text next (Some o) h = absurd h

sound_within : (line : List ℕ) (event own : Event) (o : Option Objection) → judged_event line event o ≡ Sound own → event ≡ own
sound_within line event own None e = cc
sound_within line event own (Some o) e = cc

sound_says : (m : Mesh) (line : List ℕ) (event : Event) (r : Result (Option Event) LineFault) → mesh_judged_by m line r ≡ Sound event → r ≡ Ok (Some event)
sound_says m line event (Ok None) e = cc
sound_says m line event (Ok (Some own)) e = ap (λ x. Ok (Some x)) (sound_within line own event (mesh_objection m own) e)
sound_says m line event (Err fault) e = cc

-- ---- nothing comes of an event that would wear out a flash

node_none : (m : Mesh) (address : ℕ) (n : Member) (event : NodeEvent) (first : List ℕ) → is_worn (config_of address n) n.state event n.moment ≡ true → all_of_nodes m (w.happens m.nodes address n event first) ≡ []
node_none m address n event first e = ap (λ b. all_of_nodes m (cond b [] (w.happens_by m.nodes address n event first n.tear))) e

dist_none : (m : Mesh) (address : ℕ) (d : DistributorMember) (event : NodeEvent) (first : List ℕ) → dist_is_worn address d.state event d.moment ≡ true → dist_happens m address d event first ≡ []
dist_none m address d event first e = ap (λ b. cond b [] (dist_happens_by m address d event first d.tear)) e

given_none : (m : Mesh) (number address : ℕ) (packet : Packet) (n : Option Member) (u : Option UpdaterMember) (d : Option DistributorMember) → worn_by address (PacketComes packet) n u d ≡ true → given_by m number address packet n u d ≡ []
given_none m number address packet (Some n) u d e = node_none m address n (PacketComes packet) _ e
given_none m number address packet None (Some u) d e = false_true e
given_none m number address packet None None (Some d) e = dist_none m address d (PacketComes packet) _ e
given_none m number address packet None None None e = false_true e

packet_none : (m : Mesh) (number address : ℕ) (packet : Option Packet) → packet_wears m address packet ≡ true → given_packet m number address packet ≡ []
packet_none m number address (Some packet) e = given_none m number address packet (node_at m address) (updater_at m address) (distributor_at m address) e
packet_none m number address None e = false_true e

timed_none : (m : Mesh) (address ms : ℕ) (n : Option Member) (u : Option UpdaterMember) (d : Option DistributorMember) → worn_by address TimeComes (node_later ms n) u (distributor_later ms d) ≡ true → timed_by m address ms n u d ≡ []
timed_none m address ms (Some n) u d e = node_none m address (w.at_moment ms n) TimeComes [] e
timed_none m address ms None (Some u) d e = false_true e
timed_none m address ms None None (Some d) e = dist_none m address (dist_later ms d) TimeComes [] e
timed_none m address ms None None None e = false_true e

none_contained : {A : Type 0} (xs : List A) (x : A) → xs ≡ [] → Contains xs x → ⊥
none_contained xs x e h =
    let few : h.0 < length xs = h.1 in
    let none : length xs ≡ 0 = ap length e in
    omega (arith, few, none)

moves_not : (m : Mesh) (event : Event) (text : List ℕ) (next : Mesh) → IsOther event → MeshMoves m event text next → EventWears (mesh_begun m) event → ⊥
moves_not m (Deliver number address) text next o h k = none_contained (given (mesh_begun m) number address) _ (packet_none (mesh_begun m) number address _ k) h
moves_not m (Time address ms) text next o h k = none_contained (time_comes (mesh_begun m) address ms) _ (timed_none (mesh_begun m) address ms (node_at (mesh_begun m) address) (updater_at (mesh_begun m) address) (distributor_at (mesh_begun m) address) k) h
moves_not m (Settle turns) text next o h k = absurd o
moves_not m (Node address group pages version content) text next o h k = absurd k
moves_not m (Old address group pages version content) text next o h k = absurd k
moves_not m (Pair address group pages version content second_version second) text next o h k = absurd k
moves_not m (UpdaterLine address group id ttl base way log chunk version content to) text next o h k = absurd k
moves_not m (Distributor address pages) text next o h k = absurd k
moves_not m (Stock address version content) text next o h k = absurd k
moves_not m (Say from to payload) text next o h k = absurd k
moves_not m (Cut address) text next o h k = absurd k
moves_not m (TearLine address operation pattern) text next o h k = absurd k
moves_not m (Active address) text next o h k = absurd k
moves_not m (Phase address) text next o h k = absurd k
moves_not m (Rows address) text next o h k = absurd k
moves_not m (PacketLine number) text next o h k = absurd k

-- ---- one thing alone

module _ (m : Mesh) (line : List ℕ) where
  not_past : (text : List ℕ) (next : Mesh) → MeshStep m line text next → MeshPasses m line → ⊥
  not_past text next step p =
      let done : IsDone m (judged_event line p.event (mesh_objection m p.event)) text next = subst (λ r. IsDone m (mesh_judged_by m line r) text next) p.says step.done in
      false_true (sym (done_within m line p.event text next (mesh_objection m p.event) done) ∙ p.past)

  refused_within : (place : ℕ) (word : List ℕ) → MeshBars m line place word → MeshPasses m line → ⊥
  refused_within place word b p = false_true (sym (subst (PassesNone m) p.says b.within) ∙ p.past)

  refused_unworn : (place : ℕ) (word : List ℕ) → MeshBars m line place word → MeshWears m line → ⊥
  refused_unworn place word b k = let e : Refused place word ≡ Sound k.event = sym b.judged ∙ k.sound in cc

  worn_within : MeshWears m line → MeshPasses m line → ⊥
  worn_within k p =
      let says : Ok (Some p.event) ≡ Ok (Some k.event) = sym p.says ∙ sound_says m line k.event (script_event line) k.sound in
      let same : p.event ≡ k.event = cc in
      false_true (sym k.within ∙ (ap (is_past m) (sym same) ∙ p.past))

  not_worn : (text : List ℕ) (next : Mesh) → IsNoSettle (script_event line) → MeshStep m line text next → MeshWears m line → ⊥
  not_worn text next other step k =
      let done : IsDone m (Sound k.event) text next = subst (λ j. IsDone m j text next) k.sound step.done in
      moves_not m k.event text next (subst IsNoSettle (sound_says m line k.event (script_event line) k.sound) other) done.1 k.wears

  one_place : (place place' : ℕ) (word word' : List ℕ) → MeshBars m line place word → MeshBars m line place' word' → (place ≡ place') × (word ≡ word')
  one_place place place' word word' b b' = let e : Refused place word ≡ Refused place' word' = sym b.judged ∙ b'.judged in (cc, cc)

pub one_thing : LinesComeToOneThing
one_thing m line = record {
  not_refused = λ text next place word step b. subst (λ j. IsDone m j text next) b.judged step.done;
  not_past = not_past m line;
  refused_within = refused_within m line;
  refused_unworn = refused_unworn m line;
  worn_within = worn_within m line;
  not_worn = not_worn m line;
  one_place = one_place m line;
}

-- A run of the same lines is one, where no tear leaves made bits.
use Rattle.std.proofs.Common.{◌≡◌, ℕ, ◌≤◌, ◌<◌, List, [], ◌∷◌, ◌++◌, length, Option, Some, None, Contains, zero, suc, refl, sym, ap, ◌∙◌, subst, arith, slice_get, slice_index_or, Bool, true, false, cond, nat_eq, nat_le, Result, Ok, Err}
use Rattle.std.specs.Prelude.{⊤}
use Rattle.std.specs.List.{AllByRecursion}
use Rattle.std.specs.Map.{lookup, set_value}
use Rattle.mu_model_flash.specs.declared.Pattern.{Pattern}
use Rattle.mu_model_flash.specs.declared.Pattern.TheVariants.{Old as OldBits, New as NewBits, Made as MadeBits}
use Rattle.mu_model_wire.specs.Packet.{Packet}
use Rattle.mu_model_node.specs.NodeState.{NodeDurable}
use Rattle.mu_model_node.specs.Events.{NodeEvent, PacketComes, TimeComes, NodeStep, node_step, node_work, is_worn}
use Rattle.mu_model_script.specs.Event.{Event, Node, Old, Pair, Say, Deliver, Time, Cut, Tear as TearLine, Active, Phase}
use Rattle.mu_model_script.specs.Lines.{line_event}
use Rattle.mu_model_script.specs.declared.LineFault.{LineFault}
use Rattle.mu_model_world.specs.World.{Tear, Member, World, new_world, member_at, config_of}
use Rattle.mu_model_world.specs.Outcomes.{Outcome, outcomes, delivered, timed, happens, happens_by, torn, at_member, at_moment, unread, ran, booted, begun}
use Rattle.mu_model_world.specs.Judged.{Refused, Objection, objection, judged_event, judged_by, judged}
use Rattle.mu_model_world.specs.Laws.{IsWholeBits, FixesEvent, FixesLine, FixesItsRun}
use Rattle.mu_model_world.specs.Run.{IsDone, Step, Run, Prints, Refuses}

-- ---- tears that are still to come

abbrev IsWholeTear : Option Tear → Type 0
IsWholeTear None = ⊤
IsWholeTear (Some tear) = IsWholeBits tear.pattern

-- of no member a tear is still to come that leaves made bits
abbrev AreWhole : List (ℕ × Member) → Type 0
AreWhole [] = ⊤
AreWhole (entry ∷ entries) = IsWholeTear entry.1.tear × AreWhole entries

found_whole : (test : ℕ → Bool) (entries : List (ℕ × Member)) (m : Member) → AreWhole entries → lookup test entries ≡ Some m → IsWholeTear m.tear
found_whole test [] m h is = absurd cc
found_whole test ((key, value) ∷ entries) m h is =
    elim (test key) as (λ b. cond b (Some value) (lookup test entries) ≡ Some m → IsWholeTear m.tear) [
      | true ↦ λ e. let same : value ≡ m = cc in subst (λ x. IsWholeTear x.tear) same h.0
      | false ↦ λ e. found_whole test entries m h.1 e
    ] is

set_whole : (test : ℕ → Bool) (entries : List (ℕ × Member)) (m : Member) → AreWhole entries → IsWholeTear m.tear → AreWhole (set_value test entries m)
set_whole test [] m h w = tt
set_whole test ((key, value) ∷ entries) m h w =
    elim (test key) as (λ b. AreWhole (cond b ((key, m) ∷ entries) ((key, value) ∷ set_value test entries m))) [
      | true ↦ (w, h.1)
      | false ↦ (h.0, set_whole test entries m h.1 w)
    ]

more_whole : (entries : List (ℕ × Member)) (address : ℕ) (m : Member) → AreWhole entries → IsWholeTear m.tear → AreWhole (entries ++ (address, m) ∷ [])
more_whole [] address m h w = (w, tt)
more_whole (entry ∷ entries) address m h w = (h.0, more_whole entries address m h.1 w)

-- of a list of at most one there is one element
first_is : {X : Type 0} (xs : List X) (x y : X) → length xs ≤ 1 → Contains xs x → Contains xs y → x ≡ y
first_is [] x y short p q =
    let none : p.0 < 0 = p.1 in
    absurd (omega (arith, none))
first_is (v ∷ []) x y short p q = sym (at_first v x p.0 p.1 p.2) ∙ at_first v y q.0 q.1 q.2
  where
    at_first : {X : Type 0} (v x : X) (k : ℕ) → k < 1 → slice_index_or (v ∷ []) k x ≡ x → v ≡ x
    at_first v x zero within is = is
    at_first v x (suc k) within is = absurd (omega (arith, within))
first_is (v ∷ w ∷ xs) x y short p q = absurd (omega (arith, short))

-- ---- an event comes to at most one outcome, after which all is whole still

-- what an event comes to where all is whole
record Single (outs : List Outcome) : Type 0 where
  pub few : length outs ≤ 1
  pub whole : AllByRecursion (λ (o : Outcome). AreWhole o.world.members) outs

no_outcome : Single []
no_outcome = record { few = omega arith; whole = tt }

one_outcome : (o : Outcome) → AreWhole o.world.members → Single (o ∷ [])
one_outcome o h = record { few = omega arith; whole = (h, tt) }

booted_whole : (w : World) (address : ℕ) (m : Member) (left : NodeDurable) → AreWhole w.members → Single (booted w address m left ∷ [])
booted_whole w address m left h = one_outcome (booted w address m left) (set_whole (nat_eq address) w.members _ h tt)

ran_whole : (w : World) (address : ℕ) (m : Member) (first : List ℕ) (step : NodeStep) → AreWhole w.members → IsWholeTear m.tear → Single (ran w address m first step ∷ [])
ran_whole w address m first step h t = one_outcome (ran w address m first step) (set_whole (nat_eq address) w.members _ h t)

torn_whole : (w : World) (address : ℕ) (m : Member) (event : NodeEvent) (operation : ℕ) (pattern : Pattern) → AreWhole w.members → IsWholeBits pattern → Single (torn w address m event (record { operation = operation; pattern = pattern }))
torn_whole w address m event operation OldBits h t = booted_whole w address m _ h
torn_whole w address m event operation NewBits h t = booted_whole w address m _ h
torn_whole w address m event operation (MadeBits seed) h t = absurd t

happens_by_whole : (w : World) (address : ℕ) (m : Member) (event : NodeEvent) (first : List ℕ) (tear : Option Tear) → AreWhole w.members → IsWholeTear m.tear → IsWholeTear tear → Single (happens_by w address m event first tear)
happens_by_whole w address m event first None h t u = ran_whole w address m first (node_step (config_of address m) m.state event m.moment) h t
happens_by_whole w address m event first (Some tear) h t u =
    elim (nat_le tear.operation (length (node_work (config_of address m) m.state event m.moment)))
    as (λ b. Single (cond b (torn w address m event tear) (ran w address m first (node_step (config_of address m) m.state event m.moment) ∷ []))) [
      | true ↦ torn_whole w address m event tear.operation tear.pattern h u
      | false ↦ ran_whole w address m first (node_step (config_of address m) m.state event m.moment) h t
    ]

happens_whole : (w : World) (address : ℕ) (m : Member) (event : NodeEvent) (first : List ℕ) → AreWhole w.members → IsWholeTear m.tear → Single (happens w address m event first)
happens_whole w address m event first h t =
    elim (is_worn (config_of address m) m.state event m.moment) as (λ b. Single (cond b [] (happens_by w address m event first m.tear))) [
      | true ↦ no_outcome
      | false ↦ happens_by_whole w address m event first m.tear h t t
    ]

delivered_whole : (w : World) (number address : ℕ) (packet : Option Packet) (m : Option Member) → AreWhole w.members → lookup (nat_eq address) w.members ≡ m → Single (delivered w number address packet m)
delivered_whole w number address (Some packet) (Some m) h found = happens_whole w address m (PacketComes packet) (unread number address m packet) h (found_whole (nat_eq address) w.members m h found)
delivered_whole w number address (Some packet) None h found = no_outcome
delivered_whole w number address None m h found = no_outcome

timed_whole : (w : World) (address ms : ℕ) (m : Option Member) → AreWhole w.members → lookup (nat_eq address) w.members ≡ m → Single (timed w address ms m)
timed_whole w address ms (Some m) h found = happens_whole w address (at_moment ms m) TimeComes [] h (found_whole (nat_eq address) w.members m h found)
timed_whole w address ms None h found = no_outcome

at_member_whole : (m : Option Member) (f : Member → Outcome) → ((found : Member) → m ≡ Some found → AreWhole (f found).world.members) → Single (at_member m f)
at_member_whole (Some m) f h = one_outcome (f m) (h m refl)
at_member_whole None f h = no_outcome

outcomes_whole : (w : World) (event : Event) → AreWhole w.members → FixesEvent event → Single (outcomes w event)
outcomes_whole w (Node address group pages version content) h f = one_outcome _ (more_whole w.members address _ h tt)
outcomes_whole w (Old address group pages version content) h f = one_outcome _ (more_whole w.members address _ h tt)
outcomes_whole w (Pair address group pages version content second_version second) h f = one_outcome _ (more_whole w.members address _ h tt)
outcomes_whole w (Say from to payload) h f = one_outcome _ h
outcomes_whole w (Deliver number address) h f = delivered_whole (begun w) number address (slice_get w.bag number) (member_at w address) h refl
outcomes_whole w (Time address ms) h f = timed_whole (begun w) address ms (member_at w address) h refl
outcomes_whole w (Cut address) h f = at_member_whole (member_at w address) _ (λ m found. set_whole (nat_eq address) w.members _ h tt)
outcomes_whole w (TearLine address operation pattern) h f = at_member_whole (member_at w address) _ (λ m found. set_whole (nat_eq address) w.members _ h f)
outcomes_whole w (Active address) h f = at_member_whole (member_at w address) _ (λ m found. h)
outcomes_whole w (Phase address) h f = at_member_whole (member_at w address) _ (λ m found. h)
outcomes_whole w _ h f = no_outcome

-- ---- lines

-- what a line comes to, and what it prints
record Same (text text' : List ℕ) (next next' : World) : Type 0 where
  pub texts : text ≡ text'
  pub worlds : next ≡ next'
  pub whole : AreWhole next.members

-- what holds of all holds of one
of_all : {X : Type 0} (P : X → Type 0) (xs : List X) (x : X) → AllByRecursion P xs → Contains xs x → P x
of_all P [] x all p =
    let none : p.0 < 0 = p.1 in
    absurd (omega (arith, none))
of_all P (v ∷ xs) x all (zero, within, is) = subst P is all.0
of_all P (v ∷ xs) x all (suc k, within, is) = of_all P xs x all.1 (k, omega (arith, within), is)

sound_alone : (w : World) (event : Event) (text text' : List ℕ) (next next' : World) → AreWhole w.members → FixesEvent event
    → Contains (outcomes w event) (record { world = next; text = text }) → Contains (outcomes w event) (record { world = next'; text = text' }) → Same text text' next next'
sound_alone w event text text' next next' h f p q =
    let single = outcomes_whole w event h f in
    let same = first_is (outcomes w event) _ _ single.few p q in
    record { texts = ap (λ o. o.text) same; worlds = ap (λ o. o.world) same; whole = of_all (λ (o : Outcome). AreWhole o.world.members) (outcomes w event) _ single.whole p }

event_alone : (w : World) (line : List ℕ) (event : Event) (against : Option Objection) (text text' : List ℕ) (next next' : World) → AreWhole w.members → FixesEvent event
    → IsDone w (judged_event line event against) text next → IsDone w (judged_event line event against) text' next' → Same text text' next next'
event_alone w line event None text text' next next' h f p q = sound_alone w event text text' next next' h f p q
event_alone w line event (Some o) text text' next next' h f p q = absurd p

line_alone : (w : World) (line : List ℕ) (read : Result (Option Event) LineFault) (text text' : List ℕ) (next next' : World) → AreWhole w.members → FixesLine read
    → IsDone w (judged_by w line read) text next → IsDone w (judged_by w line read) text' next' → Same text text' next next'
line_alone w line (Ok None) text text' next next' h f p q = record { texts = p.0 ∙ sym q.0; worlds = p.1 ∙ sym q.1; whole = rw p.1 h }
line_alone w line (Ok (Some event)) text text' next next' h f p q = event_alone w line event (objection w event) text text' next next' h f p q
line_alone w line (Err fault) text text' next next' h f p q = absurd p

run_alone : (w : World) (lines : List (List ℕ)) (text text' : List ℕ) (end end' : World) → AreWhole w.members → FixesItsRun lines → Run w lines text end → Run w lines text' end' → Same text text' end end'
run_alone w [] text text' end end' h f p q = record { texts = p.0 ∙ sym q.0; worlds = p.1 ∙ sym q.1; whole = rw p.1 h }
run_alone w (line ∷ lines) text text' end end' h f p q =
    let first = line_alone w line (line_event line) p.1 q.1 p.0 q.0 h f.0 p.3.done q.3.done in
    let others = run_alone p.0 lines p.2 q.2 end end' first.whole f.1 p.4 (subst (λ x. Run x lines q.2 end') (sym first.worlds) q.4) in
    record {
      texts = p.5 ∙ (ap (λ t. t ++ p.2) first.texts ∙ (ap (λ t. q.1 ++ t) others.texts ∙ sym q.5));
      worlds = others.worlds;
      whole = others.whole;
    }

pub prints_alone : (lines : List (List ℕ)) (text text' : List ℕ) → FixesItsRun lines → Prints lines text → Prints lines text' → text ≡ text'
prints_alone lines text text' f p q = (run_alone new_world lines text text' p.end q.end tt f p.run q.run).texts

-- ---- a run through a line

-- a run of all lines has one of the lines before a line, and a step of that line
record Through (w : World) (front : List (List ℕ)) (line : List ℕ) : Type 0 where
  pub end : World
  pub text : List ℕ
  pub run : Run w front text end
  pub next : World
  pub more : List ℕ
  pub step : Step end line more next

through : (w : World) (front : List (List ℕ)) (line : List ℕ) (others : List (List ℕ)) (text : List ℕ) (last : World) → Run w (front ++ line ∷ others) text last → Through w front line
through w [] line others text last run = record { end = w; text = []; run = (refl, refl); next = run.0; more = run.1; step = run.3 }
through w (first ∷ front) line others text last run =
    let on = through run.0 front line others run.2 last run.4 in
    record { end = on.end; text = run.1 ++ on.text; run = (run.0, run.1, on.text, run.3, on.run, refl); next = on.next; more = on.more; step = on.step }

front_fixed : (front : List (List ℕ)) (line : List ℕ) (others : List (List ℕ)) → FixesItsRun (front ++ line ∷ others) → FixesItsRun front
front_fixed [] line others f = tt
front_fixed (first ∷ front) line others f = (f.0, front_fixed front line others f.1)

pub refused_untraced : (lines : List (List ℕ)) (text whole : List ℕ) (number place : ℕ) (word : List ℕ) → FixesItsRun lines → Refuses lines text number place word → Prints lines whole → ⊥
refused_untraced lines text whole number place word f refuses prints =
    let on = through new_world refuses.before refuses.line refuses.others whole prints.end (subst (λ ls. Run new_world ls whole prints.end) refuses.cut prints.run) in
    let fixed = front_fixed refuses.before refuses.line refuses.others (subst FixesItsRun refuses.cut f) in
    let same = run_alone new_world refuses.before on.text text on.end refuses.end tt fixed on.run refuses.run in
    let done : IsDone on.end (judged on.end refuses.line) on.more on.next = on.step.done in
    let is : judged on.end refuses.line ≡ Refused place word = ap (λ x. judged x refuses.line) same.worlds ∙ refuses.refused in
    subst (λ j. IsDone on.end j on.more on.next) is done

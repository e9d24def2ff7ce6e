-- Each entry of the log has its cause.
use Rattle.std.proofs.Common.{◌≡◌, ℕ, Bool, true, false, List, [], ◌∷◌, ◌++◌, refl, sym, ap, ◌∙◌, cond, arith, Option, Some, None}
use Rattle.std.specs.Prelude.{◌==◌, ◌&&◌, not, IsTrue, bytes_eq}
use Rattle.std.specs.List.{AllByRecursion}
use Rattle.std.proofs.lemmas.Bool.Decides.{nat_tests}
use Rattle.std.proofs.lemmas.Slice.Eq.{bytes_eq-Decides}
use Rattle.mu_model_node.specs.UpdateMessages.{UpdateStart, StartUpdate, UpdateCancel, UpdateApply}
use Rattle.mu_model_node.specs.NodeMessages.{Request, OfUpdate, request_at}
use Rattle.mu_model_node.specs.BlobServer.{Link}
use Rattle.mu_model_node.specs.NodeState.{Stored, Filling, Verified, Refused, Applied, Job, NodeDurable, NodeState, is_addressee, stored_phase, job_phase, update_phase, update_number}
use Rattle.mu_model_node.specs.Events.{NodeEvent, PacketComes, TimeComes, at_moment, node_step}
use Rattle.mu_model_node.specs.Log.{LogEntry, Took, Reached, same_job, reopened, is_new, took, asked_by, asked, gone_by, gone, reached, logged_by}
use Rattle.mu_model_node.specs.Laws.{Asks, Caused, EntriesHaveCauses}
use Rattle.mu_model_node.specs.declared.NodeConfig.{NodeConfig}
use Rattle.mu_model_node.proofs.Moves.{IsOf, MayGoIn, ByRequest, ByTime, cause_by, cause_of, Move, Stays, Loses, Takes, Fills, Verifies, Refuses, Asks as AsksFor, Activates, steps}

-- ---- what a cause says of the event

asked_in : (b : Bool) (payload : List ℕ) (o : Option Request) (request : Request) → request_at payload ≡ o → cause_by b o ≡ ByRequest request → IsTrue b × (request_at payload ≡ Some request)
asked_in true payload (Some other) request e h = let same : other ≡ request = cc in (refl, e ∙ ap Some same)
asked_in true payload None request e h = cc
asked_in false payload o request e h = cc

asks_of : (config : NodeConfig) (event : NodeEvent) (request : Request) → cause_of config event ≡ ByRequest request → Asks config event request
asks_of config (PacketComes packet) request h = asked_in (is_addressee config packet) packet.payload (request_at packet.payload) request refl h
asks_of config TimeComes request h = cc

never_time : (b : Bool) (o : Option Request) → cause_by b o ≡ ByTime → ⊥
never_time true (Some other) h = cc
never_time true None h = cc
never_time false o h = cc

time_of : (config : NodeConfig) (event : NodeEvent) → cause_of config event ≡ ByTime → event ≡ TimeComes
time_of config (PacketComes packet) h = absurd (never_time (is_addressee config packet) (request_at packet.payload) h)
time_of config TimeComes h = refl

-- ---- entries that need no cause

abbrev Causes : NodeConfig → NodeState → NodeEvent → List LogEntry → Type 0
Causes config s event log = AllByRecursion (Caused config s event) log

both : (config : NodeConfig) (s : NodeState) (event : NodeEvent) (xs ys : List LogEntry) → Causes config s event xs → Causes config s event ys → Causes config s event (xs ++ ys)
both config s event [] ys h k = k
both config s event (x ∷ xs) ys h k = (h.0, both config s event xs ys h.1 k)

reaches : (config : NodeConfig) (s : NodeState) (event : NodeEvent) (old new : Option Job) (m n : ℕ) → Causes config s event (reached old new m n)
reaches config s event old None m n = tt
reaches config s event None (Some j) m n = (tt, tt)
reaches config s event (Some i) (Some j) m n =
    elim ((m == n) && (i.id == j.id) && not (is_new (Some i) j)) as (λ b. Causes config s event (cond b [] (Reached j.id n ∷ []))) [ true ↦ tt | false ↦ (tt, tt) ]

-- the four parts of the entries
parts : (config : NodeConfig) (s : NodeState) (event : NodeEvent) (old new : Option Job) (m n : ℕ) → Causes config s event (took old new) → Causes config s event (asked old new) → Causes config s event (gone old new) → Causes config s event (logged_by old new m n)
parts config s event old new m n a b c =
    both config s event (took old new) _ a (both config s event (asked old new) _ b (both config s event (gone old new) _ c (reaches config s event old new m n)))

-- ---- an old job goes on

equal : (n : ℕ) → (n == n) ≡ true
equal n = grind (arith, nat_tests)

equal_octets : (xs : List ℕ) → bytes_eq xs xs ≡ true
equal_octets xs = grind (arith, bytes_eq-Decides xs xs)

same_self : (i : Job) → same_job i i ≡ true
same_self i = rw (equal i.ttl, equal i.base, equal i.id, equal i.index, equal i.meta.size, equal i.meta.version, equal_octets i.meta.digest) refl

never_reopened : (stored : Stored) → reopened stored stored ≡ false
never_reopened Filling = refl
never_reopened Verified = refl
never_reopened Refused = refl
never_reopened Applied = refl

-- an old job that goes on is not taken
quiet : (config : NodeConfig) (s : NodeState) (event : NodeEvent) (i j : Job) → same_job j i ≡ true → reopened i.stored j.stored ≡ false → Causes config s event (took (Some i) (Some j))
quiet config s event i j e k = let old : is_new (Some i) j ≡ false = rw (e, k) refl in rw old tt

not_asked : (config : NodeConfig) (s : NodeState) (event : NodeEvent) (id : ℕ) (stored : Stored) → Causes config s event (asked_by id stored stored)
not_asked config s event id Filling = tt
not_asked config s event id Verified = tt
not_asked config s event id Refused = tt
not_asked config s event id Applied = tt

stays : (config : NodeConfig) (s : NodeState) (event : NodeEvent) (job : Option Job) (m n : ℕ) → Causes config s event (logged_by job job m n)
stays config s event None m n = parts config s event None None m n tt tt tt
stays config s event (Some i) m n = parts config s event (Some i) (Some i) m n (quiet config s event i i (same_self i) (never_reopened i.stored)) (not_asked config s event i.id i.stored) tt

filling_first : (stored : Stored) → reopened Filling stored ≡ false
filling_first stored = refl

filling_asked : (config : NodeConfig) (s : NodeState) (event : NodeEvent) (id : ℕ) (stored : Stored) → Causes config s event (asked_by id Filling stored)
filling_asked config s event id stored = tt

asked_filling : (config : NodeConfig) (s : NodeState) (event : NodeEvent) (id : ℕ) (stored : Stored) → Causes config s event (asked_by id stored Filling)
asked_filling config s event id Filling = tt
asked_filling config s event id Verified = tt
asked_filling config s event id Refused = tt
asked_filling config s event id Applied = tt

asked_none : (config : NodeConfig) (s : NodeState) (event : NodeEvent) (old : Option Job) (j : Job) → j.stored ≡ Filling → Causes config s event (asked old (Some j))
asked_none config s event None j e = tt
asked_none config s event (Some i) j e = rw e (asked_filling config s event j.id i.stored)

gone_none : (config : NodeConfig) (s : NodeState) (event : NodeEvent) (old : Option Job) (j : Job) → Causes config s event (gone old (Some j))
gone_none config s event None j = tt
gone_none config s event (Some i) j = tt

-- a job that is being filled goes on
fills : (config : NodeConfig) (s : NodeState) (event : NodeEvent) (i j : Job) (m n : ℕ) → i.stored ≡ Filling → same_job j i ≡ true → Causes config s event (logged_by (Some i) (Some j) m n)
fills config s event i j m n e k =
    parts config s event (Some i) (Some j) m n (quiet config s event i j k (rw e (filling_first j.stored))) (rw e (filling_asked config s event j.id j.stored)) tt

goes : (config : NodeConfig) (s : NodeState) (event : NodeEvent) (i : Job) (stored : Stored) → MayGoIn stored → Asks config event (OfUpdate UpdateCancel) → Causes config s event (gone_by i stored)
goes config s event i Filling g h = (h, tt)
goes config s event i Verified g h = (h, tt)
goes config s event i Refused g h = (h, tt)
goes config s event i Applied g h = absurd g

takes : (config : NodeConfig) (s : NodeState) (event : NodeEvent) (old : Option Job) (j : Job) (u : UpdateStart) (m n : ℕ) → j.stored ≡ Filling → IsOf u j → Asks config event (OfUpdate (StartUpdate u)) → Causes config s event (logged_by old (Some j) m n)
takes config s event old j u m n e o h =
    parts config s event old (Some j) m n
    (elim (is_new old j) as (λ b. Causes config s event (cond b (Took j.id j.index j.meta ∷ []) [])) [ true ↦ ((u, h, sym o.id, sym o.index, o.meta), tt) | false ↦ tt ])
    (asked_none config s event old j e) (gone_none config s event old j)

-- ---- each move

-- the phase of a job that is verified, and of one that is asked for
phase_at : (link : Link) (job : Option Job) (i : Job) (stored : Stored) → job ≡ Some i → i.stored ≡ stored → update_number (job_phase link job) ≡ update_number (stored_phase i link stored)
phase_at link job i stored e k = rw (e, k) refl

moved : (config : NodeConfig) (s : NodeState) (event : NodeEvent) (old new x y : Option Job) (m n : ℕ) → old ≡ x → new ≡ y → Causes config s event (logged_by x y m n) → Causes config s event (logged_by old new m n)
moved config s event old new x y m n e k h = rw (e, k) h

causes : (config : NodeConfig) (s : NodeState) (event : NodeEvent) (now : ℕ) (d : NodeDurable) (m n : ℕ) → Move (cause_of config event) (at_moment s now) d → Causes config s event (logged_by s.durable.job d.job m n)
causes config s event now d m n (Stays e is) = moved config s event s.durable.job d.job s.durable.job s.durable.job m n refl is (stays config s event s.durable.job m n)
causes config s event now d m n (Loses i by was g e is) =
    moved config s event s.durable.job d.job (Some i) None m n was is
    (parts config s event (Some i) None m n tt tt (goes config s event i i.stored g (asks_of config event (OfUpdate UpdateCancel) by)))
causes config s event now d m n (Takes u j active by o f free at above new e is) =
    moved config s event s.durable.job d.job s.durable.job (Some j) m n refl is (takes config s event s.durable.job j u m n f o (asks_of config event (OfUpdate (StartUpdate u)) by))
causes config s event now d m n (Fills i parameters held was f e is) =
    moved config s event s.durable.job d.job (Some i) (Some (record i { parameters = parameters; held = held })) m n was is (fills config s event i (record i { parameters = parameters; held = held }) m n f (same_self i))
causes config s event now d m n (Verifies i by was f three fit e is) =
    moved config s event s.durable.job d.job (Some i) (Some (record i { stored = Verified })) m n was is (fills config s event i (record i { stored = Verified }) m n f (same_self i))
causes config s event now d m n (Refuses i by was f e is) =
    moved config s event s.durable.job d.job (Some i) (Some (record i { stored = Refused; parameters = None; held = [] })) m n was is (fills config s event i (record i { stored = Refused; parameters = None; held = [] }) m n f (same_self i))
causes config s event now d m n (AsksFor i by was f e is) =
    let four : update_number (update_phase s) ≡ 4 = phase_at s.session.link s.durable.job i Verified was f in
    moved config s event s.durable.job d.job (Some i) (Some (record i { stored = Applied })) m n was is
    (parts config s event (Some i) (Some (record i { stored = Applied })) m n
    (quiet config s event i (record i { stored = Applied }) (same_self i) (rw f refl)) (rw f ((asks_of config event (OfUpdate UpdateApply) by, four), tt)) tt)
causes config s event now d m n (Activates i by was f e is) =
    let six : update_number (update_phase s) ≡ 6 = phase_at s.session.link s.durable.job i Applied was f in
    moved config s event s.durable.job d.job (Some i) None m n was is
    (parts config s event (Some i) None m n tt tt (rw f ((time_of config event by, six), tt)))

pub entries_have_causes : EntriesHaveCauses
entries_have_causes config s event now = causes config s event now (node_step config s event now).next.durable _ _ (steps config s event now)

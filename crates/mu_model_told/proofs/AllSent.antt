-- All that a node sent in a run was reached by its end.
use Rattle.std.proofs.Common.{◌≡◌, ℕ, List, [], ◌∷◌, ◌++◌, refl, sym, ap, subst, ◌∙◌, append_assoc, Option, Some, None, inl, inr}
use Rattle.std.specs.Prelude.{◌+◌}
use Rattle.std.specs.List.{AllByRecursion}
use Rattle.mu_model_image.specs.Meta.{Image}
use Rattle.mu_model_wire.specs.Packet.{Packet}
use Rattle.mu_model_node.specs.declared.NodeConfig.{NodeConfig}
use Rattle.mu_model_node.specs.Log.{LogEntry, logged}
use Rattle.mu_model_node.specs.NodeState.{NodeDurable, NodeState, restarted}
use Rattle.mu_model_node.specs.Safe.{Happening, Done, CutPower, Torn, ImageIsSafe, found, happened, state_after, log_after}
use Rattle.mu_model_node.specs.Sound.{IsNodeDurable}
use Rattle.mu_model_node.specs.UpdateMessages.{UpdateReply, InformationStatus, MetadataStatus, UpdateStatus}
use Rattle.mu_model_client.specs.Answers.{Answer, FromUpdate, FromBlob, answer_at}
use Rattle.mu_model_told.specs.Laws.{HasNumbers}
use Rattle.mu_model_told.specs.Reached.{HappeningFits, IdsAreSafe, ReplyIsReached, IsReached, sent_by, sent_in, SentIsReached}
use Rattle.mu_model_told.proofs.Runs.{in_left, more_reached, state_more}
use Rattle.mu_model_told.proofs.Reached.{Lower, told_is_reached}

-- ---- what was reached stays so

image_later : (d : NodeDurable) (log more : List LogEntry) (index : ℕ) (image : Image) → ImageIsSafe d.images (found d.job ++ log) index image → ImageIsSafe d.images (found d.job ++ (log ++ more)) index image
image_later d log more index image (inl h) = inl h
image_later d log more index image (inr h) =
    let longer = in_left more h.in_order in
    inr (record { id = h.id; in_order = rw (← append_assoc (found d.job) log more) longer; whole = h.whole })

ids_later : (d : NodeDurable) (log more : List LogEntry) (index : ℕ) (ids : List (List ℕ)) → IdsAreSafe d log index ids → IdsAreSafe d (log ++ more) index ids
ids_later d log more index [] h = tt
ids_later d log more index (fwid ∷ ids) h = ((h.0.0, h.0.1, image_later d log more index h.0.0 h.0.2), ids_later d log more (index + 1) ids h.1)

reply_later : (d : NodeDurable) (log more : List LogEntry) (reply : UpdateReply) → ReplyIsReached d log reply → ReplyIsReached d (log ++ more) reply
reply_later d log more (UpdateStatus status phase None) h = tt
reply_later d log more (UpdateStatus status phase (Some job)) h = more_reached d log more job.id phase h
reply_later d log more (InformationStatus count first ids) h = ids_later d log more first ids h
reply_later d log more (MetadataStatus status index) h = tt

answer_later : (d : NodeDurable) (log more : List LogEntry) (answer : Option Answer) → IsReached d log answer → IsReached d (log ++ more) answer
answer_later d log more None h = tt
answer_later d log more (Some (FromUpdate reply)) h = reply_later d log more reply h
answer_later d log more (Some (FromBlob answer)) h = tt

abbrev Reaches : NodeDurable → List LogEntry → List Packet → Type 0
Reaches d log sent = AllByRecursion (λ (p : Packet). IsReached d log (answer_at p.payload)) sent

sent_later : (d : NodeDurable) (log more : List LogEntry) (sent : List Packet) → Reaches d log sent → Reaches d (log ++ more) sent
sent_later d log more [] h = tt
sent_later d log more (p ∷ sent) h = (answer_later d log more (answer_at p.payload) h.0, sent_later d log more sent h.1)

joined : (d : NodeDurable) (log : List LogEntry) (a b : List Packet) → Reaches d log a → Reaches d log b → Reaches d log (a ++ b)
joined d log [] b h k = k
joined d log (p ∷ a) b h k = (h.0, joined d log a b h.1 k)

-- ---- runs

log_joined : (config : NodeConfig) (s : NodeState) (before more : List Happening) → log_after config s (before ++ more) ≡ log_after config s before ++ log_after config (state_after config s before) more
log_joined config s [] more = refl
log_joined config s (h ∷ before) more =
    ap (λ (log : List LogEntry). logged s (happened config s h) ++ log) (log_joined config (happened config s h) before more)
    ∙ sym (append_assoc (logged s (happened config s h)) (log_after config (happened config s h) before) (log_after config (state_after config (happened config s h) before) more))

fits_joined : (before : List Happening) (h : Happening) → AllByRecursion HappeningFits before → HappeningFits h → AllByRecursion HappeningFits (before ++ h ∷ [])
fits_joined [] h k l = (l, tt)
fits_joined (x ∷ before) h k l = (k.0, fits_joined before h k.1 l)

one_more : (before : List Happening) (h : Happening) (more : List Happening) → (before ++ h ∷ []) ++ more ≡ before ++ h ∷ more
one_more before h more = append_assoc before (h ∷ []) more

by_one : Lower → (config : NodeConfig) (d : NodeDurable) (before : List Happening) (h : Happening) → IsNodeDurable d → HasNumbers d.job → AllByRecursion HappeningFits before → HappeningFits h
    → Reaches d (log_after config (restarted d) (before ++ h ∷ [])) (sent_by config (state_after config (restarted d) before) h)
by_one law config d before (Done event now) sound numbers fits fit = told_is_reached law config d before event now sound numbers fits fit
by_one law config d before CutPower sound numbers fits fit = tt
by_one law config d before (Torn event now operations) sound numbers fits fit = tt

run_sent : Lower → (config : NodeConfig) (d : NodeDurable) (before hs : List Happening) → IsNodeDurable d → HasNumbers d.job → AllByRecursion HappeningFits before → AllByRecursion HappeningFits hs
    → Reaches d (log_after config (restarted d) (before ++ hs)) (sent_in config (state_after config (restarted d) before) hs)
run_sent law config d before [] sound numbers fits fit = tt
run_sent law config d before (h ∷ hs) sound numbers fits fit =
    let s : NodeState = state_after config (restarted d) before in
    let own = by_one law config d before h sound numbers fits fit.0 in
    let longer = sent_later d (log_after config (restarted d) (before ++ h ∷ [])) (log_after config (state_after config (restarted d) (before ++ h ∷ [])) hs) (sent_by config s h) own in
    let first : Reaches d (log_after config (restarted d) (before ++ h ∷ hs)) (sent_by config s h) =
    subst (λ (log : List LogEntry). Reaches d log (sent_by config s h)) (sym (log_joined config (restarted d) (before ++ h ∷ []) hs) ∙ ap (λ (all : List Happening). log_after config (restarted d) all) (one_more before h hs)) longer in
    let others = run_sent law config d (before ++ h ∷ []) hs sound numbers (fits_joined before h fits fit.0) fit.1 in
    let moved : Reaches d (log_after config (restarted d) (before ++ h ∷ hs)) (sent_in config (state_after config (restarted d) (before ++ h ∷ [])) hs) =
    subst (λ (all : List Happening). Reaches d (log_after config (restarted d) all) (sent_in config (state_after config (restarted d) (before ++ h ∷ [])) hs)) (one_more before h hs) others in
    let second : Reaches d (log_after config (restarted d) (before ++ h ∷ hs)) (sent_in config (happened config s h) hs) =
    subst (λ (t : NodeState). Reaches d (log_after config (restarted d) (before ++ h ∷ hs)) (sent_in config t hs)) (state_more config (restarted d) before h) moved in
    joined d (log_after config (restarted d) (before ++ h ∷ hs)) (sent_by config s h) (sent_in config (happened config s h) hs) first second

pub sent_is_reached : Lower → SentIsReached
sent_is_reached law config d hs sound numbers fits = run_sent law config d [] hs sound numbers tt fits

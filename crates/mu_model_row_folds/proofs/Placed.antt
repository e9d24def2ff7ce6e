-- A drop's status in its place, in the rows of a client.
use Rattle.std.proofs.Common.{◌≡◌, ℕ, Bool, true, false, List, [], ◌∷◌, map, refl, sym, ap, subst, ◌∙◌, cond, Option, Some, None, ◌⊎◌, inl, inr}
use Rattle.std.specs.Prelude.{nat_lt}
use Rattle.std.specs.List.{AllByRecursion}
use Rattle.mu_model_client.specs.declared.Dropped.TheVariants.{Silent, Status, Barren, Phase}
use Rattle.mu_model_client.specs.declared.Plan.{Plan}
use Rattle.mu_model_client.specs.declared.Stage.{Stage}
use Rattle.mu_model_client.specs.Begin.{goes_on_with, resumed, canceled}
use Rattle.mu_model_client.specs.Client.{Step, Check, Start, Information, Transfer, Block, Chunks, Pull, Get, Verify, Apply, Confirm, Cancel, step_number, Standing, Idle, Active, Gone, row_of as row_in, Receiver as ClientReceiver, Client}
use Rattle.mu_model_client.specs.Rows.{Row, rank, with_phase, transfer_canceled}
use Rattle.mu_model_distributor.specs.DistState.{Receiver, receiver_of}
use Rattle.mu_model_distributor.specs.Distribution.{begun_at}
use Rattle.mu_model_distributor.specs.Sound.{HasClient}
use Rattle.mu_model_rows.specs.Clients.{Each, IsUpdateStep, IsBlobStep, IsNoStatus, StatusStands, as_before, by_update, by_transfer, by_none}
use Rattle.mu_model_row_folds.specs.DistributorStatuses.{both_in, both_kept, is_of_update, placed, StandsInPlace, DropsStandIn, placed_each, placed_by}
use Rattle.mu_model_row_folds.proofs.Statuses.{Keeps}

-- ---- a receiver

abbrev both : ℕ → ℕ → ℕ × ℕ
both u t = (u, t)

both_same : (a b c d : ℕ) → a ≡ c → b ≡ d → both a b ≡ both c d
both_same a b c d e f = ap (λ x. both x b) e ∙ ap (λ y. both c y) f

placed_none : (s : Standing) (x : ℕ × ℕ) → IsNoStatus s → placed s x ≡ x
placed_none (Gone (Status step status)) x h = absurd h
placed_none (Gone (Silent step)) x h = refl
placed_none (Gone Barren) x h = refl
placed_none (Gone (Phase phase)) x h = refl
placed_none Idle x h = refl
placed_none Active x h = refl

placed_twice : (s : Standing) (x : ℕ × ℕ) → placed s (placed s x) ≡ placed s x
placed_twice (Gone (Status step status)) x = by_step (is_of_update step)
  where
    by_step : (b : Bool) → cond b (both status (cond b (both status x.1) (both x.0 status)).1) (both (cond b (both status x.1) (both x.0 status)).0 status) ≡ cond b (both status x.1) (both x.0 status)
    by_step true = refl
    by_step false = refl
placed_twice (Gone (Silent step)) x = refl
placed_twice (Gone Barren) x = refl
placed_twice (Gone (Phase phase)) x = refl
placed_twice Idle x = refl
placed_twice Active x = refl

placed_update : (step : Step) → IsUpdateStep step → (status : ℕ) (x : ℕ × ℕ) → placed (Gone (Status (step_number step) status)) x ≡ both status x.1
placed_update Check h status x = refl
placed_update Start h status x = refl
placed_update Apply h status x = refl
placed_update Information h status x = absurd h
placed_update Transfer h status x = absurd h
placed_update (Block b) h status x = absurd h
placed_update (Chunks b) h status x = absurd h
placed_update (Pull b) h status x = absurd h
placed_update (Get b) h status x = absurd h
placed_update Verify h status x = absurd h
placed_update Confirm h status x = absurd h
placed_update Cancel h status x = absurd h

placed_transfer : (step : Step) → IsBlobStep step → (status : ℕ) (x : ℕ × ℕ) → placed (Gone (Status (step_number step) status)) x ≡ both x.0 status
placed_transfer Information h status x = refl
placed_transfer Transfer h status x = refl
placed_transfer (Block b) h status x = refl
placed_transfer (Pull b) h status x = refl
placed_transfer (Get b) h status x = refl
placed_transfer Check h status x = absurd h
placed_transfer Start h status x = absurd h
placed_transfer (Chunks b) h status x = absurd h
placed_transfer Verify h status x = absurd h
placed_transfer Apply h status x = absurd h
placed_transfer Confirm h status x = absurd h
placed_transfer Cancel h status x = absurd h

-- ---- a packet

abbrev Follows : ClientReceiver → ClientReceiver → Type 0
Follows r e = both_in e.row ≡ placed e.standing (both_in r.row)

told_follows : (c : Client) (r e : ClientReceiver) → StatusStands c r e → StandsInPlace r → Follows r e
told_follows c r e (as_before standing update transfer) h =
    both_same e.row.update_status e.row.transfer_status r.row.update_status r.row.transfer_status update transfer
    ∙ (sym h.stands ∙ ap (λ s. placed s (both_in r.row)) (sym standing))
told_follows c r e (by_update step is place standing transfer) h =
    both_same e.row.update_status e.row.transfer_status e.row.update_status r.row.transfer_status refl transfer
    ∙ (sym (placed_update step is e.row.update_status (both_in r.row)) ∙ ap (λ s. placed s (both_in r.row)) (sym standing))
told_follows c r e (by_transfer step is place standing update) h =
    both_same e.row.update_status e.row.transfer_status r.row.update_status e.row.transfer_status update refl
    ∙ (sym (placed_transfer step is e.row.transfer_status (both_in r.row)) ∙ ap (λ s. placed s (both_in r.row)) (sym standing))
told_follows c r e (by_none none update transfer) h =
    both_same e.row.update_status e.row.transfer_status r.row.update_status r.row.transfer_status update transfer
    ∙ sym (placed_none e.standing (both_in r.row) none)

follows_stands : (r e : ClientReceiver) → Follows r e → StandsInPlace e
follows_stands r e f = record { stands = ap (λ x. placed e.standing x) f ∙ (placed_twice e.standing (both_in r.row) ∙ sym f) }

pub told_all : (c : Client) (rs es : List ClientReceiver) → Each (StatusStands c) rs es → AllByRecursion StandsInPlace rs → AllByRecursion StandsInPlace es
told_all c [] [] h k = tt
told_all c [] (e ∷ es) h k = absurd h
told_all c (r ∷ rs) [] h k = absurd h
told_all c (r ∷ rs) (e ∷ es) h k = (follows_stands r e (told_follows c r e h.0 k.0), told_all c rs es h.1 k.1)

abbrev pub both_row : ClientReceiver → ℕ × ℕ
both_row r = both_in r.row

pub told_placed : (c : Client) (rs es : List ClientReceiver) → Each (StatusStands c) rs es → AllByRecursion StandsInPlace rs → map both_row es ≡ placed_each es (map both_row rs)
told_placed c [] [] h k = refl
told_placed c [] (e ∷ es) h k = absurd h
told_placed c (r ∷ rs) [] h k = absurd h
told_placed c (r ∷ rs) (e ∷ es) h k =
    ap (λ (x : ℕ × ℕ). x ∷ map both_row es) (told_follows c r e h.0 k.0) ∙ ap (λ (xs : List (ℕ × ℕ)). placed e.standing (both_row r) ∷ xs) (told_placed c rs es h.1 k.1)

-- ---- what keeps statuses

keeps_both : (r e : ClientReceiver) → Keeps r e → both_in e.row ≡ both_in r.row
keeps_both r e k = both_same e.row.update_status e.row.transfer_status r.row.update_status r.row.transfer_status k.update k.transfer

keeps_stands : (r e : ClientReceiver) → Keeps r e → StandsInPlace r → StandsInPlace e
keeps_stands r e k h = record { stands = by_standing k.standing }
  where
    by_standing : (e.standing ≡ r.standing) ⊎ IsNoStatus e.standing → placed e.standing (both_in e.row) ≡ both_in e.row
    by_standing (inl same) = ap (λ s. placed s (both_in e.row)) same ∙ (ap (λ x. placed r.standing x) (keeps_both r e k) ∙ (h.stands ∙ sym (keeps_both r e k)))
    by_standing (inr none) = placed_none e.standing (both_in e.row) none

pub kept_all : (rs es : List ClientReceiver) → Each Keeps rs es → AllByRecursion StandsInPlace rs → AllByRecursion StandsInPlace es
kept_all [] [] h k = tt
kept_all [] (e ∷ es) h k = absurd h
kept_all (r ∷ rs) [] h k = absurd h
kept_all (r ∷ rs) (e ∷ es) h k = (keeps_stands r e h.0 k.0, kept_all rs es h.1 k.1)

pub kept_both : (rs es : List ClientReceiver) → Each Keeps rs es → map both_row es ≡ map both_row rs
kept_both [] [] h = refl
kept_both [] (e ∷ es) h = absurd h
kept_both (r ∷ rs) [] h = absurd h
kept_both (r ∷ rs) (e ∷ es) h = ap (λ (x : ℕ × ℕ). x ∷ map both_row es) (keeps_both r e h.0) ∙ ap (λ (xs : List (ℕ × ℕ)). both_row r ∷ xs) (kept_both rs es h.1)

canceled_update : (b : Bool) (row : Row) → (cond b (with_phase transfer_canceled row) row).update_status ≡ row.update_status
canceled_update true row = refl
canceled_update false row = refl

canceled_transfer : (b : Bool) (row : Row) → (cond b (with_phase transfer_canceled row) row).transfer_status ≡ row.transfer_status
canceled_transfer true row = refl
canceled_transfer false row = refl

pub canceled_keeps : (r : ClientReceiver) → Keeps r (canceled r)
canceled_keeps r = record {
  update = canceled_update (nat_lt (rank r.row.phase) 5) r.row;
  transfer = canceled_transfer (nat_lt (rank r.row.phase) 5) r.row;
  standing = inl refl;
}

-- ---- a client that begins

begun_so : (b : Bool) (x : ℕ × ℕ) → placed (cond b Active Idle) x ≡ x
begun_so true x = refl
begun_so false x = refl

all_begun : (stage : Stage) (given : List Row) → AllByRecursion StandsInPlace (map (resumed stage) given)
all_begun stage [] = tt
all_begun stage (row ∷ given) = (record { stands = begun_so (goes_on_with stage row) (both_in row) }, all_begun stage given)

pub begun_stand : (plan : Plan) (given : List Row) (stage : Option Stage) → DropsStandIn (begun_at plan given stage)
begun_stand plan given None = tt
begun_stand plan given (Some stage) = all_begun stage given

-- ---- rows that are kept

pub kept_rows : (rs : List ClientReceiver) → map both_kept (map receiver_of (map row_in rs)) ≡ map both_row rs
kept_rows [] = refl
kept_rows (r ∷ rs) = ap (λ (xs : List (ℕ × ℕ)). both_row r ∷ xs) (kept_rows rs)

own_placed : (rs : List ClientReceiver) → AllByRecursion StandsInPlace rs → map both_row rs ≡ placed_each rs (map both_row rs)
own_placed [] h = refl
own_placed (r ∷ rs) h = ap (λ (x : ℕ × ℕ). x ∷ map both_row rs) (sym h.0.stands) ∙ ap (λ (xs : List (ℕ × ℕ)). placed r.standing (both_row r) ∷ xs) (own_placed rs h.1)

-- what stands in its place is placed already
pub own_kept : (rest : Bool) (receivers : List Receiver) (progress : List ℕ) (client : Option Client) → HasClient rest receivers progress client → DropsStandIn client
    → map both_kept receivers ≡ placed_by client (map both_kept receivers)
own_kept true receivers progress client h k = ap (λ (x : Option Client). placed_by x (map both_kept receivers)) (sym h)
own_kept false receivers progress None h k = absurd h
own_kept false receivers progress (Some c) h k =
    subst (λ (xs : List Receiver). map both_kept xs ≡ placed_each c.receivers (map both_kept xs)) h.receivers
    (kept_rows c.receivers ∙ (own_placed c.receivers k ∙ ap (λ xs. placed_each c.receivers xs) (sym (kept_rows c.receivers))))

-- What messages ask for is what the model reads of them.
use Rattle.std.proofs.Common.{◌≡◌, ℕ, List, [], ◌∷◌, map, Option, Some, None, refl, ap}
use Rattle.mu_model_distributor.specs.Requests.{Entry, DistributionStart, entry_of, dist_request_of}
use Rattle.mu_distmsg.specs.declared.message.DistMsg.TheVariants.{DistributionStart as StartMessage}
use Rattle.mu_distmsg.specs.View.{view, pair_shown}
use Rattle.mu_distributor_rows.specs.Receivers.{entry_of_pair, entries_of}
use Rattle.mu_distributor_answers.specs.Messages.{settings_of}

pub entries_are : (pairs : List (ℕ × ℕ)) → entries_of pairs ≡ map entry_of (map pair_shown pairs)
entries_are [] = refl
entries_are (p ∷ pairs) = ap (λ (l : List Entry). entry_of_pair p ∷ l) (entries_are pairs)

pub start_is : (a t b m p i : ℕ) (label : Option (List ℕ)) (group : Option ℕ)
    → Some (DistributionStart (settings_of label group (record { appkey = a; ttl = t; base = b; mode = m; policy = p; image = i; group = 0 })))
    ≡ dist_request_of (view (StartMessage a t b m p i label group))
start_is a t b m p i (Some label) group = refl
start_is a t b m p i None (Some group) = refl
start_is a t b m p i None None = refl

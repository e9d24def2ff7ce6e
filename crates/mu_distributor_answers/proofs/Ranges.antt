-- What a message that is in range asks for is in the ranges of the model's requests.
use Rattle.std.proofs.Common.{◌≡◌, ℕ, ◌+◌, ◌^◌, ◌<◌, ◌≤◌, List, [], ◌∷◌, length, map, Option, Some, None, refl, sym, ap, subst, arith}
use Rattle.std.specs.List.{All, AllByRecursion}
use Rattle.std.specs.Prelude.{MatchOption}
use Rattle.mu_model_image.specs.declared.Meta.{Meta}
use Rattle.mu_model_image.specs.Meta.{meta_from, IsMeta}
use Rattle.mu_model_image.specs.Laws.{MetaThatIsReadIsInRange}
use Rattle.mu_model_wire.specs.Spelling.{Fits, EntriesFit}
use Rattle.mu_model_wire.specs.Distribution.{distribution_rows, receiver_fields}
use Rattle.mu_model_distributor.specs.Requests.{DistributionStart}
use Rattle.mu_model_distributor.specs.Sound.{IsEntry, DistRequestFits}
use Rattle.mu_distmsg.specs.declared.message.DistMsg.TheVariants.{DistributionStart as StartMessage}
use Rattle.mu_distmsg.specs.View.{view, pair_shown}
use Rattle.mu_distributor_rows.specs.Receivers.{entries_of}
use Rattle.mu_distributor_answers.specs.Messages.{settings_of}

pub entries_fit : (pairs : List (ℕ × ℕ)) → EntriesFit receiver_fields (map pair_shown pairs) → AllByRecursion IsEntry (entries_of pairs)
entries_fit [] fit = tt
entries_fit (p ∷ pairs) fit = (record { address_above = fit.0.0.1; address_below = fit.0.0.2; index = fit.0.1.0.1 }, entries_fit pairs fit.1)

pub start_fits : (a t b m p i : ℕ) (label : Option (List ℕ)) (group : Option ℕ) → Fits distribution_rows (view (StartMessage a t b m p i label group))
    → DistRequestFits (DistributionStart (settings_of label group (record { appkey = a; ttl = t; base = b; mode = m; policy = p; image = i; group = 0 })))
start_fits a t b m p i (Some label) group fits = tt
start_fits a t b m p i None None fits = absurd (fits.0.1.1.1.1.1.0.0)
start_fits a t b m p i None (Some g) fits = record {
  appkey = fits.0.0.2;
  ttl = fits.0.1.0.1;
  base = fits.0.1.1.0.1;
  mode_above = fits.0.1.1.1.0.1;
  mode_below = fits.0.1.1.1.0.2;
  policy = fits.0.1.1.1.0.3.2;
  image = fits.0.1.1.1.1.0.1;
  group = fits.0.1.1.1.1.1.0.0.1;
}

meta_by : MetaThatIsReadIsInRange → (octets : List ℕ) (o : Option Meta) → meta_from octets ≡ o → All (λ octet. octet < 256) octets → MatchOption o (Unit {0}) IsMeta
meta_by law octets None e small = tt
meta_by law octets (Some meta) e small = law octets meta small e

pub metadata_fit : MetaThatIsReadIsInRange → (octets : List ℕ) → All (λ octet. octet < 256) octets → MatchOption (meta_from octets) (Unit {0}) IsMeta
metadata_fit law octets small = meta_by law octets (meta_from octets) refl small

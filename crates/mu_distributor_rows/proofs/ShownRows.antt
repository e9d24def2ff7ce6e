-- Rows that are added can be shown.
use Rattle.std.proofs.Common.{◌≡◌, ℕ, ◌≤◌, Bool, true, false, List, [], ◌∷◌, ◌++◌, map, drop, get_or, refl, sym, ap, subst, cond, arith}
use Rattle.std.specs.List.{AllByRecursion}
use Rattle.mu_distmsg.specs.declared.message.ReceiverRow.{ReceiverRow}
use Rattle.mu_model_distributor.specs.Requests.{Entry}
use Rattle.mu_model_distributor.specs.DistState.{Receiver, no_progress}
use Rattle.mu_model_distributor.specs.Receivers.{new_receiver, has_address, added}
use Rattle.mu_model_distributor.specs.Sound.{IsEntry, IsReceiver, AreReceivers}
use Rattle.mu_distributor_kept.specs.Views.{row_receiver, row_receivers}
use Rattle.mu_distributor_rows.specs.Receivers.{progress_in, Grown, AreShownRows}

new_fits : (e : Entry) → IsEntry e → IsReceiver (new_receiver e)
new_fits e fits = record {
  address_above = fits.address_above;
  address_below = fits.address_below;
  index = fits.index;
  phase = omega arith;
  update_status = omega arith;
  transfer_status = omega arith;
}

one_more : (receivers : List Receiver) (r : Receiver) → AreReceivers receivers → IsReceiver r → AreReceivers (receivers ++ r ∷ [])
one_more [] r are is = (is, tt)
one_more (x ∷ receivers) r are is = (are.0, one_more receivers r are.1 is)

one_or_other : (b : Bool) (xs ys : List Receiver) → AreReceivers xs → AreReceivers ys → AreReceivers (cond b xs ys)
one_or_other true xs ys are others = are
one_or_other false xs ys are others = others

added_fit : (receivers : List Receiver) (entries : List Entry) → AreReceivers receivers → AllByRecursion IsEntry entries → AreReceivers (added receivers entries)
added_fit receivers [] are fit = are
added_fit receivers (e ∷ entries) are fit =
    one_or_other (has_address receivers e.address) (added receivers entries) (added (receivers ++ new_receiver e ∷ []) entries) (added_fit receivers entries are fit.1)
    (added_fit (receivers ++ new_receiver e ∷ []) entries (one_more receivers (new_receiver e) are (new_fits e fit.0)) fit.1)

blank_shown : (tail : List ReceiverRow) → map progress_in tail ≡ no_progress (row_receivers tail) → AreReceivers (row_receivers tail) → AreShownRows tail
blank_shown [] blank are = tt
blank_shown (r ∷ tail) blank are =
    let none : r.progress ≡ 0 = ap (λ (l : List ℕ). get_or l 0 0) blank in
    (record { receiver = are.0; progress = omega (arith, none) }, blank_shown tail (ap (λ (l : List ℕ). drop 1 l) blank) are.1)

behind_shown : (old tail : List ReceiverRow) → map progress_in tail ≡ no_progress (row_receivers tail) → AreShownRows old → AreReceivers (row_receivers (old ++ tail)) → AreShownRows (old ++ tail)
behind_shown [] tail blank shown are = blank_shown tail blank are
behind_shown (r ∷ old) tail blank shown are = (shown.0, behind_shown old tail blank shown.1 are.1)

old_fit : (rows : List ReceiverRow) → AreShownRows rows → AreReceivers (row_receivers rows)
old_fit [] shown = tt
old_fit (r ∷ rows) shown = (shown.0.receiver, old_fit rows shown.1)

pub grown_shown : (old new : List ReceiverRow) (entries : List Entry) → Grown old new → row_receivers new ≡ added (row_receivers old) entries
    → AllByRecursion IsEntry entries → AreShownRows old → AreShownRows new
grown_shown old new entries g is fit shown =
    let all : AreReceivers (row_receivers new) = subst AreReceivers (sym is) (added_fit (row_receivers old) entries (old_fit old shown) fit) in
    subst AreShownRows (sym g.1.is) (behind_shown old g.0 g.1.blank shown (subst (λ (l : List ReceiverRow). AreReceivers (row_receivers l)) g.1.is all))

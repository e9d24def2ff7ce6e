-- Under one BLOB ID there is one offer.
use Rattle.std.proofs.Common.{◌≡◌, ℕ, ◌+◌, ◌*◌, ◌^◌, List, [], ◌∷◌, refl, sym, ap, ◌∙◌, arith, ◌⊎◌, inl, inr}
use Rattle.std.specs.List.{AllByRecursion}
use Rattle.mu_model_image.specs.Meta.{meta_octets}
use Rattle.mu_model_image.specs.Laws.{MetaIsReadBack}
use Rattle.mu_model_node.specs.UpdateMessages.{UpdateStart, StartUpdate}
use Rattle.mu_model_node.specs.NodeMessages.{OfUpdate}
use Rattle.mu_model_distributor.specs.DistMessages.{Sent, ByClient}
use Rattle.mu_model_distributor.specs.DistState.{Receiver, DistDurable, transfer_id}
use Rattle.mu_model_distributor_laws.specs.RunLaws.{IsInOrder, RunsAreInOrder}
use Rattle.mu_model_distributor_laws.specs.RowsTold.{Heard, InOrder, none, here, later}
use Rattle.mu_model_distributor_laws.specs.Starts.{StartsAreInOrder}
use Rattle.mu_model_offers.specs.Laws.{Run, IsRun, begin_of, kept_of, sent_of, heard_of, HasStart, HasHeard, StartsAgree, HeardAgrees, HeardAgree, IsUnheard, RowsAgree, IsOwnHeard, HeardIsOwn, RowsStandOnce, StartsAreOwn}
use Rattle.mu_model_offers.proofs.Below.{Below}
use Rattle.mu_model_offers.proofs.Places.{Place, index_in}
use Rattle.mu_model_offers.proofs.Goes.{IsKept}
use Rattle.mu_model_offers.proofs.Book.{IsBooked, IsBookedAs, IsNoted, Book, book_of}
use Rattle.mu_model_offers.proofs.Own.{IsOwnAs, run_own, run_heard}

-- ---- one of many

start_of : (P : ℕ × Sent → Type 0) (sends : List (ℕ × Sent)) (to : ℕ) (u : UpdateStart) → AllByRecursion P sends → HasStart sends to u → P (to, ByClient (OfUpdate (StartUpdate u)))
start_of P [] to u h k = absurd k
start_of P ((at, sent) ∷ sends) to u h (inl e) = rw (sym e.0, sym e.1) h.0
start_of P ((at, sent) ∷ sends) to u h (inr k) = start_of P sends to u h.1 k

among : (P : Heard → Type 0) {xs heard : List Heard} → InOrder xs heard → AllByRecursion P heard → AllByRecursion P xs
among P none h = tt
among P (here k) h = (h.0, among P k h.1)
among P (later k) h = among P k h.1

heard_one : (P : Heard → Type 0) (heard : List Heard) (x : Heard) → AllByRecursion P heard → HasHeard heard x → P x
heard_one P heard x h k = (among P k h).0

-- one BLOB ID is of one number
one_number : (address a b m n : ℕ) → a ≡ address * 2 ^ 48 + m → b ≡ address * 2 ^ 48 + n → a ≡ b → m ≡ n
one_number address a b m n h k e = omega arith

-- ---- the laws

pub begin_order : StartsAreInOrder → (r : Run) → IsRun r → IsInOrder r.address (begin_of r)
begin_order order r h = order r.address r.durable r.fresh h.durable h.fresh

book : Below → StartsAreInOrder → (r : Run) → IsRun r → Book r.address (begin_of r) r.happenings
book below order r h = book_of below r.address (begin_of r) r.happenings h.happenings (begin_order order r h)

pub starts_agree : Below → StartsAreInOrder → StartsAgree
starts_agree below order r to other u v h k l same =
    let b = book below order r h in
    let x : IsBooked r.address b.offers (begin_of r).durable to u = start_of (IsBookedAs r.address b.offers (begin_of r).durable) (sent_of r) to u b.sent k in
    let y : IsBooked r.address b.offers (begin_of r).durable other v = start_of (IsBookedAs r.address b.offers (begin_of r).durable) (sent_of r) other v b.sent l in
    let own : x.own ≡ y.own = one_number r.address u.id v.id x.own y.own x.id y.id same in (
      x.metadata ∙ (ap (λ n. meta_octets (b.offers n).meta) own ∙ sym y.metadata),
      λ at. sym x.index ∙ (ap (λ n. index_in (b.offers n).places to) own ∙ (ap (index_in (b.offers y.own).places) at ∙ y.index)),
    )

pub heard_agrees : Below → StartsAreInOrder → HeardAgrees
heard_agrees below order r to u x h k l same =
    let b = book below order r h in
    let s : IsBooked r.address b.offers (begin_of r).durable to u = start_of (IsBookedAs r.address b.offers (begin_of r).durable) (sent_of r) to u b.sent k in
    let n : IsNoted r.address b.offers (begin_of r).durable x = heard_one (IsNoted r.address b.offers (begin_of r).durable) (heard_of r) x b.heard l in
    let own : s.own ≡ n.own = one_number r.address u.id x.id s.own n.own s.id n.id (sym same) in
    s.metadata ∙ (ap (λ m. meta_octets (b.offers m).meta) own ∙ ap meta_octets (sym n.offer))

pub heard_agree : Below → StartsAreInOrder → HeardAgree
heard_agree below order r x y h k l same =
    let b = book below order r h in
    let m : IsNoted r.address b.offers (begin_of r).durable x = heard_one (IsNoted r.address b.offers (begin_of r).durable) (heard_of r) x b.heard k in
    let n : IsNoted r.address b.offers (begin_of r).durable y = heard_one (IsNoted r.address b.offers (begin_of r).durable) (heard_of r) y b.heard l in
    let own : m.own ≡ n.own = one_number r.address x.id y.id m.own n.own m.id n.id same in
    m.offer ∙ (ap (λ i. (b.offers i).meta) own ∙ sym n.offer)

rows_by : (places : List Place) (d : DistDurable) (to : ℕ) (u : UpdateStart) (rs : List Receiver) → index_in places to ≡ u.index → AllByRecursion (IsKept places d) rs → AllByRecursion (λ (row : Receiver). row.address ≡ to → (row.index ≡ u.index) ⊎ IsUnheard d row) rs
rows_by places d to u [] h k = tt
rows_by places d to u (row ∷ rs) h k = (by_row k.0, rows_by places d to u rs h k.1)
  where
    by_row : IsKept places d row → row.address ≡ to → (row.index ≡ u.index) ⊎ IsUnheard d row
    by_row (inl e) at = inl (sym e ∙ (ap (index_in places) at ∙ h))
    by_row (inr e) at = inr e

pub rows_agree : Below → StartsAreInOrder → RowsAgree
rows_agree below order r to u h k same =
    let b = book below order r h in
    let s : IsBooked r.address b.offers (begin_of r).durable to u = start_of (IsBookedAs r.address b.offers (begin_of r).durable) (sent_of r) to u b.sent k in
    let own : s.own ≡ (kept_of r).counter = one_number r.address u.id (transfer_id r.address (kept_of r)) s.own (kept_of r).counter s.id refl same in
    rows_by (b.offers (kept_of r).counter).places (kept_of r) to u (kept_of r).receivers (ap (λ n. index_in (b.offers n).places to) (sym own) ∙ s.index) b.rows

pub rows_stand_once : RunsAreInOrder → RowsStandOnce
rows_stand_once runs r h =
    let k = runs r.address r.durable r.fresh r.happenings h.durable h.fresh h.happenings in
    (k.sound.durable.receivers, k.sound.durable.addresses)

pub starts_are_own : Below → MetaIsReadBack → StartsAreInOrder → StartsAreOwn
starts_are_own below again order r to u h k =
    start_of (IsOwnAs r.address) (sent_of r) to u (run_own below again r.address (begin_of r) r.happenings h.happenings (begin_order order r h)) k

pub heard_is_own : Below → StartsAreInOrder → HeardIsOwn
heard_is_own below order r x h k =
    heard_one (IsOwnHeard r.address) (heard_of r) x (run_heard below r.address (begin_of r) r.happenings h.happenings (begin_order order r h)) k

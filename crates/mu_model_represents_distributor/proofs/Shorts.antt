-- Which records of a distributor are short, and how runs of a store are read.
use Rattle.std.proofs.Common.{◌≡◌, inl, inr, ⊎_elim, ◌&&◌, not, ℕ, zero, suc, ◌+◌, ◌*◌, ◌<◌, ◌≤◌, Bool, true, false, Option, Some, None, List, [], ◌∷◌, length, drop, refl, sym, ◌∙◌, ap, subst, arith, eqb, eq-eqb, length-drop}
use Rattle.std.specs.Prelude.{slice_get, slice_index}
use Rattle.std.proofs.lemmas.Bool.{eqb-true}
use Rattle.std.proofs.lemmas.Option.{slice_get_past}
use Rattle.mu_model_flash.specs.Bits.{part_of}
use Rattle.mu_model_flash.specs.Laws.{RangeLaws}
use Rattle.mu_model_record.specs.Record.{zeros, number_at}
use Rattle.mu_model_distributor.specs.DistState.{Receiver}
use Rattle.mu_model_distributor.specs.Commit.{is_past}
use Rattle.mu_model_distributor.specs.Sound.{IsReceiver, AreReceivers}
use Rattle.mu_model_represents.specs.BlobPart.{note_part}
use Rattle.mu_model_represents.specs.Octets.{Agree, TagLaws}
use Rattle.mu_model_represents.specs.Short.{RecordIsShortByItsNote}
use Rattle.mu_model_represents_distributor.specs.DistributorNote.{DistributorNote, IsRow, SpellsReceiver, SpellsDistributor}
use Rattle.mu_model_represents_distributor.specs.Short.{DistributorRecordIsLongByReceivers, StoresAreReadAsDistributors}

first_zero : slice_index (zeros 1) 0 ≡ 0
unfolding zeros
first_zero = refl

module _ (ranges : RangeLaws) (t : TagLaws) where
  zero_at : (n k : ℕ) → k < n → slice_index (zeros n) k ≡ 0
  zero_at n k lt =
      let one : part_of (zeros n) k 1 ≡ zeros 1 = t.joins.part_zeros n k 1 (omega arith) in
      let here : slice_index (part_of (zeros n) k 1) 0 ≡ slice_index (zeros n) (k + 0) = ranges.parts.get_part (zeros n) k 1 0 (omega arith) in
      let place : k + 0 ≡ k = omega arith in
      sym (subst (λ (j : ℕ). slice_index (part_of (zeros n) k 1) 0 ≡ slice_index (zeros n) j) place here) ∙ ap (λ (xs : List ℕ). slice_index xs 0) one ∙ first_zero

  -- the rows from the twelfth on, and what follows them
  late_rows : (n : DistributorNote) (a : List ℕ) → length a ≡ 1728 → SpellsDistributor n a → length n.receivers ≤ 11 → Agree a (zeros 1728) 194 1534
  late_rows n a many h few = (t.fields.joined a (zeros 1728)) 194 702 832
      (t.fields.rows a (zeros 1728) 194 117 (λ k lt.
      let place : 128 + 6 * (11 + k) ≡ 194 + 6 * k = omega arith in
      let row : IsRow (slice_get n.receivers (11 + k)) (part_of a (128 + 6 * (11 + k)) 6) = h.rows_at_128 (11 + k) (omega (arith, lt)) in
      let none : slice_get n.receivers (11 + k) ≡ None = slice_get_past n.receivers (11 + k) (omega (arith, few)) in
      let is_zero : part_of a (128 + 6 * (11 + k)) 6 ≡ zeros 6 = subst (λ (o : Option Receiver). IsRow o (part_of a (128 + 6 * (11 + k)) 6)) none row in
      ap (λ (p : ℕ). part_of a p 6) (sym place) ∙ is_zero ∙ sym (t.joins.part_zeros 1728 (194 + 6 * k) 6 (omega (arith, lt)))))
      (t.fields.part a (zeros 1728) 896 832 (h.zero_at_896 ∙ sym (t.joins.part_zeros 1728 896 832 (omega arith))))

  -- so with both octets before them
  all_late : (n : DistributorNote) (a : List ℕ) → length a ≡ 1728 → SpellsDistributor n a → length n.receivers ≤ 11 → slice_index a 192 ≡ 0 → slice_index a 193 ≡ 0 → part_of a 192 1536 ≡ zeros 1536
  all_late n a many h few first second =
      let z = zeros 1728 in
      let agree : Agree a z 192 1536 = (t.fields.joined a z) 192 1 1535 ((t.fields.one_octet a z) 192 (first ∙ sym (zero_at 1728 192 (omega arith))))
      ((t.fields.joined a z) 193 1 1534 ((t.fields.one_octet a z) 193 (second ∙ sym (zero_at 1728 193 (omega arith)))) (late_rows n a many h few)) in
      let many_part : length (part_of a 192 1536) ≡ 1536 = ranges.parts.length_part a 192 1536 (omega (arith, many)) in
      let many_zeros : length (part_of z 192 1536) ≡ 1536 = ranges.parts.length_part z 192 1536 (omega (arith, t.joins.length_zeros 1728)) in
      (t.fields.whole (part_of a 192 1536) (part_of z 192 1536)) 1536 many_part many_zeros (λ i lt.
      let from : 0 + i ≡ i = omega arith in
      subst (λ (j : ℕ). slice_index (part_of a 192 1536) j ≡ slice_index (part_of z 192 1536) j) (sym from)
      (ranges.parts.get_part a 192 1536 i lt ∙ agree i lt ∙ sym (ranges.parts.get_part z 192 1536 i lt)))
      ∙ t.joins.part_zeros 1728 192 1536 (omega arith)

  -- the eleventh row, whose two statuses are past the slot
  row_octet : (a : List ℕ) (k : ℕ) → k < 6 → slice_index (part_of a 188 6) k ≡ slice_index a (188 + k)
  row_octet a k lt = ranges.parts.get_part a 188 6 k lt

  row_ten : (o : Option Receiver) (a : List ℕ) → IsRow o (part_of a 188 6) → ((r : Receiver) → o ≡ Some r → (r.update_status ≡ 0) × (r.transfer_status ≡ 0)) → (slice_index a 192 ≡ 0) × (slice_index a 193 ≡ 0)
  row_ten None a row statuses = (
    sym (row_octet a 4 (omega arith)) ∙ ap (λ (xs : List ℕ). slice_index xs 4) row ∙ zero_at 6 4 (omega arith),
    sym (row_octet a 5 (omega arith)) ∙ ap (λ (xs : List ℕ). slice_index xs 5) row ∙ zero_at 6 5 (omega arith),
  )
  row_ten (Some r) a row statuses =
      let both = statuses r refl in
      (sym (row_octet a 4 (omega arith)) ∙ row.update_status_at_4 ∙ both.0, sym (row_octet a 5 (omega arith)) ∙ row.transfer_status_at_5 ∙ both.1)

  -- the receivers past the tenth
  head_is : (rs : List Receiver) (k : ℕ) (r : Receiver) (more : List Receiver) → drop k rs ≡ r ∷ more → slice_get rs k ≡ Some r
  head_is [] zero r more is = absurd cc
  head_is [] (suc k) r more is = absurd cc
  head_is (x ∷ rs) zero r more is = let same : x ≡ r = cc is in ap Some same
  head_is (x ∷ rs) (suc k) r more is = head_is rs k r more is

  statuses_of : (p q : Bool) → not (p && q) ≡ false → (p ≡ true) × (q ≡ true)
  statuses_of true true h = (refl, refl)
  statuses_of true false h = absurd cc
  statuses_of false u h = absurd cc

  short_where : (n : DistributorNote) (a : List ℕ) → length a ≡ 1728 → SpellsDistributor n a → (late : List Receiver) → drop 10 n.receivers ≡ late → is_past late ≡ false → part_of a 192 1536 ≡ zeros 1536
  short_where n a many h [] is short =
      let few : length n.receivers ≤ 10 = omega (arith, length-drop 10 n.receivers, ap (length {A = Receiver}) is) in
      let none : slice_get n.receivers 10 ≡ None = slice_get_past n.receivers 10 few in
      let octets = row_ten (slice_get n.receivers 10) a (h.rows_at_128 10 (omega arith)) (λ r some. absurd (let both = sym none ∙ some in cc both)) in
      all_late n a many h (omega (arith, few)) octets.0 octets.1
  short_where n a many h (r ∷ []) is short =
      let few : length n.receivers ≤ 11 = omega (arith, length-drop 10 n.receivers, ap (length {A = Receiver}) is) in
      let at = head_is n.receivers 10 r [] is in
      let both = statuses_of (eqb r.update_status 0) (eqb r.transfer_status 0) short in
      let octets = row_ten (slice_get n.receivers 10) a (h.rows_at_128 10 (omega arith)) (λ x some.
      let pair : Some x ≡ Some r = sym some ∙ at in
      let same : x ≡ r = cc pair in
      (ap (λ (y : Receiver). y.update_status) same ∙ eqb-true r.update_status 0 both.0, ap (λ (y : Receiver). y.transfer_status) same ∙ eqb-true r.transfer_status 0 both.1)) in
      all_late n a many h few octets.0 octets.1
  short_where n a many h (r ∷ x ∷ late) is short = absurd cc

  next_head : (rs : List Receiver) (k : ℕ) (r x : Receiver) (more : List Receiver) → drop k rs ≡ r ∷ x ∷ more → slice_get rs (suc k) ≡ Some x
  next_head [] zero r x more is = absurd cc
  next_head [] (suc k) r x more is = absurd cc
  next_head (y ∷ rs) zero r x more is = let rest : rs ≡ x ∷ more = cc is in ap (λ (l : List Receiver). slice_get l 0) rest
  next_head (y ∷ rs) (suc k) r x more is = next_head rs k r x more is

  good_at : (rs : List Receiver) → AreReceivers rs → (k : ℕ) (r : Receiver) → slice_get rs k ≡ Some r → IsReceiver r
  good_at [] are k r is = absurd cc
  good_at (x ∷ rs) are zero r is = let same : x ≡ r = cc is in subst (λ (y : Receiver). IsReceiver y) same are.0
  good_at (x ∷ rs) are (suc k) r is = good_at rs are.1 k r is

  no_row : (r : Receiver) (octets : List ℕ) → octets ≡ zeros 6 → SpellsReceiver r octets → r.address ≡ 0
  unfolding zeros
  no_row r octets is h = sym h.address_at_0 ∙ ap (λ (xs : List ℕ). number_at 2 xs 0) is

  long_where : (n : DistributorNote) (a : List ℕ) → length a ≡ 1728 → SpellsDistributor n a → AreReceivers n.receivers → part_of a 192 1536 ≡ zeros 1536 → (late : List Receiver) → drop 10 n.receivers ≡ late → is_past late ≡ false
  long_where n a many h are short [] is = refl
  long_where n a many h are short (r ∷ []) is =
      let at = head_is n.receivers 10 r [] is in
      let row : SpellsReceiver r (part_of a 188 6) = subst (λ (o : Option Receiver). IsRow o (part_of a 188 6)) at (h.rows_at_128 10 (omega arith)) in
      let late_octet : (k : ℕ) → k < 1536 → slice_index a (192 + k) ≡ 0 = λ k lt. sym (ranges.parts.get_part a 192 1536 k lt) ∙ ap (λ (xs : List ℕ). slice_index xs k) short ∙ zero_at 1536 k lt in
      let update : r.update_status ≡ 0 = sym row.update_status_at_4 ∙ row_octet a 4 (omega arith) ∙ late_octet 0 (omega arith) in
      let transfer : r.transfer_status ≡ 0 = sym row.transfer_status_at_5 ∙ row_octet a 5 (omega arith) ∙ late_octet 1 (omega arith) in
      λ i. not (eq-eqb r.update_status 0 update i && eq-eqb r.transfer_status 0 transfer i)
  long_where n a many h are short (r ∷ x ∷ late) is =
      let at = next_head n.receivers 10 r x late is in
      let row : SpellsReceiver x (part_of a 194 6) = subst (λ (o : Option Receiver). IsRow o (part_of a 194 6)) at (h.rows_at_128 11 (omega arith)) in
      let none : part_of a 194 6 ≡ zeros 6 = t.joins.zeros_within a 192 1536 2 6 (omega arith) (omega (arith, many)) short in
      let address = no_row x (part_of a 194 6) none row in
      let some = good_at n.receivers are 11 x at in
      absurd (omega (arith, address, some.address_above))

  pub distributor_long : RecordIsShortByItsNote → DistributorRecordIsLongByReceivers
  distributor_long by_note s d state is =
      let r = s.present in
      let rec = is.2.is_record in
      let n = is.1 in
      let many : length (note_part r.tag) ≡ 1728 = ranges.parts.length_part r.tag 64 1728 (omega (arith, state.in_range.tag_size)) in
      let note = by_note r state.in_range in
      let same : is_past (drop 10 d.receivers) ≡ is_past (drop 10 n.receivers) = ap (λ (rs : List Receiver). is_past (drop 10 rs)) is.2.receivers in (
        λ short. note.1 (short_where n (note_part r.tag) many rec.note_octets (drop 10 n.receivers) refl (sym same ∙ short)),
        λ short. same ∙ long_where n (note_part r.tag) many rec.note_octets rec.receivers (note.0 short) (drop 10 n.receivers) refl,
      )

-- ---- runs

pub read_distributors : StoresAreReadAsDistributors
read_distributors s [] d [] is all = λ c h. (s, h, is)
read_distributors s [] d (e ∷ ds) is all = absurd all
read_distributors s (x ∷ xs) d [] is all = absurd all
read_distributors s (x ∷ xs) d (e ∷ ds) is all =
    (λ c h. (s, h, is), λ c torn. ⊎_elim (λ old. inl (s, old, is)) (λ new. inr (x, new, all.0)) torn, read_distributors x xs e ds all.0 all.1)

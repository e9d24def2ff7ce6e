-- Each octet of a distributor's tag counts.
use Rattle.std.proofs.Common.{◌≡◌, ℕ, ◌+◌, ◌*◌, ◌/◌, ◌%◌, ◌<◌, Option, Some, None, List, length, sym, ◌∙◌, arith}
use Rattle.std.specs.Prelude.{slice_get, slice_index}
use Rattle.mu_model_flash.specs.Bits.{AreOctets, part_of}
use Rattle.mu_model_flash.specs.Laws.{RangeLaws}
use Rattle.mu_model_distributor.specs.DistState.{Receiver}
use Rattle.mu_model_represents.specs.BlobPart.{note_part}
use Rattle.mu_model_represents.specs.Laws.{TagIsOneByItsNote}
use Rattle.mu_model_represents.specs.Octets.{Agree, TagLaws}
use Rattle.mu_model_represents_distributor.specs.DistributorNote.{DistributorNote, IsRow, SpellsDistributor}
use Rattle.mu_model_represents_distributor.specs.Laws.{DistributorTagIsOne}

module _ (ranges : RangeLaws) (t : TagLaws) where
  row_same : (row : Option Receiver) (a b : List ℕ) → length a ≡ 6 → length b ≡ 6 → AreOctets a → AreOctets b → IsRow row a → IsRow row b → a ≡ b
  row_same None a b many more small fine h g = h ∙ sym g
  row_same (Some r) a b many more small fine h g = (t.fields.whole a b) 6 many more
      ((t.fields.joined a b) 0 2 4 (t.fields.number 2 a b 0 small fine (h.address_at_0 ∙ sym g.address_at_0))
      ((t.fields.joined a b) 2 1 3 ((t.fields.one_octet a b) 2 (h.index_at_2 ∙ sym g.index_at_2))
      ((t.fields.joined a b) 3 1 2 ((t.fields.one_octet a b) 3 (h.phase_at_3 ∙ sym g.phase_at_3))
      ((t.fields.joined a b) 4 1 1 ((t.fields.one_octet a b) 4 (h.update_status_at_4 ∙ sym g.update_status_at_4)) ((t.fields.one_octet a b) 5 (h.transfer_status_at_5 ∙ sym g.transfer_status_at_5))))))

  shared : (x y : ℕ) → x % 4 ≡ y % 4 → x / 4 ≡ y / 4 → x ≡ y
  shared x y h g = omega arith

  distributor_one : (n : DistributorNote) (a b : List ℕ) → length a ≡ 1728 → length b ≡ 1728 → AreOctets a → AreOctets b → SpellsDistributor n a → SpellsDistributor n b → a ≡ b
  distributor_one n a b many more small fine h g =
      let s = h.settings_at_16 in
      let u = g.settings_at_16 in
      let meta = t.fields.meta (part_of a 28 40) (part_of b 28 40) (ranges.parts.length_part a 28 40 (omega (arith, many))) (ranges.parts.length_part b 28 40 (omega (arith, more)))
      (t.octets.of_part a 28 40 small) (t.octets.of_part b 28 40 fine) (h.upload_metadata_at_28 ∙ sym g.upload_metadata_at_28) in
      let rows : Agree a b 128 768 = t.fields.rows a b 128 128 (λ k lt. row_same (slice_get n.receivers k) (part_of a (128 + 6 * k) 6) (part_of b (128 + 6 * k) 6)
      (ranges.parts.length_part a (128 + 6 * k) 6 (omega (arith, many, lt))) (ranges.parts.length_part b (128 + 6 * k) 6 (omega (arith, more, lt)))
      (t.octets.of_part a (128 + 6 * k) 6 small) (t.octets.of_part b (128 + 6 * k) 6 fine) (h.rows_at_128 k lt) (g.rows_at_128 k lt)) in
      (t.fields.whole a b) 1728 many more
      ((t.fields.joined a b) 0 1 1727 ((t.fields.one_octet a b) 0 (h.kind_at_0 ∙ sym g.kind_at_0))
      ((t.fields.joined a b) 1 1 1726 ((t.fields.one_octet a b) 1 (h.phase_at_1 ∙ sym g.phase_at_1))
      ((t.fields.joined a b) 2 1 1725 ((t.fields.one_octet a b) 2 (h.upload_at_2 ∙ sym g.upload_at_2))
      ((t.fields.joined a b) 3 1 1724 ((t.fields.one_octet a b) 3 (h.images_at_3 ∙ sym g.images_at_3))
      ((t.fields.joined a b) 4 4 1720 (λ k lt. h.banks_at_4 k lt ∙ sym (g.banks_at_4 k lt))
      ((t.fields.joined a b) 8 8 1712 (t.fields.number 8 a b 8 small fine (h.counter_at_8 ∙ sym g.counter_at_8))
      ((t.fields.joined a b) 16 1 1711 ((t.fields.one_octet a b) 16 (s.ttl_at_16 ∙ sym u.ttl_at_16))
      ((t.fields.joined a b) 17 2 1709 (t.fields.number 2 a b 17 small fine (s.base_at_17 ∙ sym u.base_at_17))
      ((t.fields.joined a b) 19 1 1708 ((t.fields.one_octet a b) 19 (shared (slice_index a 19) (slice_index b 19) (s.mode_at_19 ∙ sym u.mode_at_19) (s.policy_at_19 ∙ sym u.policy_at_19)))
      ((t.fields.joined a b) 20 2 1706 (t.fields.number 2 a b 20 small fine (s.image_at_20 ∙ sym u.image_at_20))
      ((t.fields.joined a b) 22 2 1704 (t.fields.number 2 a b 22 small fine (s.group_at_22 ∙ sym u.group_at_22))
      ((t.fields.joined a b) 24 2 1702 (t.fields.number 2 a b 24 small fine (s.appkey_at_24 ∙ sym u.appkey_at_24))
      ((t.fields.joined a b) 26 1 1701 ((t.fields.one_octet a b) 26 (h.receivers_at_26 ∙ sym g.receivers_at_26))
      ((t.fields.joined a b) 27 1 1700 ((t.fields.one_octet a b) 27 (h.upload_ttl_at_27 ∙ sym g.upload_ttl_at_27))
      ((t.fields.joined a b) 28 40 1660 (t.fields.part a b 28 40 meta)
      ((t.fields.joined a b) 68 60 1600 (t.fields.part a b 68 60 (h.zero_at_68 ∙ sym g.zero_at_68))
      ((t.fields.joined a b) 128 768 832 rows (t.fields.part a b 896 832 (h.zero_at_896 ∙ sym g.zero_at_896)))))))))))))))))))

  pub distributor_tag_one : TagIsOneByItsNote → DistributorTagIsOne
  distributor_tag_one by_note r q part n fits fine h g = by_note r q part fits fine h.blob g.blob
      (distributor_one n (note_part r.tag) (note_part q.tag) (ranges.parts.length_part r.tag 64 1728 (omega (arith, fits.tag_size))) (ranges.parts.length_part q.tag 64 1728 (omega (arith, fine.tag_size)))
      (t.octets.of_part r.tag 64 1728 fits.tag_octets) (t.octets.of_part q.tag 64 1728 fine.tag_octets) h.note_octets g.note_octets)

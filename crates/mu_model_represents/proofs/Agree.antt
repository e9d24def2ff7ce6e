-- Octets that agree by their fields are the same.
use Rattle.std.proofs.Common.{◌≡◌, ◌⊎◌, ⊎_elim, ℕ, zero, suc, ◌+◌, ◌-◌, ◌*◌, ◌<◌, ◌≤◌, List, length, drop, sym, ◌∙◌, ap, subst, arith}
use Rattle.std.specs.Prelude.{slice_index}
use Rattle.std.proofs.lemmas.List.{ext_get_or, get_or-drop}
use Rattle.byteorder.specs.Endian.{little_from}
use Rattle.mu_model_image.specs.declared.Meta.{Meta}
use Rattle.mu_model_image.specs.Meta.{meta_of}
use Rattle.mu_model_flash.specs.Bits.{AreOctets, part_of}
use Rattle.mu_model_flash.specs.Laws.{RangeLaws}
use Rattle.mu_model_record.specs.Record.{number_at}
use Rattle.mu_model_represents.specs.Octets.{Agree}
use Rattle.mu_model_represents.proofs.Octets.{octets_drop}

either : (n i : ℕ) → (i < n) ⊎ (n ≤ i)
either n i = grind arith

module _ (a b : List ℕ) where
  pub joined : (p n m : ℕ) → Agree a b p n → Agree a b (p + n) m → Agree a b p (n + m)
  joined p n m first second k lt = ⊎_elim
      (λ less. first k less)
      (λ more.
      let place : p + n + (k - n) ≡ p + k = omega (arith, more) in
      subst (λ (x : ℕ). slice_index a x ≡ slice_index b x) place (second (k - n) (omega (arith, lt, more))))
      (either n k)

  pub one_octet : (p : ℕ) → slice_index a p ≡ slice_index b p → Agree a b p 1
  one_octet p same k lt = let place : p ≡ p + k = omega (arith, lt) in subst (λ (x : ℕ). slice_index a x ≡ slice_index b x) place same

  pub all_agree : (n : ℕ) → length a ≡ n → length b ≡ n → Agree a b 0 n → a ≡ b
  all_agree n many more same = ext_get_or 0 a b (many ∙ sym more) (λ i lt.
      let place : 0 + i ≡ i = omega arith in
      subst (λ (x : ℕ). slice_index a x ≡ slice_index b x) place (same i (omega (arith, lt, many))))

-- ---- numbers

number_parts : (x y a b : ℕ) → x < 256 → y < 256 → x + 256 * a ≡ y + 256 * b → (x ≡ y) × (a ≡ b)
number_parts x y a b hx hy e = (omega arith, omega arith)

from_agree : (n i : ℕ) (a b : List ℕ) → AreOctets a → AreOctets b → little_from i n a ≡ little_from i n b → Agree a b i n
from_agree zero i a b small fine same k lt = absurd (omega arith)
from_agree (suc n) i a b small fine same zero lt =
    let parts = number_parts (slice_index a i) (slice_index b i) (little_from (suc i) n a) (little_from (suc i) n b) (small i) (fine i) same in
    let place : i ≡ i + zero = omega arith in
    subst (λ (x : ℕ). slice_index a x ≡ slice_index b x) place parts.0
from_agree (suc n) i a b small fine same (suc k) lt =
    let parts = number_parts (slice_index a i) (slice_index b i) (little_from (suc i) n a) (little_from (suc i) n b) (small i) (fine i) same in
    let place : suc i + k ≡ i + suc k = omega arith in
    subst (λ (x : ℕ). slice_index a x ≡ slice_index b x) place (from_agree n (suc i) a b small fine parts.1 k (omega arith))

pub number_agrees : (w : ℕ) (a b : List ℕ) (p : ℕ) → AreOctets a → AreOctets b → number_at w a p ≡ number_at w b p → Agree a b p w
number_agrees w a b p small fine same k lt =
    let at : Agree (drop p a) (drop p b) 0 w = from_agree w 0 (drop p a) (drop p b) (octets_drop p a small) (octets_drop p b fine) same in
    let place : 0 + k ≡ k = omega arith in
    let here : slice_index (drop p a) k ≡ slice_index (drop p b) k = subst (λ (x : ℕ). slice_index (drop p a) x ≡ slice_index (drop p b) x) place (at k lt) in
    sym (get_or-drop p a k 0) ∙ here ∙ get_or-drop p b k 0

-- ---- parts

module _ (ranges : RangeLaws) where
  pub part_agrees : (a b : List ℕ) (p n : ℕ) → part_of a p n ≡ part_of b p n → Agree a b p n
  part_agrees a b p n same k lt = sym (ranges.parts.get_part a p n k lt) ∙ ap (λ (xs : List ℕ). slice_index xs k) same ∙ ranges.parts.get_part b p n k lt

  -- parts of one width, one after the other
  pub parts_agree : (a b : List ℕ) (p n : ℕ) → ((k : ℕ) → k < n → part_of a (p + 6 * k) 6 ≡ part_of b (p + 6 * k) 6) → Agree a b p (6 * n)
  parts_agree a b p zero same k lt = absurd (omega arith)
  parts_agree a b p (suc n) same j less =
      let more : 6 * n + 6 ≡ 6 * suc n = omega arith in
      ((joined a b) p (6 * n) 6 (parts_agree a b p n (λ k lt. same k (omega arith))) (part_agrees a b (p + 6 * n) 6 (same n (omega arith)))) j (omega (arith, less, more))

  -- metadata, also of no size
  pub meta_agrees : (a b : List ℕ) → length a ≡ 40 → length b ≡ 40 → AreOctets a → AreOctets b → meta_of a ≡ meta_of b → a ≡ b
  meta_agrees a b many more small fine same =
      let size = number_agrees 4 a b 0 small fine (ap (λ (m : Meta). m.size) same) in
      let version = number_agrees 4 a b 4 small fine (ap (λ (m : Meta). m.version) same) in
      let digest : Agree a b 8 32 = λ k lt. sym (get_or-drop 8 a k 0) ∙ ap (λ (m : Meta). slice_index m.digest k) same ∙ get_or-drop 8 b k 0 in
      (all_agree a b) 40 many more ((joined a b) 0 4 36 size ((joined a b) 4 4 32 version digest))

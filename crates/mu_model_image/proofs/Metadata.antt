-- Metadata and its octets.
use Rattle.std.proofs.Common.{ℕ, ◌+◌, ◌*◌, ◌/◌, ◌%◌, ◌^◌, ◌<◌, ◌≤◌, ◌≡◌, ◌==◌, ◌&&◌, Bool, true, false, cond, List, [], ◌∷◌, ◌++◌, Some, None, length, drop, get_or, refl, sym, ap, ◌∙◌, arith, nat_lt, length-drop}
use Rattle.std.specs.List.{All}
use Rattle.byteorder.specs.Endian.{little_bytes}
use Rattle.std.proofs.lemmas.List.{get_or-drop}
use Rattle.std.proofs.lemmas.List.Elements.{All-drop, All-same}
use Rattle.std.proofs.lemmas.Bool.Decides.{nat_tests}
use Rattle.mu_model_image.specs.declared.Meta.{Meta}
use Rattle.mu_model_image.specs.Meta.{meta_octets, meta_of, meta_from, IsMeta}

-- the octets of a number by its octets
back : (n a b c d : ℕ) → n ≡ a + 256 * (b + 256 * (c + 256 * (d + 256 * 0))) → a < 256 → b < 256 → c < 256 → d < 256
    → (n % 256 ≡ a) × (n / 256 % 256 ≡ b) × (n / 65536 % 256 ≡ c) × (n / 16777216 % 256 ≡ d) × (n < 2 ^ 32)
back n a b c d e ha hb hc hd = (omega arith, omega arith, omega arith, omega arith, omega arith)

-- the first eight octets, and the rest
first_eight : (xs : List ℕ) → 8 ≤ length xs
    → get_or xs 0 0 ∷ get_or xs 1 0 ∷ get_or xs 2 0 ∷ get_or xs 3 0 ∷ get_or xs 4 0 ∷ get_or xs 5 0 ∷ get_or xs 6 0 ∷ get_or xs 7 0 ∷ drop 8 xs ≡ xs
first_eight (a ∷ b ∷ c ∷ d ∷ e ∷ f ∷ g ∷ h ∷ xs) some = refl
first_eight [] some = absurd (omega arith)
first_eight (a ∷ []) some = absurd (omega arith)
first_eight (a ∷ b ∷ []) some = absurd (omega arith)
first_eight (a ∷ b ∷ c ∷ []) some = absurd (omega arith)
first_eight (a ∷ b ∷ c ∷ d ∷ []) some = absurd (omega arith)
first_eight (a ∷ b ∷ c ∷ d ∷ e ∷ []) some = absurd (omega arith)
first_eight (a ∷ b ∷ c ∷ d ∷ e ∷ f ∷ []) some = absurd (omega arith)
first_eight (a ∷ b ∷ c ∷ d ∷ e ∷ f ∷ g ∷ []) some = absurd (omega arith)

taken : (t : Bool) (a meta : Meta) → cond t (Some a) None ≡ Some meta → (t ≡ true) × (a ≡ meta)
taken true a meta e = (refl, cc)
taken false a meta e = absurd cc

-- what reading metadata says
record Reads (octets : List ℕ) (meta : Meta) : Type 0 where
  count : length octets ≡ 40
  some : 0 < meta.size
  is : meta_of octets ≡ meta

reads : (octets : List ℕ) (meta : Meta) → meta_from octets ≡ Some meta → Reads octets meta
reads octets meta e =
    let h = taken (length octets == 40 && nat_lt 0 (meta_of octets).size) (meta_of octets) meta e in
    let sizes : (meta_of octets).size ≡ meta.size = ap (λ (m : Meta). m.size) h.1 in
    record { count = grind (arith, nat_tests); some = grind (arith, nat_tests); is = h.1 }

-- the octets of the two numbers
record Numbers (octets : List ℕ) (meta : Meta) : Type 0 where
  size : little_bytes 4 meta.size ≡ get_or octets 0 0 ∷ get_or octets 1 0 ∷ get_or octets 2 0 ∷ get_or octets 3 0 ∷ []
  version : little_bytes 4 meta.version ≡ get_or octets 4 0 ∷ get_or octets 5 0 ∷ get_or octets 6 0 ∷ get_or octets 7 0 ∷ []
  size_fits : meta.size < 2 ^ 32
  version_fits : meta.version < 2 ^ 32

four : (n a b c d : ℕ) → n ≡ a + 256 * (b + 256 * (c + 256 * (d + 256 * 0))) → a < 256 → b < 256 → c < 256 → d < 256
    → (little_bytes 4 n ≡ a ∷ b ∷ c ∷ d ∷ []) × (n < 2 ^ 32)
four n a b c d e ha hb hc hd = let h = back n a b c d e ha hb hc hd in (cc, h.4)

numbers : (octets : List ℕ) (meta : Meta) → All (λ octet. octet < 256) octets → length octets ≡ 40 → meta_of octets ≡ meta → Numbers octets meta
numbers octets meta small count is =
    let size = four meta.size (get_or octets 0 0) (get_or octets 1 0) (get_or octets 2 0) (get_or octets 3 0) (ap (λ (m : Meta). m.size) (sym is))
    (small 0 0 (omega arith)) (small 1 0 (omega arith)) (small 2 0 (omega arith)) (small 3 0 (omega arith)) in
    let at : (k : ℕ) → get_or (drop 4 octets) k 0 ≡ get_or octets (4 + k) 0 = λ k. get_or-drop 4 octets k 0 in
    let number : meta.version ≡ get_or octets 4 0 + 256 * (get_or octets 5 0 + 256 * (get_or octets 6 0 + 256 * (get_or octets 7 0 + 256 * 0))) =
    ap (λ (m : Meta). m.version) (sym is) ∙ rw (at 0, at 1, at 2, at 3) refl in
    let version = four meta.version (get_or octets 4 0) (get_or octets 5 0) (get_or octets 6 0) (get_or octets 7 0) number
    (small 4 0 (omega arith)) (small 5 0 (omega arith)) (small 6 0 (omega arith)) (small 7 0 (omega arith)) in
    record { size = size.0; version = version.0; size_fits = size.1; version_fits = version.1 }

pub in_range : (octets : List ℕ) (meta : Meta) → All (λ octet. octet < 256) octets → meta_from octets ≡ Some meta → IsMeta meta
in_range octets meta small e =
    let r = reads octets meta e in
    let n = numbers octets meta small r.count r.is in
    let digest : drop 8 octets ≡ meta.digest = ap (λ (m : Meta). m.digest) r.is in
    record {
      some = r.some;
      size = n.size_fits;
      version = n.version_fits;
      digest_length = ap (length {A = ℕ}) (sym digest) ∙ length-drop 8 octets ∙ omega (arith, r.count);
      digest_octets = All-same (λ octet. octet < 256) meta.digest (drop 8 octets) (sym digest) (All-drop (λ octet. octet < 256) 8 octets small);
    }

pub one_spelling : (octets : List ℕ) (meta : Meta) → All (λ octet. octet < 256) octets → meta_from octets ≡ Some meta → meta_octets meta ≡ octets
one_spelling octets meta small e =
    let r = reads octets meta e in
    let n = numbers octets meta small r.count r.is in
    let digest : drop 8 octets ≡ meta.digest = ap (λ (m : Meta). m.digest) r.is in
    let parts : meta_octets meta ≡ (get_or octets 0 0 ∷ get_or octets 1 0 ∷ get_or octets 2 0 ∷ get_or octets 3 0 ∷ []) ++ (get_or octets 4 0 ∷ get_or octets 5 0 ∷ get_or octets 6 0 ∷ get_or octets 7 0 ∷ []) ++ drop 8 octets =
    ap (λ (xs : List ℕ). xs ++ little_bytes 4 meta.version ++ meta.digest) n.size
    ∙ ap (λ (xs : List ℕ). (get_or octets 0 0 ∷ get_or octets 1 0 ∷ get_or octets 2 0 ∷ get_or octets 3 0 ∷ []) ++ xs ++ meta.digest) n.version
    ∙ ap (λ (xs : List ℕ). (get_or octets 0 0 ∷ get_or octets 1 0 ∷ get_or octets 2 0 ∷ get_or octets 3 0 ∷ []) ++ (get_or octets 4 0 ∷ get_or octets 5 0 ∷ get_or octets 6 0 ∷ get_or octets 7 0 ∷ []) ++ xs) (sym digest) in
    parts ∙ first_eight octets (omega (arith, r.count))

-- A digest has 32 octets.
use Rattle.std.proofs.Common.{◌≡◌, ℕ, zero, suc, ◌*◌, ◌/◌, ◌%◌, ◌<◌, List, [], ◌∷◌, length, slice_index, eqb, eq-eqb, refl, arith, length-append}
use Rattle.std.specs.List.{All}
use Rattle.std.specs.Prelude.{bytes_eq}
use Rattle.std.specs.Int.{w32, to_be_bytes}
use Rattle.std.proofs.lemmas.List.Elements.{All-append, All-nil, All-cons}
use Rattle.std.proofs.lemmas.Bool.{and_from, and_parts, eqb-true}
use Rattle.std.proofs.lemmas.Slice.Eq.{bytes_eq-Decides}
use Rattle.sha2.specs.Sha256.{sha256, digest_bytes, final_hash, initial_hash_256}
use Rattle.mu_model_image.specs.Laws.{ImagesHaveMetadata, FitIsTested}

digest_length : (h : List ℕ) (n : ℕ) → length (digest_bytes h n) ≡ 4 * n
unfolding digest_bytes
digest_length h zero = refl
digest_length h (suc n) = omega (arith, length-append (digest_bytes h n) (to_be_bytes w32 (slice_index h n)), digest_length h n)

four : (a b c d : ℕ) → a < 256 → b < 256 → c < 256 → d < 256 → All (λ octet. octet < 256) (a ∷ b ∷ c ∷ d ∷ [])
four a b c d ha hb hc hd =
    let P : ℕ → Type 0 = λ octet. octet < 256 in
    All-cons P a (b ∷ c ∷ d ∷ []) ha (All-cons P b (c ∷ d ∷ []) hb (All-cons P c (d ∷ []) hc (All-cons P d [] hd (All-nil P))))

four_octets : (n : ℕ) → All (λ octet. octet < 256) (to_be_bytes w32 n)
four_octets n = four (n / 16777216 % 256) (n / 65536 % 256) (n / 256 % 256) (n % 256) (omega arith) (omega arith) (omega arith) (omega arith)

digest_octets : (h : List ℕ) (n : ℕ) → All (λ octet. octet < 256) (digest_bytes h n)
unfolding digest_bytes
digest_octets h zero = All-nil (λ (octet : ℕ). octet < 256)
digest_octets h (suc n) = All-append (λ (octet : ℕ). octet < 256) (digest_bytes h n) (to_be_bytes w32 (slice_index h n)) (digest_octets h n) (four_octets (slice_index h n))

sha_length : (m : List ℕ) → length (sha256 m) ≡ 32
unfolding sha256
sha_length m = digest_length (final_hash initial_hash_256 m) 8

sha_octets : (m : List ℕ) → All (λ octet. octet < 256) (sha256 m)
unfolding sha256
sha_octets m = digest_octets (final_hash initial_hash_256 m) 8

pub metadata : ImagesHaveMetadata
metadata version octets some size fits = record {
  some = some;
  size = size;
  version = fits;
  digest_length = sha_length octets;
  digest_octets = sha_octets octets;
}

pub tested : FitIsTested
tested octets meta =
    let same = bytes_eq-Decides (sha256 octets) meta.digest in (
      λ h. let parts = and_parts (eqb (length octets) meta.size) (bytes_eq (sha256 octets) meta.digest) h in
          record { size = eqb-true (length octets) meta.size parts.0; digest = same.0 parts.1 },
      λ fit. and_from (eqb (length octets) meta.size) (bytes_eq (sha256 octets) meta.digest) (eq-eqb (length octets) meta.size fit.size) (same.1 fit.digest),
    )

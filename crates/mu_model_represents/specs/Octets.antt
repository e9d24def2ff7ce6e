-- Octets that are cut, joined and compared field by field: what the laws of a tag rest on.
use Rattle.std.specs.Prelude.{◌≡◌, ◌+◌, ◌*◌, ◌^◌, ◌++◌, ℕ, ◌<◌, ◌≤◌, List, [], ◌∷◌, length, slice_index}
use Rattle.std.specs.List.{All}
use Rattle.byteorder.specs.Endian.{little_bytes}
use Rattle.mu_model_image.specs.declared.Meta.{Meta}
use Rattle.mu_model_image.specs.Meta.{meta_of, meta_octets}
use Rattle.mu_model_flash.specs.Bits.{AreOctets, part_of}
use Rattle.mu_model_record.specs.Record.{zeros, number_at}

-- which lists are octets, and what is read of them
pub record OctetLaws : Type 0 where
  pub of_none : AreOctets []
  pub of_cons : (x : ℕ) (xs : List ℕ) → x < 256 → AreOctets xs → AreOctets (x ∷ xs)
  pub of_append : (xs ys : List ℕ) → AreOctets xs → AreOctets ys → AreOctets (xs ++ ys)
  pub of_all : (xs : List ℕ) → All (λ octet. octet < 256) xs → AreOctets xs
  pub of_zeros : (n : ℕ) → AreOctets (zeros n)
  pub of_little : (n x : ℕ) → AreOctets (little_bytes n x)
  pub of_meta : (meta : Meta) → length meta.digest ≡ 32 → AreOctets meta.digest → AreOctets (meta_octets meta)
  pub of_part : (xs : List ℕ) (place n : ℕ) → AreOctets xs → AreOctets (part_of xs place n)
  pub each : (xs : List ℕ) → AreOctets xs → All (λ octet. octet < 256) xs
  pub number : (width : ℕ) (xs : List ℕ) (place : ℕ) → AreOctets xs → number_at width xs place < 256 ^ width

-- parts of what is joined, and of zeros
pub record JoinLaws : Type 0 where
  pub length_zeros : (n : ℕ) → length (zeros n) ≡ n
  pub part_zeros : (n k m : ℕ) → k + m ≤ n → part_of (zeros n) k m ≡ zeros m
  -- a part of a part that is zeros
  pub zeros_within : (a : List ℕ) (p n k m : ℕ) → k + m ≤ n → p + n ≤ length a → part_of a p n ≡ zeros n → part_of a (p + k) m ≡ zeros m
  pub part_whole : (xs ys : List ℕ) (n : ℕ) → length xs ≡ n → part_of (xs ++ ys) 0 n ≡ xs
  pub part_past : (xs ys : List ℕ) (n k m : ℕ) → length xs ≡ n → part_of (xs ++ ys) (n + k) m ≡ part_of ys k m

-- so many octets from a place on are the same
abbrev pub Agree : List ℕ → List ℕ → ℕ → ℕ → Type 0
Agree a b p n = (k : ℕ) → k < n → slice_index a (p + k) ≡ slice_index b (p + k)

-- octets that agree field by field are the same
pub record FieldLaws : Type 0 where
  pub joined : (a b : List ℕ) (p n m : ℕ) → Agree a b p n → Agree a b (p + n) m → Agree a b p (n + m)
  pub one_octet : (a b : List ℕ) (p : ℕ) → slice_index a p ≡ slice_index b p → Agree a b p 1
  pub number : (w : ℕ) (a b : List ℕ) (p : ℕ) → AreOctets a → AreOctets b → number_at w a p ≡ number_at w b p → Agree a b p w
  pub part : (a b : List ℕ) (p n : ℕ) → part_of a p n ≡ part_of b p n → Agree a b p n
  -- parts of six octets, one after the other
  pub rows : (a b : List ℕ) (p n : ℕ) → ((k : ℕ) → k < n → part_of a (p + 6 * k) 6 ≡ part_of b (p + 6 * k) 6) → Agree a b p (6 * n)
  -- metadata, also of no size
  pub meta : (a b : List ℕ) → length a ≡ 40 → length b ≡ 40 → AreOctets a → AreOctets b → meta_of a ≡ meta_of b → a ≡ b
  pub whole : (a b : List ℕ) (n : ℕ) → length a ≡ n → length b ≡ n → Agree a b 0 n → a ≡ b

pub record TagLaws : Type 0 where
  pub octets : OctetLaws
  pub joins : JoinLaws
  pub fields : FieldLaws

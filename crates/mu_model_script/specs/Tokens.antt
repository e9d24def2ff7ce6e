-- The kinds of tokens, with their ranges, and what a token says (this profile).
use Rattle.std.specs.Prelude.{ℕ, ◌+◌, ◌-◌, ◌*◌, ◌==◌, ◌&&◌, ◌||◌, not, nat_eq, nat_le, Bool, true, List, [], ◌∷◌, length, drop, slice_index, codes, bytes_eq, Option, Some, None, Result, Ok, Err, if◌then◌else◌}
use Rattle.std.specs.List.{starts_with, list_all, list_any}
use Rattle.std.specs.Option.{option_map, option_and_then}
use Rattle.std.specs.Char.{is_ascii_digit}
use Rattle.std.specs.Int.{w16, from_be_bytes}
use Rattle.hex.specs.Hex.{decode_of, decode_sized}
use Rattle.hex.specs.declared.error.FromHexError.{FromHexError}
use Rattle.mu_model_image.specs.Sizes.{most_image}
use Rattle.mu_model_wire.specs.Packet.{is_unicast, is_group}
use Rattle.mu_model_flash.specs.declared.Pattern.{Pattern}
use Rattle.mu_model_flash.specs.declared.Pattern.TheVariants.{Old as OldBits, New as NewBits, Made as MadeBits}
use Rattle.mu_model_script.specs.Pieces.{pieces}

-- an image as a script gives it: its octets, or the octets that a seed makes
pub data Content : Type 0 where
  Hex : (octets : List ℕ) → Content
  Made : (seed size : ℕ) → Content

pub data Kind : Type 0 where
  -- a unicast address, 0001..7fff
  unicast : Kind
  -- a group, c000..ffff, or 0000 for none
  group_or_none : Kind
  -- an address that a packet may go to: unicast, or a group
  destination : Kind
  -- a number of this range
  number_in : (least most : ℕ) → Kind
  -- 1 to so many octets in hexadecimal
  octets_up_to : (most : ℕ) → Kind
  -- an image: `hex:` with 1..1024 octets, or `made:SEED:SIZE`
  image : Kind
  -- a Transfer Mode: `push` or `pull`, which are 1 and 2
  mode : Kind
  -- 1 to so many different unicast addresses, with one comma between
  receivers : (most : ℕ) → Kind
  -- what a torn operation leaves of its range: `none` or `all` of its bits new, or those that `made:SEED` picks
  pattern : Kind

-- what a token says
pub data Value : Type 0 where
  Number : ℕ → Value
  Octets : List ℕ → Value
  Image : Content → Value
  Bits : Pattern → Value
  Addresses : List ℕ → Value

abbrev pub if_within : ℕ → ℕ → ℕ → Option ℕ
if_within least most n = if nat_le least n && nat_le n most then Some n else None

-- ---- numbers

-- the number that decimal digits write behind those of a number
abbrev pub digits_value : ℕ → List ℕ → ℕ
digits_value n [] = n
digits_value n (digit ∷ digits) = digits_value (10 * n + (digit - 48)) digits

-- decimal digits without a sign, and without a leading zero but for 0 itself
abbrev pub is_decimal : List ℕ → Bool
is_decimal octets =
    list_all is_ascii_digit octets && (not (length octets == 0) && (length octets == 1 || not (slice_index octets 0 == 48)))

abbrev pub number_of : ℕ → ℕ → List ℕ → Option ℕ
number_of least most octets = if is_decimal octets then if_within least most (digits_value 0 octets) else None

-- ---- addresses

abbrev pub big_endian : Result (List ℕ) FromHexError → Option ℕ
big_endian (Ok octets) = Some (from_be_bytes w16 octets)
big_endian (Err e) = None

-- four hexadecimal digits, of either case
abbrev pub address_of : List ℕ → Option ℕ
address_of octets = big_endian (decode_sized octets 2)

abbrev pub if_address : (ℕ → Bool) → List ℕ → Option ℕ
if_address test octets = option_and_then (λ address. if test address then Some address else None) (address_of octets)

-- ---- octets

abbrev pub if_length : ℕ → Result (List ℕ) FromHexError → Option (List ℕ)
if_length most (Ok octets) = if nat_le 1 (length octets) && nat_le (length octets) most then Some octets else None
if_length most (Err e) = None

-- 1 to so many octets, of two hexadecimal digits each
abbrev pub octets_of : ℕ → List ℕ → Option (List ℕ)
octets_of most text = if_length most (decode_of text)

-- what stands behind a prefix
abbrev pub after_prefix : List ℕ → List ℕ → Option (List ℕ)
after_prefix prefix text = if starts_with nat_eq text prefix then Some (drop (length prefix) text) else None

-- ---- images

abbrev pub seed_and_size : Option ℕ → Option ℕ → Option Content
seed_and_size (Some seed) (Some size) = Some (Made seed size)
seed_and_size _ _ = None

-- SEED:SIZE
abbrev pub made_of : List (List ℕ) → Option Content
made_of (seed ∷ size ∷ []) = seed_and_size (number_of 0 65535 seed) (number_of 1 most_image size)
made_of _ = None

abbrev pub made_after : Option (List ℕ) → Option Content
made_after (Some text) = made_of (pieces 58 text)
made_after None = None

abbrev pub hex_after : Option (List ℕ) → Option Content → Option Content
hex_after (Some text) otherwise = option_map Hex (octets_of 1024 text)
hex_after None otherwise = otherwise

abbrev pub content_of : List ℕ → Option Content
content_of text = hex_after (after_prefix (codes "hex:") text) (made_after (after_prefix (codes "made:") text))

-- ---- how and to whom an updater sends

abbrev pub mode_of : List ℕ → Option ℕ
mode_of text = if bytes_eq text (codes "push") then Some 1 else if bytes_eq text (codes "pull") then Some 2 else None

abbrev pub put_before : Option ℕ → Option (List ℕ) → Option (List ℕ)
put_before (Some address) (Some addresses) = Some (address ∷ addresses)
put_before _ _ = None

abbrev pub unicasts_of : List (List ℕ) → Option (List ℕ)
unicasts_of [] = Some []
unicasts_of (text ∷ texts) = put_before (if_address is_unicast text) (unicasts_of texts)

abbrev pub are_different : List ℕ → Bool
are_different [] = true
are_different (address ∷ addresses) = not (list_any (nat_eq address) addresses) && are_different addresses

abbrev pub if_receivers : ℕ → Option (List ℕ) → Option (List ℕ)
if_receivers most (Some addresses) = if nat_le (length addresses) most && are_different addresses then Some addresses else None
if_receivers most None = None

abbrev pub receivers_of : ℕ → List ℕ → Option (List ℕ)
receivers_of most text = if_receivers most (unicasts_of (pieces 44 text))

-- ---- patterns

abbrev pub seeded_bits : Option (List ℕ) → Option Pattern
seeded_bits (Some seed) = option_map MadeBits (number_of 0 65535 seed)
seeded_bits None = None

abbrev pub pattern_of : List ℕ → Option Pattern
pattern_of text =
    if bytes_eq text (codes "none") then Some OldBits
    else if bytes_eq text (codes "all") then Some NewBits
    else seeded_bits (after_prefix (codes "made:") text)

-- ---- any token

abbrev pub value_of : Kind → List ℕ → Option Value
value_of unicast octets = option_map Number (if_address is_unicast octets)
value_of group_or_none octets = option_map Number (if_address (λ a. a == 0 || is_group a) octets)
value_of destination octets = option_map Number (if_address (λ a. is_unicast a || is_group a) octets)
value_of (number_in least most) octets = option_map Number (number_of least most octets)
value_of (octets_up_to most) octets = option_map Octets (octets_of most octets)
value_of image octets = option_map Image (content_of octets)
value_of pattern octets = option_map Bits (pattern_of octets)
value_of mode octets = option_map Number (mode_of octets)
value_of (receivers most) octets = option_map Addresses (receivers_of most octets)

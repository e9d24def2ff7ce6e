-- What holds of every event that a line of a script says: its fields are in their ranges (this profile).
use Rattle.std.specs.Prelude.{◌≡◌, ℕ, ◌≤◌, ◌⊎◌, true, List, length}
use Rattle.std.specs.List.{AllByRecursion}
use Rattle.hex.specs.Hex.{IsBytes}
use Rattle.mu_model_image.specs.Sizes.{most_image}
use Rattle.mu_model_wire.specs.Limits.{most_octets, most_chunk, most_receivers}
use Rattle.mu_model_flash.specs.declared.Pattern.{Pattern}
use Rattle.mu_model_flash.specs.declared.Pattern.TheVariants.{Old as OldBits, New as NewBits, Made as MadeBits}
use Rattle.mu_model_script.specs.Tokens.{Content, Hex, Made, are_different}
use Rattle.mu_model_script.specs.Event.{Event, Node, Pair, Old, Updater, Distributor, Stock, Say, Deliver, Time, Cut, Tear, Active, Phase, Settle, Rows, Packet}

abbrev pub IsWithin : ℕ → ℕ → ℕ → Type 0
IsWithin least most n = (least ≤ n) × (n ≤ most)

abbrev pub IsUnicast : ℕ → Type 0
IsUnicast address = IsWithin 0x0001 0x7FFF address

abbrev pub IsGroup : ℕ → Type 0
IsGroup address = IsWithin 0xC000 0xFFFF address

-- 1 to so many octets
abbrev pub IsOctets : ℕ → List ℕ → Type 0
IsOctets most octets = IsWithin 1 most (length octets) × IsBytes octets

abbrev pub IsContent : Content → Type 0
IsContent (Hex octets) = IsOctets 1024 octets
IsContent (Made seed size) = IsWithin 0 65535 seed × IsWithin 1 most_image size

abbrev pub IsPattern : Pattern → Type 0
IsPattern OldBits = Unit {0}
IsPattern NewBits = Unit {0}
IsPattern (MadeBits seed) = IsWithin 0 65535 seed

-- the fields that each line of a node has
abbrev pub IsNode : (address group pages version : ℕ) → Content → Type 0
IsNode address group pages version content = IsUnicast address × ((group ≡ 0) ⊎ IsGroup group) × IsWithin 1 256 pages × IsWithin 0 4294967295 version × IsContent content

-- 1 to so many different unicast addresses
pub record AreReceivers (most : ℕ) (to : List ℕ) : Type 0 where
  pub some : 1 ≤ length to
  pub few : length to ≤ most
  pub unicast : AllByRecursion IsUnicast to
  pub different : are_different to ≡ true

-- the fields of an updater's line
pub record IsUpdater (address group id ttl base mode log chunk version : ℕ) (content : Content) (to : List ℕ) : Type 0 where
  pub address_in : IsUnicast address
  pub group_in : (group ≡ 0) ⊎ IsGroup group
  pub id_in : IsWithin 0 281474976710655 id
  pub ttl_in : IsWithin 0 255 ttl
  pub base_in : IsWithin 0 65535 base
  pub mode_in : IsWithin 1 2 mode
  pub log_in : IsWithin 12 14 log
  pub chunk_in : IsWithin 8 most_chunk chunk
  pub version_in : IsWithin 0 4294967295 version
  pub content_in : IsContent content
  pub receivers_in : AreReceivers most_receivers to

abbrev pub IsInRange : Event → Type 0
IsInRange (Node address group pages version content) = IsNode address group pages version content
IsInRange (Pair address group pages version content second_version second_content) =
    IsNode address group pages version content × IsWithin 0 4294967295 second_version × IsContent second_content
IsInRange (Old address group pages version content) = IsNode address group pages version content
IsInRange (Say from to payload) = IsUnicast from × (IsUnicast to ⊎ IsGroup to) × IsOctets most_octets payload
IsInRange (Deliver packet address) = IsWithin 0 4294967295 packet × IsUnicast address
IsInRange (Time address ms) = IsUnicast address × IsWithin 0 9223372036854775807 ms
IsInRange (Cut address) = IsUnicast address
IsInRange (Tear address number pattern) = IsUnicast address × IsWithin 1 1000 number × IsPattern pattern
IsInRange (Active address) = IsUnicast address
IsInRange (Phase address) = IsUnicast address
IsInRange (Updater address group id ttl base mode log chunk version content to) = IsUpdater address group id ttl base mode log chunk version content to
IsInRange (Distributor address pages) = IsUnicast address × IsWithin 1 256 pages
IsInRange (Stock address version content) = IsUnicast address × IsWithin 0 4294967295 version × IsContent content
IsInRange (Settle turns) = IsWithin 1 4294967295 turns
IsInRange (Rows address) = IsUnicast address
IsInRange (Packet number) = IsWithin 0 4294967295 number

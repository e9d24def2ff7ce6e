-- What stands on a flash once a node was made on it, and what stands where that failed (this profile). Of a cut within it nothing is
-- promised.
use Rattle.std.specs.Prelude.{◌≡◌, ◌⊎◌, ℕ, ◌+◌, ◌*◌, ◌/◌, ◌<◌, ◌≤◌, IsTrue, Option, None, IfSome, List, [], ◌∷◌, ◌++◌, length, replicate}
use Rattle.mu_model_image.specs.Meta.{image_of}
use Rattle.mu_model_flash.specs.Flash.{Seen}
use Rattle.mu_model_flash.specs.Run.{either, Ran, Broke}
use Rattle.mu_model_record.specs.Represents.{RepresentsStore}
use Rattle.mu_model_record.specs.Store.{StoreState}
use Rattle.mu_model_record.specs.Turns.{Anything}
use Rattle.mu_model_node.specs.FlashWork.{page_octets}
use Rattle.mu_model_node.specs.NodeState.{NodeDurable, new_node, new_pair}
use Rattle.mu_model_represents.specs.RepresentsNode.{IsNode, node_tag, old_node_tag}
use Rattle.mu_store.specs.Source.{Gave, IsAtEnd}
use Rattle.mu_store.specs.Puts.{pages_for}
use Rattle.mu_store.specs.declared.whole.FillWhy.{FillWhy}
use Rattle.mu_store.specs.declared.whole.FillWhy.TheVariants.{Flash, Worn, Read, Empty, TooBig}

-- ---- operations

-- an image that is filled in: each of its pages is erased and programmed, and one record is written
abbrev pub image_operations : ℕ → ℕ
image_operations size = pages_for size + pages_for size + 1

-- the first record, with both control pages erased, and then so many operations more
abbrev pub first_and : ℕ → List (Unit {0})
first_and more = tt ∷ tt ∷ tt ∷ replicate more tt

-- all of them were done
abbrev pub WasDone : ℕ → Seen → Seen → Type 0
WasDone more old new = IsTrue old.told → Ran (either Anything) tt (first_and more) old new

-- one of them failed
abbrev pub Failed : ℕ → Seen → Seen → Type 0
Failed more old new = IsTrue old.told → Broke (either Anything) tt (first_and more) old new

-- the octets represent what a node keeps, by a record with this tag
abbrev pub RepresentsBy : List ℕ → NodeDurable → List ℕ → Type 0
RepresentsBy tag d image = (s : StoreState) × RepresentsStore s image × IsNode s d × (s.present.tag ≡ tag)

abbrev pub Represents : List ℕ → NodeDurable → Seen → Seen → Type 0
Represents tag d old new = IsTrue old.told → RepresentsBy tag d new.octets

-- the tags of a node with one image, in bank 0, with the old note and with the new one, and of one with two
abbrev pub tag_of_one : List ℕ
tag_of_one = node_tag (0 ∷ []) 0 None

abbrev pub old_tag_of_one : List ℕ
old_tag_of_one = old_node_tag (0 ∷ []) 0 None

abbrev pub tag_of_two : List ℕ
tag_of_two = node_tag (0 ∷ 1 ∷ []) 0 None

-- ---- one image

-- all that the source had
pub record MakesNode (tag : List ℕ) (pages version : ℕ) (before after : Option (List ℕ)) (old new : Seen) : Type 0 where
  pub octets : List ℕ
  pub some : 0 < length octets
  pub most : length octets ≤ page_octets * pages
  pub gave : Gave before after octets
  pub at_end : IsAtEnd after
  pub represents : Represents tag (new_node pages (image_of version octets)) old new
  pub done : WasDone (image_operations (length octets)) old new

-- ---- two images

-- The one is the first octets of the source, so many, and the other the rest.
pub record MakesPair (pages first version second_version : ℕ) (before after : Option (List ℕ)) (old new : Seen) : Type 0 where
  pub octets : List ℕ
  pub second : List ℕ
  pub some : 0 < length octets
  pub most : length octets ≤ page_octets * pages
  pub second_some : 0 < length second
  pub second_most : length second ≤ page_octets * pages
  pub gave : Gave before after (octets ++ second)
  pub cut : IfSome after (λ _. length octets ≡ first)
  pub at_end : IsAtEnd after
  pub represents : Represents tag_of_two (new_pair pages (image_of version octets) (image_of second_version second)) old new
  pub done : WasDone (image_operations (length octets) + image_operations (length second)) old new

-- ---- none

-- The source ended the call: what it gave, and so many operations and those of its whole pages, which were all done.
pub record IsUnmade (Given : List ℕ → Type 0) (before : ℕ) (octets : List ℕ) (old new : Seen) : Type 0 where
  pub gave : Given octets
  pub done : WasDone (before + (length octets / page_octets + length octets / page_octets)) old new

-- Why an image isn't there, after so many operations. `Worn` never comes.
abbrev pub UnmadeBy : (List ℕ → Type 0) → Type 0 → ℕ → ℕ → Seen → Seen → FillWhy → Type 0
UnmadeBy Given AtEnd pages before old new Worn = ⊥
UnmadeBy Given AtEnd pages before old new Flash =
    (octets : List ℕ) × (length octets ≤ page_octets * pages) × Given octets × Failed (before + image_operations (length octets)) old new
UnmadeBy Given AtEnd pages before old new Read = (octets : List ℕ) × (length octets ≤ page_octets * pages) × IsUnmade Given before octets old new
UnmadeBy Given AtEnd pages before old new Empty = AtEnd × IsUnmade Given before [] old new
UnmadeBy Given AtEnd pages before old new TooBig = (octets : List ℕ) × (page_octets * pages < length octets) × IsUnmade Given before octets old new

abbrev pub NodeUnmade : ℕ → Option (List ℕ) → Option (List ℕ) → Seen → Seen → FillWhy → Type 0
NodeUnmade pages before after old new why = UnmadeBy (Gave before after) (IsAtEnd after) pages 0 old new why

-- at most so many octets
abbrev pub GaveOfFirst : ℕ → Option (List ℕ) → Option (List ℕ) → List ℕ → Type 0
GaveOfFirst first before after octets = Gave before after octets × IfSome after (λ _. length octets ≤ first)

-- so many octets, the first image, and then these
abbrev pub GaveOfSecond : ℕ → List ℕ → Option (List ℕ) → Option (List ℕ) → List ℕ → Type 0
GaveOfSecond first image before after octets =
    Gave before after (image ++ octets) × IfSome after (λ _. (length image ≤ first) × ((length octets ≡ 0) ⊎ (length image ≡ first)))

-- the first image isn't there, or the second beside it
abbrev pub PairUnmade : ℕ → ℕ → Option (List ℕ) → Option (List ℕ) → Seen → Seen → FillWhy → Type 0
PairUnmade pages first before after old new why =
    UnmadeBy (GaveOfFirst first before after) (IsAtEnd after) pages 0 old new why
    ⊎ ((image : List ℕ) × (0 < length image) × (length image ≤ page_octets * pages)
    × UnmadeBy (GaveOfSecond first image before after) (IsAtEnd after) pages (image_operations (length image)) old new why)

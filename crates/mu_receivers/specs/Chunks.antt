-- The chunks of a list from a place on.
use Rattle.std.specs.Prelude.{ℕ, ◌-◌, ◌<◌, ◌==◌, All, List, [], ◌∷◌, ◌++◌, map, drop, if◌then◌else◌}
use Rattle.std.specs.List.{flat_map, range_with_len}
use Rattle.mu_model_wire.specs.Reports.{has}
use Rattle.mu_model_client.specs.Client.{Item, Sends}
use Rattle.mu_model_client.specs.Lists.{lacking_if, to_group}
use Rattle.mu_receivers.specs.declared.slot.Slot.{Slot}
use Rattle.mu_receivers.specs.declared.lists.Spot.{Spot}

abbrev pub item_of : ℕ → Spot → Item
item_of b spot = Sends spot.to b spot.chunk

abbrev pub items_of : ℕ → List Spot → List Item
items_of b spots = map (item_of b) spots

-- all are of chunks below m
abbrev pub AreBelow : ℕ → List Spot → Type 0
AreBelow m spots = All (λ (spot : Spot). spot.chunk < m) spots

-- whom the list has chunk k for, in order
abbrev pub asking : List Slot → ℕ → List ℕ
asking slots k = flat_map (λ (s : Slot). lacking_if s.address (has s.asked k)) slots

-- as the model's destinations, of a group alone
abbrev pub goals : ℕ → List ℕ → List ℕ
goals group receivers = if group == 0 then receivers else to_group group receivers

-- the items of chunk k for these receivers
abbrev pub line : ℕ → ℕ → ℕ → List Slot → List Item
line group b k slots = map (λ to. Sends to b k) (goals group (asking slots k))

abbrev pub rest_from : ℕ → ℕ → List Slot → ℕ → List ℕ → List Item
rest_from group b slots i [] = []
rest_from group b slots i (k ∷ ks) = line group b k (drop i slots) ++ flat_map (λ k. line group b k slots) ks

-- the items from chunk k on, and of chunk k only those from receiver i on
abbrev pub rest : ℕ → ℕ → ℕ → List Slot → ℕ → ℕ → List Item
rest group b n slots k i = rest_from group b slots i (range_with_len k (n - k))

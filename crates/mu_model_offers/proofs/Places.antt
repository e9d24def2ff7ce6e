-- The index of each receiver, by its address.
use Rattle.std.proofs.Common.{◌≡◌, ℕ, Bool, true, false, List, [], ◌∷◌, map, refl, sym, subst, ◌∙◌, cond, arith, inl, inr}
use Rattle.std.specs.Prelude.{◌==◌, ◌||◌}
use Rattle.std.specs.List.{AllByRecursion}
use Rattle.std.proofs.lemmas.Bool.{eqb-true}
use Rattle.std.proofs.lemmas.Bool.Decides.{nat_tests}
use Rattle.mu_model_distributor.specs.DistState.{Receiver}
use Rattle.mu_model_distributor.specs.Receivers.{has_address}
use Rattle.mu_model_distributor.specs.Sound.{AddressesDiffer}
use Rattle.mu_model_distributor_laws.specs.Planned.{HasReceiver}

-- an address, and the index there
pub record Place : Type 0 where
  pub address : ℕ
  pub index : ℕ

abbrev pub place_of : Receiver → Place
place_of r = record { address = r.address; index = r.index }

abbrev pub places_of : List Receiver → List Place
places_of receivers = map place_of receivers

-- the index at the first place with this address
abbrev pub index_in : List Place → ℕ → ℕ
index_in [] to = 0
index_in (p ∷ places) to = cond (p.address == to) p.index (index_in places to)

or_left : (a b : Bool) → a ≡ true → (a || b) ≡ true
or_left true b e = refl
or_left false b e = cc

or_right : (a b : Bool) → b ≡ true → (a || b) ≡ true
or_right true b e = refl
or_right false b e = e

eq_true : (a b : ℕ) → a ≡ b → (a == b) ≡ true
eq_true a b e = grind (arith, nat_tests)

has_it : (rs : List Receiver) (to index : ℕ) → HasReceiver rs to index → has_address rs to ≡ true
has_it [] to index h = absurd h
has_it (r ∷ rs) to index (inl e) = or_left (r.address == to) (has_address rs to) (eq_true r.address to e.0)
has_it (r ∷ rs) to index (inr h) = or_right (r.address == to) (has_address rs to) (has_it rs to index h)

first_index : (r : Receiver) (rs : List Receiver) (to index : ℕ) (b : Bool) → (r.address == to) ≡ b → AddressesDiffer (r ∷ rs) → HasReceiver (r ∷ rs) to index → (HasReceiver rs to index → index_in (places_of rs) to ≡ index) → cond b r.index (index_in (places_of rs) to) ≡ index
first_index r rs to index true e h (inl k) next = k.1
first_index r rs to index false e h (inl k) next = let is : (r.address == to) ≡ true = eq_true r.address to k.0 in cc
first_index r rs to index true e h (inr k) next =
    let same : r.address ≡ to = eqb-true r.address to e in
    let there : has_address rs r.address ≡ true = subst (λ n. has_address rs n ≡ true) (sym same) (has_it rs to index k) in
    let never : true ≡ false = sym there ∙ h.0 in
    cc
first_index r rs to index false e h (inr k) next = next k

-- a receiver that stands once has its index there
pub index_is : (rs : List Receiver) (to index : ℕ) → AddressesDiffer rs → HasReceiver rs to index → index_in (places_of rs) to ≡ index
index_is [] to index h k = absurd k
index_is (r ∷ rs) to index h k = first_index r rs to index (r.address == to) refl h k (λ l. index_is rs to index h.1 l)

each_by : (all rs : List Receiver) → AddressesDiffer all → ((to index : ℕ) → HasReceiver rs to index → HasReceiver all to index) → AllByRecursion (λ (r : Receiver). index_in (places_of all) r.address ≡ r.index) rs
each_by all [] h w = tt
each_by all (r ∷ rs) h w = (index_is all r.address r.index h (w r.address r.index (inl (refl, refl))), each_by all rs h (λ to index k. w to index (inr k)))

pub each_index : (rs : List Receiver) → AddressesDiffer rs → AllByRecursion (λ (r : Receiver). index_in (places_of rs) r.address ≡ r.index) rs
each_index rs h = each_by rs rs h (λ to index k. k)

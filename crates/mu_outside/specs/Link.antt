-- All that a link means at a moment, as plain values (this profile).
use Rattle.std.specs.Prelude.{◌≡◌, ℕ, Bool, true, false, Option, Some, None, List, [], ◌∷◌, ◌++◌}
use Rattle.mu_outside.specs.declared.link.Incoming.{Incoming}
use Rattle.mu_outside.specs.declared.link.Incoming.TheVariants.{Datagram, Quiet}

-- a datagram that was sent
pub record Carried : Type 0 where
  pub from : ℕ
  pub to : ℕ
  pub octets : List ℕ

-- an answer of `receive`: at which address, whether that was bound then, and the datagram, or none
pub record Answer : Type 0 where
  pub at : ℕ
  pub bound : Bool
  pub found : Option (List ℕ)

pub record LinkSeen : Type 0 where
  -- whether the meanings are told
  pub told : Bool
  -- whether an address is bound
  pub bound : ℕ → Bool
  -- the datagram that waits next for an address, or none
  pub next : ℕ → Option (List ℕ)
  -- the answers of `receive` so far
  pub answers : List Answer
  -- the datagrams sent so far
  pub sent : List Carried
  -- how many of its calls have failed
  pub faults : ℕ

-- the datagram that an answer holds, or none
abbrev pub found_of : Incoming → Option (List ℕ)
found_of (Datagram octets) = Some octets.items
found_of Quiet = None

-- no meaning has changed but the count of faults and what waits
pub record Keeps (old new : LinkSeen) : Type 0 where
  pub bound : (a : ℕ) → new.bound a ≡ old.bound a
  pub answers : new.answers ≡ old.answers
  pub sent : new.sent ≡ old.sent

-- no meaning has changed but the count of faults
pub record Stays (old new : LinkSeen) : Type 0 where
  pub keeps : Keeps old new
  pub next : (a : ℕ) → new.next a ≡ old.next a

-- this address is bound too
pub record Bound (addr : ℕ) (old new : LinkSeen) : Type 0 where
  pub here : new.bound addr ≡ true
  pub others : (a : ℕ) → (a ≡ addr → ⊥) → new.bound a ≡ old.bound a
  pub answers : new.answers ≡ old.answers
  pub sent : new.sent ≡ old.sent

-- one datagram more was sent
pub record Sent (from to : ℕ) (octets : List ℕ) (old new : LinkSeen) : Type 0 where
  pub bound : (a : ℕ) → new.bound a ≡ old.bound a
  pub answers : new.answers ≡ old.answers
  pub sent : new.sent ≡ old.sent ++ (record { from = from; to = to; octets = octets }) ∷ []

-- what waits next for an address was received there
pub record Received (at : ℕ) (found : Option (List ℕ)) (old new : LinkSeen) : Type 0 where
  pub next : found ≡ old.next at
  pub bound : (a : ℕ) → new.bound a ≡ old.bound a
  pub answers : new.answers ≡ old.answers ++ (record { at = at; bound = old.bound at; found = found }) ∷ []
  pub sent : new.sent ≡ old.sent

-- a link that tells its count of faults alone, as a real one does
abbrev pub untold_link : ℕ → LinkSeen
untold_link faults = record {
  told = false;
  bound = λ a. false;
  next = λ a. None;
  answers = [];
  sent = [];
  faults = faults;
}

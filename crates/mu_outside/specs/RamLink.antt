-- What a link in memory shows of itself (this profile).
use Rattle.std.specs.Prelude.{◌≡◌, ℕ, ◌<◌, Bool, true, false, ◌==◌, ◌&&◌, ◌||◌, nat_le, not, if◌then◌else◌, Option, Some, None, List, [], ◌∷◌, ◌++◌, drop, map, length, slice_index_or}
use Rattle.std.specs.Option.{option_to_list}
use Rattle.mu_outside.specs.Link.{LinkSeen, Carried, Answer, found_of, Stays}
use Rattle.mu_outside.specs.declared.ram_link.Datagram.{Datagram}
use Rattle.mu_outside.specs.declared.ram_link.Received.{Received}
use Rattle.mu_outside.specs.declared.ram_link.Post.{Post}
use Rattle.mu_outside.specs.declared.ram_link.RamLink.{RamLink}

-- a datagram goes to the address that it names, and one to a group to every address but the sender's
abbrev pub goes_to : ℕ → ℕ → ℕ → Bool
goes_to a from to = (to == a) || (nat_le 0xC000 to && not (from == a))

-- what of these datagrams goes to an address
abbrev pub waiting : ℕ → List Datagram → List (List ℕ)
waiting a [] = []
waiting a (d ∷ ds) = if goes_to a d.from d.to then d.octets.items ∷ waiting a ds else waiting a ds

abbrev pub first : List (List ℕ) → Option (List ℕ)
first [] = None
first (x ∷ xs) = Some x

-- how many datagrams an address has behind it, or none where it isn't bound
abbrev pub passed : List Post → ℕ → Option ℕ
passed [] a = None
passed (p ∷ ps) a = if p.addr == a then Some p.passed else passed ps a

abbrev pub is_posted : Option ℕ → Bool
is_posted None = false
is_posted (Some n) = true

-- what goes to an address of the datagrams that it hasn't behind it
abbrev pub ahead : ℕ → List Datagram → Option ℕ → List (List ℕ)
ahead a sent None = []
ahead a sent (Some n) = waiting a (drop n sent)

-- what waits for an address, the oldest first
abbrev pub link_waits : RamLink → ℕ → List (List ℕ)
link_waits link a = ahead a link.sent.items (passed link.posts.items a)

abbrev pub carried : Datagram → Carried
carried d = record { from = d.from; to = d.to; octets = d.octets.items }

abbrev pub answer : Received → Answer
answer r = record { at = r.at; bound = r.bound; found = found_of r.found }

abbrev pub link_seen : RamLink → LinkSeen
link_seen link = record {
  told = true;
  bound = λ a. is_posted (passed link.posts.items a);
  next = λ a. first (link_waits link a);
  answers = map answer link.answers.items;
  sent = map carried link.sent.items;
  faults = link.calls.faults;
}

-- how many calls were made; the last has this number
abbrev pub link_calls : RamLink → ℕ
link_calls link = link.calls.made

-- the numbers of the calls that fail
abbrev pub link_fails : RamLink → List ℕ
link_fails link = link.calls.fails.items

-- room for so many datagrams, answers and addresses more
pub record Room : Type 0 where
  pub sends : ℕ
  pub receives : ℕ
  pub binds : ℕ

abbrev pub link_room : RamLink → Room
link_room link = record { sends = link.send_room; receives = link.receive_room; binds = link.bind_room }

-- a call that has failed changed nothing but the number of calls and of faults
pub record Untouched (old new : RamLink) : Type 0 where
  pub seen : Stays (link_seen old) (link_seen new)
  pub waits : (a : ℕ) → link_waits new a ≡ link_waits old a
  pub room : link_room new ≡ link_room old
  pub fails : link_fails new ≡ link_fails old

-- a datagram waits last at each bound address that it goes to
abbrev pub Reaches : ℕ → ℕ → List ℕ → RamLink → RamLink → Type 0
Reaches from to octets old new = (a : ℕ) → link_waits new a ≡ link_waits old a ++ (if (link_seen old).bound a && goes_to a from to then octets ∷ [] else [])

-- what was found waits no longer at this address, and all else waits as before
pub record Takes (at : ℕ) (found : Option (List ℕ)) (old new : RamLink) : Type 0 where
  pub here : link_waits old at ≡ option_to_list found ++ link_waits new at
  pub others : (a : ℕ) → (a ≡ at → ⊥) → link_waits new a ≡ link_waits old a

-- the first post of an address stands at this place
pub record IsPost (posts : List Post) (a k : ℕ) : Type 0 where
  pub within : k < length posts
  pub here : (p : Post) → (slice_index_or posts k p).addr ≡ a
  pub none_before : (p : Post) (j : ℕ) → j < k → (slice_index_or posts j p).addr ≡ a → ⊥

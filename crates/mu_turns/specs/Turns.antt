-- What the turns of a member come to: events, replies, and what was sent (this profile).
use Rattle.std.specs.Prelude.{◌≡◌, ℕ, Bool, false, IsTrue, Option, Some, None, IfSome, List, [], ◌∷◌, ◌++◌, map, Result, Ok, Err}
use Rattle.mu_model_wire.specs.declared.Refusal.{Refusal}
use Rattle.mu_model_wire.specs.Packet.{Packet}
use Rattle.mu_access.specs.Datagram.{datagram_spelling, datagram_at}
use Rattle.mu_outside.specs.Link.{LinkSeen, Carried, Answer}
use Rattle.mu_turns.specs.declared.stop.Fault.{Fault}
use Rattle.mu_turns.specs.declared.stop.Stop.{Stop}
use Rattle.mu_turns.specs.declared.stop.Stop.TheVariants.{Link, Member}

-- what comes to a member, at a moment: a packet, or time
pub data Event : Type 0 where
  Came : Packet → ℕ → Event
  Time : ℕ → Event

-- what a member does with an event: the state before, the event, the state after, the replies
abbrev pub Stepping : Type 0 → Type 1
Stepping M = M → Event → M → List Packet → Type 0

-- an event at which a member fails: the state before, the event, why, the state after
abbrev pub Failing : Type 0 → Type 1
Failing M = M → Event → Fault → M → Type 0

-- the moment of a turn, and what its receive found
pub record Turn : Type 0 where
  pub now : ℕ
  pub found : Option (List ℕ)

abbrev pub came : ℕ → Result Packet Refusal → List Event
came now (Ok packet) = Came packet now ∷ []
came now (Err refusal) = []

abbrev pub read : ℕ → Option (List ℕ) → List Event
read now None = []
read now (Some octets) = came now (datagram_at octets)

-- the events of a turn: the packet of a datagram that reads, if one was received, then time, both at the turn's moment
abbrev pub events_of : Turn → List Event
events_of turn = read turn.now turn.found ++ Time turn.now ∷ []

-- events one after the other, the replies to each behind those before
abbrev pub Runs : {M : Type 0} → Stepping M → M → List Event → M → List Packet → Type 0
Runs Step old [] new replies = (new ≡ old) × (replies ≡ [])
Runs Step old (e ∷ es) new replies = (mid : _) × (first : List Packet) × (rest : List Packet) × Step old e mid first × Runs Step mid es new rest × (replies ≡ first ++ rest)

-- turns one after the other, each begun by a member that hasn't ended
abbrev pub Rounds : {M : Type 0} → Stepping M → (M → Bool) → M → List Turn → M → List Packet → Type 0
Rounds Step ended old [] new replies = (new ≡ old) × (replies ≡ [])
Rounds Step ended old (t ∷ ts) new replies = (ended old ≡ false) × (mid : _) × (first : List Packet) × (rest : List Packet) × Runs Step old (events_of t) mid first × Rounds Step ended mid ts new rest × (replies ≡ first ++ rest)

-- a packet as a link carries it
abbrev pub carried : Packet → Carried
carried p = record { from = p.from; to = p.to; octets = datagram_spelling p }

-- an answer of `receive` at a member's address
abbrev pub answer : ℕ → Bool → Option (List ℕ) → Answer
answer me bound found = record { at = me; bound = bound; found = found }

-- a clock answered these values more, where they are told
abbrev pub Answers : Option (List ℕ) → Option (List ℕ) → List ℕ → Type 0
Answers old new values = IfSome new (λ after. (before : List ℕ) × (old ≡ Some before) × (after ≡ before ++ values))

-- What was done over a link: these receives at the member's address, and these packets sent. No address was bound.
pub record Over (me : ℕ) (old new : LinkSeen) (finds : List (Option (List ℕ))) (sent : List Packet) : Type 0 where
  pub told : new.told ≡ old.told
  pub bound : IsTrue old.told → (a : ℕ) → new.bound a ≡ old.bound a
  pub received : IsTrue old.told → new.answers ≡ old.answers ++ map (answer me (old.bound me)) finds
  pub went : IsTrue old.told → new.sent ≡ old.sent ++ map carried sent

-- These turns were made whole. Turn k has the k-th value of the clock as its moment and made the k-th receive, at the
-- member's address. What was sent is the replies to the events of the turns, in order.
pub record Made {M : Type 0} (Step : Stepping M) (ended : M → Bool) (me : ℕ) (old new : M) (clock clock' : Option (List ℕ)) (link link' : LinkSeen) (turns : List Turn) : Type 0 where
  pub replies : List Packet
  pub rounds : Rounds Step ended old turns new replies
  pub moments : Answers clock clock' (map (λ turn. turn.now) turns)
  pub over : Over me link link' (map (λ turn. turn.found) turns) replies

-- what the receive of a turn found, if it was answered, and the events of that turn
abbrev pub OfTurn : ℕ → List (Option (List ℕ)) → List Event → Type 0
OfTurn now [] events = events ≡ []
OfTurn now (found ∷ []) events = events ≡ events_of (record { now = now; found = found })
OfTurn now (found ∷ more ∷ finds) events = ⊥

-- How it ended: a call of the link failed, and what was sent is the replies before it; or the member failed at the next event.
abbrev pub EndsBy : {M : Type 0} → Failing M → M → M → List Event → List Packet → List Packet → Stop → Type 0
EndsBy Fails state new left replies sent Link = (new ≡ state) × (lost : List Packet) × (replies ≡ sent ++ lost)
EndsBy Fails state new left replies sent (Member fault) = (e : Event) × (rest : List Event) × (left ≡ e ∷ rest) × Fails state e fault new × (sent ≡ replies)

-- Of these events some were handled, and then the link or the member failed.
pub record Cut {M : Type 0} (Step : Stepping M) (Fails : Failing M) (me : ℕ) (old new : M) (link link' : LinkSeen) (events : List Event) (stop : Stop) : Type 0 where
  pub handled : List Event
  pub left : List Event
  pub of_events : events ≡ handled ++ left
  pub state : M
  pub replies : List Packet
  pub sent : List Packet
  pub runs : Runs Step old handled state replies
  pub over : Over me link link' [] sent
  pub ends : EndsBy Fails state new left replies sent stop

-- Some turns were made whole, and the next one wasn't.
pub record Broke {M : Type 0} (Step : Stepping M) (Fails : Failing M) (ended : M → Bool) (me : ℕ) (old new : M) (clock clock' : Option (List ℕ)) (link link' : LinkSeen) (turns : List Turn) (stop : Stop) : Type 0 where
  -- the whole turns
  pub begun : M
  pub earlier : List Packet
  pub rounds : Rounds Step ended old turns begun earlier
  pub goes_on : ended begun ≡ false
  -- the one in part: its moment, what its receive found, the events handled and those left
  pub now : ℕ
  pub finds : List (Option (List ℕ))
  pub handled : List Event
  pub left : List Event
  pub of_turn : OfTurn now finds (handled ++ left)
  pub state : M
  pub replies : List Packet
  pub runs : Runs Step begun handled state replies
  -- what was sent in it
  pub sent : List Packet
  pub moments : Answers clock clock' (map (λ turn. turn.now) turns ++ now ∷ [])
  pub over : Over me link link' (map (λ turn. turn.found) turns ++ finds) (earlier ++ sent)
  pub ends : EndsBy Fails state new left replies sent stop

-- What stands against a line of a script in a world.
use Rattle.std.specs.Prelude.{ℕ, ◌*◌, ◌/◌, ◌^◌, nat_lt, nat_le, ◌||◌, List, length, is_some, slice_get, Option, Some, None, Result, Ok, Err, if◌then◌else◌}
use Rattle.mu_model_wire.specs.Packet.{Packet}
use Rattle.mu_model_node.specs.FlashWork.{page_octets}
use Rattle.mu_model_node.specs.NodeState.{is_addressee}
use Rattle.mu_model_node.specs.NodeMessages.{Request, OfUpdate, request_at}
use Rattle.mu_model_node.specs.UpdateMessages.{StartUpdate}
use Rattle.mu_model_script.specs.declared.LineFault.{LineFault}
use Rattle.mu_model_script.specs.declared.BadWhy.{BadWhy}
use Rattle.mu_model_script.specs.declared.BadWhy.TheVariants.{Token as BadToken, Member as BadMember, Packet as BadPacket, Premise}
use Rattle.mu_model_script.specs.Pieces.{Token, tokens_of}
use Rattle.mu_model_script.specs.Tokens.{Content}
use Rattle.mu_model_script.specs.Event.{Event, Node, Old, Pair, Say, Deliver, Time, Cut, Tear, Active, Phase}
use Rattle.mu_model_script.specs.Lines.{line_event}
use Rattle.mu_model_script.specs.Texts.{line_word, bad_word}
use Rattle.mu_model_world.specs.World.{Member, World, member_at, config_of}
use Rattle.mu_model_world.specs.Outcomes.{content_octets}

-- members of a script
abbrev pub most_members : ℕ
most_members = 32

-- events of a world
abbrev pub most_events : ℕ
most_events = 100000

-- the number of the token that shows it, counted from the line's word, and the reason
pub record Objection : Type 0 where
  pub token : ℕ
  pub why : BadWhy

abbrev pub against : ℕ → BadWhy → Option Objection
against token why = Some (record { token = token; why = why })

abbrev pub or_else : Option Objection → Option Objection → Option Objection
or_else (Some objection) otherwise = Some objection
or_else None otherwise = otherwise

-- a member line comes before all others, for at most 32 members of different addresses
abbrev pub against_member : World → ℕ → Option Objection
against_member w address =
    if w.begun || nat_le most_members (length w.members) then against 0 BadMember
    else if is_some (member_at w address) then against 1 BadMember
    else None

-- a content, by its token, is past the bank
abbrev pub against_content : ℕ → (pages : ℕ) → Content → Option Objection
against_content token pages content = if nat_lt (page_octets * pages) (length (content_octets content)) then against token BadToken else None

-- the member isn't there
abbrev pub against_unknown : World → (token address : ℕ) → Option Objection
against_unknown w token address = if is_some (member_at w address) then None else against token BadMember

-- a stranger has no member's address
abbrev pub against_member_at : World → (token address : ℕ) → Option Objection
against_member_at w token address = if is_some (member_at w address) then against token Premise else None

abbrev pub against_addressee : ℕ → Member → Option Packet → Option Objection
against_addressee address m (Some packet) = if is_addressee (config_of address m) packet then None else against 2 BadPacket
against_addressee address m None = against 1 BadPacket

abbrev pub against_delivery : ℕ → Option Packet → Option Member → Option Objection
against_delivery address packet (Some m) = against_addressee address m packet
against_delivery address packet None = against 2 BadMember

-- a BLOB ID is a member's where its top 16 bits are that member's address
abbrev pub owner_of : ℕ → ℕ
owner_of id = id / 2 ^ 48

-- the BLOB ID of an update that a request offers
abbrev pub offered : Option Request → Option ℕ
offered (Some (OfUpdate (StartUpdate u))) = Some u.id
offered _ = None

abbrev pub against_offer : World → Option ℕ → Option Objection
against_offer w (Some id) = against_member_at w 3 (owner_of id)
against_offer w None = None

-- a stranger's packet comes from no member, and offers no update under a member's BLOB ID
abbrev pub against_stranger : World → ℕ → List ℕ → Option Objection
against_stranger w from payload = or_else (against_member_at w 1 from) (against_offer w (offered (request_at payload)))

-- what stands first against an event, in the order of the reasons and of the tokens
abbrev pub objection : World → Event → Option Objection
objection w (Node address group pages version content) = or_else (against_member w address) (against_content 5 pages content)
objection w (Old address group pages version content) = or_else (against_member w address) (against_content 5 pages content)
objection w (Pair address group pages version content second_version second) =
    or_else (against_member w address) (or_else (against_content 5 pages content) (against_content 7 pages second))
objection w (Say from to payload) = against_stranger w from payload
objection w (Deliver number address) = against_delivery address (slice_get w.bag number) (member_at w address)
objection w (Time address ms) = against_unknown w 1 address
objection w (Cut address) = against_unknown w 1 address
objection w (Tear address operation pattern) = against_unknown w 1 address
objection w (Active address) = against_unknown w 1 address
objection w (Phase address) = against_unknown w 1 address
-- lines of updaters and distributors aren't read here
objection w _ = None

-- what a line comes to
pub data Judged : Type 0 where
  -- an empty line or a comment
  Silent : Judged
  -- the place of the first octet of the token that shows it, and the word for why
  Refused : (place : ℕ) (word : List ℕ) → Judged
  Sound : Event → Judged

abbrev pub place_at : Option Token → ℕ
place_at (Some token) = token.at
place_at None = 0

abbrev pub judged_event : List ℕ → Event → Option Objection → Judged
judged_event line event None = Sound event
judged_event line event (Some o) = Refused (place_at (slice_get (tokens_of line) o.token)) (bad_word o.why)

abbrev pub judged_by : World → List ℕ → Result (Option Event) LineFault → Judged
judged_by w line (Ok None) = Silent
judged_by w line (Ok (Some event)) = judged_event line event (objection w event)
judged_by w line (Err fault) = Refused fault.at (line_word fault.why)

abbrev pub judged : World → List ℕ → Judged
judged w line = judged_by w line (line_event line)

-- What a time event of a client sends: the items, with the octets of chunks.
use Rattle.std.specs.Prelude.{ℕ, Bool, List, [], map}
use Rattle.mu_model_node.specs.NodeMessages.{Request}
use Rattle.mu_model_client.specs.Client.{Sending, Step, Item, Place, Client}
use Rattle.mu_model_client.specs.Lists.{sent_for}
use Rattle.mu_model_client.specs.Going as g
pub use Rattle.mu_model_client.specs.Going.{Going, Next, after_blocks, block_or, is_missed, least_missed, next_block, chunks_or, chunk_step, applies, after_verify, after, most_packets, begun_if, begun, in_step, first_of, ended, pull_silent, silent_after, most_silent, fell_silent, silent_if, with_silent, counted, counted_if, round_counted, unheard, after_counting, unwanted, is_empty, is_done, Go, Rests, Ends}

-- the client after a time event, and what it sends, each with its destination
pub record Due : Type 0 where
  pub next : Client
  pub packets : List (ℕ × Request)

-- the octets of chunks are the image's
abbrev pub with_octets : Sending → List ℕ → Going → Due
with_octets p image g = record { next = g.next; packets = map (sent_for p image) g.items }

abbrev pub sends : Client → List ℕ → List Item → Due
sends c image x1 = with_octets c.sending image (g.sends c x1)

abbrev pub sends_nothing : Client → Due
sends_nothing c = record { next = c; packets = [] }

abbrev pub begins_if : Client → List ℕ → Step → Bool → Due
begins_if c image x1 x2 = with_octets c.sending image (g.begins_if c x1 x2)

abbrev pub goes_on : Client → List ℕ → Next → Due
goes_on c image x1 = with_octets c.sending image (g.goes_on c x1)

abbrev pub next_step : Client → List ℕ → Step → Due
next_step c image x1 = with_octets c.sending image (g.next_step c x1)

abbrev pub new_round : Client → List ℕ → Step → Due
new_round c image x1 = with_octets c.sending image (g.new_round c x1)

abbrev pub round_or_next : Client → List ℕ → Step → Bool → Due
round_or_next c image x1 x2 = with_octets c.sending image (g.round_or_next c x1 x2)

abbrev pub round_ends : Client → List ℕ → Step → Due
round_ends c image x1 = with_octets c.sending image (g.round_ends c x1)

abbrev pub if_round_over : Client → List ℕ → Step → Bool → Due
if_round_over c image x1 x2 = with_octets c.sending image (g.if_round_over c x1 x2)

abbrev pub by_round : Client → List ℕ → Step → Due
by_round c image x1 = with_octets c.sending image (g.by_round c x1)

abbrev pub by_wanted : Client → List ℕ → Step → List Item → Due
by_wanted c image x1 x2 = with_octets c.sending image (g.by_wanted c x1 x2)

abbrev pub list_is_sent : Client → List ℕ → Step → Due
list_is_sent c image x1 = with_octets c.sending image (g.list_is_sent c x1)

abbrev pub by_list : Client → List ℕ → Step → List Item → Due
by_list c image x1 x2 = with_octets c.sending image (g.by_list c x1 x2)

abbrev pub by_step : Client → List ℕ → Step → Bool → Due
by_step c image x1 x2 = with_octets c.sending image (g.by_step c x1 x2)

abbrev pub by_place : Client → List ℕ → Place → Due
by_place c image x1 = with_octets c.sending image (g.by_place c x1)

-- a client's time event at a moment
abbrev pub due : Client → List ℕ → ℕ → Due
due c image now = with_octets c.sending image (g.going c now)

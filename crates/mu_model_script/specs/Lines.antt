-- The lines of a script as a table, and the one reading of it (this profile).
use Rattle.std.specs.Prelude.{ℕ, ◌==◌, nat_lt, Bool, true, List, [], ◌∷◌, ◌++◌, length, codes, bytes_eq, Option, Some, None, Result, Ok, Err, if◌then◌else◌}
use Rattle.mu_model_wire.specs.Limits.{most_octets, most_chunk, most_receivers}
use Rattle.mu_model_script.specs.declared.LineWhy.{LineWhy}
use Rattle.mu_model_script.specs.declared.LineWhy.TheVariants.{Token as BadToken, Long}
use Rattle.mu_model_script.specs.declared.LineFault.{LineFault}
use Rattle.mu_model_script.specs.Pieces.{Token, tokens_of}
use Rattle.mu_model_script.specs.Tokens.{Kind, unicast, group_or_none, destination, number_in, octets_up_to, image, mode, receivers, pattern, Value, Number, Octets, Image, Bits, Addresses, value_of}
use Rattle.mu_model_script.specs.Event.{Event, Node, Pair, Old, Updater, Distributor, Stock, Say, Deliver, Time, Cut, Tear, Active, Phase, Settle, Rows, Packet}

-- a line's word, the kinds of the tokens behind it, and what it makes happen
pub record LineRow : Type 0 where
  pub word : List ℕ
  pub kinds : List Kind
  pub event : List Value → Option Event

abbrev pub node_event : List Value → Option Event
node_event (Number address ∷ Number group ∷ Number pages ∷ Number version ∷ Image content ∷ []) = Some (Node address group pages version content)
node_event _ = None

abbrev pub pair_event : List Value → Option Event
pair_event (Number address ∷ Number group ∷ Number pages ∷ Number version ∷ Image content ∷ Number second_version ∷ Image second_content ∷ []) =
    Some (Pair address group pages version content second_version second_content)
pair_event _ = None

abbrev pub old_event : List Value → Option Event
old_event (Number address ∷ Number group ∷ Number pages ∷ Number version ∷ Image content ∷ []) = Some (Old address group pages version content)
old_event _ = None

abbrev pub updater_event : List Value → Option Event
updater_event (Number address ∷ Number group ∷ Number id ∷ Number ttl ∷ Number base ∷ Number way ∷ Number log ∷ Number chunk ∷ Number version ∷ Image content ∷ Addresses to ∷ []) =
    Some (Updater address group id ttl base way log chunk version content to)
updater_event _ = None

abbrev pub distributor_event : List Value → Option Event
distributor_event (Number address ∷ Number pages ∷ []) = Some (Distributor address pages)
distributor_event _ = None

abbrev pub stock_event : List Value → Option Event
stock_event (Number address ∷ Number version ∷ Image content ∷ []) = Some (Stock address version content)
stock_event _ = None

abbrev pub settle_event : List Value → Option Event
settle_event (Number turns ∷ []) = Some (Settle turns)
settle_event _ = None

abbrev pub rows_event : List Value → Option Event
rows_event (Number address ∷ []) = Some (Rows address)
rows_event _ = None

abbrev pub packet_event : List Value → Option Event
packet_event (Number number ∷ []) = Some (Packet number)
packet_event _ = None

abbrev pub say_event : List Value → Option Event
say_event (Number from ∷ Number to ∷ Octets payload ∷ []) = Some (Say from to payload)
say_event _ = None

abbrev pub deliver_event : List Value → Option Event
deliver_event (Number packet ∷ Number address ∷ []) = Some (Deliver packet address)
deliver_event _ = None

abbrev pub time_event : List Value → Option Event
time_event (Number address ∷ Number ms ∷ []) = Some (Time address ms)
time_event _ = None

abbrev pub cut_event : List Value → Option Event
cut_event (Number address ∷ []) = Some (Cut address)
cut_event _ = None

abbrev pub tear_event : List Value → Option Event
tear_event (Number address ∷ Number number ∷ Bits left ∷ []) = Some (Tear address number left)
tear_event _ = None

abbrev pub active_event : List Value → Option Event
active_event (Number address ∷ []) = Some (Active address)
active_event _ = None

abbrev pub phase_event : List Value → Option Event
phase_event (Number address ∷ []) = Some (Phase address)
phase_event _ = None

-- node A G PAGES VERSION CONTENT
abbrev pub node_row : LineRow
node_row = record { word = codes "node"; kinds = unicast ∷ group_or_none ∷ number_in 1 256 ∷ number_in 0 4294967295 ∷ image ∷ []; event = node_event }

-- pair A G PAGES VERSION CONTENT VERSION CONTENT
abbrev pub pair_row : LineRow
pair_row =
    record {
      word = codes "pair";
      kinds = unicast ∷ group_or_none ∷ number_in 1 256 ∷ number_in 0 4294967295 ∷ image ∷ number_in 0 4294967295 ∷ image ∷ [];
      event = pair_event;
    }

-- old A G PAGES VERSION CONTENT
abbrev pub old_row : LineRow
old_row = record { word = codes "old"; kinds = unicast ∷ group_or_none ∷ number_in 1 256 ∷ number_in 0 4294967295 ∷ image ∷ []; event = old_event }

-- say F T HEX
abbrev pub say_row : LineRow
say_row = record { word = codes "say"; kinds = unicast ∷ destination ∷ octets_up_to most_octets ∷ []; event = say_event }

-- deliver K A
abbrev pub deliver_row : LineRow
deliver_row = record { word = codes "deliver"; kinds = number_in 0 4294967295 ∷ unicast ∷ []; event = deliver_event }

-- time A MS
abbrev pub time_row : LineRow
time_row = record { word = codes "time"; kinds = unicast ∷ number_in 0 9223372036854775807 ∷ []; event = time_event }

-- cut A
abbrev pub cut_row : LineRow
cut_row = record { word = codes "cut"; kinds = unicast ∷ []; event = cut_event }

-- tear A N PATTERN
abbrev pub tear_row : LineRow
tear_row = record { word = codes "tear"; kinds = unicast ∷ number_in 1 1000 ∷ pattern ∷ []; event = tear_event }

-- active A
abbrev pub active_row : LineRow
active_row = record { word = codes "active"; kinds = unicast ∷ []; event = active_event }

-- phase A
abbrev pub phase_row : LineRow
phase_row = record { word = codes "phase"; kinds = unicast ∷ []; event = phase_event }

-- updater A G ID TTL BASE MODE LOG CHUNK VERSION CONTENT R,R,..
abbrev pub updater_row : LineRow
updater_row = record {
  word = codes "updater";
  kinds =
      unicast ∷ group_or_none ∷ number_in 0 281474976710655 ∷ number_in 0 255 ∷ number_in 0 65535 ∷ mode ∷ number_in 12 14 ∷ number_in 8 most_chunk
      ∷ number_in 0 4294967295
      ∷ image
      ∷ receivers most_receivers
      ∷ [];
  event = updater_event;
}

-- distributor A PAGES
abbrev pub distributor_row : LineRow
distributor_row = record { word = codes "distributor"; kinds = unicast ∷ number_in 1 256 ∷ []; event = distributor_event }

-- stock A VERSION CONTENT
abbrev pub stock_row : LineRow
stock_row = record { word = codes "stock"; kinds = unicast ∷ number_in 0 4294967295 ∷ image ∷ []; event = stock_event }

-- settle N
abbrev pub settle_row : LineRow
settle_row = record { word = codes "settle"; kinds = number_in 1 4294967295 ∷ []; event = settle_event }

-- rows A
abbrev pub rows_row : LineRow
rows_row = record { word = codes "rows"; kinds = unicast ∷ []; event = rows_event }

-- packet K
abbrev pub packet_row : LineRow
packet_row = record { word = codes "packet"; kinds = number_in 0 4294967295 ∷ []; event = packet_event }

-- the lines of scripts with nodes alone
abbrev pub line_rows : List LineRow
line_rows = node_row ∷ pair_row ∷ old_row ∷ say_row ∷ deliver_row ∷ time_row ∷ cut_row ∷ tear_row ∷ active_row ∷ phase_row ∷ []

-- and those of updaters and distributors
abbrev pub station_rows : List LineRow
station_rows = updater_row ∷ distributor_row ∷ stock_row ∷ settle_row ∷ rows_row ∷ packet_row ∷ []

-- all lines
abbrev pub script_rows : List LineRow
script_rows = line_rows ++ station_rows

-- ---- reading

abbrev pub refuse : {A : Type 0} → ℕ → LineWhy → Result A LineFault
refuse at why = Err (record { at = at; why = why })

infixl 10 ◌>>=◌
abbrev pub ◌>>=◌ : {A B : Type 0} → Result A LineFault → (A → Result B LineFault) → Result B LineFault
(Ok x) >>= f = f x
(Err e) >>= f = Err e

abbrev pub or_refuse : {A : Type 0} → Option A → ℕ → Result A LineFault
or_refuse (Some x) at = Ok x
or_refuse None at = refuse at BadToken

-- the tokens that are left to read, and the line's length
pub record Left : Type 0 where
  pub tokens : List Token
  pub end : ℕ

-- the next token, or the line's length as the place where it lacks
abbrev pub next_token : List Token → ℕ → Result (Token × Left) LineFault
next_token [] end = refuse end BadToken
next_token (token ∷ tokens) end = Ok (token, record { tokens = tokens; end = end })

-- what the next token says
unfoldable pub value_at : Kind → Left → Result (Value × Left) LineFault
value_at kind left = do
  next ← next_token left.tokens left.end
  value ← or_refuse (value_of kind next.0.octets) next.0.at
  Ok (value, next.1)

-- that no token is left
abbrev pub nothing_left : List Token → Result (List Value) LineFault
nothing_left [] = Ok []
nothing_left (token ∷ tokens) = refuse token.at BadToken

-- what the tokens say, or the first place that isn't as the kinds ask
abbrev pub values_at : List Kind → Left → Result (List Value) LineFault
values_at [] left = nothing_left left.tokens
values_at (kind ∷ kinds) left = do
  value ← value_at kind left
  values ← values_at kinds value.1
  Ok (value.0 ∷ values)

abbrev pub row_of : List LineRow → List ℕ → Option LineRow
row_of [] word = None
row_of (row ∷ rows) word = if bytes_eq word row.word then Some row else row_of rows word

abbrev pub event_by : LineRow → Left → Result Event LineFault
event_by row left = do
  values ← values_at row.kinds left
  or_refuse (row.event values) left.end

-- the row is that of the first token
abbrev pub event_of : List LineRow → Left → Result Event LineFault
event_of rows left = do
  word ← next_token left.tokens left.end
  row ← or_refuse (row_of rows word.0.octets) word.0.at
  event_by row word.1

-- a line that says nothing: an empty one, or a comment
abbrev pub is_silent : List ℕ → Bool
is_silent [] = true
is_silent (octet ∷ octets) = octet == 35

abbrev pub some_event : Result Event LineFault → Result (Option Event) LineFault
some_event (Ok event) = Ok (Some event)
some_event (Err e) = Err e

-- what a line says by the rows of a table: nothing, an event, or the first place that is wrong
abbrev pub event_among : List LineRow → List ℕ → Result (Option Event) LineFault
event_among rows line =
    if nat_lt 4096 (length line) then refuse 4096 Long
    else if is_silent line then Ok None
    else some_event (event_of rows (record { tokens = tokens_of line; end = length line }))

-- a line of a script with nodes alone
abbrev pub line_event : List ℕ → Result (Option Event) LineFault
line_event line = event_among line_rows line

-- a line of any script
abbrev pub script_event : List ℕ → Result (Option Event) LineFault
script_event line = event_among script_rows line

-- What the lines of a script make happen.
use Rattle.std.specs.Prelude.{ℕ, List}
use Rattle.mu_model_flash.specs.declared.Pattern.{Pattern}
use Rattle.mu_model_script.specs.Tokens.{Content}

pub data Event : Type 0 where
  -- a node with this image, of this version, in banks of so many pages
  Node : (address group pages version : ℕ) (content : Content) → Event
  -- a node with two images, each with its version
  Pair : (address group pages version : ℕ) (content : Content) (second_version : ℕ) (second_content : Content) → Event
  -- a node with one image and a note of the older form
  Old : (address group pages version : ℕ) (content : Content) → Event
  -- a standalone updater at an address, with the image of this version that it sends to these receivers, and how it sends it
  Updater : (address group id ttl base mode log chunk version : ℕ) (content : Content) (to : List ℕ) → Event
  -- a distributor, in banks of so many pages
  Distributor : (address pages : ℕ) → Event
  -- an image of this version for a distributor
  Stock : (address version : ℕ) (content : Content) → Event
  -- a stranger sends a packet
  Say : (from to : ℕ) (payload : List ℕ) → Event
  -- a packet comes to a member
  Deliver : (packet address : ℕ) → Event
  -- a time event at a member, whose moment becomes this one, in milliseconds, where it is later
  Time : (address ms : ℕ) → Event
  -- a member is booted from its flash
  Cut : (address : ℕ) → Event
  -- the power of a member goes at the flash operation of this number, counted from 1, of its next event with so many,
  -- and the pattern says what that operation leaves of its range
  Tear : (address number : ℕ) (pattern : Pattern) → Event
  -- shows the active images of a node
  Active : (address : ℕ) → Event
  -- shows the phases of a member
  Phase : (address : ℕ) → Event
  -- so many turns: in each all members have time events, and then all packets that were sent come to their addressees
  Settle : (turns : ℕ) → Event
  -- shows the rows of an updater or a distributor
  Rows : (address : ℕ) → Event
  -- shows a packet
  Packet : (number : ℕ) → Event

-- How much messages have at most.
use Rattle.std.specs.Prelude.{ℕ}

-- octets of a message (Mesh Protocol, Upper Transport: 32 segments of 12 octets without a TransMIC of 4)
abbrev pub most_octets : ℕ
most_octets = 380

-- octets of a chunk (this profile: what a Chunk Transfer has room for in a message, less one)
abbrev pub most_chunk : ℕ
most_chunk = 376

-- receivers of an update (this profile)
abbrev pub most_receivers : ℕ
most_receivers = 128

-- rows of a Receivers List (this profile: as many as a message has room for)
abbrev pub most_rows : ℕ
most_rows = 74

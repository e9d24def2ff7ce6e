-- What a server answers, as packets.
use Rattle.std.specs.Prelude.{ℕ, List, [], ◌∷◌, map, Option, Some, None}
use Rattle.mu_model_wire.specs.Packet.{Packet}
use Rattle.mu_model_node.specs.BlobMessages.{BlobReply}
use Rattle.mu_model_node.specs.NodeMessages.{ByBlob, reply_packet}

-- a reply with its destination, or none
abbrev pub replies_of : Option (ℕ × BlobReply) → List (ℕ × BlobReply)
replies_of None = []
replies_of (Some reply) = reply ∷ []

-- the packets that take replies from an address to their destinations
abbrev pub packets_of : ℕ → List (ℕ × BlobReply) → List Packet
packets_of from replies = map (λ reply. reply_packet from (reply.0, ByBlob reply.1)) replies

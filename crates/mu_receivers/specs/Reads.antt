-- Chunks that are read.
use Rattle.std.specs.Prelude.{ℕ, ◌≡◌, ◌*◌, ◌+◌, ◌≤◌, ◌<◌, ◌^◌, length, IfSome}
use Rattle.mu_model_wire.specs.Limits.{most_chunk}
use Rattle.mu_model_client.specs.declared.Sending.{Sending}
use Rattle.mu_receivers.specs.Image.{Image}

-- the image is the one that is sent, and what is sent has its ranges
pub record CanRead (p : Sending) (image : Image) : Type 0 where
  pub size : image.size ≡ p.size
  pub long : IfSome image.octets (λ octets. length octets ≡ p.size)
  pub most : p.size ≤ 2 ^ 20
  pub log : p.log ≤ 14
  pub chunk : p.chunk ≤ most_chunk
  pub some : 1 ≤ p.chunk

-- the chunk begins in the image and in its block
pub record Within (p : Sending) (b k : ℕ) : Type 0 where
  pub image : b * 2 ^ p.log + k * p.chunk < p.size
  pub block : k * p.chunk < 2 ^ p.log

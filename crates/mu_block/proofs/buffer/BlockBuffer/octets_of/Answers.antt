use Rattle.std.proofs.Common.{◌∙◌, ℕ, true, false, Option, Some, length, sym, ap, arith}
use Rattle.mu_block.specs.Coming.{Coming, octets_of_chunk}
use Rattle.mu_block.specs.Buffer.{coming}
use Rattle.std.proofs.lemmas.Bool.{lt-ltb, le-ltb}
use Rattle.mu_block.proofs.Views.{open_shows, closed_shows, asks_length}
use Rattle.mu_block.proofs.buffer.BlockBuffer.octets_of.Goals.{else-self-via-then-self+else-chunk-bound, else-self-via-else-self}
use Rattle.mu_block.proofs.buffer.BlockBuffer.octets_of.Goals as goal

pub returns-then-chunk-bound : goal.returns-then-chunk-bound
returns-then-chunk-bound c =
    ap (λ (n : ℕ). Some n) c.chunk_len.ensures.length
    ∙ sym (asks_length c.self.inside.number c.self.inside.chunk_size c.self.inside.size c.self.inside.came c.self.inside.octets c.args.chunk true (lt-ltb c.args.chunk (length c.self.inside.came) (omega (arith, c.bound.ensures.bound)))) ∙ ap (λ (v : Option Coming). octets_of_chunk v c.args.chunk) (open_shows c.self.inside.open (coming c.self.inside.number c.self.inside.chunk_size c.self.inside.size c.self.inside.came c.self.inside.octets) c.args.self.now c.self.view_is c.if-self.true)

pub returns-else-self : goal.returns-else-self
returns-else-self c = elim c.else-self.branch [
  | else-self-via-then-self+else-chunk-bound w ↦
      sym (asks_length c.self.inside.number c.self.inside.chunk_size c.self.inside.size c.self.inside.came c.self.inside.octets c.args.chunk false (le-ltb c.args.chunk (length c.self.inside.came) (omega (arith, w.bound.ensures.bound)))) ∙ ap (λ (v : Option Coming). octets_of_chunk v c.args.chunk) (open_shows c.self.inside.open (coming c.self.inside.number c.self.inside.chunk_size c.self.inside.size c.self.inside.came c.self.inside.octets) c.args.self.now c.self.view_is w.if-self.true)
  | else-self-via-else-self w ↦
      ap (λ (v : Option Coming). octets_of_chunk v c.args.chunk) (closed_shows c.self.inside.open (coming c.self.inside.number c.self.inside.chunk_size c.self.inside.size c.self.inside.came c.self.inside.octets) c.args.self.now c.self.view_is w.if-self.false)
]

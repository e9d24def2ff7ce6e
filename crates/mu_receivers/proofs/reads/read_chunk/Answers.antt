use Rattle.std.proofs.Common.{◌+◌, ◌*◌, ap, ◌∙◌, arith}
use Rattle.mu_receivers.proofs.Chunks.{gives_chunk}
use Rattle.mu_receivers.proofs.reads.read_chunk.Goals as goal

pub returns-clause-gives : goal.returns-clause-gives
returns-clause-gives g c =
    gives_chunk c.args.sending.now (g.I.ImageBytes.image c.args.image.now) c.args.b c.args.k _ c.in_ok-octets.octets.items c.requires.can c.requires.within
    (ap (λ l. c.args.b * l + c.args.k * c.args.sending.now.chunk) c.pow-block.ensures)
    (c.in_ok-octets.ensures.long ∙ omega (arith, c.min.ensures, c.min-end.ensures, c.pow-block.ensures, ap (λ l. c.args.b * l) c.pow-block.ensures))
    c.in_ok-octets.ensures.gives

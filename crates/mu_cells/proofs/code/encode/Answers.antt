use Rattle.std.proofs.Common.{refl, ◌*◌, ◌≡◌, length, arith}
use Rattle.mu_cells.proofs.CodeLemmas.{coded_more}
use Rattle.mu_cells.proofs.code.encode.Goals as goal

pub loop-i-preserved : goal.loop-i-preserved
loop-i-preserved c =
    let size : length c.loop-i.word ≡ 2 * length c.args.octets.now = omega (arith, c.requires) in
    coded_more c.code_words.ensures.one_more c.loop-i.word c.args.octets.now c.loop-i.i _ size (omega arith) refl c.loop-i.invariant

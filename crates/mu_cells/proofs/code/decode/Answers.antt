use Rattle.std.proofs.Common.{◌<◌, length, refl, sym, ◌∙◌, arith}
use Rattle.std.proofs.lemmas.List.{ext_get_or}
use Rattle.mu_model_record.specs.Code.{content_of}
use borrow.Author.Count.{below_more}
use Rattle.mu_cells.proofs.CodeLemmas.{taken_more}
use Rattle.mu_cells.proofs.code.decode.Goals as goal

pub loop-i-preserved : goal.loop-i-preserved
loop-i-preserved c = record {
  pairs = below_more _ c.loop-i.i c.loop-i.invariant.pairs (omega arith);
  octets = taken_more c.args.word.now c.loop-i.octets c.loop-i.i (omega arith) c.loop-i.invariant.octets;
}

pub returns-then-word-i-clause-code : goal.returns-then-word-i-clause-code
returns-then-word-i-clause-code c = (
  λ never. absurd (cc never),
  λ is.
      let sum = (c.code_words.ensures.pairs c.args.word.now (length c.args.octets.now) c.requires).0 is c.loop-i.i (omega arith) in
      absurd (c.if-word-i.true (omega (arith, sum))),
)

pub returns-clause-code : goal.returns-clause-code
returns-clause-code c =
    (λ t. (c.code_words.ensures.pairs c.args.word.now (length c.args.octets.now) c.requires).1 (λ k lt. c.loop-i.invariant.pairs k (omega (arith, lt))), λ is. refl)

pub returns-clause-content : goal.returns-clause-content
returns-clause-content c t =
    let n = length c.args.octets.now in
    let content = c.code_words.ensures.content c.args.word.now n c.requires in
    ext_get_or 0 c.loop-i.octets (content_of c.args.word.now) (c.loop-i.auto.octets ∙ sym content.0)
    (λ k lt. let low : k < n = omega (arith, lt, c.loop-i.auto.octets) in c.loop-i.invariant.octets k (omega (arith, low)) ∙ sym (content.1 k low))

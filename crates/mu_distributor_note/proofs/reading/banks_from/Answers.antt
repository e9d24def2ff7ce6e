use Rattle.std.proofs.Common.{◌∙◌, ◌++◌, ◌∷◌, [], sym, arith}
use Rattle.std.proofs.lemmas.List.FromFn.{map-range_with_len_more}
use Rattle.mu_model_stored_distributor.specs.DistributorIn.{bank_in}
use Rattle.mu_distributor_note.proofs.reading.banks_from.Goals as goal

pub loop-k-preserved : goal.loop-k-preserved
loop-k-preserved c = (
  omega (arith, c.push.ensures.len, c.loop-k.invariant.0),
  c.push.ensures.items ∙ (λ i. c.loop-k.invariant.1 i ++ bank_in c.args.octets.now c.loop-k.k ∷ [])
      ∙ sym (map-range_with_len_more (bank_in c.args.octets.now) 0 c.loop-k.k c.loop-k.k (omega arith)),
)

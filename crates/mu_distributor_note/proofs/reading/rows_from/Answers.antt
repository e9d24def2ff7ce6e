use Rattle.std.proofs.Common.{◌≡◌, ◌∙◌, ◌+◌, ◌*◌, ◌++◌, ◌∷◌, [], map, ap, sym, arith}
use Rattle.std.proofs.lemmas.List.{map-append}
use Rattle.std.proofs.lemmas.List.FromFn.{map-range_with_len_more}
use Rattle.mu_distmsg.specs.declared.message.ReceiverRow.{ReceiverRow}
use Rattle.mu_model_stored_distributor.specs.DistributorIn.{receiver_in, row_in}
use Rattle.mu_distributor_kept.specs.Views.{row_receiver, row_receivers}
use Rattle.mu_distributor_note.proofs.Octets.{slice_part}
use Rattle.mu_distributor_note.proofs.reading.rows_from.Goals as goal

pub loop-k-preserved : goal.loop-k-preserved
loop-k-preserved c =
    let row : row_receiver c.row_from-row.result ≡ row_in c.args.octets.now c.loop-k.k =
    c.row_from-row.ensures.receiver ∙ ap receiver_in (slice_part c.args.octets.now (128 + 6 * c.loop-k.k) (134 + 6 * c.loop-k.k) 6 (omega arith)) in (
      omega (arith, c.push.ensures.len, c.loop-k.invariant.0),
      ap row_receivers c.push.ensures.items ∙ map-append row_receiver c.loop-k.rows.items (c.row_from-row.result ∷ []) ∙ (λ i. c.loop-k.invariant.1 i ++ row i ∷ [])
          ∙ sym (map-range_with_len_more (row_in c.args.octets.now) 0 c.loop-k.k c.loop-k.k (omega arith)),
      ap (map (λ (r : ReceiverRow). r.progress)) c.push.ensures.items ∙ map-append (λ (r : ReceiverRow). r.progress) c.loop-k.rows.items (c.row_from-row.result ∷ [])
          ∙ (λ i. c.loop-k.invariant.2 i ++ c.row_from-row.ensures.progress i ∷ [])
          ∙ sym (ap (map (λ (r : ReceiverRow). 0)) c.push.ensures.items ∙ map-append (λ (r : ReceiverRow). 0) c.loop-k.rows.items (c.row_from-row.result ∷ [])),
    )

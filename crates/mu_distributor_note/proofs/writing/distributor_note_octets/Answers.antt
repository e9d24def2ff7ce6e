use Rattle.std.proofs.Common.{◌≡◌, ◌∙◌, ◌++◌, ◌-◌, ◌*◌, [], ℕ, length, ap, sym, refl}
use Rattle.std.proofs.lemmas.List.{length-map}
use Rattle.std.specs.List.{flat_map}
use Rattle.mu_model_image.specs.Meta.{meta_octets}
use Rattle.mu_model_record.specs.Record.{zeros}
use Rattle.mu_model_represents_distributor.specs.DistributorNote.{receiver_octets, head_octets}
use Rattle.mu_distributor_kept.specs.Views.{row_receiver, row_receivers}
use Rattle.mu_distributor_note.specs.Views.{distributor_note}
use Rattle.mu_distributor_note.proofs.RowOctets.{all_joined}
use Rattle.mu_distributor_note.proofs.writing.distributor_note_octets.Goals as goal

pub returns : goal.returns
returns c =
    let first : c.copy_from_slice.new.self ≡ head_octets (distributor_note c.args.head.now c.args.rows.now) ++ (meta_octets c.args.head.now.upload_meta ++ zeros 60) = c.copy_from_slice.ensures.after ∙ c.first_octets-first.ensures in
    let rows : c.put_rows.new.octets ≡ flat_map receiver_octets (row_receivers c.args.rows.now) ++ zeros (1600 - 6 * length c.args.rows.now) = c.put_rows.ensures in
    (λ i. first i ++ (rows i ++ [])) ∙ all_joined (head_octets (distributor_note c.args.head.now c.args.rows.now)) (meta_octets c.args.head.now.upload_meta) (zeros 60)
    (flat_map receiver_octets (row_receivers c.args.rows.now) ++ zeros (1600 - 6 * length c.args.rows.now))
    ∙ ap (λ (n : ℕ). head_octets (distributor_note c.args.head.now c.args.rows.now) ++ (meta_octets c.args.head.now.upload_meta ++ (zeros 60 ++ (flat_map receiver_octets (row_receivers c.args.rows.now) ++ zeros (1600 - 6 * n))))) (sym (length-map c.args.rows.now row_receiver))

pub put_rows-requires-clause-blank : goal.put_rows-requires-clause-blank
unfolding zeros
put_rows-requires-clause-blank c = refl

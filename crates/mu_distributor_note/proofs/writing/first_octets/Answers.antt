use Rattle.std.proofs.Common.{◌≡◌, ◌∙◌, ℕ, ◌++◌, length, refl, ap, rules}
use Rattle.std.specs.Prelude.{replicate}
use Rattle.mu_model_image.specs.Meta.{meta_octets}
use Rattle.mu_model_record.specs.Record.{zeros}
use Rattle.mu_model_represents_distributor.specs.DistributorNote.{head_octets}
use Rattle.mu_distributor_note.specs.Views.{distributor_note}
use Rattle.mu_distributor_note.proofs.RowOctets.{first_put}
use Rattle.mu_distributor_note.proofs.writing.first_octets.Goals as goal

pub returns : goal.returns
unfolding zeros
returns c =
    let first : c.copy_from_slice.new.self ≡ head_octets (distributor_note c.args.head.now c.args.rows.now) = c.copy_from_slice.ensures.after ∙ c.head_octets-first.ensures in
    let meta : c.copy_from_slice-2.new.self ≡ meta_octets c.args.head.now.upload_meta = c.copy_from_slice-2.ensures.after ∙ c.meta_octets-meta.ensures in
    let size : length c.head_octets-first.result ≡ 28 = search rules in
    let long : length c.copy_from_slice.new.self ≡ 28 = ap (length {A = ℕ}) c.copy_from_slice.ensures.after ∙ size in
    first_put (replicate {A = ℕ} 128 0) c.copy_from_slice.new.self c.copy_from_slice-2.new.self refl long ∙ (λ i. first i ++ (meta i ++ zeros 60))

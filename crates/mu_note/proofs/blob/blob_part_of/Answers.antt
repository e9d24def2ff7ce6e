use Rattle.std.proofs.Common.{List, ℕ, subst}
use Rattle.std.specs.Prelude.{Option, IfOk, OnErr}
use Rattle.std.specs.Option.{option_map}
use Rattle.mu_model_flash.specs.Bits.{part_of}
use Rattle.mu_model_represents.specs.BlobPart.{BlobJob as PartJob, IsBlobPart}
use Rattle.mu_note.specs.Views.{part_job}
use Rattle.mu_note.proofs.blob.blob_part_of.Goals as goal

pub returns-clause-read : goal.returns-clause-read
unfolding part_of
returns-clause-read c =
    subst (λ (o : List ℕ). IfOk c.blob_from.result (λ part. IsBlobPart (option_map part_job part) o)) c.split_at.ensures.front c.blob_from.ensures.read

pub returns-clause-foreign : goal.returns-clause-foreign
unfolding part_of
returns-clause-foreign c =
    subst (λ (o : List ℕ). OnErr c.blob_from.result ((part : Option PartJob) → IsBlobPart part o → ⊥)) c.split_at.ensures.front c.blob_from.ensures.foreign

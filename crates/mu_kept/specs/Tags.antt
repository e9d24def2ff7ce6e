-- The tag of a job.
use Rattle.std.specs.Prelude.{◌≡◌, ℕ, ◌≤◌, ◌++◌, List, Option, Some, None, IfSome}
use Rattle.std.specs.Option.{option_map}
use Rattle.mu_model_node.specs.declared.Parameters.{Parameters}
use Rattle.mu_model_represents.specs.BlobPart.{blob_octets}
use Rattle.mu_note.specs.declared.blob.BlobJob.{BlobJob}
use Rattle.mu_note.specs.Views.{part_job}

-- the tag of a job with a note
abbrev pub tag_with : Option BlobJob → List ℕ → List ℕ
tag_with job note = blob_octets (option_map part_job job) ++ note

-- parameters that have their places in it
pub record IsSpelled (size : ℕ) (p : Parameters) : Type 0 where
  pub mode_least : 1 ≤ p.mode
  pub mode_most : p.mode ≤ 2
  pub mtu_least : 20 ≤ p.mtu
  pub same_size : p.size ≡ size

abbrev pub CanSpell : Option BlobJob → Type 0
CanSpell job = IfSome job (λ j. IfSome j.parameters (IsSpelled j.size))

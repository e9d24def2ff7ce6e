-- Worked rows: the tags of a node, octet by octet, and records that are no node's. The images are those of the model's rows: the octet 61, and
-- 61 62 63 as the new one.
use Rattle.std.specs.Prelude.{◌≡◌, ◌++◌, ◌<◌, ℕ, List, [], ◌∷◌, Option, Some, None}
use Rattle.std.specs.List.{All}
pub use Rattle.mu_model_scenes.specs.Octets.{other_chunk}
use Rattle.mu_model_image.specs.declared.Meta.{Meta}
use Rattle.mu_model_record.specs.declared.Record.{Record}
use Rattle.mu_model_record.specs.declared.BankState.{BankState}
use Rattle.mu_model_record.specs.declared.BankState.TheVariants.{Empty, Filling, Sealed}
use Rattle.mu_model_record.specs.Record.{zeros}
use Rattle.mu_model_node.specs.declared.Parameters.{Parameters}
use Rattle.mu_model_node.specs.declared.Stored.{Stored}
use Rattle.mu_model_node.specs.declared.Stored.TheVariants.{Verified, Refused}
use Rattle.mu_model_node.specs.declared.Stored.TheVariants.{Filling as Coming}
use Rattle.mu_model_node.specs.NodeState.{Job}
use Rattle.mu_model_node.specs.Events.{TimeComes}
use Rattle.mu_model_node.specs.Safe.{Happening, Done}
use Rattle.mu_model_node.specs.Worked.{image_a, image_abc, digest_abc, one_image, two_images, id7, metadata_at, update_start, transfer_start, update_apply, said, up_to_block, up_to_chunk, whole_update, after}
use Rattle.mu_model_represents.specs.BlobPart.{blob_octets}
use Rattle.mu_model_represents.specs.NodeNote.{note_octets}
use Rattle.mu_model_represents.specs.RepresentsNode.{IsNoNodeRecord, part_of_job, node_tag, old_node_tag}

-- ---- tags that are written

-- the tag after these happenings at a node whose image is in bank 0
abbrev pub tag_after : List Happening → List ℕ
tag_after happenings = node_tag (0 ∷ []) 1 (after one_image happenings).durable.job

-- the BLOB part of the job without parameters, and with them
abbrev pub part_unbegun : List ℕ
part_unbegun = (1 ∷ 0 ∷ 0 ∷ 0 ∷ []) ++ (id7 ++ (3 ∷ 0 ∷ 0 ∷ 0 ∷ 0 ∷ 0 ∷ 1 ∷ 0 ∷ zeros 44))

abbrev pub part_begun : List ℕ
part_begun = (1 ∷ 1 ∷ 0x7c ∷ 1 ∷ []) ++ (id7 ++ (3 ∷ 0 ∷ 0 ∷ 0 ∷ 0 ∷ 0 ∷ 1 ∷ 12 ∷ zeros 44))

-- the note of the job in a stored phase
abbrev pub note_in : ℕ → List ℕ
note_in phase = (3 ∷ 0 ∷ phase ∷ 5 ∷ []) ++ (metadata_at 2 ++ zeros 1684)

pub record NodeTags : Type 0 where
  pub new_node : tag_after [] ≡ zeros 64 ++ (3 ∷ 0 ∷ zeros 1726)
  pub old_node : old_node_tag (0 ∷ []) 1 None ≡ zeros 64 ++ (1 ∷ 0 ∷ zeros 1726)
  pub new_pair : node_tag (0 ∷ 1 ∷ []) 2 two_images.durable.job ≡ zeros 64 ++ ((3 ∷ 0 ∷ zeros 42) ++ (1 ∷ zeros 1683))
  pub taken : tag_after (said (update_start 0 2) ∷ []) ≡ part_unbegun ++ note_in 2
  pub begun : tag_after (said (update_start 0 2) ∷ said transfer_start ∷ []) ≡ part_begun ++ note_in 2
  pub verified : tag_after (up_to_chunk 0 ++ Done TimeComes 1 ∷ []) ≡ part_begun ++ note_in 4
  pub refused : tag_after (up_to_block 0 ++ said other_chunk ∷ Done TimeComes 1 ∷ []) ≡ part_unbegun ++ note_in 5
  pub applied : tag_after (up_to_chunk 0 ++ Done TimeComes 1 ∷ said update_apply ∷ []) ≡ part_begun ++ note_in 6
  -- then the other bank is the active one
  pub done : node_tag (1 ∷ []) 0 (after one_image (whole_update 0)).durable.job ≡ zeros 64 ++ (3 ∷ 1 ∷ zeros 1726)

-- the worked image's digest is octets
abbrev pub DigestIsOctets : Type 0
DigestIsOctets = All (λ octet. octet < 256) digest_abc

-- ---- records that are no node's

-- a record of banks of one page
abbrev pub record_of : (number : ℕ) → List BankState → List ℕ → Record
record_of number banks tag = record { count = 3; pages = 1; number = number; banks = banks; tag = tag }

abbrev pub first : BankState
first = Sealed image_a.meta

abbrev pub new : BankState
new = Sealed image_abc.meta

abbrev pub coming : BankState
coming = Filling 3 12

-- the new image, of this version
abbrev pub meta_at : ℕ → Meta
meta_at version = record { size = 3; version = version; digest = image_abc.meta.digest }

abbrev pub begun_with : Parameters
begun_with = record { mode = 1; size = 3; log = 12; mtu = 380 }

-- a job in a stored phase
abbrev pub job_with : Stored → Option Parameters → Meta → ℕ → Job
job_with stored parameters meta index = record { id = 7; index = index; meta = meta; ttl = 5; base = 0; stored = stored; parameters = parameters; held = [] }

abbrev pub taken_job : Job
taken_job = job_with Coming None (meta_at 2) 0

abbrev pub begun_job : Job
begun_job = job_with Coming (Some begun_with) (meta_at 2) 0

-- two banks, image 0 in bank 0, and a job for bank 1
abbrev pub two_banks : BankState → Option Job → Record
two_banks other job = record_of 2 (first ∷ other ∷ Empty ∷ Empty ∷ []) (node_tag (0 ∷ []) 1 job)

pub record NoNodes : Type 0 where
  -- the active bank isn't Sealed, or isn't there
  pub active_empty : IsNoNodeRecord (record_of 2 (Empty ∷ first ∷ Empty ∷ Empty ∷ []) (node_tag (0 ∷ []) 1 None))
  pub active_past : IsNoNodeRecord (record_of 2 (first ∷ first ∷ Empty ∷ Empty ∷ []) (node_tag (2 ∷ []) 1 None))
  -- one bank is active twice
  pub active_twice : IsNoNodeRecord (record_of 3 (first ∷ first ∷ Empty ∷ Empty ∷ []) (node_tag (0 ∷ 0 ∷ []) 2 None))
  -- the job's bank is the active one, or isn't there
  pub job_in_active : IsNoNodeRecord (record_of 2 (first ∷ Empty ∷ Empty ∷ Empty ∷ []) (node_tag (0 ∷ []) 0 (Some taken_job)))
  pub job_past : IsNoNodeRecord (record_of 2 (first ∷ Empty ∷ Empty ∷ Empty ∷ []) (node_tag (0 ∷ []) 2 (Some taken_job)))
  -- a bank is Filling without a job, or without parameters
  pub filling_alone : IsNoNodeRecord (two_banks coming None)
  pub filling_unbegun : IsNoNodeRecord (two_banks coming (Some taken_job))
  -- with parameters the bank is Empty, of another log, or of another size
  pub begun_empty : IsNoNodeRecord (two_banks Empty (Some begun_job))
  pub other_log : IsNoNodeRecord (two_banks (Filling 3 13) (Some begun_job))
  pub other_size : IsNoNodeRecord (two_banks (Filling 4 12) (Some begun_job))
  -- stored 2 with the bank Sealed, stored 4 with it Filling, or Sealed with other metadata, stored 5 with parameters
  pub coming_sealed : IsNoNodeRecord (two_banks new (Some begun_job))
  pub verified_filling : IsNoNodeRecord (two_banks coming (Some (job_with Verified (Some begun_with) (meta_at 2) 0)))
  pub verified_other : IsNoNodeRecord (two_banks (Sealed (meta_at 3)) (Some (job_with Verified (Some begun_with) (meta_at 2) 0)))
  pub refused_begun : IsNoNodeRecord (two_banks coming (Some (job_with Refused (Some begun_with) (meta_at 2) 0)))
  -- the version is the active one's, the index has no image, the size is past the bank
  pub equal_version : IsNoNodeRecord (two_banks Empty (Some (job_with Coming None (meta_at 1) 0)))
  pub no_image : IsNoNodeRecord (two_banks Empty (Some (job_with Coming None (meta_at 2) 1)))
  pub too_big : IsNoNodeRecord (two_banks Empty (Some (job_with Coming None (record { size = 4097; version = 2; digest = image_abc.meta.digest }) 0)))
  -- the BLOB part has a job and the note none
  pub half_a_job : IsNoNodeRecord (record_of 2 (first ∷ Empty ∷ Empty ∷ Empty ∷ []) (blob_octets (Some (part_of_job 1 taken_job)) ++ note_octets (record { active = 0 ∷ []; job = None })))
  -- the sizes of the two parts differ
  pub two_sizes : IsNoNodeRecord (record_of 2 (first ∷ Empty ∷ Empty ∷ Empty ∷ []) (blob_octets (Some (record { id = 7; size = 4; base = 0; bank = 1; parameters = None })) ++ note_octets (record { active = 0 ∷ []; job = Some (record { stored = Coming; ttl = 5; meta = meta_at 2; index = 0 }) })))
  -- the old note with three banks
  pub old_of_three : IsNoNodeRecord (record_of 3 (first ∷ first ∷ Empty ∷ Empty ∷ []) (old_node_tag (0 ∷ []) 2 None))

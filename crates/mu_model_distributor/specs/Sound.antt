-- Which states a distributor can be in: what a boot may find, which are the rules on a distributor's record, and what a run may have
-- beside it. The ranges of numbers are those of the messages and of the record's fields.
use Rattle.std.specs.Prelude.{ℕ, ◌≡◌, ◌<◌, ◌≤◌, ◌*◌, ◌^◌, ◌⊎◌, Bool, true, false, List, [], ◌∷◌, length, map, Option, Some, None, MatchOption}
use Rattle.std.specs.List.{All, AllByRecursion}
use Rattle.mu_model_image.specs.declared.Meta.{Meta}
use Rattle.mu_model_image.specs.Meta.{IsMeta, meta_from}
use Rattle.mu_model_node.specs.declared.Parameters.{Parameters}
use Rattle.mu_model_node.specs.UpdateMessages.{UpdateReply, InformationStatus, MetadataStatus, UpdateStatus}
use Rattle.mu_model_node.specs.BlobServer.{CurrentBlock}
use Rattle.mu_model_node.specs.FlashWork.{page_octets}
use Rattle.mu_model_node.specs.Sound.{IsActiveImage, HasBlocks, IsCurrent, BlobRequestFits}
use Rattle.mu_model_client.specs.Client.{Client, rows}
use Rattle.mu_model_client.specs.Answers.{Answer, FromUpdate, FromBlob, BlobAnswer, TransferIs, BlockIs}
use Rattle.mu_model_distributor.specs.Requests.{Settings, Entry, UploadStart, DistRequest, ReceiversAdd, ReceiversGet, DistributionStart, StartUpload}
use Rattle.mu_model_distributor.specs.Replies.{most_receivers, most_images}
use Rattle.mu_model_distributor.specs.DistMessages.{Taken, OfDistribution, OfBlob, OfReceiver}
use Rattle.mu_model_distributor.specs.DistState.{StoredImage, Receiver, UploadJob, Upload, Uploading, job_of, DistPhase, Idle, DistDurable, DistState, is_at_rest, receiver_of, progress_of}
use Rattle.mu_model_distributor.specs.Receivers.{has_address, is_stored_in}

-- ---- what a boot may find

-- none, or a group's address
abbrev pub IsGroup : ℕ → Type 0
IsGroup group = (group ≡ 0) ⊎ ((0xC000 ≤ group) × (group ≤ 0xFFFF))

pub record AreSettings (s : Settings) : Type 0 where
  pub appkey : s.appkey ≤ 4095
  pub ttl : s.ttl < 256
  pub base : s.base < 65536
  pub mode_above : 1 ≤ s.mode
  pub mode_below : s.mode ≤ 2
  pub policy : s.policy ≤ 1
  pub image : s.image < 65536
  pub group : IsGroup s.group

-- before the first distribution
abbrev pub no_settings : Settings
no_settings = record { appkey = 0; ttl = 0; base = 0; mode = 0; policy = 0; image = 0; group = 0 }

pub record IsReceiver (r : Receiver) : Type 0 where
  pub address_above : 1 ≤ r.address
  pub address_below : r.address ≤ 0x7FFF
  pub index : r.index < 256
  pub phase : r.phase ≤ 10
  pub update_status : r.update_status < 8
  pub transfer_status : r.transfer_status ≤ 10

abbrev pub AreReceivers : List Receiver → Type 0
AreReceivers receivers = AllByRecursion IsReceiver receivers

-- no two have one address
abbrev pub AddressesDiffer : List Receiver → Type 0
AddressesDiffer [] = Unit {0}
AddressesDiffer (r ∷ receivers) = (has_address receivers r.address ≡ false) × AddressesDiffer receivers

-- an image that fits its metadata and its bank
pub record IsStored (capacity : ℕ) (x : StoredImage) : Type 0 where
  pub bank : x.bank < most_images
  pub meta : IsMeta x.image.meta
  pub image : IsActiveImage capacity x.image

abbrev pub AreStored : ℕ → List StoredImage → Type 0
AreStored capacity images = AllByRecursion (IsStored capacity) images

-- no two are in one bank
abbrev pub BanksDiffer : List StoredImage → Type 0
BanksDiffer [] = Unit {0}
BanksDiffer (x ∷ images) = (is_stored_in images x.bank ≡ false) × BanksDiffer images

-- an upload: it goes to a bank without an image, its metadata have its size, and its blocks are as its parameters say
pub record IsUploadJob (capacity : ℕ) (images : List StoredImage) (offered : Meta) (j : UploadJob) : Type 0 where
  pub id : j.transfer.id < 2 ^ 64
  pub base : j.transfer.base < 65536
  pub bank : j.bank < most_images
  pub free : is_stored_in images j.bank ≡ false
  pub meta : IsMeta offered
  pub size : offered.size ≡ j.transfer.size
  pub room : j.transfer.size ≤ capacity
  pub blocks : HasBlocks j.transfer.size j.transfer.parameters j.transfer.held

abbrev pub HasUploadJob : ℕ → List StoredImage → Meta → Option UploadJob → Type 0
HasUploadJob capacity images meta None = Unit {0}
HasUploadJob capacity images meta (Some j) = IsUploadJob capacity images meta j

-- the metadata of the last upload, or octets 0
pub record AreMetaNumbers (meta : Meta) : Type 0 where
  pub size : meta.size < 2 ^ 32
  pub version : meta.version < 2 ^ 32
  pub digest_length : length meta.digest ≡ 32
  pub digest_octets : All (λ octet. octet < 256) meta.digest

-- an upload comes only while there is no distribution
abbrev pub HasUpload : DistPhase → Upload → Type 0
HasUpload phase (Uploading j) = is_at_rest phase ≡ true
HasUpload phase _ = Unit {0}

-- a durable state that a boot may find: the rules on a distributor's record
pub record IsDistDurable (d : DistDurable) : Type 0 where
  pub capacity : (pages : ℕ) × (1 ≤ pages) × (pages ≤ 256) × (d.capacity ≡ page_octets * pages)
  pub images : AreStored d.capacity d.images
  pub banks : BanksDiffer d.images
  pub counter : d.counter < 2 ^ 48
  -- before the first distribution, and from then on
  pub unbegun : d.counter ≡ 0 → (d.phase ≡ Idle) × (d.settings ≡ no_settings)
  pub begun : 0 < d.counter → AreSettings d.settings
  -- a distribution has an image and a receiver
  pub image : is_at_rest d.phase ≡ false → d.settings.image < length d.images
  pub some_receiver : is_at_rest d.phase ≡ false → 0 < length d.receivers
  pub receivers : AreReceivers d.receivers
  pub addresses : AddressesDiffer d.receivers
  pub few_receivers : length d.receivers ≤ most_receivers
  pub upload_ttl : d.upload_ttl < 256
  pub upload_meta : AreMetaNumbers d.upload_meta
  pub upload_job : HasUploadJob d.capacity d.images d.upload_meta (job_of d.upload)
  pub upload : HasUpload d.phase d.upload

-- ---- what a run may have

-- a current block is one of an upload whose blocks come
pub record IsCurrentOf (job : Option UploadJob) (c : CurrentBlock) : Type 0 where
  pub of : UploadJob
  pub is : job ≡ Some of
  pub parameters : Parameters
  pub has : of.transfer.parameters ≡ Some parameters
  pub current : IsCurrent parameters of.transfer.held c

abbrev pub HasCurrent : Option UploadJob → Option CurrentBlock → Type 0
HasCurrent job None = Unit {0}
HasCurrent job (Some c) = IsCurrentOf job c

-- a distribution has a client, and its rows are those that are kept, with their progress
pub record HasRows (kept : List Receiver) (percents : List ℕ) (c : Client) : Type 0 where
  pub receivers : map receiver_of (rows c) ≡ kept
  pub progress : map progress_of (rows c) ≡ percents

abbrev pub HasClient : Bool → List Receiver → List ℕ → Option Client → Type 0
HasClient true receivers progress client = client ≡ None
HasClient false receivers progress None = ⊥
HasClient false receivers progress (Some c) = HasRows receivers progress c

-- a state that a run may be in
pub record IsDistState (s : DistState) : Type 0 where
  pub durable : IsDistDurable s.durable
  pub fresh : s.fresh ≤ 3
  pub current : HasCurrent (job_of s.durable.upload) s.session.current
  pub client : HasClient (is_at_rest s.durable.phase) s.durable.receivers s.progress s.client
  pub progress : length s.progress ≡ length s.durable.receivers
  pub percents : AllByRecursion (λ n. n ≤ 100) s.progress

-- ---- what messages may say

pub record IsEntry (e : Entry) : Type 0 where
  pub address_above : 1 ≤ e.address
  pub address_below : e.address ≤ 0x7FFF
  pub index : e.index < 256

pub record IsUploadStart (u : UploadStart) : Type 0 where
  pub ttl : u.ttl < 256
  pub base : u.base < 65536
  pub id : u.id < 2 ^ 64
  pub metadata : MatchOption (meta_from u.metadata) (Unit {0}) IsMeta

abbrev pub DistRequestFits : DistRequest → Type 0
DistRequestFits (ReceiversAdd entries) = AllByRecursion IsEntry entries
DistRequestFits (ReceiversGet first limit) = first < 65536
DistRequestFits (DistributionStart (Some settings)) = AreSettings settings
DistRequestFits (StartUpload u) = IsUploadStart u
DistRequestFits _ = Unit {0}

abbrev pub UpdateAnswerFits : UpdateReply → Type 0
UpdateAnswerFits (MetadataStatus status index) = status < 8
UpdateAnswerFits (UpdateStatus status phase job) = status < 8
UpdateAnswerFits (InformationStatus count first ids) = Unit {0}

abbrev pub BlobAnswerFits : BlobAnswer → Type 0
BlobAnswerFits (TransferIs status phase id parameters blocks) = status ≤ 10
BlobAnswerFits (BlockIs status block size report) = status ≤ 10
BlobAnswerFits _ = Unit {0}

abbrev pub AnswerFits : Answer → Type 0
AnswerFits (FromUpdate reply) = UpdateAnswerFits reply
AnswerFits (FromBlob answer) = BlobAnswerFits answer

abbrev pub TakenFits : Taken → Type 0
TakenFits (OfDistribution request) = DistRequestFits request
TakenFits (OfBlob request) = BlobRequestFits request
TakenFits (OfReceiver answer) = AnswerFits answer

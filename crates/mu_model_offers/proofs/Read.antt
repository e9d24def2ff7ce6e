-- Of what a distributor sends, only an Update Start is read as one.
use Rattle.std.proofs.Common.{◌≡◌, ◌<◌, ℕ, ◌+◌, ◌*◌, ◌%◌, Bool, true, false, List, [], ◌∷◌, length, refl, sym, subst, cond, arith, Option, Some, None, Result, Ok, Err}
use Rattle.std.specs.Prelude.{◌==◌, nat_lt}
use Rattle.mu_model_wire.specs.Fields.{Message}
use Rattle.mu_model_wire.specs.Opcodes.{OneOctetIsKept, TwoOctetsAreKept}
use Rattle.mu_model_wire.specs.Reading.{message_at}
use Rattle.mu_model_wire.specs.Table.{rows}
use Rattle.mu_model_wire.specs.declared.Refusal.{Refusal}
use Rattle.mu_model_node.specs.UpdateMessages.{UpdateRequest, InformationGet, MetadataCheck, UpdateGet, StartUpdate, UpdateCancel, UpdateApply, update_request_of}
use Rattle.mu_model_node.specs.BlobMessages.{BlobRequest, TransferGet, TransferStart, TransferCancel, BlockStart, BlockGet, BlobInformationGet, ChunkTransfer, BlobReply, BlobInformationStatus, TransferStatus, BlockStatus, PartialBlockReport, blob_request_of}
use Rattle.mu_model_node.specs.NodeMessages.{Request, OfUpdate, OfBlob, either_request, request_in, request_at}
use Rattle.mu_model_distributor.specs.Replies.{DistReply, ReceiversStatus, ReceiversList, CapabilitiesStatus, DistributionStatus, UploadStatus, FirmwareStatus}
use Rattle.mu_model_distributor.specs.DistMessages.{ByDistribution, ByBlob, ByClient, sent_octets}

-- ---- another opcode

abbrev UpdateIsOther : Option UpdateRequest → Type 0
UpdateIsOther (Some (StartUpdate u)) = ⊥
UpdateIsOther _ = Unit {0}

abbrev pub IsOther : Option Request → Type 0
IsOther (Some (OfUpdate (StartUpdate u))) = ⊥
IsOther _ = Unit {0}

either : (b : Bool) (x y : Option UpdateRequest) → UpdateIsOther x → UpdateIsOther y → UpdateIsOther (cond b x y)
either true x y h k = h
either false x y h k = k

passed : (b : Bool) (x y : Option UpdateRequest) → b ≡ false → UpdateIsOther y → UpdateIsOther (cond b x y)
passed true x y e k = cc
passed false x y e k = k

update_other : (m : Message) → (m.opcode == 0x830D) ≡ false → UpdateIsOther (update_request_of m)
update_other m n =
    either (m.opcode == 0x8308) _ _ tt
    (either (m.opcode == 0x830A) _ _ tt
    (either (m.opcode == 0x830C) _ _ tt (passed (m.opcode == 0x830D) _ _ n (either (m.opcode == 0x830E) _ _ tt (either (m.opcode == 0x830F) _ _ tt tt)))))

request_other : (update : Option UpdateRequest) (blob : Option BlobRequest) → UpdateIsOther update → IsOther (either_request update blob)
request_other (Some (StartUpdate u)) blob h = h
request_other (Some (InformationGet first limit)) blob h = tt
request_other (Some (MetadataCheck index metadata)) blob h = tt
request_other (Some UpdateGet) blob h = tt
request_other (Some UpdateCancel) blob h = tt
request_other (Some UpdateApply) blob h = tt
request_other None (Some request) h = tt
request_other None None h = tt

other : (opcode : ℕ) (r : Result Message Refusal) → ((m : Message) → r ≡ Ok m → m.opcode ≡ opcode) → (opcode == 0x830D) ≡ false → IsOther (request_in r)
other opcode (Ok m) keeps n = request_other _ (blob_request_of m) (update_other m (subst (λ (o : ℕ). (o == 0x830D) ≡ false) (sym (keeps m refl)) n))
other opcode (Err e) keeps n = tt

-- ---- what is sent

module _ (one : OneOctetIsKept) (two : TwoOctetsAreKept) where
  other_83 : (bytes : List ℕ) (low : ℕ) (body : List ℕ) → bytes ≡ 0x83 ∷ low ∷ body → (0x83 * 256 + low == 0x830D) ≡ false → IsOther (request_at bytes)
  other_83 bytes low body e n = rw e (other (0x83 * 256 + low) (message_at rows (0x83 ∷ low ∷ body)) (two rows 0x83 low body (omega arith) (omega arith)) n)

  other_66 : (bytes body : List ℕ) → bytes ≡ 0x66 ∷ body → IsOther (request_at bytes)
  other_66 bytes body e = rw e (other 0x66 (message_at rows (0x66 ∷ body)) (one rows 0x66 body (omega arith)) refl)

  other_67 : (bytes body : List ℕ) → bytes ≡ 0x67 ∷ body → IsOther (request_at bytes)
  other_67 bytes body e = rw e (other 0x67 (message_at rows (0x67 ∷ body)) (one rows 0x67 body (omega arith)) refl)

  other_68 : (bytes body : List ℕ) → bytes ≡ 0x68 ∷ body → IsOther (request_at bytes)
  other_68 bytes body e = rw e (other 0x68 (message_at rows (0x68 ∷ body)) (one rows 0x68 body (omega arith)) refl)

  pub reply_other : (reply : DistReply) → IsOther (request_at (sent_octets (ByDistribution reply)))
  reply_other (ReceiversStatus result count) = other_83 (sent_octets (ByDistribution (ReceiversStatus result count))) 0x13 _ refl refl
  reply_other (ReceiversList all from given) = other_83 (sent_octets (ByDistribution (ReceiversList all from given))) 0x15 _ refl refl
  reply_other (CapabilitiesStatus capacity empty) = other_83 (sent_octets (ByDistribution (CapabilitiesStatus capacity empty))) 0x17 _ refl refl
  reply_other (DistributionStatus result stage settings) = other_83 (sent_octets (ByDistribution (DistributionStatus result stage settings))) 0x1D _ refl refl
  reply_other (UploadStatus result stage upload) = other_83 (sent_octets (ByDistribution (UploadStatus result stage upload))) 0x22 _ refl refl
  reply_other (FirmwareStatus result stored place found) = other_83 (sent_octets (ByDistribution (FirmwareStatus result stored place found))) 0x27 _ refl refl

  pub blob_other : (reply : BlobReply) → IsOther (request_at (sent_octets (ByBlob reply)))
  blob_other (BlobInformationStatus capacity) = other_83 (sent_octets (ByBlob (BlobInformationStatus capacity))) 0x07 _ refl refl
  blob_other (TransferStatus result means stage transfer parameters absent) = other_83 (sent_octets (ByBlob (TransferStatus result means stage transfer parameters absent))) 0x03 _ refl refl
  blob_other (BlockStatus result n octets report) = other_67 (sent_octets (ByBlob (BlockStatus result n octets report))) _ refl
  blob_other (PartialBlockReport chunks) = other_68 (sent_octets (ByBlob (PartialBlockReport chunks))) _ refl

  pub transfer_other : (request : BlobRequest) → IsOther (request_at (sent_octets (ByClient (OfBlob request))))
  transfer_other TransferGet = other_83 (sent_octets (ByClient (OfBlob TransferGet))) 0x00 _ refl refl
  transfer_other (TransferStart transfer p) = other_83 (sent_octets (ByClient (OfBlob (TransferStart transfer p)))) 0x01 _ refl refl
  transfer_other (TransferCancel transfer) = other_83 (sent_octets (ByClient (OfBlob (TransferCancel transfer)))) 0x02 _ refl refl
  transfer_other (BlockStart block length) = other_83 (sent_octets (ByClient (OfBlob (BlockStart block length)))) 0x04 _ refl refl
  transfer_other BlockGet = other_83 (sent_octets (ByClient (OfBlob BlockGet))) 0x05 _ refl refl
  transfer_other BlobInformationGet = other_83 (sent_octets (ByClient (OfBlob BlobInformationGet))) 0x06 _ refl refl
  transfer_other (ChunkTransfer chunk part) = other_66 (sent_octets (ByClient (OfBlob (ChunkTransfer chunk part)))) _ refl

  pub information_other : (first limit : ℕ) → IsOther (request_at (sent_octets (ByClient (OfUpdate (InformationGet first limit)))))
  information_other first limit = other_83 (sent_octets (ByClient (OfUpdate (InformationGet first limit)))) 0x08 _ refl refl

  pub check_other : (index : ℕ) (metadata : List ℕ) → IsOther (request_at (sent_octets (ByClient (OfUpdate (MetadataCheck index metadata)))))
  check_other index metadata = other_83 (sent_octets (ByClient (OfUpdate (MetadataCheck index metadata)))) 0x0A _ refl refl

  pub get_other : IsOther (request_at (sent_octets (ByClient (OfUpdate UpdateGet))))
  get_other = other_83 (sent_octets (ByClient (OfUpdate UpdateGet))) 0x0C _ refl refl

  pub cancel_other : IsOther (request_at (sent_octets (ByClient (OfUpdate UpdateCancel))))
  cancel_other = other_83 (sent_octets (ByClient (OfUpdate UpdateCancel))) 0x0E _ refl refl

  pub apply_other : IsOther (request_at (sent_octets (ByClient (OfUpdate UpdateApply))))
  apply_other = other_83 (sent_octets (ByClient (OfUpdate UpdateApply))) 0x0F _ refl refl

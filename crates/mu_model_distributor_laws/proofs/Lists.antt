-- Each Receivers List that a distributor sends shows its rows.
use Rattle.std.proofs.Common.{◌≡◌, ◌<◌, ◌≤◌, ℕ, ◌+◌, ◌*◌, ◌/◌, Bool, true, false, List, [], ◌∷◌, length, map, refl, ap, subst, cond, arith, Option, Some, None, Result, Ok, Err}
use Rattle.std.specs.Prelude.{◌==◌, ◌%◌, nat_lt}
use Rattle.std.proofs.lemmas.Bool.{le-ltb, ne_eqb}
use Rattle.std.specs.List.{AllByRecursion}
use Rattle.mu_model_wire.specs.Fields.{Message}
use Rattle.mu_model_wire.specs.Opcodes.{OneOctetIsKept, TwoOctetsAreKept}
use Rattle.mu_model_wire.specs.Distribution.{row_fields}
use Rattle.mu_model_wire.specs.Reading.{message_at}
use Rattle.mu_model_wire.specs.Spelling.{entries_spelling, Fits, EntryFits, EntriesFit}
use Rattle.mu_model_wire.specs.Table.{rows}
use Rattle.mu_model_wire.specs.declared.Refusal.{Refusal}
use Rattle.mu_model_wire.specs.Laws.{CanonicalIsRead, GrammarHolds}
use Rattle.mu_model_node.specs.UpdateMessages.{InformationGet, MetadataCheck, UpdateGet, StartUpdate, UpdateCancel, UpdateApply}
use Rattle.mu_model_node.specs.BlobMessages.{TransferGet, TransferStart, TransferCancel, BlockStart, BlockGet, BlobInformationGet, ChunkTransfer, BlobReply, BlobInformationStatus, TransferStatus, BlockStatus, PartialBlockReport}
use Rattle.mu_model_node.specs.NodeMessages.{Request, OfUpdate, OfBlob}
use Rattle.mu_model_client.specs.Rows.{Row}
use Rattle.mu_model_distributor.specs.DistMessages.{ByDistribution, ByBlob, ByClient, sent_octets}
use Rattle.mu_model_distributor.specs.Replies.{ReceiversList, row_shown, dist_message_of}
use Rattle.mu_model_distributor_laws.specs.Lists.{row_told, list_in, list_at}

-- ---- other messages

-- what is read of another opcode is no list
other : (opcode : ℕ) (r : Result Message Refusal) → ((m : Message) → r ≡ Ok m → m.opcode ≡ opcode) → (opcode == 0x8315) ≡ false → list_in r ≡ None
other opcode (Ok m) keeps n =
    let same : m.opcode ≡ opcode = keeps m refl in
    rw (same, n) refl
other opcode (Err e) keeps n = refl

-- ---- a list

-- a row in the ranges of the grammar
pub record IsRow (row : Row) : Type 0 where
  pub address_above : 1 ≤ row.address
  pub address_below : row.address ≤ 0x7FFF
  pub index : row.index < 256
  pub phase : row.phase ≤ 10
  pub update_status : row.update_status < 8
  pub transfer_status : row.transfer_status ≤ 10
  pub progress : row.progress ≤ 100
  pub even : 2 * (row.progress / 2) ≡ row.progress

row_fits : (row : Row) → IsRow row → EntryFits row_fields (row_shown row)
row_fits row h =
    ((refl, h.address_above, h.address_below, (refl, omega arith, h.phase, (refl, omega arith, omega (arith, h.update_status), (refl, omega arith, h.transfer_status, (refl, omega arith, omega (arith, h.progress), (refl, omega arith, omega (arith, h.index), tt)))))), refl)

rows_fit : (given : List Row) → AllByRecursion IsRow given → EntriesFit row_fields (map row_shown given)
rows_fit [] h = tt
rows_fit (row ∷ given) h = (row_fits row h.0, rows_fit given h.1)

rows_length : (given : List Row) → length (entries_spelling row_fields (map row_shown given)) ≡ 5 * length given
rows_length [] = refl
rows_length (row ∷ given) = omega (arith, rows_length given)

rows_again : (given : List Row) → AllByRecursion IsRow given → map row_told (map row_shown given) ≡ given
rows_again [] h = refl
rows_again (row ∷ given) h = rw (rows_again given h.1, h.0.even) refl

pub list_again : CanonicalIsRead → GrammarHolds → (all first : ℕ) (given : List Row) → all < 65536 → first < 65536 → length given ≤ 74 → AllByRecursion IsRow given → list_at (sent_octets (ByDistribution (ReceiversList all first given))) ≡ Some given
list_again again grammar all first given a f few h =
    let fits : Fits rows (dist_message_of (ReceiversList all first given)) = (((refl, a), ((refl, f), (refl, omega arith, rows_fit given h))), omega (arith, rows_length given)) in
    let read : message_at rows (sent_octets (ByDistribution (ReceiversList all first given))) ≡ Ok (dist_message_of (ReceiversList all first given)) = again rows (dist_message_of (ReceiversList all first given)) grammar fits in
    rw read (ap Some (rows_again given h))

-- ---- what is sent

module _ (one : OneOctetIsKept) (two : TwoOctetsAreKept) where
  pub no_list : (bytes : List ℕ) (low : ℕ) (body : List ℕ) → bytes ≡ 0x83 ∷ low ∷ body → (0x83 * 256 + low == 0x8315) ≡ false → list_at bytes ≡ None
  no_list bytes low body e n = rw e (other (0x83 * 256 + low) (message_at rows (0x83 ∷ low ∷ body)) (two rows 0x83 low body (omega arith) (omega arith)) n)

  no_list_of : (bytes : List ℕ) (a : ℕ) (body : List ℕ) → bytes ≡ a ∷ body → a < 0x80 → (a == 0x8315) ≡ false → list_at bytes ≡ None
  no_list_of bytes a body e small n = rw e (other a (message_at rows (a ∷ body)) (one rows a body small) n)

  no_list_66 : (bytes body : List ℕ) → bytes ≡ 0x66 ∷ body → list_at bytes ≡ None
  no_list_66 bytes body e = no_list_of bytes 0x66 body e (omega arith) refl

  no_list_67 : (bytes body : List ℕ) → bytes ≡ 0x67 ∷ body → list_at bytes ≡ None
  no_list_67 bytes body e = no_list_of bytes 0x67 body e (omega arith) refl

  no_list_68 : (bytes body : List ℕ) → bytes ≡ 0x68 ∷ body → list_at bytes ≡ None
  no_list_68 bytes body e = no_list_of bytes 0x68 body e (omega arith) refl

  pub client_other : (request : Request) → list_at (sent_octets (ByClient request)) ≡ None
  client_other (OfUpdate (InformationGet first limit)) = no_list (sent_octets (ByClient (OfUpdate (InformationGet first limit)))) 0x08 _ refl refl
  client_other (OfUpdate (MetadataCheck index metadata)) = no_list (sent_octets (ByClient (OfUpdate (MetadataCheck index metadata)))) 0x0A _ refl refl
  client_other (OfUpdate UpdateGet) = no_list (sent_octets (ByClient (OfUpdate UpdateGet))) 0x0C _ refl refl
  client_other (OfUpdate (StartUpdate u)) = no_list (sent_octets (ByClient (OfUpdate (StartUpdate u)))) 0x0D _ refl refl
  client_other (OfUpdate UpdateCancel) = no_list (sent_octets (ByClient (OfUpdate UpdateCancel))) 0x0E _ refl refl
  client_other (OfUpdate UpdateApply) = no_list (sent_octets (ByClient (OfUpdate UpdateApply))) 0x0F _ refl refl
  client_other (OfBlob TransferGet) = no_list (sent_octets (ByClient (OfBlob TransferGet))) 0x00 _ refl refl
  client_other (OfBlob (TransferStart transfer p)) = no_list (sent_octets (ByClient (OfBlob (TransferStart transfer p)))) 0x01 _ refl refl
  client_other (OfBlob (TransferCancel transfer)) = no_list (sent_octets (ByClient (OfBlob (TransferCancel transfer)))) 0x02 _ refl refl
  client_other (OfBlob (BlockStart block length)) = no_list (sent_octets (ByClient (OfBlob (BlockStart block length)))) 0x04 _ refl refl
  client_other (OfBlob BlockGet) = no_list (sent_octets (ByClient (OfBlob BlockGet))) 0x05 _ refl refl
  client_other (OfBlob BlobInformationGet) = no_list (sent_octets (ByClient (OfBlob BlobInformationGet))) 0x06 _ refl refl
  client_other (OfBlob (ChunkTransfer chunk part)) = no_list_66 (sent_octets (ByClient (OfBlob (ChunkTransfer chunk part)))) _ refl

  pub blob_other : (reply : BlobReply) → list_at (sent_octets (ByBlob reply)) ≡ None
  blob_other (BlobInformationStatus capacity) = no_list (sent_octets (ByBlob (BlobInformationStatus capacity))) 0x07 _ refl refl
  blob_other (TransferStatus result means stage transfer parameters absent) = no_list (sent_octets (ByBlob (TransferStatus result means stage transfer parameters absent))) 0x03 _ refl refl
  blob_other (BlockStatus result n octets report) = no_list_67 (sent_octets (ByBlob (BlockStatus result n octets report))) _ refl
  blob_other (PartialBlockReport chunks) = no_list_68 (sent_octets (ByBlob (PartialBlockReport chunks))) _ refl

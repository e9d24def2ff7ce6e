-- What a node and a distributor read in a message is in the ranges of the grammar.
use Rattle.std.proofs.Common.{◌≡◌, ◌≤◌, ◌<◌, Bool, true, false, List, refl, cond, arith, Option, Some, None}
use Rattle.std.specs.Prelude.{◌==◌, MatchOption}
use Rattle.mu_model_wire.specs.Fields.{Shown, Message}
use Rattle.mu_model_wire.specs.Names.{ttl, base, id, index, first, limit, metadata, block, chunk_size, chunk, octets, status}
use Rattle.mu_model_wire.specs.Blob.{transfer_start, transfer_cancel, transfer_status, block_start, block_status, chunk_transfer}
use Rattle.mu_model_wire.specs.Update.{information_get, metadata_check, metadata_status, update_start, update_status}
use Rattle.mu_model_wire.specs.Reading.{value_of}
use Rattle.mu_model_node.specs.BlobMessages.{BlobRequest, TransferStart, TransferCancel, BlockStart, ChunkTransfer, octets_of, parameters_of, blob_request_of}
use Rattle.mu_model_node.specs.UpdateMessages.{UpdateRequest, InformationGet, MetadataCheck, StartUpdate, update_request_of}
use Rattle.mu_model_node.specs.NodeMessages.{either_request, request_of}
use Rattle.mu_model_node.specs.Sound.{AreInRange, BlobRequestFits}
use Rattle.mu_model_client.specs.Answers.{answer_of}
use Rattle.mu_model_client_laws.specs.Wire.{UpdateInRange, BlobInRange, InRange}
use Rattle.mu_model_distributor.specs.Sound.{AnswerFits}
use Rattle.mu_model_packets.proofs.Tested.{FieldsTested, IsTested, row_of}

-- what is said, if anything, is as P says
abbrev Says : {A : Type 0} → (A → Type 0) → Option A → Type 0
Says P said = MatchOption said (Unit {0}) P

choice : {A : Type 0} (P : A → Type 0) (b : Bool) (x y : Option A) → (b ≡ true → Says P x) → Says P y → Says P (cond b x y)
choice P true x y h k = h refl
choice P false x y h k = k

-- ---- requests of an update

get_in_range : (fields : List Shown) → FieldsTested information_get fields → UpdateInRange (InformationGet (value_of first fields) (value_of limit fields))
get_in_range fields h = rw (h.is, h.next.is) (h.fits, h.next.fits)

check_in_range : (fields : List Shown) → FieldsTested metadata_check fields → UpdateInRange (MetadataCheck (value_of index fields) (octets_of metadata fields))
check_in_range fields h = rw (h.is, h.next.is) (h.fits, h.next.at_most)

start_in_range : (fields : List Shown) → FieldsTested update_start fields
    → UpdateInRange (StartUpdate (record { ttl = value_of ttl fields; base = value_of base fields; id = value_of id fields; index = value_of index fields; metadata = octets_of metadata fields }))
start_in_range fields h =
    rw (h.is, h.next.is, h.next.next.is, h.next.next.next.is, h.next.next.next.next.is) (record {
      ttl = h.fits;
      base = h.next.fits;
      id = h.next.next.fits;
      index = h.next.next.next.fits;
      metadata = h.next.next.next.next.at_most;
    })

-- ---- requests of a transfer

transfer_in_range : (fields : List Shown) → FieldsTested transfer_start fields → BlobInRange (TransferStart (value_of id fields) (parameters_of fields))
transfer_in_range fields h =
    let size = h.next.next in
    let log = size.next in
    let mtu = log.next in
    rw (h.is, h.next.is, size.is, log.is, mtu.is) (
      h.next.fits,
      record {
        mode_least = h.fits.0;
        mode_most = h.fits.1;
        size_least = size.fits.0;
        size_most = omega (arith, size.fits.1);
        log_least = log.fits.0;
        log_most = log.fits.1;
        mtu_least = mtu.fits.0;
        mtu_most = omega (arith, mtu.fits.1);
      },
    )

cancel_in_range : (fields : List Shown) → FieldsTested transfer_cancel fields → BlobInRange (TransferCancel (value_of id fields))
cancel_in_range fields h = rw h.is h.fits

block_in_range : (fields : List Shown) → FieldsTested block_start fields → BlobInRange (BlockStart (value_of block fields) (value_of chunk_size fields))
block_in_range fields h = rw (h.is, h.next.is) (h.fits, h.next.fits)

chunk_in_range : (fields : List Shown) → FieldsTested chunk_transfer fields → BlobInRange (ChunkTransfer (value_of chunk fields) (octets_of octets fields))
chunk_in_range fields h = rw (h.is, h.next.is) (h.fits, h.next.at_least, h.next.at_most)

-- ---- what a node takes

update_asks : (m : Message) → IsTested m → Says UpdateInRange (update_request_of m)
update_asks m h =
    choice UpdateInRange (m.opcode == 0x8308) _ _ (λ e. get_in_range m.fields (row_of m 0x8308 information_get h e refl))
    (choice UpdateInRange (m.opcode == 0x830A) _ _ (λ e. check_in_range m.fields (row_of m 0x830A metadata_check h e refl))
    (choice UpdateInRange (m.opcode == 0x830C) _ _ (λ e. tt)
    (choice UpdateInRange (m.opcode == 0x830D) _ _ (λ e. start_in_range m.fields (row_of m 0x830D update_start h e refl))
    (choice UpdateInRange (m.opcode == 0x830E) _ _ (λ e. tt)
    (choice UpdateInRange (m.opcode == 0x830F) _ _ (λ e. tt) tt)))))

blob_asks : (m : Message) → IsTested m → Says BlobInRange (blob_request_of m)
blob_asks m h =
    choice BlobInRange (m.opcode == 0x8300) _ _ (λ e. tt)
    (choice BlobInRange (m.opcode == 0x8301) _ _ (λ e. transfer_in_range m.fields (row_of m 0x8301 transfer_start h e refl))
    (choice BlobInRange (m.opcode == 0x8302) _ _ (λ e. cancel_in_range m.fields (row_of m 0x8302 transfer_cancel h e refl))
    (choice BlobInRange (m.opcode == 0x8304) _ _ (λ e. block_in_range m.fields (row_of m 0x8304 block_start h e refl))
    (choice BlobInRange (m.opcode == 0x8305) _ _ (λ e. tt)
    (choice BlobInRange (m.opcode == 0x8306) _ _ (λ e. tt)
    (choice BlobInRange (m.opcode == 0x66) _ _ (λ e. chunk_in_range m.fields (row_of m 0x66 chunk_transfer h e refl)) tt))))))

either_asks : (update : Option UpdateRequest) (blob : Option BlobRequest) → Says UpdateInRange update → Says BlobInRange blob → Says InRange (either_request update blob)
either_asks (Some request) blob h k = h
either_asks None (Some request) h k = k
either_asks None None h k = tt

pub message_asks : (m : Message) → IsTested m → MatchOption (request_of m) (Unit {0}) InRange
message_asks m h = either_asks (update_request_of m) (blob_request_of m) (update_asks m h) (blob_asks m h)

-- ---- what a distributor takes

parameters_in_range : (fields : List Shown) → FieldsTested transfer_start fields → AreInRange (parameters_of fields)
parameters_in_range fields h =
    let size = h.next.next in
    let log = size.next in
    let mtu = log.next in
    rw (h.is, h.next.is, size.is, log.is, mtu.is) (record { some = size.fits.0; mode_above = h.fits.0; mode_below = h.fits.1; mtu_above = mtu.fits.0 })

-- the status that a message shows first
metadata_in_range : (fields : List Shown) → FieldsTested metadata_status fields → value_of status fields < 8
metadata_in_range fields h = rw h.is (omega (arith, h.fits.1))

update_in_range : (fields : List Shown) → FieldsTested update_status fields → value_of status fields < 8
update_in_range fields h = rw h.is (omega (arith, h.fits.1))

transfer_status_in_range : (fields : List Shown) → FieldsTested transfer_status fields → value_of status fields ≤ 10
transfer_status_in_range fields h = rw h.is h.fits.1

block_status_in_range : (fields : List Shown) → FieldsTested block_status fields → value_of status fields ≤ 10
block_status_in_range fields h = rw h.is h.fits.1

pub blob_fits : (m : Message) → IsTested m → MatchOption (blob_request_of m) (Unit {0}) BlobRequestFits
blob_fits m h =
    choice BlobRequestFits (m.opcode == 0x8300) _ _ (λ e. tt)
    (choice BlobRequestFits (m.opcode == 0x8301) _ _ (λ e. parameters_in_range m.fields (row_of m 0x8301 transfer_start h e refl))
    (choice BlobRequestFits (m.opcode == 0x8302) _ _ (λ e. tt)
    (choice BlobRequestFits (m.opcode == 0x8304) _ _ (λ e. tt)
    (choice BlobRequestFits (m.opcode == 0x8305) _ _ (λ e. tt)
    (choice BlobRequestFits (m.opcode == 0x8306) _ _ (λ e. tt)
    (choice BlobRequestFits (m.opcode == 0x66) _ _ (λ e. tt) tt))))))

pub answer_fits : (m : Message) → IsTested m → MatchOption (answer_of m) (Unit {0}) AnswerFits
answer_fits m h =
    choice AnswerFits (m.opcode == 0x8309) _ _ (λ e. tt)
    (choice AnswerFits (m.opcode == 0x830B) _ _ (λ e. metadata_in_range m.fields (row_of m 0x830B metadata_status h e refl))
    (choice AnswerFits (m.opcode == 0x8310) _ _ (λ e. update_in_range m.fields (row_of m 0x8310 update_status h e refl))
    (choice AnswerFits (m.opcode == 0x8307) _ _ (λ e. tt)
    (choice AnswerFits (m.opcode == 0x8303) _ _ (λ e. transfer_status_in_range m.fields (row_of m 0x8303 transfer_status h e refl))
    (choice AnswerFits (m.opcode == 0x67) _ _ (λ e. block_status_in_range m.fields (row_of m 0x67 block_status h e refl))
    (choice AnswerFits (m.opcode == 0x68) _ _ (λ e. tt) tt))))))

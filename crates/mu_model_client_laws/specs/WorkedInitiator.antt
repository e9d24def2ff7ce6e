-- Worked rows of an initiator: what it asks in each step, and how it ends.
use Rattle.std.specs.Prelude.{ℕ, zero, suc, ◌≡◌, ◌+◌, ◌*◌, Bool, true, false, List, [], ◌∷◌, ◌++◌, map, Option, Some, None}
use Rattle.mu_model_image.specs.Meta.{meta_octets, firmware_id, own_company}
use Rattle.mu_model_wire.specs.declared.reports.Report.TheVariants.{All, Nothing}
use Rattle.mu_model_node.specs.BlobMessages.{BlobInformationGet, TransferStart, BlockStart, ChunkTransfer, BlockGet}
use Rattle.mu_model_node.specs.NodeMessages.{OfBlob}
use Rattle.mu_model_client.specs.declared.InitEnd.{InitEnd}
use Rattle.mu_model_client.specs.declared.InitEnd.TheVariants.{Done, Refused, Silent}
use Rattle.mu_model_client.specs.Answers.{BlobAnswer, InformationIs, TransferIs, BlockIs, own_limits}
use Rattle.mu_model_client.specs.Rows.{Row, new_row}
use Rattle.mu_model_client.specs.InitiatorMessages.{UploadStart, UploadGet, DistributionCancel, ReceiversDeleteAll, ReceiversAdd, FirmwareGet, DistributionStart, DistributionGet, ReceiversGet, InitiatorAnswer, UploadIs, DistributionIs, ReceiversAre, FirmwareIs, RowsAre}
use Rattle.mu_model_client.specs.Initiator.{Ask, Initiator, new_initiator, initiator_told, initiator_heard, initiator_due, initiator_end, Asked, ToDistributor, ToServer}
use Rattle.mu_model_client_laws.specs.Worked.{offered, sending, image}

pub data InitEvent : Type 0 where
  Passes : ℕ → InitEvent
  Answers : InitiatorAnswer → ℕ → InitEvent
  Serves : BlobAnswer → ℕ → InitEvent

-- what is left after events, and all that was sent to the distributor at 9
pub record InitRun : Type 0 where
  pub next : Initiator
  pub sent : List (ℕ × Asked)

abbrev pub run : Initiator → List InitEvent → InitRun
run i [] = record { next = i; sent = [] }
run i (Passes now ∷ events) =
    let rest = run (initiator_due i image now).next events in
    record { next = rest.next; sent = (initiator_due i image now).packets ++ rest.sent }
run i (Answers answer now ∷ events) = run (initiator_told i 9 answer now) events
run i (Serves answer now ∷ events) = run (initiator_heard i 9 answer now) events

abbrev pub ask : Bool → Ask
ask apply = record { plan = record { sending = sending 1; meta = offered; apply = apply }; distributor = 9; to = 2 ∷ 3 ∷ [] }

abbrev pub end_of : Bool → List InitEvent → Option InitEnd
end_of apply events = initiator_end (run (new_initiator (ask apply)) events).next

abbrev pub sent_of : Bool → List InitEvent → List Asked
sent_of apply events = map (λ (x : ℕ × Asked). x.1) (run (new_initiator (ask apply)) events).sent

-- ---- events

abbrev pub serves : BlobAnswer → List InitEvent
serves answer = Serves answer 0 ∷ Passes 0 ∷ []

abbrev pub answers : InitiatorAnswer → List InitEvent
answers answer = Answers answer 0 ∷ Passes 0 ∷ []

-- the upload has begun, and its BLOB is sent
abbrev pub to_get : List InitEvent
to_get =
    Passes 0 ∷ answers (UploadIs 0 1) ++ (serves (InformationIs (own_limits 4096))
    ++ (serves (TransferIs 0 2 (Some 7) (Some (record { mode = 1; size = 3; log = 12; mtu = 380 })) (1 ∷ [])) ++ (serves (BlockIs 0 0 200 All) ++ (Passes 0 ∷ []))))

abbrev pub to_uploaded : List InitEvent
to_uploaded = to_get ++ serves (BlockIs 0 0 200 Nothing)

abbrev pub to_watching : List InitEvent
to_watching =
    to_uploaded ++ (answers (UploadIs 0 3) ++ (answers (DistributionIs 0 0) ++ (answers (ReceiversAre 0) ++ (answers (ReceiversAre 0) ++ (answers (FirmwareIs 0 1) ++ answers (DistributionIs 0 1))))))

abbrev pub both_rows : List Row
both_rows = new_row 2 0 ∷ new_row 3 0 ∷ []

-- the distribution has come to this phase, and the rows come one by one
abbrev pub to_lists : ℕ → List InitEvent
to_lists phase =
    to_watching ++ (answers (DistributionIs 0 phase) ++ (answers (RowsAre 2 0 (new_row 2 0 ∷ [])) ++ answers (RowsAre 2 1 (new_row 3 0 ∷ []))))

abbrev pub rounds : ℕ → List InitEvent
rounds zero = []
rounds (suc n) = rounds n ++ (Passes (4100 * (n + 1)) ∷ [])

-- ---- what it asks, in order

abbrev pub asked_in_all : List Asked
asked_in_all =
    ToDistributor (UploadStart (record { ttl = 5; base = 0; id = 7; size = 3; metadata = meta_octets offered; firmware_id = firmware_id own_company offered }))
    ∷ ToServer (OfBlob BlobInformationGet)
    ∷ ToServer (OfBlob (TransferStart 7 (record { mode = 1; size = 3; log = 12; mtu = 380 })))
    ∷ ToServer (OfBlob (BlockStart 0 200)) ∷ ToServer (OfBlob (ChunkTransfer 0 image)) ∷ ToServer (OfBlob BlockGet)
    ∷ ToDistributor UploadGet ∷ ToDistributor DistributionCancel ∷ ToDistributor ReceiversDeleteAll
    ∷ ToDistributor (ReceiversAdd ((2, 0) ∷ (3, 0) ∷ [])) ∷ ToDistributor (FirmwareGet (firmware_id own_company offered))
    ∷ ToDistributor (DistributionStart (record { appkey = 0; ttl = 5; base = 0; mode = 1; policy = 1; image = 1; group = 0 }))
    ∷ ToDistributor DistributionGet ∷ ToDistributor (ReceiversGet 0 74) ∷ ToDistributor (ReceiversGet 1 74) ∷ []

-- ---- how it ends

pub record Initiates : Type 0 where
  pub asked : sent_of true (to_lists 4) ≡ asked_in_all
  pub done : end_of true (to_lists 4) ≡ Some Done
  pub had : (run (new_initiator (ask true)) (to_lists 4)).next.rows ≡ both_rows
  -- an upload that is stored already isn't sent
  pub stored : sent_of true (Passes 0 ∷ answers (UploadIs 0 3)) ≡ ToDistributor (UploadStart (record { ttl = 5; base = 0; id = 7; size = 3; metadata = meta_octets offered; firmware_id = firmware_id own_company offered })) ∷ ToDistributor UploadGet ∷ []
  pub busy : end_of true (Passes 0 ∷ answers (UploadIs 8 0)) ≡ Some (Refused 1 8)
  pub silent : end_of true (Passes 0 ∷ rounds 5) ≡ Some (Silent 1)
  pub four : end_of true (Passes 0 ∷ rounds 4) ≡ None
  -- what the transfer's drops come to: a distributor that has verified answers Block Get with status 4
  pub verified : end_of true (to_get ++ serves (BlockIs 4 0 0 All)) ≡ None
  pub refused : end_of true (to_get ++ serves (BlockIs 5 0 0 All)) ≡ Some (Refused 2 5)
  pub unsent : end_of true (to_get ++ rounds 5) ≡ Some (Silent 2)
  pub failed : end_of true (to_uploaded ++ answers (UploadIs 0 2)) ≡ Some (Refused 3 3)
  -- Transfer Success is enough where nothing is applied
  pub verify_only : end_of false (to_lists 2) ≡ Some Done
  pub waits : end_of true (to_watching ++ answers (DistributionIs 0 2)) ≡ None

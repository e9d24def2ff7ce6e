-- A distributor's step: the state after an event and what is sent, the durable states that the event goes through, its flash work,
-- and how a distributor is made and begins.
use Rattle.std.specs.Prelude.{ℕ, ◌+◌, ◌*◌, max, ◌==◌, ◌&&◌, not, Bool, true, false, List, [], ◌∷◌, ◌++◌, map, Option, Some, None, if◌then◌else◌}
use Rattle.mu_model_wire.specs.Packet.{Packet}
use Rattle.mu_model_image.specs.Meta.{Image}
use Rattle.mu_model_node.specs.BlobServer.{asleep}
use Rattle.mu_model_node.specs.declared.FlashWork.{FlashWork}
use Rattle.mu_model_node.specs.declared.FlashWork.TheVariants.{Untouched}
use Rattle.mu_model_node.specs.FlashWork.{passed_by, work_by, fresh_after, page_octets}
use Rattle.mu_model_node.specs.Events.{NodeEvent, PacketComes, TimeComes, has_record, last_count}
use Rattle.mu_model_distributor.specs.DistMessages.{Taken, taken_at, Sent, sent_packet}
use Rattle.mu_model_distributor.specs.DistState.{Upload, NoUpload, Uploading, Idle, DistDurable, DistState, run_upload, no_progress, job_of}
use Rattle.mu_model_distributor.specs.Commit.{Outcome, is_long}
use Rattle.mu_model_distributor.specs.Receivers.{empty_banks}
use Rattle.mu_model_distributor.specs.Distribution.{no_meta, client_begun}
use Rattle.mu_model_distributor.specs.DistTable.{on_taken}
use Rattle.mu_model_distributor.specs.DistTime.{is_whole, on_time}

-- ---- how it is made

-- a new distributor: its first record has its banks
abbrev pub new_distributor : (pages : ℕ) → DistDurable
new_distributor pages = record {
  count = 1;
  capacity = page_octets * pages;
  images = [];
  phase = Idle;
  counter = 0;
  settings = record { appkey = 0; ttl = 0; base = 0; mode = 0; policy = 0; image = 0; group = 0 };
  receivers = [];
  upload_ttl = 0;
  upload_meta = no_meta;
  upload = NoUpload;
}

abbrev pub stored_in : DistState → Image → List ℕ → DistState
stored_in s image [] = s
stored_in s image (bank ∷ others) = record s {
  durable = record (s.durable) {
    count = s.durable.count + 1;
    images = s.durable.images ++ record { bank = bank; image = image } ∷ [];
  };
  fresh = fresh_after (is_long s.durable) s.fresh;
}

-- an image is put into the lowest empty bank, and one record says so (this profile)
abbrev pub stocked : DistState → Image → DistState
stocked s image = stored_in s image (empty_banks s.durable.images (job_of s.durable.upload))

-- ---- a boot

-- an active upload whose blocks aren't all held was broken off
abbrev pub is_broken_off : Upload → Bool
is_broken_off (Uploading j) = not (is_whole j.transfer)
is_broken_off _ = false

-- after a boot from what was kept, at its address
abbrev pub restarted : ℕ → DistDurable → DistState
restarted address d = client_begun address (record {
  durable = d;
  fresh = 0;
  lags = is_broken_off d.upload;
  session = asleep;
  client = None;
  progress = no_progress d.receivers;
  moment = 0;
})

-- where no event has come yet: as after a boot, which has no fresh slot, or as a new distributor is, whose run made its last record and
-- may still use so many slots after it
abbrev pub live : ℕ → DistDurable → (fresh : ℕ) → DistState
live address d fresh = record (restarted address d) { fresh = fresh }

-- ---- events

-- the state after an event, the messages that are sent, each with its destination, and their packets, whether the event was
-- handled, and what it did to the flash
pub record DistStep : Type 0 where
  pub next : DistState
  pub sends : List (ℕ × Sent)
  pub sent : List Packet
  pub handled : Bool
  pub work : FlashWork

-- the last moment is the greatest that was handed in, with a packet that isn't handled too
abbrev pub at_moment : DistState → ℕ → DistState
at_moment s now = record s { moment = max s.moment now }

abbrev pub passed_over : DistState → DistStep
passed_over s = record { next = s; sends = []; sent = []; handled = false; work = Untouched }

-- packets go out from the distributor's address
abbrev pub stepped : ℕ → Outcome → DistStep
stepped address o = record { next = o.next; sends = o.sends; sent = map (sent_packet address) o.sends; handled = true; work = o.work }

abbrev pub on_packet : ℕ → DistState → ℕ → Option Taken → DistStep
on_packet address s from (Some taken) = stepped address (on_taken address s from taken)
on_packet address s from None = passed_over s

-- a packet is handled where it is addressed to the distributor and its payload is a message that a distributor takes
abbrev pub on_event : ℕ → DistState → NodeEvent → DistStep
on_event address s (PacketComes packet) = if packet.to == address then on_packet address s packet.from (taken_at packet.payload) else passed_over s
on_event address s TimeComes = stepped address (on_time address s (run_upload s))

-- an event at a distributor with this address, at a moment
abbrev pub dist_step : ℕ → DistState → NodeEvent → ℕ → DistStep
dist_step address s event now = on_event address (at_moment s now) event

-- the durable states that an event goes through, the old one first
abbrev pub dist_passed : ℕ → DistState → NodeEvent → ℕ → List DistDurable
dist_passed address s event now = passed_by s.durable (dist_step address s event now).next.durable (dist_step address s event now).work

-- the durable state that stands after each flash operation of an event
abbrev pub dist_work : ℕ → DistState → NodeEvent → ℕ → List DistDurable
dist_work address s event now = work_by s.fresh s.durable (dist_step address s event now).next.durable (dist_step address s event now).work

-- a record is due, and the last was written: such an event isn't done, and the distributor answers Worn
abbrev pub is_worn : ℕ → DistState → NodeEvent → ℕ → Bool
is_worn address s event now = has_record (dist_step address s event now).work && (s.durable.count == last_count)

-- What a node tells, read from its octets, is so after the event.
use Rattle.std.proofs.Common.{◌≡◌, ◌<◌, ◌≤◌, ℕ, zero, suc, ◌+◌, ◌*◌, ◌^◌, Bool, true, false, List, [], ◌∷◌, ◌++◌, length, map, take, drop, refl, sym, ap, subst, cond, arith, length-append, Option, Some, None, Result, Ok, Err}
use Rattle.std.specs.Prelude.{◌==◌, ◌%◌, nat_lt, nat_le, slice_get}
use Rattle.std.specs.List.{AllByRecursion}
use Rattle.std.proofs.lemmas.Bool.{le-ltb, le-leb, ne_eqb}
use Rattle.std.proofs.lemmas.List.{length-map}
use Rattle.byteorder.specs.Endian.{little_number, little_bytes}
use Rattle.mu_model_image.specs.Meta.{Image, firmware_id, own_company}
use Rattle.mu_model_image.specs.Laws.{ImagesHaveMetadata}
use Rattle.mu_model_wire.specs.Fields.{Shown, Message}
use Rattle.mu_model_wire.specs.Names.{id}
use Rattle.mu_model_wire.specs.Update.{entry_fields}
use Rattle.mu_model_wire.specs.Opcodes.{OneOctetIsKept, TwoOctetsAreKept}
use Rattle.mu_model_wire.specs.Reading.{message_at}
use Rattle.mu_model_wire.specs.Spelling.{entry_spelling, entries_spelling, Fits, EntriesFit}
use Rattle.mu_model_wire.specs.Table.{rows}
use Rattle.mu_model_wire.specs.Laws.{CanonicalIsRead, GrammarHolds}
use Rattle.mu_model_wire.specs.declared.Refusal.{Refusal}
use Rattle.mu_model_node.specs.declared.Link.{Link}
use Rattle.mu_model_node.specs.declared.Link.TheVariants.{Cut, Ready, Running}
use Rattle.mu_model_node.specs.declared.Parameters.{Parameters}
use Rattle.mu_model_node.specs.declared.Stored.{Stored}
use Rattle.mu_model_node.specs.declared.Stored.TheVariants.{Filling, Verified, Refused, Applied}
use Rattle.mu_model_node.specs.Slots.{is_full}
use Rattle.mu_model_node.specs.BlobMessages.{BlobReply, BlobInformationStatus, TransferStatus, BlockStatus, PartialBlockReport}
use Rattle.mu_model_node.specs.UpdateMessages.{InformationStatus, MetadataStatus, UpdateStatus, entry_shown, update_message_of}
use Rattle.mu_model_node.specs.NodeMessages.{ByUpdate, ByBlob, reply_octets}
use Rattle.mu_model_node.specs.NodeState.{Job, NodeState, Verifying, update_number, link_phase, filling_phase, stored_phase, job_phase}
use Rattle.mu_model_node.specs.UpdateTable.{shown, update_status_in, update_status}
use Rattle.mu_model_node.specs.Sound.{IsActiveImage, IsNodeState}
use Rattle.mu_model_client.specs.Answers.{FromUpdate, answer_of, answer_in, answer_at, octets_in}
use Rattle.mu_model_told.specs.Laws.{AreJobNumbers, HasNumbers, ids_of, IsSo}

-- ---- opcodes

-- nothing is said by a message of this opcode
abbrev SaysNothing : NodeState → ℕ → Type 0
SaysNothing s opcode = (fields : List Shown) (entries : List (List Shown)) → IsSo s (answer_of (record { opcode = opcode; fields = fields; entries = entries }))

other : (s : NodeState) (opcode : ℕ) (r : Result Message Refusal) → ((m : Message) → r ≡ Ok m → m.opcode ≡ opcode) → SaysNothing s opcode → IsSo s (answer_in r)
other s opcode (Ok m) keeps n =
    let same : opcode ≡ m.opcode = sym (keeps m refl) in
    subst (λ (o : ℕ). IsSo s (answer_of (record { opcode = o; fields = m.fields; entries = m.entries }))) same (n m.fields m.entries)
other s opcode (Err e) keeps n = tt

-- ---- the phase

abbrev Between : ℕ → Type 0
Between n = (1 ≤ n) × (n ≤ 6)

link_number : (j : Job) (link : Link) → Between (update_number (link_phase j link))
link_number j Cut = (omega arith, omega arith)
link_number j Ready = (omega arith, omega arith)
link_number j Running = (omega arith, omega arith)

filling_number : (j : Job) (link : Link) (p : Option Parameters) → Between (update_number (filling_phase j link p))
filling_number j link None = link_number j link
filling_number j link (Some p) = elim (is_full j.held) as (λ b. Between (update_number (cond b (Verifying j) (link_phase j link)))) [ true ↦ (omega arith, omega arith) | false ↦ link_number j link ]

stored_number : (j : Job) (link : Link) (stored : Stored) → Between (update_number (stored_phase j link stored))
stored_number j link Filling = filling_number j link j.parameters
stored_number j link Verified = (omega arith, omega arith)
stored_number j link Refused = (omega arith, omega arith)
stored_number j link Applied = (omega arith, omega arith)

-- ---- an Update Status

idle_read : CanonicalIsRead → GrammarHolds → (status : ℕ) → status < 8 → answer_at (reply_octets (ByUpdate (UpdateStatus status 0 None))) ≡ Some (FromUpdate (UpdateStatus status 0 None))
idle_read again grammar status small =
    let fits : Fits rows (update_message_of (UpdateStatus status 0 None)) = (((refl, omega arith, omega (arith, small), (refl, omega arith, omega arith, tt)), (refl, refl)), omega arith) in
    let read : message_at rows (reply_octets (ByUpdate (UpdateStatus status 0 None))) ≡ Ok (update_message_of (UpdateStatus status 0 None)) = again rows (update_message_of (UpdateStatus status 0 None)) grammar fits in
    rw read refl

job_read : CanonicalIsRead → GrammarHolds → (status n : ℕ) (j : Job) → status < 8 → Between n → AreJobNumbers j → answer_at (reply_octets (ByUpdate (UpdateStatus status n (Some (shown j))))) ≡ Some (FromUpdate (UpdateStatus status n (Some (shown j))))
job_read again grammar status n j small between h =
    let some : (n == 0) ≡ false = ne_eqb n 0 (λ (none : n ≡ 0). omega (arith, between.0)) in
    let fits : Fits rows (update_message_of (UpdateStatus status n (Some (shown j)))) =
    rw some (((refl, omega arith, omega (arith, small), (refl, omega arith, between.1, tt)), ((refl, h.ttl), ((refl, omega arith, omega arith, tt), ((refl, h.base), ((refl, h.id), ((refl, h.index), (refl, refl))))))), omega arith) in
    let read : message_at rows (reply_octets (ByUpdate (UpdateStatus status n (Some (shown j))))) ≡ Ok (update_message_of (UpdateStatus status n (Some (shown j)))) = again rows (update_message_of (UpdateStatus status n (Some (shown j)))) grammar fits in
    let above : nat_le 1 n ≡ true = le-leb 1 n between.0 in
    rw (read, above) refl

status_by : CanonicalIsRead → GrammarHolds → (s : NodeState) (status : ℕ) (job : Option Job) → s.durable.job ≡ job → status < 8 → HasNumbers job → IsSo s (answer_at (reply_octets (ByUpdate (update_status status s))))
status_by again grammar s status None e small h =
    subst (λ job. IsSo s (answer_at (reply_octets (ByUpdate (update_status_in status (job_phase s.session.link job) job))))) (sym e)
    (rw (idle_read again grammar status small) (rw e (refl, refl)))
status_by again grammar s status (Some j) e small h =
    let read = job_read again grammar status (update_number (job_phase s.session.link (Some j))) j small (stored_number j s.session.link j.stored) h in
    subst (λ job. IsSo s (answer_at (reply_octets (ByUpdate (update_status_in status (job_phase s.session.link job) job))))) (sym e)
    (rw read (rw e (refl, refl)))

pub status_so : CanonicalIsRead → GrammarHolds → (s : NodeState) (status : ℕ) → status < 8 → HasNumbers s.durable.job → IsSo s (answer_at (reply_octets (ByUpdate (update_status status s))))
status_so again grammar s status small h = status_by again grammar s status s.durable.job refl small h

-- ---- an Information Status

abbrev AreIds : List (List ℕ) → Type 0
AreIds ids = AllByRecursion (λ (x : List ℕ). length x ≡ 38) ids

ids_fit : (ids : List (List ℕ)) → AreIds ids → EntriesFit entry_fields (map entry_shown ids)
ids_fit [] h = tt
ids_fit (x ∷ ids) h = (((refl, omega (arith, h.0), omega (arith, h.0)), ((refl, omega arith, omega arith), refl)), ids_fit ids h.1)

ids_length : (ids : List (List ℕ)) → AreIds ids → length (entries_spelling entry_fields (map entry_shown ids)) ≡ 40 * length ids
ids_length [] h = refl
ids_length (x ∷ ids) h =
    let one : length (entry_spelling entry_fields (entry_shown x)) ≡ 40 = omega (arith, h.0, length-append x (little_bytes 1 0 ++ [])) in
    omega (arith, one, ids_length ids h.1, length-append (entry_spelling entry_fields (entry_shown x)) (entries_spelling entry_fields (map entry_shown ids)))

ids_again : (ids : List (List ℕ)) → octets_in id (map entry_shown ids) ≡ ids
ids_again [] = refl
ids_again (x ∷ ids) = ap (λ more. x ∷ more) (ids_again ids)

information_read : CanonicalIsRead → GrammarHolds → (all first : ℕ) (ids : List (List ℕ)) → all < 256 → first < 256 → length ids ≤ 2 → AreIds ids → answer_at (reply_octets (ByUpdate (InformationStatus all first ids))) ≡ Some (FromUpdate (InformationStatus all first ids))
information_read again grammar all first ids a f few h =
    let fits : Fits rows (update_message_of (InformationStatus all first ids)) = (((refl, a), ((refl, f), (refl, omega arith, ids_fit ids h))), omega (arith, ids_length ids h, few)) in
    let read : message_at rows (reply_octets (ByUpdate (InformationStatus all first ids))) ≡ Ok (update_message_of (InformationStatus all first ids)) = again rows (update_message_of (InformationStatus all first ids)) grammar fits in
    rw (read, ids_again ids) refl

-- ---- Firmware IDs of active images

id_length : ImagesHaveMetadata → (capacity : ℕ) (image : Image) → capacity < 2 ^ 32 → IsActiveImage capacity image → length (firmware_id own_company image.meta) ≡ 38
id_length law capacity image small h =
    let made = law 0 image.octets (omega (arith, h.some, h.fit.size)) (omega (arith, h.room, h.fit.size, small)) (omega arith) in
    let digest : length image.meta.digest ≡ 32 = subst (λ (os : List ℕ). length os ≡ 32) h.fit.digest made.digest_length in
    omega (arith, digest)

are_ids : ImagesHaveMetadata → (capacity : ℕ) (images : List Image) → capacity < 2 ^ 32 → ((index : ℕ) (image : Image) → slice_get images index ≡ Some image → IsActiveImage capacity image) → AreIds (ids_of images)
are_ids law capacity [] small h = tt
are_ids law capacity (x ∷ images) small h = (id_length law capacity x small (h 0 x refl), are_ids law capacity images small (λ index. h (suc index)))

all_dropped : (n : ℕ) (ids : List (List ℕ)) → AreIds ids → AreIds (drop n ids)
all_dropped zero ids h = h
all_dropped (suc n) [] h = tt
all_dropped (suc n) (x ∷ ids) h = all_dropped n ids h.1

all_taken : (n : ℕ) (ids : List (List ℕ)) → AreIds ids → AreIds (take n ids)
all_taken zero ids h = tt
all_taken (suc n) [] h = tt
all_taken (suc n) (x ∷ ids) h = (h.0, all_taken n ids h.1)

taken_few : (n : ℕ) (ids : List (List ℕ)) → length (take n ids) ≤ length ids
taken_few zero ids = omega arith
taken_few (suc n) [] = omega arith
taken_few (suc n) (x ∷ ids) = omega (arith, taken_few n ids)

dropped_few : (n : ℕ) (ids : List (List ℕ)) → length (drop n ids) ≤ length ids
dropped_few zero ids = omega arith
dropped_few (suc n) [] = omega arith
dropped_few (suc n) (x ∷ ids) = omega (arith, dropped_few n ids)

pub information_so : CanonicalIsRead → GrammarHolds → ImagesHaveMetadata → (s : NodeState) (first limit : ℕ) → first < 256 → IsNodeState s
    → IsSo s (answer_at (reply_octets (ByUpdate (InformationStatus (length s.durable.images) first (take limit (drop first (ids_of s.durable.images)))))))
information_so again grammar law s first limit f h =
    let ids : List (List ℕ) = ids_of s.durable.images in
    let pages = h.durable.capacity in
    let small : s.durable.capacity < 2 ^ 32 = omega (arith, pages.2, pages.3) in
    let own : AreIds ids = are_ids law s.durable.capacity s.durable.images small h.durable.images in
    let few : length (take limit (drop first ids)) ≤ 2 = omega (arith, taken_few limit (drop first ids), dropped_few first ids, length-map s.durable.images (λ (image : Image). firmware_id own_company image.meta), h.durable.two_images) in
    let all : length s.durable.images < 256 = omega (arith, h.durable.two_images) in
    rw (information_read again grammar (length s.durable.images) first (take limit (drop first ids)) all f few (all_taken limit (drop first ids) (all_dropped first ids own))) (refl, limit, refl)

-- ---- what says no phase

module _ (one : OneOctetIsKept) (two : TwoOctetsAreKept) where
  other_two : (s : NodeState) (bytes : List ℕ) (low : ℕ) (body : List ℕ) → bytes ≡ 0x83 ∷ low ∷ body → SaysNothing s (0x83 * 256 + low) → IsSo s (answer_at bytes)
  other_two s bytes low body e n = rw e (other s (0x83 * 256 + low) (message_at rows (0x83 ∷ low ∷ body)) (two rows 0x83 low body (omega arith) (omega arith)) n)

  other_67 : (s : NodeState) (bytes body : List ℕ) → bytes ≡ 0x67 ∷ body → IsSo s (answer_at bytes)
  other_67 s bytes body e = rw e (other s 0x67 (message_at rows (0x67 ∷ body)) (one rows 0x67 body (omega arith)) (λ fields entries. tt))

  other_68 : (s : NodeState) (bytes body : List ℕ) → bytes ≡ 0x68 ∷ body → IsSo s (answer_at bytes)
  other_68 s bytes body e = rw e (other s 0x68 (message_at rows (0x68 ∷ body)) (one rows 0x68 body (omega arith)) (λ fields entries. tt))

  pub blob_so : (s : NodeState) (reply : BlobReply) → IsSo s (answer_at (reply_octets (ByBlob reply)))
  blob_so s (BlobInformationStatus capacity) = other_two s (reply_octets (ByBlob (BlobInformationStatus capacity))) 0x07 _ refl (λ fields entries. tt)
  blob_so s (TransferStatus result means stage transfer parameters absent) = other_two s (reply_octets (ByBlob (TransferStatus result means stage transfer parameters absent))) 0x03 _ refl (λ fields entries. tt)
  blob_so s (BlockStatus result n os report) = other_67 s (reply_octets (ByBlob (BlockStatus result n os report))) _ refl
  blob_so s (PartialBlockReport chunks) = other_68 s (reply_octets (ByBlob (PartialBlockReport chunks))) _ refl

  pub metadata_so : (s : NodeState) (status index : ℕ) → IsSo s (answer_at (reply_octets (ByUpdate (MetadataStatus status index))))
  metadata_so s status index = other_two s (reply_octets (ByUpdate (MetadataStatus status index))) 0x0B _ refl (λ fields entries. tt)

-- A reply in the ranges of the grammar is read by a client as what it says, and by no node as a request.
use Rattle.std.proofs.Common.{◌≡◌, ◌<◌, ◌≤◌, ◌^◌, ◌*◌, ℕ, Bool, false, List, [], ◌∷◌, ◌++◌, length, map, refl, ap, subst, ◌∙◌, arith, length-append, append-nil, Option, Some, None, Ok, inl, inr}
use Rattle.std.specs.Prelude.{◌==◌}
use Rattle.std.specs.List.{AllByRecursion}
use Rattle.std.proofs.lemmas.Bool.{ne_eqb, lt-ltb, le-ltb, cases_lt}
use Rattle.std.proofs.lemmas.List.FromFn.{length-map-range_with_len}
use Rattle.byteorder.specs.Endian.{little_bytes}
use Rattle.mu_model_wire.specs.Fields.{pattern}
use Rattle.mu_model_wire.specs.Names.{missing}
use Rattle.mu_model_wire.specs.Patterns.{pattern_spelling, list_spelling}
use Rattle.mu_model_wire.specs.Reports.{bit_field, field_length, shown_numbers}
use Rattle.mu_model_wire.specs.Spelling.{Fits, EntriesFit, entry_spelling, entries_spelling}
use Rattle.mu_model_wire.specs.Table.{rows}
use Rattle.mu_model_wire.specs.Reading.{message_at}
use Rattle.mu_model_wire.specs.Update.{entry_fields}
use Rattle.mu_model_wire.specs.Laws.{CanonicalIsRead, GrammarHolds}
use Rattle.mu_model_wire.specs.declared.reports.Report.{Report}
use Rattle.mu_model_wire.specs.declared.reports.Report.TheVariants.{All, Nothing, Bits, List as Listed}
use Rattle.mu_model_node.specs.declared.Parameters.{Parameters}
use Rattle.mu_model_node.specs.BlobMessages.{BlobReply, BlobInformationStatus, TransferStatus, BlockStatus, PartialBlockReport}
use Rattle.mu_model_node.specs.UpdateMessages.{ShownJob, UpdateReply, InformationStatus, MetadataStatus, UpdateStatus, entry_shown}
use Rattle.mu_model_node.specs.NodeMessages.{Reply, ByUpdate, ByBlob, message_of, request_of, request_in, request_at, reply_octets}
use Rattle.mu_model_client.specs.Answers.{answer_at, heard}
use Rattle.mu_model_client_laws.specs.Wire.{IsWhole, RepliesAreRead}

-- ---- the ranges

abbrev pub AreIds : List (List ℕ) → Type 0
AreIds ids = AllByRecursion (λ (x : List ℕ). length x ≡ 38) ids

pub record ShownFits (j : ShownJob) : Type 0 where
  pub ttl : j.ttl < 256
  pub base : j.base < 65536
  pub id : j.id < 2 ^ 64
  pub index : j.index < 256

abbrev pub UpdateFits : UpdateReply → Type 0
UpdateFits (InformationStatus count first ids) = (count < 256) × (first < 256) × (length ids ≤ 2) × AreIds ids
UpdateFits (MetadataStatus status index) = (status < 8) × (index < 256)
UpdateFits (UpdateStatus status phase None) = (status < 8) × (phase ≡ 0)
UpdateFits (UpdateStatus status phase (Some job)) = (status < 8) × (1 ≤ phase) × (phase ≤ 6) × ShownFits job

pub record ParametersFit (p : Parameters) : Type 0 where
  pub mode : p.mode ≤ 2
  pub size_least : 1 ≤ p.size
  pub size_most : p.size < 2 ^ 32
  pub log_least : 6 ≤ p.log
  pub log_most : p.log ≤ 32
  pub mtu_least : 20 ≤ p.mtu
  pub mtu_most : p.mtu < 2 ^ 16

abbrev pub AreNumbers : List ℕ → Type 0
AreNumbers ks = AllByRecursion (λ k. k < 2 ^ 16) ks

abbrev pub ReportFits : Report → Type 0
ReportFits All = Unit {0}
ReportFits Nothing = Unit {0}
ReportFits (Bits octets) = length octets.items ≤ 256
ReportFits (Listed numbers) = AreNumbers numbers.items × (length (list_spelling numbers.items) ≤ 256)

abbrev pub TransferFits : (means phase : ℕ) → Option ℕ → Option Parameters → List Bool → Type 0
TransferFits means phase None None absent = (means ≡ 0) × (phase ≡ 0)
TransferFits means phase (Some id) None absent = (means ≡ 0) × (phase ≡ 1) × (id < 2 ^ 64)
TransferFits means phase (Some id) (Some p) absent = (p.mode ≡ means) × (2 ≤ phase) × (phase ≤ 5) × (id < 2 ^ 64) × ParametersFit p × (length absent ≤ 256)
TransferFits means phase None (Some p) absent = ⊥

abbrev pub BlobFits : BlobReply → Type 0
BlobFits (BlobInformationStatus capacity) = capacity < 2 ^ 32
BlobFits (TransferStatus status means phase id parameters absent) = (status ≤ 10) × TransferFits means phase id parameters absent
BlobFits (BlockStatus status block size report) = (status ≤ 10) × (block < 2 ^ 16) × (size < 2 ^ 16) × ReportFits report
BlobFits (PartialBlockReport chunks) = AreNumbers chunks × (length chunks ≤ 16)

abbrev pub ReplyFits : Reply → Type 0
ReplyFits (ByUpdate reply) = UpdateFits reply
ReplyFits (ByBlob reply) = BlobFits reply

-- ---- lists

ids_fit : (ids : List (List ℕ)) → AreIds ids → EntriesFit entry_fields (map entry_shown ids)
ids_fit [] h = tt
ids_fit (x ∷ ids) h = (((refl, omega (arith, h.0), omega (arith, h.0)), ((refl, omega arith, omega arith), refl)), ids_fit ids h.1)

ids_length : (ids : List (List ℕ)) → AreIds ids → length (entries_spelling entry_fields (map entry_shown ids)) ≡ 40 * length ids
ids_length [] h = refl
ids_length (x ∷ ids) h =
    let one : length (entry_spelling entry_fields (entry_shown x)) ≡ 40 = omega (arith, h.0, length-append x (little_bytes 1 0 ++ [])) in
    omega (arith, one, ids_length ids h.1, length-append (entry_spelling entry_fields (entry_shown x)) (entries_spelling entry_fields (map entry_shown ids)))

numbers_spelled : (numbers : List ℕ) → entries_spelling (pattern missing ∷ []) (shown_numbers missing numbers) ≡ list_spelling numbers
numbers_spelled [] = refl
numbers_spelled (n ∷ numbers) = rw (append-nil (pattern_spelling n), numbers_spelled numbers) refl

numbers_fit : (numbers : List ℕ) → AreNumbers numbers → EntriesFit (pattern missing ∷ []) (shown_numbers missing numbers)
numbers_fit [] small = tt
numbers_fit (n ∷ numbers) small = let first = small.0 in (((refl, omega (arith, first)), refl), numbers_fit numbers small.1)

three_octets : (n : ℕ) → length (pattern_spelling n) ≤ 3
three_octets n =
    elim (cases_lt n 0x80) [
      | inl small ↦ rw (lt-ltb n 0x80 small) (omega arith)
      | inr large ↦ elim (cases_lt n 0x800) [
        | inl middle ↦ rw (le-ltb n 0x80 large, lt-ltb n 0x800 middle) (omega arith)
        | inr most ↦ rw (le-ltb n 0x80 large, le-ltb n 0x800 most) (omega arith)
      ]
    ]

list_short : (numbers : List ℕ) → length (list_spelling numbers) ≤ 3 * length numbers
list_short [] = omega arith
list_short (n ∷ numbers) = omega (arith, three_octets n, list_short numbers, length-append (pattern_spelling n) (list_spelling numbers))

field_short : (set : List Bool) → length set ≤ 256 → length (bit_field set) ≤ 32
field_short set h =
    let count : length (bit_field set) ≡ field_length (length set) = length-map-range_with_len _ 0 (field_length (length set)) in
    omega arith

-- ---- messages

update_fits : (reply : UpdateReply) → UpdateFits reply → Fits rows (message_of (ByUpdate reply))
update_fits (InformationStatus count first ids) h =
    let few = h.2 in
    (((refl, h.0), ((refl, h.1), (refl, omega arith, ids_fit ids h.3))), omega (arith, ids_length ids h.3, few))
update_fits (MetadataStatus status index) h = let s = h.0 in (((refl, omega arith, omega (arith, s), (refl, omega arith, omega arith, tt)), ((refl, h.1), (refl, refl))), omega arith)
update_fits (UpdateStatus status phase None) h = let s = h.0 in rw h.1 (((refl, omega arith, omega (arith, s), (refl, omega arith, omega arith, tt)), (refl, refl)), omega arith)
update_fits (UpdateStatus status phase (Some j)) h =
    let s = h.0 in
    let least = h.1 in
    let some : (phase == 0) ≡ false = ne_eqb phase 0 (λ (none : phase ≡ 0). omega (arith, least)) in
    rw some (((refl, omega arith, omega (arith, s), (refl, omega arith, h.2, tt)), ((refl, h.3.ttl), ((refl, omega arith, omega arith, tt), ((refl, h.3.base), ((refl, h.3.id), ((refl, h.3.index), (refl, refl))))))), omega arith)

transfer_fits : (status means phase : ℕ) (id : Option ℕ) (p : Option Parameters) (absent : List Bool) → status ≤ 10 → TransferFits means phase id p absent → Fits rows (message_of (ByBlob (TransferStatus status means phase id p absent)))
transfer_fits status means phase None None absent s h = rw (h.0, h.1) (((refl, omega arith, s, (refl, omega arith, omega arith, tt)), ((refl, omega arith, omega arith), (refl, refl))), omega arith)
transfer_fits status means phase (Some id) None absent s h = rw (h.0, h.1) (((refl, omega arith, s, (refl, omega arith, omega arith, tt)), ((refl, omega arith, omega arith), ((refl, h.2), (refl, refl)))), omega arith)
transfer_fits status means phase (Some id) (Some p) absent s h =
    let least = h.1 in
    let ne0 : (phase == 0) ≡ false = ne_eqb phase 0 (λ (none : phase ≡ 0). omega (arith, least)) in
    let ne1 : (phase == 1) ≡ false = ne_eqb phase 1 (λ (none : phase ≡ 1). omega (arith, least)) in
    let short = field_short absent h.5 in
    let mode : means ≤ 2 = subst (λ n. n ≤ 2) h.0 h.4.mode in
    let size = h.4.size_most in
    let mtu = h.4.mtu_most in
    rw (ne0, ne1) (((refl, omega arith, s, (refl, omega arith, mode, tt)), ((refl, omega arith, h.2), ((refl, h.3), ((refl, h.4.size_least, omega (arith, size)), ((refl, h.4.log_least, h.4.log_most), ((refl, h.4.mtu_least, omega (arith, mtu)), ((refl, omega arith, omega (arith, short)), refl))))))), omega (arith, short))
transfer_fits status means phase None (Some p) absent s h = absurd h

block_fits : (status block size : ℕ) (report : Report) → status ≤ 10 → block < 2 ^ 16 → size < 2 ^ 16 → ReportFits report → Fits rows (message_of (ByBlob (BlockStatus status block size report)))
block_fits status block size All s b c h = (((refl, omega arith, s, (refl, omega arith, omega arith, tt)), ((refl, b), ((refl, c), (refl, refl)))), omega arith)
block_fits status block size Nothing s b c h = (((refl, omega arith, s, (refl, omega arith, omega arith, tt)), ((refl, b), ((refl, c), (refl, refl)))), omega arith)
block_fits status block size (Bits bits) s b c h = (((refl, omega arith, s, (refl, omega arith, omega arith, tt)), ((refl, b), ((refl, c), ((refl, omega arith, omega (arith, h)), refl)))), omega (arith, h))
block_fits status block size (Listed numbers) s b c h =
    let short : length (entries_spelling (pattern missing ∷ []) (shown_numbers missing numbers.items)) ≤ 256 = rw (numbers_spelled numbers.items) h.1 in
    (((refl, omega arith, s, (refl, omega arith, omega arith, tt)), ((refl, b), ((refl, c), (refl, omega arith, numbers_fit numbers.items h.0)))), omega (arith, short))

blob_fits : (reply : BlobReply) → BlobFits reply → Fits rows (message_of (ByBlob reply))
blob_fits (BlobInformationStatus capacity) h =
    (((refl, omega arith, omega arith), ((refl, omega arith, omega arith), ((refl, omega arith), ((refl, omega arith), ((refl, h), ((refl, omega arith), ((refl, omega arith, omega arith, (refl, omega arith, omega arith, tt)), (refl, refl)))))))), omega arith)
blob_fits (TransferStatus status means phase id parameters absent) h = transfer_fits status means phase id parameters absent h.0 h.1
blob_fits (BlockStatus status block size report) h = block_fits status block size report h.0 h.1 h.2 h.3
blob_fits (PartialBlockReport chunks) h =
    let few = h.1 in
    let short : length (entries_spelling (pattern missing ∷ []) (shown_numbers missing chunks)) ≤ 3 * length chunks = rw (numbers_spelled chunks) (list_short chunks) in
    ((refl, omega arith, numbers_fit chunks h.0), omega (arith, short, few))

reply_fits : (reply : Reply) → ReplyFits reply → Fits rows (message_of reply)
reply_fits (ByUpdate reply) h = update_fits reply h
reply_fits (ByBlob reply) h = blob_fits reply h

update_whole : (reply : UpdateReply) → UpdateFits reply → IsWhole (ByUpdate reply)
update_whole (InformationStatus count first ids) h = tt
update_whole (MetadataStatus status index) h = tt
update_whole (UpdateStatus status phase None) h = h.1
update_whole (UpdateStatus status phase (Some j)) h = h.1

transfer_whole : (status means phase : ℕ) (id : Option ℕ) (p : Option Parameters) (absent : List Bool) → TransferFits means phase id p absent → IsWhole (ByBlob (TransferStatus status means phase id p absent))
transfer_whole status means phase None None absent h = h.1
transfer_whole status means phase (Some id) None absent h = h.1
transfer_whole status means phase (Some id) (Some p) absent h = (h.1, h.0)
transfer_whole status means phase None (Some p) absent h = absurd h

blob_whole : (reply : BlobReply) → BlobFits reply → IsWhole (ByBlob reply)
blob_whole (BlobInformationStatus capacity) h = tt
blob_whole (TransferStatus status means phase id parameters absent) h = transfer_whole status means phase id parameters absent h.1
blob_whole (BlockStatus status block size report) h = tt
blob_whole (PartialBlockReport chunks) h = tt

reply_whole : (reply : Reply) → ReplyFits reply → IsWhole reply
reply_whole (ByUpdate reply) h = update_whole reply h
reply_whole (ByBlob reply) h = blob_whole reply h

-- ---- on the wire

pub reply_read : RepliesAreRead → (reply : Reply) → ReplyFits reply → answer_at (reply_octets reply) ≡ Some (heard reply)
reply_read read reply h = read reply (reply_fits reply h) (reply_whole reply h)

no_request : (reply : Reply) → request_of (message_of reply) ≡ None
no_request (ByUpdate (InformationStatus count first ids)) = refl
no_request (ByUpdate (MetadataStatus status index)) = refl
no_request (ByUpdate (UpdateStatus status phase job)) = refl
no_request (ByBlob (BlobInformationStatus capacity)) = refl
no_request (ByBlob (TransferStatus status means phase id parameters absent)) = refl
no_request (ByBlob (BlockStatus status block size report)) = refl
no_request (ByBlob (PartialBlockReport chunks)) = refl

pub reply_asks_nothing : GrammarHolds → CanonicalIsRead → (reply : Reply) → ReplyFits reply → request_at (reply_octets reply) ≡ None
reply_asks_nothing grammar again reply h = ap request_in (again rows (message_of reply) grammar (reply_fits reply h)) ∙ no_request reply

pub reply_message_read : GrammarHolds → CanonicalIsRead → (reply : Reply) → ReplyFits reply → message_at rows (reply_octets reply) ≡ Ok (message_of reply)
reply_message_read grammar again reply h = again rows (message_of reply) grammar (reply_fits reply h)

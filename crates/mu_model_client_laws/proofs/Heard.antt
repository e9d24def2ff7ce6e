-- A client reads what a node replies.
use Rattle.std.proofs.Common.{◌≡◌, ◌≤◌, ℕ, List, [], ◌∷◌, refl, sym, ap, ◌∙◌, true, Bool, Option, Some, None, arith, map}
use Rattle.std.specs.Prelude.{nat_le}
use Rattle.std.proofs.lemmas.Bool.Decides.{nat_tests}
use Rattle.mu_model_wire.specs.Names.{id, missing}
use Rattle.mu_model_wire.specs.Reports.{shown_numbers, bit_field}
use Rattle.mu_model_wire.specs.Table.{rows}
use Rattle.mu_model_wire.specs.Laws.{GrammarHolds, CanonicalIsRead}
use Rattle.mu_model_wire.specs.declared.reports.Report.{Report}
use Rattle.mu_model_wire.specs.declared.reports.Report.TheVariants.{All, Nothing, Bits, List as Listed}
use Rattle.mu_model_node.specs.declared.Parameters.{Parameters}
use Rattle.mu_model_node.specs.BlobMessages.{BlobReply, BlobInformationStatus, TransferStatus, BlockStatus, PartialBlockReport}
use Rattle.mu_model_node.specs.UpdateMessages.{UpdateReply, InformationStatus, MetadataStatus, UpdateStatus, entry_shown}
use Rattle.mu_model_node.specs.NodeMessages.{Reply, ByUpdate, ByBlob, message_of}
use Rattle.mu_model_client.specs.Answers.{FromUpdate, FromBlob, TransferIs, BlockIs, PartIs, numbers_of, octets_in, answer_of, answer_in, heard}
use Rattle.mu_model_client_laws.specs.Wire.{UpdateIsWhole, BlobIsWhole, IsWhole, GoesWithPhase, RepliesAreRead}

ids_back : (ids : List (List ℕ)) → octets_in id (map entry_shown ids) ≡ ids
ids_back [] = refl
ids_back (x ∷ ids) = ap (λ xs. x ∷ xs) (ids_back ids)

numbers_back : (numbers : List ℕ) → numbers_of missing (shown_numbers missing numbers) ≡ numbers
numbers_back [] = refl
numbers_back (n ∷ numbers) = ap (λ xs. n ∷ xs) (numbers_back numbers)

at_least : (least n : ℕ) → least ≤ n → nat_le least n ≡ true
at_least least n h = grind (arith, nat_tests, h)

update_back : (reply : UpdateReply) → UpdateIsWhole reply → answer_of (message_of (ByUpdate reply)) ≡ Some (heard (ByUpdate reply))
update_back (InformationStatus count first ids) h = ap (λ xs. Some (FromUpdate (InformationStatus count first xs))) (ids_back ids)
update_back (MetadataStatus status index) h = refl
update_back (UpdateStatus status phase None) h = rw h refl
update_back (UpdateStatus status phase (Some job)) h = rw (at_least 1 phase h) refl

report_back : (status block size : ℕ) (report : Report) → answer_of (message_of (ByBlob (BlockStatus status block size report))) ≡ Some (heard (ByBlob (BlockStatus status block size report)))
report_back status block size All = refl
report_back status block size Nothing = refl
report_back status block size (Bits octets) = refl
report_back status block size (Listed numbers) = ap (λ ns. Some (FromBlob (BlockIs status block size (Listed (record { items = ns }))))) (numbers_back numbers.items)

transfer_back : (status means phase : ℕ) (blob : Option ℕ) (parameters : Option Parameters) (absent : List Bool) → GoesWithPhase means blob parameters phase
    → answer_of (message_of (ByBlob (TransferStatus status means phase blob parameters absent))) ≡ Some (heard (ByBlob (TransferStatus status means phase blob parameters absent)))
transfer_back status means phase None None absent h = rw h refl
transfer_back status means phase (Some i) None absent h = rw h refl
transfer_back status means phase (Some i) (Some p) absent h =
    let one : nat_le 1 phase ≡ true = at_least 1 phase (let k = h.0 in grind (arith, k)) in
    let two : nat_le 2 phase ≡ true = at_least 2 phase h.0 in
    rw (one, two)
    (ap (λ m. Some (FromBlob (TransferIs status phase (Some i) (Some (record { mode = m; size = p.size; log = p.log; mtu = p.mtu })) (bit_field absent)))) (sym h.1))
transfer_back status means phase None (Some p) absent h = absurd h

blob_back : (reply : BlobReply) → BlobIsWhole reply → answer_of (message_of (ByBlob reply)) ≡ Some (heard (ByBlob reply))
blob_back (BlobInformationStatus capacity) h = refl
blob_back (TransferStatus status means phase blob parameters absent) h = transfer_back status means phase blob parameters absent h
blob_back (BlockStatus status block size report) h = report_back status block size report
blob_back (PartialBlockReport chunks) h = ap (λ ns. Some (FromBlob (PartIs ns))) (numbers_back chunks)

reply_back : (reply : Reply) → IsWhole reply → answer_of (message_of reply) ≡ Some (heard reply)
reply_back (ByUpdate reply) h = update_back reply h
reply_back (ByBlob reply) h = blob_back reply h

pub replies_are_read : GrammarHolds → CanonicalIsRead → RepliesAreRead
replies_are_read grammar canonical reply fits h = ap answer_in (canonical rows (message_of reply) grammar fits) ∙ reply_back reply h

-- A receiver along an update in which nothing is lost: what the answers of its node make of it.
use Rattle.std.proofs.Common.{◌≡◌, ◌<◌, ◌-◌, ◌*◌, ◌==◌, ℕ, zero, suc, List, [], ◌∷◌, refl, sym, ap, ◌∙◌, true, false, Bool, Some, arith, map, length, set, cond, ◌/◌}
use Rattle.std.specs.Prelude.{◌||◌, nat_lt, nat_le, bytes_eq, if◌then◌else◌}
use Rattle.std.proofs.lemmas.Bool.{eq-eqb}
use Rattle.std.proofs.lemmas.Bool.Decides.{nat_tests}
use Rattle.std.proofs.lemmas.Slice.Eq.{bytes_eq-Decides}
use Rattle.std.proofs.lemmas.List.{length-replicate}
use Rattle.std.proofs.lemmas.List.Folds.{sum_by-replicate}
use Rattle.std.proofs.Math.Nat.{mul-div_cancel}
use Rattle.mu_model_image.specs.declared.Meta.{Meta}
use Rattle.mu_model_image.specs.Meta.{firmware_id, own_company}
use Rattle.mu_model_wire.specs.Reports.{every_number, no_number, bit_field}
use Rattle.mu_model_wire.specs.declared.reports.Report.TheVariants.{All, Nothing}
use Rattle.mu_model_node.specs.Slots.{empty, missing}
use Rattle.mu_model_node.specs.BlobMessages.{BlobInformationStatus, TransferStatus, BlockStatus}
use Rattle.mu_model_node.specs.UpdateMessages.{InformationStatus, MetadataStatus, UpdateStatus}
use Rattle.mu_model_node.specs.NodeMessages.{Reply, ByUpdate, ByBlob}
use Rattle.mu_model_client.specs.Answers.{heard}
use Rattle.mu_model_client.specs.Sets.{has_some, size_of, set_of_field}
use Rattle.mu_model_client.specs.declared.Sending.{Sending}
use Rattle.mu_model_client.specs.Client.{Client, Receiver, Active, Update, At, Step, Check, Start, Information, Transfer, Block, Get, Verify, Apply, Confirm, block_total, chunk_total, full_chunks}
use Rattle.mu_model_client.specs.Told as t
use Rattle.mu_model_client_laws.specs.Laws.{FieldsAreRead}
use Rattle.mu_model_completion.specs.Turn.{replied_by}
use Rattle.mu_model_completion.proofs.Local.{tells}
use Rattle.mu_model_completion.proofs.Nodes.{same, shown, parameters}

-- a receiver that was told all there is
abbrev pub rcv : (address phase : ℕ) → (blocks chunks : List Bool) → (pending : Bool) → Receiver
rcv address phase blocks chunks pending = record {
  row = record { address = address; index = 0; phase = phase; update_status = 0; transfer_status = 0; progress = t.held_percent blocks };
  standing = Active;
  pending = pending;
  heard = false;
  silent = 0;
  barren = 0;
  blocks = blocks;
  chunks = chunks;
  wanted = [];
}

-- ---- sets

pub none_some : (n : ℕ) → has_some (no_number n) ≡ false
none_some zero = refl
none_some (suc n) = none_some n

none_size : (n : ℕ) → size_of (no_number n) ≡ 0
none_size n = let h = sum_by-replicate (λ (is_in : Bool). cond is_in 1 0) n false in omega (arith, h)

every_size : (n : ℕ) → size_of (every_number n) ≡ n
every_size n = let h = sum_by-replicate (λ (is_in : Bool). cond is_in 1 0) n true in omega (arith, h)

-- who misses no block holds all
pub all_held : (n : ℕ) → 0 < n → t.held_percent (no_number n) ≡ 100
all_held n some =
    let l = length-replicate n false in
    let s = none_size n in
    let e : length (no_number n) - size_of (no_number n) ≡ n = omega (arith, l, s) in
    ap (λ m. 100 * m / length (no_number n)) e ∙ (ap (λ m. 100 * n / m) l ∙ mul-div_cancel 100 some)

pub missing_empty : (n : ℕ) → missing (empty n) ≡ every_number n
missing_empty zero = refl
missing_empty (suc n) = ap (λ xs. true ∷ xs) (missing_empty n)

fewer : (n : ℕ) → nat_le (size_of (every_number (suc n))) (size_of (no_number (suc n))) ≡ false
fewer n = let a = every_size (suc n) in let b = none_size (suc n) in grind (arith, nat_tests, a, b)

-- what its own node replies reaches a receiver
pub tell_own : (v : Client) (u : ℕ) (address : ℕ) (reply : Reply) (r : Receiver) → r.row.address ≡ address
    → tells v u (map (replied_by address) ((u, reply) ∷ [])) r ≡ t.receiver_told v (heard reply) r
tell_own v u address reply r e = rw (same u, eq-eqb r.row.address address e) refl

module _ (p : Sending) (meta : Meta) where
  -- a client in a step
  abbrev pub view : Step → Client
  view step = record { sending = p; purpose = Update meta true; receivers = []; place = At step; queue = []; began = 0; moment = 0 }

  pub told_check : (a : ℕ) (blocks chunks : List Bool) → t.receiver_told (view Check) (heard (ByUpdate (MetadataStatus 0 0))) (rcv a 10 blocks chunks true) ≡ rcv a 10 blocks chunks false
  told_check a blocks chunks = refl

  pub told_start : (a : ℕ) (blocks chunks : List Bool)
      → t.receiver_told (view Start) (heard (ByUpdate (UpdateStatus 0 2 (Some (shown p meta))))) (rcv a 10 blocks chunks true) ≡ rcv a 2 blocks chunks false
  told_start a blocks chunks = rw (same p.id) refl

  pub told_information : (a : ℕ) (blocks chunks : List Bool) (capacity : ℕ) → nat_lt capacity p.size ≡ false → (nat_lt p.log 12 || nat_lt 14 p.log) ≡ false
      → (nat_lt 376 p.chunk || nat_lt 2048 (full_chunks p)) ≡ false
      → t.receiver_told (view Information) (heard (ByBlob (BlobInformationStatus capacity))) (rcv a 2 blocks chunks true) ≡ rcv a 2 blocks chunks false
  told_information a blocks chunks capacity room log long = rw (room, log, long, takes_both (p.mode == 1)) refl
    where
      takes_both : (push : Bool) → (if push then true else true) ≡ true
      takes_both true = refl
      takes_both false = refl

  pub told_transfer : FieldsAreRead → (a n : ℕ) (blocks chunks : List Bool) → block_total p ≡ n
      → t.receiver_told (view Transfer) (heard (ByBlob (TransferStatus 0 p.mode 2 (Some p.id) (Some (parameters p meta)) (missing (empty n))))) (rcv a 2 blocks chunks true)
      ≡ rcv a 2 (every_number n) chunks false
  told_transfer laws a n blocks chunks e =
      let read : set_of_field (block_total p) (bit_field (missing (empty n))) ≡ Some (every_number n) =
      ap (λ xs. set_of_field (block_total p) (bit_field xs)) (missing_empty n) ∙ (ap (λ m. set_of_field m (bit_field (every_number n))) (e ∙ sym (length-replicate n true)) ∙ laws (every_number n)) in
      rw (same p.id, same p.size, same p.log, read) refl

  pub told_block : (a b n : ℕ) (blocks chunks : List Bool) → chunk_total p b ≡ suc n
      → t.receiver_told (view (Block b)) (heard (ByBlob (BlockStatus 0 b p.chunk All))) (rcv a 2 blocks chunks true) ≡ rcv a 2 blocks (every_number (suc n)) false
  told_block a b n blocks chunks e = rw (same b, same p.chunk, e) refl

  pub told_get : (a b n : ℕ) (blocks : List Bool) → chunk_total p b ≡ suc n
      → t.receiver_told (view (Get b)) (heard (ByBlob (BlockStatus 0 b p.chunk Nothing))) (rcv a 2 blocks (every_number (suc n)) true)
      ≡ rcv a 2 (set blocks b false) (no_number (suc n)) false
  told_get a b n blocks e = rw (same b, same p.chunk, e, none_some n, fewer n) refl

  pub told_verify : (a : ℕ) (blocks chunks : List Bool)
      → t.receiver_told (view Verify) (heard (ByUpdate (UpdateStatus 0 4 (Some (shown p meta))))) (rcv a 2 blocks chunks true) ≡ rcv a 4 blocks chunks false
  told_verify a blocks chunks = rw (same p.id) refl

  pub told_apply : (a : ℕ) (blocks chunks : List Bool)
      → t.receiver_told (view Apply) (heard (ByUpdate (UpdateStatus 0 6 (Some (shown p meta))))) (rcv a 4 blocks chunks true) ≡ rcv a 6 blocks chunks false
  told_apply a blocks chunks = rw (same p.id) refl

  bytes_same : (xs : List ℕ) → bytes_eq xs xs ≡ true
  bytes_same xs = (bytes_eq-Decides xs xs).1 refl

  pub told_confirm : (a count : ℕ) (blocks chunks : List Bool)
      → t.receiver_told (view Confirm) (heard (ByUpdate (InformationStatus count 0 (firmware_id own_company meta ∷ [])))) (rcv a 6 blocks chunks true) ≡ rcv a 8 blocks chunks false
  told_confirm a count blocks chunks = rw (bytes_same (firmware_id own_company meta)) refl

-- What a sound node shows of its BLOB phase is in the ranges of the grammar.
use Rattle.std.proofs.Common.{◌≡◌, ◌≤◌, ◌<◌, ◌^◌, ◌+◌, ℕ, zero, suc, Bool, true, false, List, [], ◌∷◌, length, take, filter, refl, ap, cond, arith, Option, Some, None}
use Rattle.std.specs.Prelude.{nat_lt, ◌==◌, is_some}
use Rattle.std.specs.List.{range_with_len}
use Rattle.std.proofs.lemmas.Bool.Decides.{nat_tests}
use Rattle.std.proofs.lemmas.List.{length-map}
use Rattle.std.proofs.lemmas.List.FromFn.{length-map-range_with_len}
use Rattle.mu_model_wire.specs.Patterns.{list_spelling}
use Rattle.mu_model_wire.specs.Reports.{has, members, field_length, bit_field, report_of}
use Rattle.mu_model_wire.specs.declared.reports.Report.{Report}
use Rattle.mu_model_wire.specs.declared.reports.Report.TheVariants.{All, Nothing, Bits, List as Listed}
use Rattle.mu_model_image.specs.Meta.{Image}
use Rattle.mu_model_node.specs.declared.Parameters.{Parameters}
use Rattle.mu_model_node.specs.BlobMessages.{TransferStatus}
use Rattle.mu_model_node.specs.Slots.{Slots, is_full, missing}
use Rattle.mu_model_node.specs.BlobServer.{Transfer, CurrentBlock, Session, Lacking, serving_phase, transfer_phase, BlobPhase, Inactive, WaitingForStart, NextBlock, NextChunk, Complete, Suspended}
use Rattle.mu_model_node.specs.BlobTable.{transfer_status, mode_of}
use Rattle.mu_model_node.specs.declared.Link.{Link}
use Rattle.mu_model_node.specs.declared.Link.TheVariants.{Cut, Ready, Running}
use Rattle.mu_model_node.specs.declared.Stored.{Stored}
use Rattle.mu_model_node.specs.declared.Stored.TheVariants.{Filling, Verified, Refused, Applied}
use Rattle.mu_model_node.specs.NodeState.{Job, NodeState, Verifying, link_phase, filling_phase, stored_phase, job_phase, serving_in, transfer_of, blob_phase}
use Rattle.mu_model_node.specs.Sound.{HasBlocks, StoredIs, HasJob, IsNodeState, IsTransfer, IsPhase}
use Rattle.mu_model_told.specs.Laws.{AreJobNumbers}
use Rattle.mu_model_mesh_completion.specs.Settled.{HasMessages}
use Rattle.mu_model_mesh_completion.proofs.Replies.{ParametersFit, AreNumbers, ReportFits, BlobFits}

-- ---- numbers below a bound

range_small : (from n : ℕ) → from + n ≤ 2 ^ 16 → AreNumbers (range_with_len from n)
range_small from zero h = tt
range_small from (suc n) h = (omega (arith, h), range_small (from + 1) n (omega (arith, h)))

kept_by : (b : Bool) (x : ℕ) (xs : List ℕ) → x < 2 ^ 16 → AreNumbers xs → AreNumbers (cond b (x ∷ xs) xs)
kept_by true x xs h k = (h, k)
kept_by false x xs h k = k

kept : (f : ℕ → Bool) (xs : List ℕ) → AreNumbers xs → AreNumbers (filter f xs)
kept f [] h = tt
kept f (x ∷ xs) h = kept_by (f x) x (filter f xs) h.0 (kept f xs h.1)

pub members_small : (set : List Bool) → length set ≤ 2048 → AreNumbers (members set)
members_small set h = kept (has set) (range_with_len 0 (length set)) (range_small 0 (length set) (omega (arith, h)))

pub taken_small : (n : ℕ) (xs : List ℕ) → AreNumbers xs → AreNumbers (take n xs)
taken_small zero xs h = tt
taken_small (suc n) [] h = tt
taken_small (suc n) (x ∷ xs) h = (h.0, taken_small n xs h.1)

pub taken_few : (n : ℕ) (xs : List ℕ) → length (take n xs) ≤ n
taken_few zero xs = omega arith
taken_few (suc n) [] = omega arith
taken_few (suc n) (x ∷ xs) = omega (arith, taken_few n xs)

-- ---- reports

short_listed : (n : ℕ) (set : List Bool) (b : Bool) → nat_lt n (field_length (length set)) ≡ b → n ≡ length (list_spelling (members set)) → length set ≤ 2048 → ReportFits (cond b (Listed (record { items = members set })) (Bits (record { items = bit_field set })))
short_listed n set true e k h = let below : n < field_length (length set) = grind (arith, nat_tests) in (members_small set h, omega arith)
short_listed n set false e k h = let count : length (bit_field set) ≡ field_length (length set) = length-map-range_with_len _ 0 (field_length (length set)) in omega arith

by_test : (b : Bool) (x y : Report) → ReportFits x → ReportFits y → ReportFits (cond b x y)
by_test true x y h k = h
by_test false x y h k = k

pub report_fits : (set : List Bool) → length set ≤ 2048 → ReportFits (report_of set)
report_fits set h =
    by_test (length (members set) == length set) All _ tt
    (by_test (length (members set) == 0) Nothing _ tt (short_listed (length (list_spelling (members set))) set _ refl refl h))

pub missing_few : (slots : Slots) → length slots ≤ 2048 → length (missing slots) ≤ 2048
missing_few slots h = let count : length (missing slots) ≡ length slots = length-map slots _ in omega arith

-- ---- phases

abbrev HasShown : Option Parameters → Type 0
HasShown None = ⊥
HasShown (Some p) = ParametersFit p

abbrev pub PhaseFits : BlobPhase → Type 0
PhaseFits Inactive = Unit {0}
PhaseFits (WaitingForStart t) = t.id < 2 ^ 64
PhaseFits (NextBlock t p) = (t.id < 2 ^ 64) × ParametersFit p × (length t.held ≤ 256)
PhaseFits (NextChunk t p c) = (t.id < 2 ^ 64) × ParametersFit p × (length t.held ≤ 256)
PhaseFits (Suspended t p) = (t.id < 2 ^ 64) × ParametersFit p × (length t.held ≤ 256)
PhaseFits (Complete t) = (t.id < 2 ^ 64) × HasShown t.parameters × (length t.held ≤ 256)

shows : (t : Transfer) (p : Parameters) → IsTransfer t p → p.mtu < 2 ^ 16 → ParametersFit p
shows t p h k = record {
  mode = h.blocks.mode_below;
  size_least = h.some;
  size_most = omega (arith, h.few_octets);
  log_least = omega (arith, h.blocks.log_above);
  log_most = omega (arith, h.blocks.log_below);
  mtu_least = h.blocks.mtu_above;
  mtu_most = k;
}

transfer_shown : (t : Transfer) (parameters : Option Parameters) (link : Link) (current : Option CurrentBlock) → t.id < 2 ^ 64 → HasMessages parameters → IsPhase (transfer_phase t parameters link current) → PhaseFits (transfer_phase t parameters link current)
transfer_shown t None Cut current i m h = tt
transfer_shown t None Ready current i m h = i
transfer_shown t None Running current i m h = i
transfer_shown t (Some p) Cut current i m h = (i, shows t p h m, h.few_blocks)
transfer_shown t (Some p) Ready current i m h = (i, shows t p h m, h.few_blocks)
transfer_shown t (Some p) Running None i m h = (i, shows t p h m, h.few_blocks)
transfer_shown t (Some p) Running (Some c) i m h = (i, shows t p h.transfer m, h.transfer.few_blocks)

lacking_shown : (l : Session) (t : Transfer) → t.id < 2 ^ 64 → HasMessages t.parameters → IsPhase (serving_phase l (Lacking t)) → PhaseFits (serving_phase l (Lacking t))
lacking_shown l t i m h = transfer_shown t t.parameters l.link l.current i m h

linked_shown : (j : Job) (l : Session) (link : Link) → j.id < 2 ^ 64 → HasMessages j.parameters → IsPhase (serving_phase l (serving_in (link_phase j link))) → PhaseFits (serving_phase l (serving_in (link_phase j link)))
linked_shown j l Cut i m h = lacking_shown l (transfer_of j) i m h
linked_shown j l Ready i m h = lacking_shown l (transfer_of j) i m h
linked_shown j l Running i m h = lacking_shown l (transfer_of j) i m h

has_shown : (size : ℕ) (parameters : Option Parameters) (held : Slots) → 0 < size → size ≤ 1048576 → HasMessages parameters → is_some parameters ≡ true → HasBlocks size parameters held → HasShown parameters
has_shown size None held some few m e h = cc
has_shown size (Some p) held some few m e h = record {
  mode = h.mode_below;
  size_least = omega (arith, h.size);
  size_most = omega (arith, h.size, few);
  log_least = omega (arith, h.log_above);
  log_most = omega (arith, h.log_below);
  mtu_least = h.mtu_above;
  mtu_most = m;
}

full_shown : (j : Job) (l : Session) (link : Link) (full : Bool) → j.id < 2 ^ 64 → HasMessages j.parameters → HasShown j.parameters → IsPhase (serving_phase l (serving_in (cond full (Verifying j) (link_phase j link)))) → PhaseFits (serving_phase l (serving_in (cond full (Verifying j) (link_phase j link))))
full_shown j l link true i m k h = (i, k, h)
full_shown j l link false i m k h = linked_shown j l link i m h

filling_shown : (j : Job) (l : Session) (link : Link) (parameters : Option Parameters) → j.parameters ≡ parameters → j.id < 2 ^ 64 → HasMessages j.parameters → 0 < j.meta.size → j.meta.size ≤ 1048576 → HasBlocks j.meta.size j.parameters j.held → IsPhase (serving_phase l (serving_in (filling_phase j link parameters))) → PhaseFits (serving_phase l (serving_in (filling_phase j link parameters)))
filling_shown j l link None e i m some few k h = linked_shown j l link i m h
filling_shown j l link (Some p) e i m some few k h = full_shown j l link (is_full j.held) i m (has_shown j.meta.size j.parameters j.held some few m (ap is_some e) k) h

stored_shown : (j : Job) (l : Session) (link : Link) (stored : Stored) → j.id < 2 ^ 64 → HasMessages j.parameters → StoredIs j stored → 0 < j.meta.size → j.meta.size ≤ 1048576 → HasBlocks j.meta.size j.parameters j.held → IsPhase (serving_phase l (serving_in (stored_phase j link stored))) → PhaseFits (serving_phase l (serving_in (stored_phase j link stored)))
stored_shown j l link Filling i m is some few k h = filling_shown j l link j.parameters refl i m some few k h
stored_shown j l link Verified i m is some few k h = (i, has_shown j.meta.size j.parameters j.held some few m is.parameters k, h)
stored_shown j l link Refused i m is some few k h = tt
stored_shown j l link Applied i m is some few k h = (i, has_shown j.meta.size j.parameters j.held some few m is.parameters k, h)

-- the numbers of a job, and of its parameters
abbrev pub JobFits : Option Job → Type 0
JobFits None = Unit {0}
JobFits (Some j) = AreJobNumbers j × HasMessages j.parameters

job_shown : (capacity : ℕ) (images : List Image) (l : Session) (link : Link) (job : Option Job) → capacity ≤ 1048576 → JobFits job → HasJob capacity images job → IsPhase (serving_phase l (serving_in (job_phase link job))) → PhaseFits (serving_phase l (serving_in (job_phase link job)))
job_shown capacity images l link None few f k h = tt
job_shown capacity images l link (Some j) few f k h = stored_shown j l link j.stored f.0.id f.1 k.stored k.some (omega (arith, k.room, few)) k.blocks h

pub capacity_small : (s : NodeState) → IsNodeState s → s.durable.capacity ≤ 1048576
capacity_small s h = let pages = h.durable.capacity in omega (arith, pages.2, pages.3)

pub phase_fits : (s : NodeState) → IsNodeState s → JobFits s.durable.job → IsPhase (blob_phase s) → PhaseFits (blob_phase s)
phase_fits s k f h = job_shown s.durable.capacity s.durable.images s.session s.session.link s.durable.job (capacity_small s k) f k.durable.job h

-- ---- the Transfer Status of a phase

complete_fits : (status : ℕ) (id : ℕ) (parameters : Option Parameters) (absent : List Bool) → status ≤ 10 → id < 2 ^ 64 → HasShown parameters → length absent ≤ 256 → BlobFits (TransferStatus status (mode_of parameters) 4 (Some id) parameters absent)
complete_fits status id None absent s i h few = absurd h
complete_fits status id (Some p) absent s i h few = (s, (refl, omega arith, omega arith, i, h, few))

absent_few : (slots : Slots) → length slots ≤ 256 → length (missing slots) ≤ 256
absent_few slots h = let count : length (missing slots) ≡ length slots = length-map slots _ in omega arith

pub status_fits : (status : ℕ) (phase : BlobPhase) → status ≤ 10 → PhaseFits phase → BlobFits (transfer_status status phase)
status_fits status Inactive s h = (s, (refl, refl))
status_fits status (WaitingForStart t) s h = (s, (refl, refl, h))
status_fits status (NextBlock t p) s h = (s, (refl, omega arith, omega arith, h.0, h.1, absent_few t.held h.2))
status_fits status (NextChunk t p c) s h = (s, (refl, omega arith, omega arith, h.0, h.1, absent_few t.held h.2))
status_fits status (Suspended t p) s h = (s, (refl, omega arith, omega arith, h.0, h.1, absent_few t.held h.2))
status_fits status (Complete t) s h = complete_fits status t.id t.parameters (missing t.held) s h.0 h.1 (absent_few t.held h.2)

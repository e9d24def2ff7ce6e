-- What becomes of a transfer.
use Rattle.std.proofs.Common.{◌≡◌, ◌∙◌, ◌<◌, ℕ, true, false, Bool, Option, Some, None, List, length, refl, sym, ap, subst}
use Rattle.std.specs.Prelude.{◌≢◌, slice_index_or}
use Rattle.mu_model_image.specs.declared.Meta.{Meta}
use Rattle.mu_model_image.specs.Pieces.{block_count, block_length}
use Rattle.mu_model_record.specs.declared.BankState.{BankState}
use Rattle.mu_model_record.specs.declared.BankState.TheVariants.{Filling, Sealed}
use Rattle.mu_model_record.specs.Store.{Content, nothing, held, whole, StoreState, content_of_bank}
use Rattle.mu_model_record.specs.Changes.{with_bank, begun, sealed_up, released}
use Rattle.mu_model_node.specs.declared.Parameters.{Parameters}
use Rattle.mu_model_node.specs.Slots.{Slots, empty, joined}
use Rattle.mu_model_node.specs.BlobServer.{Transfer, Begins, changed}
use Rattle.mu_model_represents.specs.BlobPart.{BlobJob, held_by, transfer_in}
use Rattle.mu_model_represents.specs.Blocks.{HeldBlocksAreCut}
use Rattle.mu_model_represents.specs.StoreStates.{IsStoreState}
use Rattle.mu_model_jobs.specs.Transfers.{begun_job, IsFullJob}
use Rattle.mu_model_jobs.proofs.Places.{content_here, content_other, cleared_same}
use Rattle.mu_model_jobs.proofs.States.{filling_content}

-- a job's transfer, with these blocks
with_held : BlobJob → Slots → Transfer
with_held j slots = record { id = j.id; size = j.size; base = j.base; parameters = j.parameters; held = slots }

pub begins : (s : StoreState) (j : BlobJob) (p : Parameters) (tag : List ℕ) → IsStoreState s → j.bank < s.present.number
    → transfer_in (begun s j.bank p.size p.log tag) (begun_job j p) ≡ changed (Begins p) (transfer_in s j)
begins s j p tag is there =
    let blocks : Content = held (empty (block_count p.size p.log)) in
    ap (λ (c : Content). transfer_by c) (content_here s j.bank j.bank (Filling p.size p.log) blocks tag is there refl)
  where
    transfer_by : Content → Transfer
    transfer_by c = record { id = j.id; size = j.size; base = j.base; parameters = Some p; held = held_by (Some p) c }

pub seals : HeldBlocksAreCut → (s : StoreState) (j : BlobJob) (meta : Meta) (tag : List ℕ) → IsStoreState s → (full : IsFullJob s j meta)
    → transfer_in (sealed_up s j.bank meta (joined full.blocks) tag) j ≡ transfer_in s j
unfolding with_held
seals cut s j meta tag is full =
    let p = full.parameters in
    let was = filling_content p.size p.log full.blocks _ _ full.entry full.content (is.contents j.bank full.there) in
    let same : full.blocks ≡ held_by (Some p) (whole (joined full.blocks)) = cut full.blocks p.size p.log was.0 was.1 full.full (full.fit.size ∙ full.size) in
    let after : content_of_bank (sealed_up s j.bank meta (joined full.blocks) tag) j.bank ≡ whole (joined full.blocks) =
    content_here s j.bank j.bank (Sealed meta) (whole (joined full.blocks)) tag is full.there refl in
    ap (λ (h : Slots). with_held j h)
    (ap (λ (c : Content). held_by j.parameters c) after ∙ ap (λ (q : Option Parameters). held_by q (whole (joined full.blocks))) full.begun
    ∙ sym same
    ∙ ap (λ (c : Content). held_by (Some p) c) (sym full.content) ∙ ap (λ (q : Option Parameters). held_by q (content_of_bank s j.bank)) (sym full.begun))

pub others : (s : StoreState) (j : BlobJob) (bank : ℕ) (entry : BankState) (content : Content) (tag : List ℕ) → bank ≢ j.bank
    → transfer_in (with_bank s bank entry content tag) j ≡ transfer_in s j
unfolding with_held
others s j bank entry content tag ne =
    ap (λ (c : Content). with_held j (held_by j.parameters c)) (content_other s bank j.bank entry content tag (λ e. ne (sym e)))

pub releases : (s : StoreState) (j : BlobJob) (named : List Bool) (tag : List ℕ) → slice_index_or named j.bank false ≡ false
    → transfer_in (released s named tag) j ≡ transfer_in s j
unfolding with_held
releases s j named tag e = ap (λ (c : Content). with_held j (held_by j.parameters c)) (cleared_same nothing named s.contents j.bank e)

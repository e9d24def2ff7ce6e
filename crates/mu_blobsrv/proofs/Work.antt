-- How many operations a row takes.
use Rattle.std.proofs.Common.{◌≡◌, ◌≤◌, ◌+◌, ℕ, Bool, true, false, List, [], ◌∷◌, Some, None, length, sym, ap, subst, arith}
use Rattle.std.specs.Prelude.{◌-◌, ◌&&◌, nat_lt, if◌then◌else◌}
use Rattle.std.specs.Option.{option_map}
use Rattle.std.proofs.Math.Nat.{mul-div-le}
use Rattle.std.proofs.lemmas.List.{length-append, length-replicate}
use Rattle.mu_model_image.specs.Pieces.{piece_count}
use Rattle.mu_model_record.specs.Store.{StoreState}
use Rattle.mu_model_record.specs.Changes.{begun, emptied, with_block}
use Rattle.mu_model_record.specs.Next.{is_short, record_steps, block_steps}
use Rattle.mu_model_node.specs.declared.Parameters.{Parameters}
use Rattle.mu_model_node.specs.BlobMessages.{BlobReply}
use Rattle.mu_model_node.specs.BlobServer.{Change, Same, Begins, Drops, Puts}
use Rattle.mu_model_node.specs.BlobTable.{Served}
use Rattle.mu_blob_rows.specs.declared.table.TransferChange.{TransferChange}
use Rattle.mu_blob_rows.specs.declared.table.TransferChange.TheVariants.{Nothing, Begin, Drop}
use Rattle.mu_blob_rows.specs.Rows.{change_by}
use Rattle.mu_place.specs.Place.{place_fresh}
use Rattle.mu_kept.specs.Views.{place_in, job_in, bank_in, with_parameters}
use Rattle.mu_kept.specs.Calls.{note_in}
use Rattle.mu_kept.specs.Tags.{tag_with}
use Rattle.mu_kept.specs.declared.store.JobStore.{JobStore}
use Rattle.mu_blobsrv.specs.declared.server.BlobServer.{BlobServer}
use Rattle.mu_blobsrv.specs.Rows.{quietly}
use Rattle.mu_blobsrv.specs.Runs.{change_steps, pages_put, PutsOneBlock}

few_pages : (n : ℕ) → n ≤ 16384 → piece_count n 4096 ≤ 4
few_pages n h = let most = mul-div-le (n + 4096 - 1) 4096 in omega arith

short_or_long : (b : Bool) (d e : StoreState) → length (if b then e ∷ [] else d ∷ e ∷ []) ≤ 2
short_or_long true d e = omega arith
short_or_long false d e = omega arith

few_record : (fresh : ℕ) (d e : StoreState) → length (record_steps fresh d e) ≤ 5
few_record fresh d e = let few = short_or_long (is_short e.present && nat_lt 0 fresh) d e in omega arith

few_begun : (fresh : ℕ) (d e : StoreState) → length (d ∷ record_steps fresh d e) ≤ 5
few_begun fresh d e = let few = short_or_long (is_short e.present && nat_lt 0 fresh) d e in omega arith

few_block : (pages : ℕ) (d e : StoreState) → pages ≤ 4 → length (block_steps pages d e) ≤ pages + 5
few_block pages d e h = rw (length-append, length-replicate) (omega arith)

pub few_steps : {F : Type 0} {g : _} (store : JobStore F g) (s : StoreState) (change : Change) → PutsOneBlock change → length (change_steps store s change) ≤ pages_put change + 5
few_steps store s Same one = omega arith
few_steps store s (Begins p) one =
    few_begun (place_fresh (place_in store)) s (begun s (bank_in store) p.size p.log (tag_with (option_map (with_parameters (Some p)) (job_in store)) (note_in store)))
few_steps store s Drops one = few_record (place_fresh (place_in store)) s (emptied s (bank_in store) (tag_with (option_map (with_parameters None) (job_in store)) (note_in store)))
few_steps store s (Puts i octets) one = few_block (piece_count (length octets) 4096) s (with_block s (bank_in store) i octets) (few_pages (length octets) one)

one_told : (p : Parameters) (x : TransferChange) → PutsOneBlock (change_by p x)
one_told p Nothing = tt
one_told p Begin = tt
one_told p Drop = tt

-- a start or a cancel puts no block
pub told_puts : (o : Served) (p : Parameters) (x : TransferChange) → o.change ≡ change_by p x → PutsOneBlock o.change
told_puts o p x e = subst PutsOneBlock (sym e) (one_told p x)

pub quiet_puts : {F : Type 0} {g : _} (o : Served) (new : BlobServer F g) (replies : List (ℕ × BlobReply)) → o ≡ quietly new replies → PutsOneBlock o.change
quiet_puts o new replies e = subst PutsOneBlock (sym (ap (λ (x : Served). x.change) e)) tt

pub same_puts : (change : Change) → change ≡ Same → PutsOneBlock change
same_puts change e = subst PutsOneBlock (sym e) tt

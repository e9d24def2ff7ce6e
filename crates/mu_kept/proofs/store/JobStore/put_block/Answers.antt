use Rattle.std.proofs.Common.{◌≡◌, ◌∙◌, ℕ, ◌<◌, List, length, Option, Some, None, Bool, true, false, set, refl, sym, ap, subst}
use Rattle.std.specs.Prelude.{IsSomeAnd, IfOk, slice_index_or}
use Rattle.mu_model_image.specs.Pieces.{block_count, block_length, piece_count}
use Rattle.mu_model_record.specs.declared.Record.{Record}
use Rattle.mu_model_record.specs.Record.{entry_of, capacity_of}
use Rattle.mu_model_record.specs.Store.{StoreState}
use Rattle.mu_model_record.specs.Next.{block_steps}
use Rattle.mu_model_record.specs.Changes.{with_block}
use Rattle.mu_note.specs.declared.blob.BlobJob.{BlobJob}
use Rattle.mu_place.specs.declared.place.FillingBank.{FillingBank}
use Rattle.mu_place.specs.declared.place.Place.{Place}
use Rattle.mu_place.specs.Place.{place_fault, place_record, place_filling, place_bank, place_held}
use Rattle.mu_place.specs.Calls.{CanPut, PlaceGoes}
use Rattle.mu_kept.specs.declared.store.JobStore.{JobStore}
use Rattle.mu_kept.specs.Views.{bank_of, fills_by, is_filling, flags_of}
use Rattle.mu_kept.specs.Calls.{CanPutBlock}
use Rattle.mu_kept.proofs.Asking.{Wants, wants_fits, Lacks}
use Rattle.mu_kept.proofs.Fitting.{Knows}
use Rattle.mu_kept.proofs.Knowing.{fills_known, lacks_known}
use Rattle.mu_kept.proofs.Changing.{begun_lacks, flags_marked, puts}
use Rattle.mu_kept.proofs.Writing.{none_of, if_ok, if_both, bank_is, begun_for}
use Rattle.mu_kept.proofs.store.JobStore.put_block.Goals as goal

module _ {F : Type 0} {g : _} (store : JobStore F g) (i size : ℕ) (asks : place_fault store.place ≡ None → CanPutBlock store i size) (none : place_fault store.place ≡ None)
    (k : Knows (place_record store.place) (place_filling store.place) (place_held store.place)) where
  was : Wants store.job (flags_of store.place store.job) i size
  was = wants_fits store.job (flags_of store.place store.job) i size (asks none).block

  fills : fills_by store.place store.job ≡ true
  fills = lacks_known store.place k store.job (store.fits none) (record { j = was.j; is = was.is; p = was.p; has = was.has; lacks = was.lacks })

  filled : place_filling store.place ≡ Some (record { bank = was.j.bank; size = was.p.size; log = was.p.log })
  filled = begun_for store.job was.j was.p (place_filling store.place) was.is was.has (fills_known store.place k store.job (store.fits none) fills)

  marks : flags_of store.place store.job ≡ place_held store.place
  marks = flags_marked store.place store.job was.j was.p was.is was.has fills

  can_put : CanPut i size store.place
  can_put =
      subst (λ (o : Option FillingBank). IsSomeAnd o (λ f. (i < block_count f.size f.log) × (size ≡ block_length f.size f.log i) × (slice_index_or (place_held store.place) i false ≡ false))) (sym filled)
      (was.within, was.long, sym (ap (λ (flags : List Bool). slice_index_or flags i false) marks) ∙ (asks none).lacks)

  bank : place_bank store.place ≡ bank_of store.job
  bank = bank_is store.place _ filled ∙ ap bank_of (sym was.is)

  -- the record stays, so the flags are the new marks
  flags_put : (new : Place F g) → place_record new ≡ place_record store.place → place_held new ≡ set (place_held store.place) i true
      → flags_of new store.job ≡ set (flags_of store.place store.job) i true
  flags_put new e h = flags_marked new store.job was.j was.p was.is was.has still ∙ h ∙ ap (λ (flags : List Bool). set flags i true) (sym marks)
    where
      still : fills_by new store.job ≡ true
      still = ap (fills_by new) was.is ∙ ap (λ (r : Record). is_filling (entry_of r was.j.bank)) e ∙ sym (ap (fills_by store.place) was.is) ∙ fills

pub put_block-requires : goal.put_block-requires
put_block-requires g c = λ none.
    can_put c.args.self.now c.args.i _ c.requires none
    (record { in_range = c.known.ensures.is_record none; rests = c.known.ensures.rests none; entry = c.known.ensures.entry; as_many = c.known.ensures.as_many })

pub returns-clause-flags : goal.returns-clause-flags
returns-clause-flags g c =
    let store = c.args.self.now in
    let old : place_fault store.place ≡ None = sym c.fault.ensures ∙ none_of c.fault.result c.in_default.not-Some in
    let k : Knows (place_record store.place) (place_filling store.place) (place_held store.place) =
    record { in_range = c.known.ensures.is_record old; rests = c.known.ensures.rests old; entry = c.known.ensures.entry; as_many = c.known.ensures.as_many } in
    if_both c.put_block.result c.put_block.ensures.fields c.put_block.ensures.held
    (λ _ e h. flags_put store c.args.i _ c.requires old k c.put_block.new.self e h)

pub returns-clause-changed : goal.returns-clause-changed
returns-clause-changed g c = λ held shows.
    let store = c.args.self.now in
    let old : place_fault store.place ≡ None = sym c.fault.ensures ∙ none_of c.fault.result c.in_default.not-Some in
    let k : Knows (place_record store.place) (place_filling store.place) (place_held store.place) =
    record { in_range = c.known.ensures.is_record old; rests = c.known.ensures.rests old; entry = c.known.ensures.entry; as_many = c.known.ensures.as_many } in
    let is = was store c.args.i _ c.requires old k in
    if_both c.put_block.result c.put_block.ensures.fields c.put_block.ensures.held
    (λ _ e h. puts store _ is.j held (begun_lacks store.job (flags_of store.place store.job) is.j is.p is.is is.has is.lacks) (ap capacity_of e) c.args.i c.args.octets.now shows is.is
    (flags_put store c.args.i _ c.requires old k c.put_block.new.self e h))

pub returns-clause-runs : goal.returns-clause-runs
returns-clause-runs g c = λ s holds.
    let store = c.args.self.now in
    let old : place_fault store.place ≡ None = sym c.fault.ensures ∙ none_of c.fault.result c.in_default.not-Some in
    let k : Knows (place_record store.place) (place_filling store.place) (place_held store.place) =
    record { in_range = c.known.ensures.is_record old; rests = c.known.ensures.rests old; entry = c.known.ensures.entry; as_many = c.known.ensures.as_many } in
    subst (λ (b : ℕ). PlaceGoes g.F.Flash.seen s (block_steps (piece_count (length c.args.octets.now) 4096) s (with_block s b c.args.i c.args.octets.now)) store.place c.put_block.new.self c.put_block.result)
    (bank store c.args.i _ c.requires old k)
    (c.put_block.ensures.runs s holds)

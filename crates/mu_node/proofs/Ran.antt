-- The run of a record, read as a node's.
use Rattle.std.proofs.Common.{◌≡◌, ◌^◌, ℕ, ◌-◌, List, [], ◌∷◌, Bool, true, false, Option, refl, sym, subst, arith}
use Rattle.std.specs.Prelude.{◌≢◌, ◌&&◌, nat_lt, ◌↔◌, if◌then◌else◌}
use Rattle.mu_model_flash.specs.Flash.{Seen}
use Rattle.mu_model_flash.specs.Laws.{RunLaws, RunsAreRead}
use Rattle.mu_model_flash.specs.Run.{either, last_of, Ran, Broke}
use Rattle.mu_model_record.specs.declared.Record.{Record}
use Rattle.mu_model_record.specs.Record.{IsRecord}
use Rattle.mu_model_record.specs.Represents.{RepresentsStore}
use Rattle.mu_model_record.specs.Store.{StoreState}
use Rattle.mu_model_record.specs.Next.{is_short, record_steps}
use Rattle.mu_model_record.specs.ChangeLaws.{IsNotLast}
use Rattle.mu_model_node.specs.declared.FlashWork.{FlashWork}
use Rattle.mu_model_node.specs.declared.FlashWork.TheVariants.{Recorded}
use Rattle.mu_model_node.specs.FlashWork.{work_by}
use Rattle.mu_model_node.specs.NodeOutcome.{Outcome}
use Rattle.mu_model_node.specs.NodeState.{NodeDurable, NodeState}
use Rattle.mu_model_represents.specs.BlobPart.{BlobJob}
use Rattle.mu_model_represents.specs.NodeNote.{NodeNote}
use Rattle.mu_model_represents.specs.RepresentsNode.{IsNodeOf, RepresentsNode}
use Rattle.mu_model_written_node.specs.Written.{IsWorked, IsWritten}
use Rattle.mu_store.specs.declared.faults.StoreFault.{StoreFault}
use Rattle.mu_store.specs.declared.faults.StoreFault.TheVariants.{Flash, Worn}
use Rattle.mu_place.specs.declared.place.Place.{Place}
use Rattle.mu_place.specs.declared.place.Place.TheVariants.{Rest, Fill, Halted}
use Rattle.mu_place.specs.Place.{place_flash, place_seen, place_fresh, PlaceHolds}
use Rattle.mu_node.specs.declared.node.Node.{Node}
use Rattle.mu_node.specs.Views.{place_in, seen_of, memory_of}
use Rattle.mu_node.specs.Ways.{as_store, as_node, StateOf, reading_of}
use Rattle.mu_node.specs.Does.{HasOnFlash}

-- ---- it isn't the last

below_last : (r : Record) → IsRecord r → r.count ≢ 2 ^ 32 - 1 → IsNotLast r
below_last r is ne = omega (arith, is.count_most)

pub not_last : (r : Record) → IsRecord r → ⊥ ↔ (r.count ≡ 2 ^ 32 - 1) → IsNotLast r
not_last r is worn = below_last r is (λ e. worn.1 e)

pub not_last_flash : (r : Record) (why : StoreFault) → IsRecord r → (why ≡ Worn) ↔ (r.count ≡ 2 ^ 32 - 1) → why ≡ Flash → IsNotLast r
not_last_flash r why is worn flash = below_last r is (λ e. cc (worn.1 e, flash))

-- ---- runs

seen_is : {F : Type 0} {g : _} (seen : F → Seen) (place : Place F g) → place_seen seen place ≡ seen (place_flash place)
seen_is seen (Rest store) = refl
seen_is seen (Fill filling) = refl
seen_is seen (Halted stopped) = refl

pub reads : {F : Type 0} {g : _} (seen : F → Seen) → RunLaws StateOf reading_of seen → (old new : Place F g) → RunsAreRead StateOf reading_of (place_seen seen old) (place_seen seen new)
reads seen laws old new = rw (seen_is seen old, seen_is seen new) (laws.read (place_flash old) (place_flash new))

last_if : (t : Bool) (s e : StoreState) → last_of s (if t then e ∷ [] else s ∷ e ∷ []) ≡ e
last_if true s e = refl
last_if false s e = refl

last_is : (fresh : ℕ) (s e : StoreState) → last_of s (record_steps fresh s e) ≡ e
last_is fresh s e = last_if (is_short e.present && nat_lt 0 fresh) s e

module _ {F : Type 0} {g : _} (seen : F → Seen) (laws : RunLaws StateOf reading_of seen) (old new : Place F g) (fresh : ℕ) (s e : StoreState) (part : Option BlobJob) (note : NodeNote) (d n : NodeDurable)
    (steps : ℕ → List StoreState) (work : FlashWork) (is : IsWorked s e part note d n steps work) where
  pub ran : Ran (either RepresentsStore) s (steps fresh) (place_seen seen old) (place_seen seen new) → Ran (either RepresentsNode) d (work_by fresh d n work) (place_seen seen old) (place_seen seen new)
  ran run = (reads seen laws old new).ran as_store as_node s (steps fresh) d (work_by fresh d n work) (is.as_many fresh) (λ told. is.reads fresh) run

  pub broke : Broke (either RepresentsStore) s (steps fresh) (place_seen seen old) (place_seen seen new) → Broke (either RepresentsNode) d (work_by fresh d n work) (place_seen seen old) (place_seen seen new)
  broke run = (reads seen laws old new).broke as_store as_node s (steps fresh) d (work_by fresh d n work) (is.as_many fresh) (λ told. is.reads fresh) run

-- what the flash represents then
pub on_flash : {F : Type 0} {g : _} (seen : F → Seen) (node : Node F g) (s e : StoreState) (part : Option BlobJob) (note : NodeNote) (n : NodeDurable) (steps : List StoreState) → IsNodeOf e part note n → last_of s steps ≡ e
    → PlaceHolds seen (place_in node) (last_of s steps) → (memory_of node).part ≡ part → (memory_of node).note ≡ note → HasOnFlash seen node n
on_flash seen node s e part note n steps is last holds same_part same_note = record {
  store = e;
  holds = subst (λ (t : StoreState). PlaceHolds seen (place_in node) t) last holds;
  represents = rw (same_part, same_note) is;
}

-- ---- the work of an outcome

module _ {F : Type 0} {g : _} (seen : F → Seen) (laws : RunLaws StateOf reading_of seen) (old new : Node F g) (n : NodeState) (o : Outcome) (s e : StoreState) (part : Option BlobJob) (note : NodeNote)
    (steps : ℕ → List StoreState) (work : FlashWork) (fresh : n.fresh ≡ place_fresh (place_in old)) (does : o.work ≡ work) (is : IsWorked s e part note n.durable o.next.durable steps work) where
  steps_are : work_by n.fresh n.durable o.next.durable o.work ≡ work_by (place_fresh (place_in old)) n.durable o.next.durable work
  steps_are = λ i. work_by (fresh i) n.durable o.next.durable (does i)

  pub work_ran : last_of s (steps (place_fresh (place_in old))) ≡ e → (memory_of new).part ≡ part → (memory_of new).note ≡ note
      → Ran (either RepresentsStore) s (steps (place_fresh (place_in old))) (seen_of seen old) (seen_of seen new) × PlaceHolds seen (place_in new) (last_of s (steps (place_fresh (place_in old))))
      → Ran (either RepresentsNode) n.durable (work_by n.fresh n.durable o.next.durable o.work) (seen_of seen old) (seen_of seen new) × HasOnFlash seen new o.next.durable
  work_ran last same_part same_note run = (
    subst (λ (l : List NodeDurable). Ran (either RepresentsNode) n.durable l (seen_of seen old) (seen_of seen new)) (sym steps_are)
        ((ran seen laws (place_in old) (place_in new) (place_fresh (place_in old)) s e part note n.durable o.next.durable steps work is) run.0),
    on_flash seen new s e part note o.next.durable (steps (place_fresh (place_in old))) is.is last run.1 same_part same_note,
  )

pub work_broke : {F : Type 0} {g : _} (seen : F → Seen) → RunLaws StateOf reading_of seen → (old new : Place F g) (n : NodeState) (o : Outcome) (s e : StoreState) (part : Option BlobJob) (note : NodeNote)
    (steps : ℕ → List StoreState) (work : FlashWork) → n.fresh ≡ place_fresh old → o.work ≡ work → IsWorked s e part note n.durable o.next.durable steps work
    → Broke (either RepresentsStore) s (steps (place_fresh old)) (place_seen seen old) (place_seen seen new)
    → Broke (either RepresentsNode) n.durable (work_by n.fresh n.durable o.next.durable o.work) (place_seen seen old) (place_seen seen new)
work_broke seen laws old new n o s e part note steps work fresh does is run =
    rw (fresh, does) ((broke seen laws old new (place_fresh old) s e part note n.durable o.next.durable steps work is) run)

-- ---- that of a record

pub record_ran : {F : Type 0} {g : _} (seen : F → Seen) (laws : RunLaws StateOf reading_of seen) (old new : Node F g) (n : NodeState) (o : Outcome) (s e : StoreState) (part : Option BlobJob) (note : NodeNote)
    → n.fresh ≡ place_fresh (place_in old) → o.work ≡ Recorded false → IsWritten s e part note n.durable o.next.durable → (memory_of new).part ≡ part → (memory_of new).note ≡ note
    → Ran (either RepresentsStore) s (record_steps (place_fresh (place_in old)) s e) (seen_of seen old) (seen_of seen new) × PlaceHolds seen (place_in new) (last_of s (record_steps (place_fresh (place_in old)) s e))
    → Ran (either RepresentsNode) n.durable (work_by n.fresh n.durable o.next.durable o.work) (seen_of seen old) (seen_of seen new) × HasOnFlash seen new o.next.durable
record_ran seen laws old new n o s e part note fresh work is same_part same_note run =
    (work_ran seen laws old new n o s e part note (λ (f : ℕ). record_steps f s e) (Recorded false) fresh work is) (last_is (place_fresh (place_in old)) s e) same_part same_note run

pub record_broke : {F : Type 0} {g : _} (seen : F → Seen) → RunLaws StateOf reading_of seen → (old new : Place F g) (n : NodeState) (o : Outcome) (s e : StoreState) (part : Option BlobJob) (note : NodeNote) → n.fresh ≡ place_fresh old
    → o.work ≡ Recorded false → IsWritten s e part note n.durable o.next.durable → Broke (either RepresentsStore) s (record_steps (place_fresh old) s e) (place_seen seen old) (place_seen seen new)
    → Broke (either RepresentsNode) n.durable (work_by n.fresh n.durable o.next.durable o.work) (place_seen seen old) (place_seen seen new)
record_broke seen laws old new n o s e part note fresh work is run = work_broke seen laws old new n o s e part note (λ (f : ℕ). record_steps f s e) (Recorded false) fresh work is run

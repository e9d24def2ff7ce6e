-- An event's end.
use Rattle.std.proofs.Common.{◌≡◌, ◌∙◌, Bool, true, false, [], refl, sym, subst}
use Rattle.std.specs.Prelude.{Result, Ok, Err}
use Rattle.mu_model_flash.specs.Flash.{Seen}
use Rattle.mu_model_flash.specs.Laws.{RunLaws}
use Rattle.mu_model_flash.specs.Run.{either, Ran}
use Rattle.mu_model_node.specs.declared.FlashWork.TheVariants.{Untouched}
use Rattle.mu_model_record.specs.Represents.{RepresentsStore}
use Rattle.mu_model_distributor.specs.Commit.{work_to}
use Rattle.mu_model_distributor.specs.DistState.{DistDurable, DistState}
use Rattle.mu_model_distributor.specs.Same.{same_durable}
use Rattle.mu_model_distributor_laws.specs.Laws.{RecordsSaySomething}
use Rattle.mu_model_represents_distributor.specs.RepresentsDistributor.{IsDistributor}
use Rattle.mu_model_represents_distributor.specs.Short.{StoresAreReadAsDistributors}
use Rattle.mu_store.specs.declared.faults.StoreFault.{StoreFault}
use Rattle.mu_place.specs.Place.{place_seen}
use Rattle.mu_blobsrv.specs.declared.server.BlobServer.{BlobServer}
use Rattle.mu_blobsrv.specs.Views.{place_of}
use Rattle.mu_distributor_rows.specs.Due.{IsDue}
use Rattle.mu_distributor_server.specs.Events.{ServerWorks, SameBesideNote}
use Rattle.mu_distributor_server.specs.Shows.{Carries}
use Rattle.mu_distributor_server.specs.Ways.{StateOf, reading_of}
use Rattle.mu_distributor_server.proofs.Works.{ran_as}

same_if : (b : Bool) (t : DistState) → (work_to t b ≡ Untouched → ⊥) → b ≡ false
same_if true t never = absurd (never refl)
same_if false t never = refl

differs_if : (b : Bool) (t : DistState) → work_to t b ≡ Untouched → b ≡ true
differs_if true t is = refl
differs_if false t is = absurd (cc is)

-- where a record is due what is kept is another, and where none is it is the same
pub due_differs : RecordsSaySomething → (s t : DistState) → IsDue true s.durable t.durable → same_durable s.durable t.durable ≡ false
due_differs says s t due = same_if (same_durable s.durable t.durable) t (λ is. due ((says s t).0 is))

pub undue_is_same : RecordsSaySomething → (s t : DistState) → IsDue false s.durable t.durable → same_durable s.durable t.durable ≡ true
undue_is_same says s t due = differs_if (same_durable s.durable t.durable) t ((says s t).1 due)

-- an event that writes nothing
module _ {F : Type 0} {g : _} (seen : F → Seen) (server : BlobServer F g) (s t : DistState) (from : Carries seen server s) (same : SameBesideNote s t) (is : t.durable ≡ s.durable) where
  pub carries_on : Carries seen server t
  carries_on = record { fresh = same.fresh ∙ from.fresh; store = from.store; holds = from.holds; represents = subst (λ (d : DistDurable). IsDistributor from.store d) (sym is) from.represents }

  pub idles : RunLaws StateOf reading_of seen → StoresAreReadAsDistributors
      → Ran (either RepresentsStore) from.store [] (place_seen seen (place_of server)) (place_seen seen (place_of server))
      → (result : Result (Unit {0}) StoreFault) → result ≡ Ok tt → ServerWorks seen s t Untouched server server result
  idles runs refines idle (Ok u) is = (ran_as seen runs refines (place_of server) (place_of server) from.store [] s.durable [] from.represents tt idle, carries_on)
  idles runs refines idle (Err why) is = absurd (cc is)

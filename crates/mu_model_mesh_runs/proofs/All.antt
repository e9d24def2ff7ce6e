-- Each line comes to something, whatever it says.
use Rattle.std.proofs.Common.{◌≡◌, ℕ, Bool, true, false, List, [], refl, sym, ap, subst, Option, Some, None, Result, Ok, Err}
use Rattle.mu_model_script.specs.Event.{Event, Node, Old, Pair, Updater as UpdaterLine, Distributor, Stock, Say, Deliver, Time, Cut, Tear as TearLine, Active, Phase, Settle, Rows, Packet as PacketLine}
use Rattle.mu_model_script.specs.Lines.{script_event}
use Rattle.mu_model_script.specs.declared.LineFault.{LineFault}
use Rattle.mu_model_world.specs.Judged.{Sound}
use Rattle.mu_model_mesh.specs.Mesh.{Mesh}
use Rattle.mu_model_mesh.specs.MeshOutcomes.{mesh_begun}
use Rattle.mu_model_mesh.specs.MeshJudged.{mesh_judged, mesh_judged_by, is_past}
use Rattle.mu_model_mesh.specs.MeshRun.{IsDone}
use Rattle.mu_model_mesh_runs.specs.Laws.{IsNoSettle, HasMembers, ComesTo, done, wears, passes, SettleComes, carried, wears_out, AllLinesCome}
use Rattle.mu_model_mesh_runs.proofs.Something.{something}
use Rattle.mu_model_mesh_runs.proofs.Settling.{settles_end}
use Rattle.mu_model_mesh_runs.proofs.Grows.{Answers}

module _ (answers : Answers) (m : Mesh) (line : List ℕ) (there : HasMembers m) where
  by_way : (turns : ℕ) → mesh_judged m line ≡ Sound (Settle turns) → is_past m (Settle turns) ≡ false → SettleComes turns (mesh_begun m) → ComesTo m line
  by_way turns judged within (carried text next way) = done text next (record { done = subst (λ j. IsDone m j text next) (sym judged) (within, way) })
  by_way turns judged within (wears_out w) = wears (record { event = Settle turns; sound = judged; within = within; wears = w })

  by_past : (turns : ℕ) → script_event line ≡ Ok (Some (Settle turns)) → (b : Bool) → is_past m (Settle turns) ≡ b → ComesTo m line
  by_past turns says true past = passes (record { event = Settle turns; says = says; past = past })
  by_past turns says false within = by_way turns (ap (mesh_judged_by m line) says) within (settles_end answers turns (mesh_begun m) there)

  other : (r : Result (Option Event) LineFault) → script_event line ≡ r → IsNoSettle r → ComesTo m line
  other r says h = something m line there (subst IsNoSettle (sym says) h)

  by_read : (r : Result (Option Event) LineFault) → script_event line ≡ r → ComesTo m line
  by_read (Err fault) says = other (Err fault) says tt
  by_read (Ok None) says = other (Ok None) says tt
  by_read (Ok (Some (Settle turns))) says = by_past turns says (is_past m (Settle turns)) refl
  by_read (Ok (Some (Node address group pages version content))) says = other _ says tt
  by_read (Ok (Some (Old address group pages version content))) says = other _ says tt
  by_read (Ok (Some (Pair address group pages version content second_version second))) says = other _ says tt
  by_read (Ok (Some (UpdaterLine address group id ttl base way log chunk version content to))) says = other _ says tt
  by_read (Ok (Some (Distributor address pages))) says = other _ says tt
  by_read (Ok (Some (Stock address version content))) says = other _ says tt
  by_read (Ok (Some (Say from to payload))) says = other _ says tt
  by_read (Ok (Some (Deliver number address))) says = other _ says tt
  by_read (Ok (Some (Time address ms))) says = other _ says tt
  by_read (Ok (Some (Cut address))) says = other _ says tt
  by_read (Ok (Some (TearLine address operation pattern))) says = other _ says tt
  by_read (Ok (Some (Active address))) says = other _ says tt
  by_read (Ok (Some (Phase address))) says = other _ says tt
  by_read (Ok (Some (Rows address))) says = other _ says tt
  by_read (Ok (Some (PacketLine number))) says = other _ says tt

pub all_come : Answers → AllLinesCome
all_come answers m line there = by_read answers m line there (script_event line) refl

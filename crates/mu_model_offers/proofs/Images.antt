-- What is offered is an image that the distributor has.
use Rattle.std.proofs.Common.{◌≡◌, ◌<◌, ◌≤◌, ℕ, ◌^◌, Bool, true, false, List, [], ◌∷◌, ◌++◌, length, map, refl, sym, ap, subst, ◌∙◌, arith, Option, Some, None, Contains, ◌⊎◌, inl, inr, append-nil}
use Rattle.std.specs.Prelude.{slice_get}
use Rattle.std.specs.List.{AllByRecursion}
use Rattle.std.proofs.lemmas.Option.{slice_get_within, slice_get_cases, get_or_from_slice_get}
use Rattle.mu_model_image.specs.Laws.{MetaIsReadBack}
use Rattle.mu_model_image.specs.Meta.{meta_octets}
use Rattle.mu_model_wire.specs.Opcodes.{OneOctetIsKept, TwoOctetsAreKept}
use Rattle.mu_model_wire.specs.Packet.{Packet}
use Rattle.mu_model_node.specs.declared.FlashWork.{FlashWork}
use Rattle.mu_model_node.specs.declared.FlashWork.TheVariants.{Untouched, Recorded, Begun, PutBlock}
use Rattle.mu_model_node.specs.FlashWork.{passed_by}
use Rattle.mu_model_node.specs.UpdateMessages.{UpdateStart, StartUpdate}
use Rattle.mu_model_node.specs.NodeMessages.{OfUpdate, request_at}
use Rattle.mu_model_node.specs.Events.{NodeEvent}
use Rattle.mu_model_node.specs.Safe.{Done}
use Rattle.mu_model_client_laws.specs.Wire.{RequestsAreRead}
use Rattle.mu_model_distributor.specs.DistEvents.{at_moment, dist_step}
use Rattle.mu_model_distributor.specs.DistMessages.{Sent, ByClient, sent_packet}
use Rattle.mu_model_distributor.specs.DistState.{StoredImage, DistDurable, DistState, is_at_rest, offered}
use Rattle.mu_model_distributor.specs.Distribution.{meta_of}
use Rattle.mu_model_distributor.specs.Sound.{IsDistDurable}
use Rattle.mu_model_distributor_laws.specs.Laws.{EventFits}
use Rattle.mu_model_distributor_laws.specs.Planned.{IsOffered, IsSentAs}
use Rattle.mu_model_distributor_laws.specs.Rests.{IsNoStart}
use Rattle.mu_model_distributor_laws.specs.RunLaws.{IsInOrder}
use Rattle.mu_model_offers.specs.Packets.{IsOfImage, StartsAreOfImages}
use Rattle.mu_model_offers.proofs.Below.{Below}
use Rattle.mu_model_offers.proofs.Own.{IsOwnAs, run_own}
use Rattle.mu_model_offers.proofs.Packets.{event_spelled, sent_says}

-- each Update Start among these offers one of the images
abbrev OfImages : ℕ → DistDurable → List (ℕ × Sent) → Type 0
OfImages address d sends = AllByRecursion (λ (x : ℕ × Sent). (u : UpdateStart) → x.1 ≡ ByClient (OfUpdate (StartUpdate u)) → IsOfImage address d u) sends

at_rest : (address : ℕ) (d : DistDurable) (sends : List (ℕ × Sent)) → AllByRecursion IsNoStart sends → OfImages address d sends
at_rest address d [] h = tt
at_rest address d ((to, sent) ∷ sends) h = (λ u is. absurd (subst (λ (x : Sent). IsNoStart (to, x)) is h.0), at_rest address d sends h.1)

of_offered : (address : ℕ) (d : DistDurable) (x : StoredImage) → offered d ≡ Some x → Contains d.images x → (sends : List (ℕ × Sent)) → AllByRecursion (IsSentAs address d) sends → OfImages address d sends
of_offered address d x is has [] h = tt
of_offered address d x is has ((to, sent) ∷ sends) h = (
  λ u e. (let o : IsOffered address d to u = subst (λ (s : Sent). IsSentAs address d (to, s)) e h.0 in
      record { id = o.id; stored = x; has = has; metadata = o.metadata ∙ ap (λ (y : Option StoredImage). meta_octets (meta_of y)) is }),
  of_offered address d x is has sends h.1,
)

-- a distribution has an image
offered_image : (d : DistDurable) → IsDistDurable d → is_at_rest d.phase ≡ false → (o : Option StoredImage) → offered d ≡ o → (x : StoredImage) × (offered d ≡ Some x) × Contains d.images x
offered_image d h busy (Some x) is = (x, is, (d.settings.image, slice_get_within d.images d.settings.image x is, get_or_from_slice_get d.images d.settings.image x x is))
offered_image d h busy None is =
    let within : d.settings.image < length d.images = h.image busy in
    elim (slice_get_cases d.images d.settings.image).1 [
      | inl (x, lt, some, at) ↦ (let both : Some x ≡ None = sym some ∙ is in absurd cc)
      | inr (past, none) ↦ absurd (omega (arith, within, past))
    ]

first_of : (P : DistDurable → Type 0) (old new : DistDurable) (work : FlashWork) → AllByRecursion P (passed_by old new work) → P old
first_of P old new Untouched h = h.0
first_of P old new (Recorded is_long) h = h.0
first_of P old new (Begun is_long) h = h.0
first_of P old new (PutBlock pages) h = h.0

module _ (one : OneOctetIsKept) (two : TwoOctetsAreKept) (below : Below) (again : MetaIsReadBack) (reads : RequestsAreRead) where
  sends_of : (address : ℕ) (s : DistState) (event : NodeEvent) (now : ℕ) → IsInOrder address s → EventFits event → (b : Bool) → is_at_rest s.durable.phase ≡ b → OfImages address s.durable (dist_step address s event now).sends
  sends_of address s event now h fits true rest = at_rest address s.durable (dist_step address s event now).sends (below.silent address s event now h.sound rest)
  sends_of address s event now h fits false busy =
      let all = below.offered address s event now fits h.sound h.planned in
      let now_offered = first_of (λ (d : DistDurable). AllByRecursion (IsSentAs address d) (dist_step address s event now).sends) s.durable (dist_step address s event now).next.durable (dist_step address s event now).work all in
      let image = offered_image s.durable h.sound.durable busy (offered s.durable) refl in
      of_offered address s.durable image.0 image.1 image.2 (dist_step address s event now).sends now_offered

  all_read : (address : ℕ) (d : DistDurable) (sends : List (ℕ × Sent)) → address < 2 ^ 16 → AllByRecursion (IsOwnAs address) sends → OfImages address d sends
      → AllByRecursion (λ (p : Packet). (u : UpdateStart) → request_at p.payload ≡ Some (OfUpdate (StartUpdate u)) → IsOfImage address d u) (map (sent_packet address) sends)
  all_read address d [] small own h = tt
  all_read address d ((to, sent) ∷ sends) small own h = (λ u e. h.0 u (sent_says one two reads address to sent u small own.0 e), all_read address d sends small own.1 h.1)

  pub starts_are_of_images : StartsAreOfImages
  starts_are_of_images address s event now small h fits =
      let sends : List (ℕ × Sent) = (dist_step address s event now).sends in
      let own : AllByRecursion (IsOwnAs address) (sends ++ []) = run_own below again address s (Done event now ∷ []) (fits, tt) h in
      subst (λ (ps : List Packet). AllByRecursion (λ (p : Packet). (u : UpdateStart) → request_at p.payload ≡ Some (OfUpdate (StartUpdate u)) → IsOfImage address s.durable u) ps)
      (sym (event_spelled address (at_moment s now) event))
      (all_read address s.durable sends small (subst (AllByRecursion (IsOwnAs address)) (append-nil sends) own) (sends_of address s event now h fits (is_at_rest s.durable.phase) refl))

-- The steps after the blocks: verify, apply and confirm.
use Rattle.std.proofs.Common.{◌≡◌, ◌⊎◌, inl, inr, ◌<◌, ◌+◌, ◌*◌, ℕ, zero, suc, List, [], ◌∷◌, refl, sym, ap, subst, true, false, Bool, Option, Some, arith, length}
use Rattle.mu_model_image.specs.declared.Meta.{Meta}
use Rattle.mu_model_image.specs.Meta.{Image, firmware_id, own_company}
use Rattle.mu_model_node.specs.declared.LastBlock.{LastBlock}
use Rattle.mu_model_node.specs.declared.Stored.TheVariants.{Verified, Applied}
use Rattle.mu_model_node.specs.Slots.{Slots, is_full, joined}
use Rattle.mu_model_node.specs.UpdateMessages.{InformationGet, UpdateGet, UpdateApply, InformationStatus, UpdateStatus}
use Rattle.mu_model_node.specs.BlobServer.{Session}
use Rattle.mu_model_node.specs.FlashWork.{fresh_after}
use Rattle.mu_model_node.specs.NodeMessages.{Request, OfUpdate, Reply, ByUpdate}
use Rattle.mu_model_client.specs.declared.Sending.{Sending}
use Rattle.mu_model_client.specs.Client.{Client, Verify, Apply, Confirm}
use Rattle.mu_model_client_laws.specs.Laws.{FieldsAreRead}
use Rattle.mu_model_completion.proofs.Pairs.{Pair, answered_by, pair_time}
use Rattle.mu_model_completion.proofs.Nodes.{Does, passes, asks, Offer, idle, idle_time, idle_information, sealed_in, verified_status, applies, activates, after_all, shown}
use Rattle.mu_model_completion.proofs.Receivers.{view, told_verify, told_apply, told_confirm}
use Rattle.mu_model_completion.proofs.Asking.{Asking}
use Rattle.mu_model_completion.proofs.First.{Good, Row, row_answered, row_pending, row_index, row_later, time_node, time_receiver, row_place}
use Rattle.mu_model_completion.proofs.Blocks.{Tiles, IsVerified, Sealing, sealing_later}

module _ (fields : FieldsAreRead) (tiles : Tiles) (p : Sending) (meta : Meta) (image : List ℕ) (u blocks : ℕ) (good : Good p blocks) (most : ℕ) (few : 4 * most < 99)
    (whole : length image ≡ p.size) (chunk_some : 0 < p.chunk) (held : Slots) (last : Option LastBlock) (all : is_full held ≡ true) (is : joined held ≡ image) (bs cs : List Bool) where
  abbrev pub IsSealing : ℕ → Pair → Type 0
  IsSealing j x = Sealing fields tiles p meta image u blocks good most few whole chunk_some held last j x

  abbrev pub AVerified : Pair → Type 0
  AVerified x = IsVerified fields tiles p meta image u blocks good most few whole chunk_some held last x

  sealing_on : (v : Client) (x : Pair) (j : ℕ) → IsSealing j x → AVerified (pair_time v u x) × ((pair_time v u x).r ≡ x.r)
  sealing_on v x j h = sealing_later fields tiles p meta image u blocks good most few whole chunk_some v x held last j all is h

  row_on : (v : Client) (x : Pair) (phase : ℕ) (pending : Bool) → (pair_time v u x).r ≡ x.r → Row phase bs cs pending x → Row phase bs cs pending (pair_time v u x)
  row_on v x phase pending e h = row_later fields p meta image u blocks good most few v x phase bs cs pending e h

  pending_of : (phase : ℕ) (pending : Bool) (x : Pair) → Row phase bs cs pending x → x.r.pending ≡ pending
  pending_of phase pending x h = row_pending fields p meta image u blocks good most few phase bs cs pending x h

  -- ---- 8 verify

  abbrev pub VerifyW : ℕ → Pair → Type 0
  VerifyW j x = Row 2 bs cs true x × IsSealing j x

  abbrev pub VerifyD : ℕ → Pair → Type 0
  VerifyD j x = Row 4 bs cs false x × IsSealing j x

  abbrev status_reply : ℕ → Reply
  status_reply phase = ByUpdate (UpdateStatus 0 phase (Some (shown p meta)))

  module _ (x : Pair) (row : Row 2 bs cs true x) (h : AVerified x) where
    verifying : Does (asks x.n u (OfUpdate UpdateGet) x.moment) (sealed_in p meta image h.capacity h.active h.images h.offer u 0 0 Verified held last h.count h.fresh h.heard x.moment) ((u, status_reply 4) ∷ [])
    verifying =
        subst (λ s. Does (asks s u (OfUpdate UpdateGet) x.moment) (sealed_in p meta image h.capacity h.active h.images h.offer u 0 0 Verified held last h.count h.fresh h.heard x.moment) ((u, status_reply 4) ∷ [])) (sym h.n_is)
        (verified_status p meta image h.capacity h.active h.images h.offer u 0 0 held last h.count h.fresh h.heard x.moment)

    verify_answered : Row 4 bs cs false (answered_by (view p meta Verify) u x (asks x.n u (OfUpdate UpdateGet) x.moment)) × AVerified (answered_by (view p meta Verify) u x (asks x.n u (OfUpdate UpdateGet) x.moment))
    verify_answered = (
      row_answered (view p meta Verify) u x (OfUpdate UpdateGet) _ (status_reply 4) 2 4 bs cs bs cs verifying row (told_verify p meta x.config.address bs cs),
      record { capacity = h.capacity; active = h.active; images = h.images; offer = h.offer; count = h.count; fresh = h.fresh; heard = h.heard; n_is = verifying.next_is },
    )

  pub verify_asking : Asking p meta u Verify (OfUpdate UpdateGet) VerifyW VerifyD most
  verify_asking = record {
    waits = λ j x w. pending_of 2 true x w.0;
    is_done = λ j x w. pending_of 4 false x w.0;
    place = λ j x w. row_place 2 bs cs true x w.0;
    message = λ j x w. refl;
    time_waits = λ j x lt w. (let t = sealing_on (view p meta Verify) x j w.1 in ((row_on (view p meta Verify) x 2 true t.1 w.0, t.0), t.1));
    time_done = λ j x lt w. (let t = sealing_on (view p meta Verify) x j w.1 in ((row_on (view p meta Verify) x 4 false t.1 w.0, t.0), t.1));
    asked = λ j x w. verify_answered x w.0 w.1;
    counts = λ c. refl;
  }

  -- ---- 9 apply

  pub record IsApplied (x : Pair) : Type 0 where
    pub capacity : ℕ
    pub active : Image
    pub images : List Image
    pub offer : Offer p meta image capacity active
    pub count : ℕ
    pub fresh : ℕ
    pub heard : ℕ
    pub n_is : x.n ≡ sealed_in p meta image capacity active images offer u 0 0 Applied held last count fresh heard x.moment

  abbrev pub new_image : Image
  new_image = record { octets = joined held; meta = meta }

  pub record IsActive (x : Pair) : Type 0 where
    pub capacity : ℕ
    pub images : List Image
    pub count : ℕ
    pub fresh : ℕ
    pub session : Session
    pub n_is : x.n ≡ idle capacity (new_image ∷ images) count fresh session x.moment

  abbrev pub Applies : Pair → Type 0
  Applies x = IsApplied x ⊎ IsActive x

  module _ (v : Client) (x : Pair) where
    applied_passes : (h : IsApplied x) → Does (passes x.n (x.moment + 100)) (idle h.capacity (new_image ∷ h.images) (h.count + 1) (fresh_after false h.fresh) (after_all p meta image h.capacity h.active h.images h.offer u 0 0 h.heard) (x.moment + 100)) []
    applied_passes h =
        subst (λ s. Does (passes s (x.moment + 100)) (idle h.capacity (new_image ∷ h.images) (h.count + 1) (fresh_after false h.fresh) (after_all p meta image h.capacity h.active h.images h.offer u 0 0 h.heard) (x.moment + 100)) []) (sym h.n_is)
        (activates p meta image h.capacity h.active h.images h.offer u 0 0 held last h.count h.fresh h.heard x.moment (x.moment + 100) (omega arith))

    active_passes : (h : IsActive x) → Does (passes x.n (x.moment + 100)) (idle h.capacity (new_image ∷ h.images) h.count h.fresh h.session (x.moment + 100)) []
    active_passes h =
        subst (λ s. Does (passes s (x.moment + 100)) (idle h.capacity (new_image ∷ h.images) h.count h.fresh h.session (x.moment + 100)) []) (sym h.n_is)
        (idle_time h.capacity new_image h.images h.count h.fresh h.session x.moment (x.moment + 100) (omega arith))

    pub applies_later : Applies x → IsActive (pair_time v u x) × ((pair_time v u x).r ≡ x.r)
    applies_later (inl h) = (record { capacity = h.capacity; images = h.images; count = h.count + 1; fresh = fresh_after false h.fresh; session = after_all p meta image h.capacity h.active h.images h.offer u 0 0 h.heard; n_is = time_node v u x _ (applied_passes h) }, time_receiver v u x _ (applied_passes h))
    applies_later (inr h) = (record { capacity = h.capacity; images = h.images; count = h.count; fresh = h.fresh; session = h.session; n_is = time_node v u x _ (active_passes h) }, time_receiver v u x _ (active_passes h))

  abbrev pub ApplyW : ℕ → Pair → Type 0
  ApplyW j x = Row 4 bs cs true x × IsSealing j x

  abbrev pub ApplyD : ℕ → Pair → Type 0
  ApplyD j x = Row 6 bs cs false x × Applies x

  module _ (x : Pair) (row : Row 4 bs cs true x) (h : AVerified x) where
    applying : Does (asks x.n u (OfUpdate UpdateApply) x.moment) (sealed_in p meta image h.capacity h.active h.images h.offer u 0 0 Applied held last (h.count + 1) (fresh_after false h.fresh) h.heard x.moment) ((u, status_reply 6) ∷ [])
    applying =
        subst (λ s. Does (asks s u (OfUpdate UpdateApply) x.moment) (sealed_in p meta image h.capacity h.active h.images h.offer u 0 0 Applied held last (h.count + 1) (fresh_after false h.fresh) h.heard x.moment) ((u, status_reply 6) ∷ [])) (sym h.n_is)
        (applies p meta image h.capacity h.active h.images h.offer u 0 0 held last h.count h.fresh h.heard x.moment)

    apply_answered : Row 6 bs cs false (answered_by (view p meta Apply) u x (asks x.n u (OfUpdate UpdateApply) x.moment)) × Applies (answered_by (view p meta Apply) u x (asks x.n u (OfUpdate UpdateApply) x.moment))
    apply_answered = (
      row_answered (view p meta Apply) u x (OfUpdate UpdateApply) _ (status_reply 6) 4 6 bs cs bs cs applying row (told_apply p meta x.config.address bs cs),
      inl (record { capacity = h.capacity; active = h.active; images = h.images; offer = h.offer; count = h.count + 1; fresh = fresh_after false h.fresh; heard = h.heard; n_is = applying.next_is }),
    )

  pub apply_asking : Asking p meta u Apply (OfUpdate UpdateApply) ApplyW ApplyD most
  apply_asking = record {
    waits = λ j x w. pending_of 4 true x w.0;
    is_done = λ j x w. pending_of 6 false x w.0;
    place = λ j x w. row_place 4 bs cs true x w.0;
    message = λ j x w. refl;
    time_waits = λ j x lt w. (let t = sealing_on (view p meta Apply) x j w.1 in ((row_on (view p meta Apply) x 4 true t.1 w.0, t.0), t.1));
    time_done = λ j x lt w. (let t = applies_later (view p meta Apply) x w.1 in ((row_on (view p meta Apply) x 6 false t.1 w.0, inr t.0), t.1));
    asked = λ j x w. apply_answered x w.0 w.1;
    counts = λ c. refl;
  }

  -- ---- 10 confirm

  abbrev pub ConfirmW : ℕ → Pair → Type 0
  ConfirmW zero x = Row 6 bs cs true x × Applies x
  ConfirmW (suc j) x = Row 6 bs cs true x × IsActive x

  abbrev pub ConfirmD : ℕ → Pair → Type 0
  ConfirmD j x = Row 8 bs cs false x × IsActive x

  abbrev confirm_request : Request
  confirm_request = OfUpdate (InformationGet 0 1)

  module _ (x : Pair) (row : Row 6 bs cs true x) (h : IsActive x) where
    confirms : Does (asks x.n u confirm_request x.moment) (idle h.capacity (new_image ∷ h.images) h.count h.fresh h.session x.moment) ((u, ByUpdate (InformationStatus (length (new_image ∷ h.images)) 0 (firmware_id own_company meta ∷ []))) ∷ [])
    confirms =
        subst (λ s. Does (asks s u confirm_request x.moment) (idle h.capacity (new_image ∷ h.images) h.count h.fresh h.session x.moment) ((u, ByUpdate (InformationStatus (length (new_image ∷ h.images)) 0 (firmware_id own_company meta ∷ []))) ∷ [])) (sym h.n_is)
        (idle_information h.capacity new_image h.images h.count h.fresh h.session u x.moment)

    confirm_answered : Row 8 bs cs false (answered_by (view p meta Confirm) u x (asks x.n u confirm_request x.moment)) × IsActive (answered_by (view p meta Confirm) u x (asks x.n u confirm_request x.moment))
    confirm_answered = (
      row_answered (view p meta Confirm) u x confirm_request _ (ByUpdate (InformationStatus (length (new_image ∷ h.images)) 0 (firmware_id own_company meta ∷ []))) 6 8 bs cs bs cs confirms row
          (told_confirm p meta x.config.address (length (new_image ∷ h.images)) bs cs),
      record { capacity = h.capacity; images = h.images; count = h.count; fresh = h.fresh; session = h.session; n_is = confirms.next_is },
    )

  confirm_row : (j : ℕ) (x : Pair) → ConfirmW j x → Row 6 bs cs true x
  confirm_row zero x w = w.0
  confirm_row (suc j) x w = w.0

  confirm_node : (j : ℕ) (x : Pair) → ConfirmW j x → Applies x
  confirm_node zero x w = w.1
  confirm_node (suc j) x w = inr w.1

  pub confirm_asking : Asking p meta u Confirm confirm_request ConfirmW ConfirmD most
  confirm_asking = record {
    waits = λ j x w. pending_of 6 true x (confirm_row j x w);
    is_done = λ j x w. pending_of 8 false x w.0;
    place = λ j x w. row_place 6 bs cs true x (confirm_row j x w);
    message = λ j x w. ap (λ i. Some (OfUpdate (InformationGet i 1))) (row_index fields p meta image u blocks good most few 6 bs cs true x (confirm_row j x w));
    time_waits = λ j x lt w. (let t = applies_later (view p meta Confirm) x (confirm_node j x w) in ((row_on (view p meta Confirm) x 6 true t.1 (confirm_row j x w), t.0), t.1));
    time_done = λ j x lt w. (let t = applies_later (view p meta Confirm) x (inr w.1) in ((row_on (view p meta Confirm) x 8 false t.1 w.0, t.0), t.1));
    asked = λ j x w. confirm_answered x w.0 w.1;
    counts = λ c. refl;
  }

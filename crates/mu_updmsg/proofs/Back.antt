-- The message in memory that a plain message is the view of.
use Rattle.std.proofs.Common.{◌≡◌, ℕ, eqb, cond, List, [], ◌∷◌, ◌++◌, Option, Some, None, refl, sym, ap, ◌∙◌, map}
use Rattle.std.specs.Prelude.{unwrap_or}
use Rattle.std.specs.Option.{option_or}
use Rattle.std.proofs.lemmas.Simd.{map-map}
use Rattle.std.specs.Borrow.{Bor}
use Rattle.mu_model_wire.specs.Fields.{Shown, number, perhaps, Message}
use Rattle.mu_model_wire.specs.Names.{id, uri, first, limit, count, index, metadata, status, additional, phase, ttl, base}
use Rattle.mu_model_wire.specs.Reading.{value_of}
use Rattle.mu_model_wire.specs.Found.{number_of, octets_of, NumbersAreFound, OptionalNumberIsFound, OptionalNumberHasOneName}
use Rattle.mu_updmsg.specs.View.{view, entry_shown}
use Rattle.mu_updmsg.specs.Laws.{content}
use Rattle.mu_updmsg.specs.declared.message.Entry.{Entry}
use Rattle.mu_updmsg.specs.declared.message.UpdMsg.{UpdMsg}
use Rattle.mu_updmsg.specs.declared.message.UpdMsg.TheVariants.{InformationGet, InformationStatus, MetadataCheck, MetadataStatus, UpdateGet, UpdateStart, UpdateCancel, UpdateApply, UpdateStatus}

abbrev lent_of : ℕ → List Shown → Bor (List ℕ)
lent_of name shown = record { ref_ptr = (0, 0); now = unwrap_or (octets_of name shown) [] }

abbrev entry_back : List Shown → Entry
entry_back shown = record { id = lent_of id shown; uri = lent_of uri shown }

abbrev back : Message → UpdMsg
back m =
    cond (eqb m.opcode 0x8308) (InformationGet (value_of first m.fields) (value_of limit m.fields))
    (cond (eqb m.opcode 0x8309) (InformationStatus (value_of count m.fields) (value_of first m.fields) (record { items = map entry_back m.entries }))
    (cond (eqb m.opcode 0x830A) (MetadataCheck (value_of index m.fields) (lent_of metadata m.fields))
    (cond (eqb m.opcode 0x830B) (MetadataStatus (value_of status m.fields) (value_of additional m.fields) (value_of index m.fields))
    (cond (eqb m.opcode 0x830C) UpdateGet
    (cond (eqb m.opcode 0x830D) (UpdateStart (value_of ttl m.fields) (value_of base m.fields) (value_of id m.fields) (value_of index m.fields) (lent_of metadata m.fields))
    (cond (eqb m.opcode 0x830E) UpdateCancel
    (cond (eqb m.opcode 0x830F) UpdateApply
    (UpdateStatus (unwrap_or (number_of status m.fields) 0) (unwrap_or (number_of phase m.fields) 0) (number_of ttl m.fields) (number_of additional m.fields) (number_of base m.fields) (number_of id m.fields) (number_of index m.fields)))))))))

same_status : (s s' p p' : ℕ) (t t' a a' b b' i i' x x' : Option ℕ) → s ≡ s' → p ≡ p' → t ≡ t' → a ≡ a' → b ≡ b' → i ≡ i' → x ≡ x'
    → UpdateStatus s p t a b i x ≡ UpdateStatus s' p' t' a' b' i' x'
same_status s s' p p' t t' a a' b b' i i' x x' es ep et ea eb ei ex = rw (es, ep, et, ea, eb, ei, ex) refl

or_none : (o : Option ℕ) → option_or o None ≡ o
or_none None = refl
or_none (Some x) = refl

module _ (found : NumbersAreFound) (own : OptionalNumberIsFound) (other : OptionalNumberHasOneName) where
  back_view : (m : UpdMsg) → back (view m) ≡ content m
  back_view (InformationGet f l) = refl
  back_view (InformationStatus c f es) = ap (λ (items : List Entry). InformationStatus c f (record { items = items })) (map-map entry_back entry_shown es.items)
  back_view (MetadataCheck i m) = refl
  back_view (MetadataStatus s a i) = refl
  back_view UpdateGet = refl
  back_view (UpdateStart t b i x m) = refl
  back_view UpdateCancel = refl
  back_view UpdateApply = refl
  back_view (UpdateStatus s p t a b i x) =
      let one = number status s ∷ number phase p ∷ perhaps (number ttl) t in
      let two = one ++ perhaps (number additional) a in
      let three = two ++ perhaps (number base) b in
      let four = three ++ perhaps (number id) i in
      let last = perhaps (number index) x in
      let split : (name : ℕ) → number_of name (four ++ last) ≡ option_or (option_or (option_or (option_or (number_of name one) (number_of name (perhaps (number additional) a))) (number_of name (perhaps (number base) b))) (number_of name (perhaps (number id) i))) (number_of name last) = λ name. rw (found name four last, found name three (perhaps (number id) i), found name two (perhaps (number base) b), found name one (perhaps (number additional) a)) refl in
      same_status _ s _ p _ t _ a _ b _ i _ x
      (ap (λ (o : Option ℕ). unwrap_or o 0) (split status))
      (ap (λ (o : Option ℕ). unwrap_or o 0) (split phase))
      (split ttl ∙ rw (own ttl t, other additional ttl a refl, other base ttl b refl, other id ttl i refl, other index ttl x refl, or_none t, or_none t, or_none t, or_none t) refl)
      (split additional ∙ rw (other ttl additional t refl, own additional a, other base additional b refl, other id additional i refl, other index additional x refl, or_none a, or_none a, or_none a) refl)
      (split base ∙ rw (other ttl base t refl, other additional base a refl, own base b, other id base i refl, other index base x refl, or_none b, or_none b) refl)
      (split id ∙ rw (other ttl id t refl, other additional id a refl, other base id b refl, own id i, other index id x refl, or_none i) refl)
      (split index ∙ rw (other ttl index t refl, other additional index a refl, other base index b refl, other id index i refl, own index x) refl)

  pub tells_all : (m n : UpdMsg) → view m ≡ view n → content m ≡ content n
  tells_all m n same = sym (back_view m) ∙ ap back same ∙ back_view n

-- The message in memory that a plain message is the view of, where no progress is odd.
use Rattle.std.proofs.Common.{◌≡◌, ℕ, suc, ◌*◌, ◌/◌, eqb, cond, List, [], ◌∷◌, ◌++◌, Option, Some, None, refl, sym, ap, ◌∙◌, map, arith}
use Rattle.std.specs.Prelude.{unwrap_or}
use Rattle.std.specs.Option.{option_or}
use Rattle.std.specs.List.{All}
use Rattle.std.specs.Borrow.{Bor}
use Rattle.mu_codec.specs.Lent.{unplaced_there}
use Rattle.mu_model_wire.specs.Fields.{Shown, number, octets, perhaps, Message}
use Rattle.mu_model_wire.specs.Names.{address, index, status, count, first, limit, phase, update_status, transfer_status, progress, receivers, images, max_size, space, remaining, oob, schemes, appkey, ttl, base, mode, policy, image, label, group, id, size, metadata, fwid, uri, kind}
use Rattle.mu_model_wire.specs.Reading.{value_of}
use Rattle.mu_model_wire.specs.Found.{number_of, octets_of, NumbersAreFound, OctetsAreFound, OptionalNumberIsFound, OptionalNumberHasOneName}
use Rattle.mu_distmsg.specs.View.{view, pair_shown, row_shown, RowIsEven, IsEven}
use Rattle.mu_distmsg.specs.Laws.{content}
use Rattle.mu_distmsg.specs.declared.message.ReceiverRow.{ReceiverRow}
use Rattle.mu_distmsg.specs.declared.message.DistMsg.{DistMsg}
use Rattle.mu_distmsg.specs.declared.message.DistMsg.TheVariants.{ReceiversAdd, ReceiversDeleteAll, ReceiversStatus, ReceiversGet, ReceiversList, CapabilitiesGet, CapabilitiesStatus, DistributionGet, DistributionStart, DistributionSuspend, DistributionCancel, DistributionApply, DistributionStatus, UploadGet, UploadStart, UploadStartOob, UploadCancel, UploadStatus, FirmwareGet, FirmwareGetByIndex, FirmwareDelete, FirmwareDeleteAll, FirmwareStatus}

abbrev lent : List ℕ → Bor (List ℕ)
lent os = record { ref_ptr = (0, 0); now = os }

abbrev lent_there : Option (List ℕ) → Option (Bor (List ℕ))
lent_there None = None
lent_there (Some os) = Some (lent os)

abbrev os_of : ℕ → List Shown → Bor (List ℕ)
os_of name shown = lent (unwrap_or (octets_of name shown) [])

abbrev v_of : ℕ → List Shown → ℕ
v_of name shown = unwrap_or (number_of name shown) 0

abbrev pair_back : List Shown → ℕ × ℕ
pair_back shown = (value_of address shown, value_of index shown)

abbrev row_back : List Shown → ReceiverRow
row_back shown = record {
  address = value_of address shown;
  phase = value_of phase shown;
  update_status = value_of update_status shown;
  transfer_status = value_of transfer_status shown;
  progress = 2 * value_of progress shown;
  image_index = value_of index shown;
}

abbrev back : Message → DistMsg
back m =
    cond (eqb m.opcode 0x8311) (ReceiversAdd (record { items = map pair_back m.entries }))
    (cond (eqb m.opcode 0x8312) ReceiversDeleteAll
    (cond (eqb m.opcode 0x8313) (ReceiversStatus (value_of status m.fields) (value_of count m.fields))
    (cond (eqb m.opcode 0x8314) (ReceiversGet (value_of first m.fields) (value_of limit m.fields))
    (cond (eqb m.opcode 0x8315) (ReceiversList (value_of count m.fields) (value_of first m.fields) (record { items = map row_back m.entries }))
    (cond (eqb m.opcode 0x8316) CapabilitiesGet
    (cond (eqb m.opcode 0x8317) (CapabilitiesStatus (value_of receivers m.fields) (value_of images m.fields) (value_of max_size m.fields) (value_of space m.fields) (value_of remaining m.fields) (value_of oob m.fields) (os_of schemes m.fields))
    (cond (eqb m.opcode 0x8318) DistributionGet
    (cond (eqb m.opcode 0x8319) (DistributionStart (v_of appkey m.fields) (v_of ttl m.fields) (v_of base m.fields) (v_of mode m.fields) (v_of policy m.fields) (v_of image m.fields) (octets_of label m.fields) (number_of group m.fields))
    (cond (eqb m.opcode 0x831A) DistributionSuspend
    (cond (eqb m.opcode 0x831B) DistributionCancel
    (cond (eqb m.opcode 0x831C) DistributionApply
    (cond (eqb m.opcode 0x831D) (DistributionStatus (v_of status m.fields) (v_of phase m.fields) (number_of group m.fields) (number_of appkey m.fields) (number_of ttl m.fields) (number_of base m.fields) (number_of mode m.fields) (number_of policy m.fields) (number_of image m.fields))
    (cond (eqb m.opcode 0x831E) UploadGet
    (cond (eqb m.opcode 0x831F) (UploadStart (value_of ttl m.fields) (value_of base m.fields) (value_of id m.fields) (value_of size m.fields) (os_of metadata m.fields) (os_of fwid m.fields))
    (cond (eqb m.opcode 0x8320) (UploadStartOob (os_of uri m.fields) (os_of fwid m.fields))
    (cond (eqb m.opcode 0x8321) UploadCancel
    (cond (eqb m.opcode 0x8322) (UploadStatus (v_of status m.fields) (v_of phase m.fields) (number_of progress m.fields) (number_of kind m.fields) (lent_there (octets_of fwid m.fields)))
    (cond (eqb m.opcode 0x8323) (FirmwareGet (os_of fwid m.fields))
    (cond (eqb m.opcode 0x8324) (FirmwareGetByIndex (value_of index m.fields))
    (cond (eqb m.opcode 0x8325) (FirmwareDelete (os_of fwid m.fields))
    (cond (eqb m.opcode 0x8326) FirmwareDeleteAll
    (FirmwareStatus (v_of status m.fields) (v_of count m.fields) (v_of index m.fields) (lent_there (octets_of fwid m.fields))))))))))))))))))))))))

pairs_again : (pairs : List (ℕ × ℕ)) → map pair_back (map pair_shown pairs) ≡ pairs
pairs_again [] = refl
pairs_again (p ∷ pairs) = ap (λ (ps : List (ℕ × ℕ)). p ∷ ps) (pairs_again pairs)

row_again : (r : ReceiverRow) → RowIsEven r → row_back (row_shown r) ≡ r
row_again r even =
    let whole : 2 * (r.progress / 2) ≡ r.progress = omega (arith, even) in
    rw whole refl

rows_again : (rows : List ReceiverRow) → All RowIsEven rows → map row_back (map row_shown rows) ≡ rows
rows_again [] even = refl
rows_again (r ∷ rows) even =
    let first : RowIsEven r = even 0 r (omega arith) in
    let others : All RowIsEven rows = λ k d lt. even (suc k) d (omega (arith, lt)) in
    rw (row_again r first, rows_again rows others) refl

abbrev lent_shown : Option (Bor (List ℕ)) → List Shown
lent_shown b = perhaps (λ (o : Bor (List ℕ)). octets fwid o.now) b

no_number : (name : ℕ) (b : Option (Bor (List ℕ))) → number_of name (lent_shown b) ≡ None
no_number name None = refl
no_number name (Some o) = refl

no_label : (name : ℕ) (b : Option (List ℕ)) → number_of name (perhaps (octets label) b) ≡ None
no_label name None = refl
no_label name (Some o) = refl

no_octets : (n name : ℕ) (o : Option ℕ) → octets_of name (perhaps (number n) o) ≡ None
no_octets n name None = refl
no_octets n name (Some v) = refl

lent_again : (b : Option (Bor (List ℕ))) → lent_there (octets_of fwid (lent_shown b)) ≡ unplaced_there b
lent_again None = refl
lent_again (Some o) = refl

label_again : (b : Option (List ℕ)) → octets_of label (perhaps (octets label) b) ≡ b
label_again None = refl
label_again (Some o) = refl

same_distribution : (s s' : ℕ) (p p' : ℕ) (g g' : Option ℕ) (a a' : Option ℕ) (t t' : Option ℕ) (b b' : Option ℕ) (m m' : Option ℕ) (q q' : Option ℕ) (i i' : Option ℕ) → s ≡ s' → p ≡ p' → g ≡ g' → a ≡ a' → t ≡ t' → b ≡ b' → m ≡ m' → q ≡ q' → i ≡ i'
    → DistributionStatus s p g a t b m q i ≡ DistributionStatus s' p' g' a' t' b' m' q' i'
same_distribution s s' p p' g g' a a' t t' b b' m m' q q' i i' es ep eg ea et eb em eq ei = rw (es, ep, eg, ea, et, eb, em, eq, ei) refl

same_start : (a a' : ℕ) (t t' : ℕ) (b b' : ℕ) (m m' : ℕ) (p p' : ℕ) (i i' : ℕ) (l l' : Option (List ℕ)) (g g' : Option ℕ) → a ≡ a' → t ≡ t' → b ≡ b' → m ≡ m' → p ≡ p' → i ≡ i' → l ≡ l' → g ≡ g'
    → DistributionStart a t b m p i l g ≡ DistributionStart a' t' b' m' p' i' l' g'
same_start a a' t t' b b' m m' p p' i i' l l' g g' ea et eb em ep ei el eg = rw (ea, et, eb, em, ep, ei, el, eg) refl

same_upload : (s s' : ℕ) (p p' : ℕ) (r r' : Option ℕ) (k k' : Option ℕ) (f f' : Option (Bor (List ℕ))) → s ≡ s' → p ≡ p' → r ≡ r' → k ≡ k' → f ≡ f'
    → UploadStatus s p r k f ≡ UploadStatus s' p' r' k' f'
same_upload s s' p p' r r' k k' f f' es ep er ek ef = rw (es, ep, er, ek, ef) refl

or_none : {A : Type 0} (o : Option A) → option_or o None ≡ o
or_none None = refl
or_none (Some x) = refl

module _ (found : NumbersAreFound) (octets_found : OctetsAreFound) (own : OptionalNumberIsFound) (other : OptionalNumberHasOneName) where
  distribution_back : (s p : ℕ) (g a t b m q i : Option ℕ) → back (view (DistributionStatus s p g a t b m q i)) ≡ DistributionStatus s p g a t b m q i
  distribution_back s p g a t b m q i =
      let l1 = number status s ∷ number phase p ∷ perhaps (number group) g in
      let l2 = l1 ++ perhaps (number appkey) a in
      let l3 = l2 ++ perhaps (number ttl) t in
      let l4 = l3 ++ perhaps (number base) b in
      let l5 = l4 ++ perhaps (number mode) m in
      let l6 = l5 ++ perhaps (number policy) q in
      let l7 = l6 ++ perhaps (number image) i in
      let split : (name : ℕ) → number_of name l7 ≡ option_or (option_or (option_or (option_or (option_or (option_or (number_of name l1) (number_of name (perhaps (number appkey) a))) (number_of name (perhaps (number ttl) t))) (number_of name (perhaps (number base) b))) (number_of name (perhaps (number mode) m))) (number_of name (perhaps (number policy) q))) (number_of name (perhaps (number image) i)) = λ name. rw (found name l6 (perhaps (number image) i), found name l5 (perhaps (number policy) q), found name l4 (perhaps (number mode) m), found name l3 (perhaps (number base) b), found name l2 (perhaps (number ttl) t), found name l1 (perhaps (number appkey) a)) refl in
      same_distribution _ s _ p _ g _ a _ t _ b _ m _ q _ i
      (ap (λ (o : Option ℕ). unwrap_or o 0) (split status))
      (ap (λ (o : Option ℕ). unwrap_or o 0) (split phase))
      (split group ∙ rw (own group g, other appkey group a refl, other ttl group t refl, other base group b refl, other mode group m refl, other policy group q refl, other image group i refl, or_none g, or_none g, or_none g, or_none g, or_none g, or_none g) refl)
      (split appkey ∙ rw (other group appkey g refl, own appkey a, other ttl appkey t refl, other base appkey b refl, other mode appkey m refl, other policy appkey q refl, other image appkey i refl, or_none a, or_none a, or_none a, or_none a, or_none a) refl)
      (split ttl ∙ rw (other group ttl g refl, other appkey ttl a refl, own ttl t, other base ttl b refl, other mode ttl m refl, other policy ttl q refl, other image ttl i refl, or_none t, or_none t, or_none t, or_none t) refl)
      (split base ∙ rw (other group base g refl, other appkey base a refl, other ttl base t refl, own base b, other mode base m refl, other policy base q refl, other image base i refl, or_none b, or_none b, or_none b) refl)
      (split mode ∙ rw (other group mode g refl, other appkey mode a refl, other ttl mode t refl, other base mode b refl, own mode m, other policy mode q refl, other image mode i refl, or_none m, or_none m) refl)
      (split policy ∙ rw (other group policy g refl, other appkey policy a refl, other ttl policy t refl, other base policy b refl, other mode policy m refl, own policy q, other image policy i refl, or_none q) refl)
      (split image ∙ rw (other group image g refl, other appkey image a refl, other ttl image t refl, other base image b refl, other mode image m refl, other policy image q refl, own image i) refl)

  start_back : (a t b m p i : ℕ) (l : Option (List ℕ)) (g : Option ℕ) → back (view (DistributionStart a t b m p i l g)) ≡ DistributionStart a t b m p i l g
  start_back a t b m p i l g =
      let l1 = number appkey a ∷ number ttl t ∷ number base b ∷ number mode m ∷ number policy p ∷ number image i ∷ perhaps (octets label) l in
      let last = perhaps (number group) g in
      let split : (name : ℕ) → number_of name (l1 ++ last) ≡ option_or (number_of name l1) (number_of name last) = λ name. found name l1 last in
      let or_zero = λ (o : Option ℕ). unwrap_or o 0 in
      same_start _ a _ t _ b _ m _ p _ i _ l _ g
      (ap or_zero (split appkey)) (ap or_zero (split ttl)) (ap or_zero (split base)) (ap or_zero (split mode)) (ap or_zero (split policy)) (ap or_zero (split image))
      (octets_found label l1 last ∙ rw (label_again l, no_octets group label g, or_none l) refl)
      (split group ∙ rw (no_label group l, own group g) refl)

  upload_back : (s p : ℕ) (r k : Option ℕ) (f : Option (Bor (List ℕ))) → back (view (UploadStatus s p r k f)) ≡ UploadStatus s p r k (unplaced_there f)
  upload_back s p r k f =
      let l1 = number status s ∷ number phase p ∷ perhaps (number progress) r in
      let l2 = l1 ++ perhaps (number kind) k in
      let last = lent_shown f in
      let split : (name : ℕ) → number_of name (l2 ++ last) ≡ option_or (option_or (number_of name l1) (number_of name (perhaps (number kind) k))) (number_of name last) = λ name. rw (found name l2 last, found name l1 (perhaps (number kind) k)) refl in
      let os : octets_of fwid (l2 ++ last) ≡ octets_of fwid last = rw (octets_found fwid l2 last, octets_found fwid l1 (perhaps (number kind) k), no_octets progress fwid r, no_octets kind fwid k) refl in
      let or_zero = λ (o : Option ℕ). unwrap_or o 0 in
      same_upload _ s _ p _ r _ k _ (unplaced_there f)
      (ap or_zero (split status)) (ap or_zero (split phase))
      (split progress ∙ rw (own progress r, other kind progress k refl, no_number progress f, or_none r, or_none r) refl)
      (split kind ∙ rw (other progress kind r refl, own kind k, no_number kind f, or_none k) refl)
      (ap lent_there os ∙ lent_again f)

  back_view : (m : DistMsg) → IsEven m → back (view m) ≡ content m
  back_view (ReceiversAdd es) even = ap (λ (items : List (ℕ × ℕ)). ReceiversAdd (record { items = items })) (pairs_again es.items)
  back_view ReceiversDeleteAll even = refl
  back_view (ReceiversStatus s c) even = refl
  back_view (ReceiversGet f l) even = refl
  back_view (ReceiversList c f es) even = ap (λ (items : List ReceiverRow). ReceiversList c f (record { items = items })) (rows_again es.items even)
  back_view CapabilitiesGet even = refl
  back_view (CapabilitiesStatus r i m s l o u) even = refl
  back_view DistributionGet even = refl
  back_view (DistributionStart a t b m p i l g) even = start_back a t b m p i l g
  back_view DistributionSuspend even = refl
  back_view DistributionCancel even = refl
  back_view DistributionApply even = refl
  back_view (DistributionStatus s p g a t b m q i) even = distribution_back s p g a t b m q i
  back_view UploadGet even = refl
  back_view (UploadStart t b i s m f) even = refl
  back_view (UploadStartOob u f) even = refl
  back_view UploadCancel even = refl
  back_view (UploadStatus s p r k f) even = upload_back s p r k f
  back_view (FirmwareGet f) even = refl
  back_view (FirmwareGetByIndex i) even = refl
  back_view (FirmwareDelete f) even = refl
  back_view FirmwareDeleteAll even = refl
  back_view (FirmwareStatus s c i None) even = refl
  back_view (FirmwareStatus s c i (Some f)) even = refl

  pub tells_all : (m n : DistMsg) → IsEven m → IsEven n → view m ≡ view n → content m ≡ content n
  tells_all m n even evener same = sym (back_view m even) ∙ ap back same ∙ back_view n evener

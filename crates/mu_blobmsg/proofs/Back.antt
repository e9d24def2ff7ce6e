-- The message in memory that a plain message is the view of.
use Rattle.std.proofs.Common.{◌≡◌, ℕ, eqb, cond, List, [], ◌∷◌, ◌++◌, Option, Some, None, refl, sym, ap, ◌∙◌, map}
use Rattle.std.specs.Prelude.{unwrap_or}
use Rattle.std.specs.Option.{option_or}
use Rattle.std.specs.Borrow.{Bor}
use Rattle.mu_codec.specs.Lent.{unplaced_there}
use Rattle.mu_model_wire.specs.Fields.{Shown, number, octets as shown_octets, perhaps, Message}
use Rattle.mu_model_wire.specs.Names.{mode, id, size, log, mtu, status, phase, blocks, chunk, octets, missing, format, block, chunk_size, bits, min_log, max_log, max_chunks, max_chunk_size, max_size, push, pull}
use Rattle.mu_model_wire.specs.Reading.{value_of}
use Rattle.mu_model_wire.specs.Reports.{shown_numbers}
use Rattle.mu_model_wire.specs.Found.{number_of, octets_of, NumbersAreFound, OctetsAreFound, OptionalNumberIsFound, OptionalNumberHasOneName}
use Rattle.mu_model_wire.specs.declared.reports.Report.{Report}
use Rattle.mu_model_wire.specs.declared.reports.Report.TheVariants.{All, Nothing, Bits, List as Listed}
use Rattle.mu_blobmsg.specs.View.{view}
use Rattle.mu_blobmsg.specs.Laws.{content}
use Rattle.mu_blobmsg.specs.declared.message.BlobMsg.{BlobMsg}
use Rattle.mu_blobmsg.specs.declared.message.BlobMsg.TheVariants.{TransferGet, TransferStart, TransferCancel, TransferStatus, BlockStart, BlockGet, BlobInformationGet, BlobInformationStatus, ChunkTransfer, BlockStatus, PartialBlockReport}

abbrev lent : List ℕ → Bor (List ℕ)
lent os = record { ref_ptr = (0, 0); now = os }

abbrev lent_there : Option (List ℕ) → Option (Bor (List ℕ))
lent_there None = None
lent_there (Some os) = Some (lent os)

abbrev octets_or_none : ℕ → List Shown → List ℕ
octets_or_none name shown = unwrap_or (octets_of name shown) []

abbrev numbers_back : List (List Shown) → List ℕ
numbers_back es = map (value_of missing) es

abbrev report_back : Message → Report
report_back m =
    cond (eqb (value_of format m.fields) 0) All
    (cond (eqb (value_of format m.fields) 1) Nothing
    (cond (eqb (value_of format m.fields) 2) (Bits (record { items = octets_or_none bits m.fields })) (Listed (record { items = numbers_back m.entries }))))

abbrev back : Message → BlobMsg
back m =
    cond (eqb m.opcode 0x8300) TransferGet
    (cond (eqb m.opcode 0x8301) (TransferStart (value_of mode m.fields) (value_of id m.fields) (value_of size m.fields) (value_of log m.fields) (value_of mtu m.fields))
    (cond (eqb m.opcode 0x8302) (TransferCancel (value_of id m.fields))
    (cond (eqb m.opcode 0x8303) (TransferStatus (unwrap_or (number_of status m.fields) 0) (unwrap_or (number_of mode m.fields) 0) (unwrap_or (number_of phase m.fields) 0) (number_of id m.fields) (number_of size m.fields) (number_of log m.fields) (number_of mtu m.fields) (lent_there (octets_of blocks m.fields)))
    (cond (eqb m.opcode 0x8304) (BlockStart (value_of block m.fields) (value_of chunk_size m.fields))
    (cond (eqb m.opcode 0x8305) BlockGet
    (cond (eqb m.opcode 0x8306) BlobInformationGet
    (cond (eqb m.opcode 0x8307) (BlobInformationStatus (value_of min_log m.fields) (value_of max_log m.fields) (value_of max_chunks m.fields) (value_of max_chunk_size m.fields) (value_of max_size m.fields) (value_of mtu m.fields) (value_of push m.fields) (value_of pull m.fields))
    (cond (eqb m.opcode 0x66) (ChunkTransfer (value_of chunk m.fields) (lent (octets_or_none octets m.fields)))
    (cond (eqb m.opcode 0x67) (BlockStatus (value_of status m.fields) (value_of block m.fields) (value_of chunk_size m.fields) (report_back m))
    (PartialBlockReport (record { items = numbers_back m.entries })))))))))))

numbers_again : (numbers : List ℕ) → numbers_back (shown_numbers missing numbers) ≡ numbers
numbers_again [] = refl
numbers_again (n ∷ numbers) = ap (λ (ns : List ℕ). n ∷ ns) (numbers_again numbers)

same_status : (s s' m m' p p' : ℕ) (i i' z z' l l' t t' : Option ℕ) (b b' : Option (Bor (List ℕ))) → s ≡ s' → m ≡ m' → p ≡ p' → i ≡ i' → z ≡ z' → l ≡ l' → t ≡ t' → b ≡ b'
    → TransferStatus s m p i z l t b ≡ TransferStatus s' m' p' i' z' l' t' b'
same_status s s' m m' p p' i i' z z' l l' t t' b b' es em ep ei ez el et eb = rw (es, em, ep, ei, ez, el, et, eb) refl

abbrev lent_shown : Option (Bor (List ℕ)) → List Shown
lent_shown b = perhaps (λ (o : Bor (List ℕ)). shown_octets blocks o.now) b

no_number : (name : ℕ) (b : Option (Bor (List ℕ))) → number_of name (lent_shown b) ≡ None
no_number name None = refl
no_number name (Some o) = refl

no_octets : (n name : ℕ) (o : Option ℕ) → octets_of name (perhaps (number n) o) ≡ None
no_octets n name None = refl
no_octets n name (Some v) = refl

lent_again : (b : Option (Bor (List ℕ))) → lent_there (octets_of blocks (lent_shown b)) ≡ unplaced_there b
lent_again None = refl
lent_again (Some o) = refl

or_none : (o : Option ℕ) → option_or o None ≡ o
or_none None = refl
or_none (Some x) = refl

module _ (found : NumbersAreFound) (octets_found : OctetsAreFound) (own : OptionalNumberIsFound) (other : OptionalNumberHasOneName) where
  status_back : (s m p : ℕ) (i z l t : Option ℕ) (b : Option (Bor (List ℕ))) → back (view (TransferStatus s m p i z l t b)) ≡ TransferStatus s m p i z l t (unplaced_there b)
  status_back s m p i z l t b =
      let one = number status s ∷ number mode m ∷ number phase p ∷ perhaps (number id) i in
      let two = one ++ perhaps (number size) z in
      let three = two ++ perhaps (number log) l in
      let four = three ++ perhaps (number mtu) t in
      let last = lent_shown b in
      let split : (name : ℕ) → number_of name (four ++ last) ≡ option_or (option_or (option_or (option_or (number_of name one) (number_of name (perhaps (number size) z))) (number_of name (perhaps (number log) l))) (number_of name (perhaps (number mtu) t))) (number_of name last) = λ name. rw (found name four last, found name three (perhaps (number mtu) t), found name two (perhaps (number log) l), found name one (perhaps (number size) z)) refl in
      let octets_split : octets_of blocks (four ++ last) ≡ octets_of blocks last = rw (octets_found blocks four last, octets_found blocks three (perhaps (number mtu) t), octets_found blocks two (perhaps (number log) l), octets_found blocks one (perhaps (number size) z), no_octets id blocks i, no_octets size blocks z, no_octets log blocks l, no_octets mtu blocks t) refl in
      same_status _ s _ m _ p _ i _ z _ l _ t _ (unplaced_there b)
      (ap (λ (o : Option ℕ). unwrap_or o 0) (split status))
      (ap (λ (o : Option ℕ). unwrap_or o 0) (split mode))
      (ap (λ (o : Option ℕ). unwrap_or o 0) (split phase))
      (split id ∙ rw (own id i, other size id z refl, other log id l refl, other mtu id t refl, no_number id b, or_none i, or_none i, or_none i, or_none i) refl)
      (split size ∙ rw (other id size i refl, own size z, other log size l refl, other mtu size t refl, no_number size b, or_none z, or_none z, or_none z) refl)
      (split log ∙ rw (other id log i refl, other size log z refl, own log l, other mtu log t refl, no_number log b, or_none l, or_none l) refl)
      (split mtu ∙ rw (other id mtu i refl, other size mtu z refl, other log mtu l refl, own mtu t, no_number mtu b, or_none t) refl)
      (ap lent_there octets_split ∙ lent_again b)

  back_view : (m : BlobMsg) → back (view m) ≡ content m
  back_view TransferGet = refl
  back_view (TransferStart m i s l t) = refl
  back_view (TransferCancel i) = refl
  back_view (TransferStatus s m p i z l t b) = status_back s m p i z l t b
  back_view (BlockStart b c) = refl
  back_view BlockGet = refl
  back_view BlobInformationGet = refl
  back_view (BlobInformationStatus n x c z s t p q) = refl
  back_view (ChunkTransfer c o) = refl
  back_view (BlockStatus s b c All) = refl
  back_view (BlockStatus s b c Nothing) = refl
  back_view (BlockStatus s b c (Bits os)) = refl
  back_view (BlockStatus s b c (Listed ns)) = ap (λ (items : List ℕ). BlockStatus s b c (Listed (record { items = items }))) (numbers_again ns.items)
  back_view (PartialBlockReport ns) = ap (λ (items : List ℕ). PartialBlockReport (record { items = items })) (numbers_again ns.items)

  pub tells_all : (m n : BlobMsg) → view m ≡ view n → content m ≡ content n
  tells_all m n same = sym (back_view m) ∙ ap back same ∙ back_view n

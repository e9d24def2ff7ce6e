-- Packets that are put into the bag one after the other, and entries of the log.
use Rattle.std.proofs.Common.{◌≡◌, ℕ, ◌+◌, ◌<◌, ◌≤◌, List, [], ◌∷◌, ◌++◌, length, map, drop, refl, sym, ap, ◌∙◌, append_assoc, append-nil, arith, length-append, slice_index_or, zero, suc}
use Rattle.mu_codec.specs.View.{packet_of}
use Rattle.mu_codec.specs.declared.packet.Packet.{Packet as HeldPacket}
use Rattle.mu_model_node.specs.Log.{LogEntry}
use Rattle.mu_model_wire.specs.Packet.{Packet}
use Rattle.mu_model_script.specs.Texts.{sent_text}
use Rattle.mu_model_world.specs.World.{World}
use Rattle.mu_model_world.specs.Outcomes.{with_packets, sent_texts}
use Rattle.mu_reference_node.specs.Logging.{what_of}
use Rattle.mu_reference_node.specs.declared.logging.What.{What}
use Rattle.mu_world.specs.Outcome.{with_entries}

-- the rest from a place on is what stands there, and the rest from the next
drop_next : {X : Type 0} (xs : List X) (i : ℕ) (d : X) → i < length xs → drop i xs ≡ slice_index_or xs i d ∷ drop (i + 1) xs
drop_next [] i d lt = absurd (omega (arith, lt))
drop_next (x ∷ xs) zero d lt = refl
drop_next (x ∷ xs) (suc i) d lt =
    let next : suc i + 1 ≡ suc (i + 1) = omega arith in
    drop_next xs i d (omega (arith, lt)) ∙ ap (λ n. slice_index_or xs i d ∷ drop n (x ∷ xs)) (sym next)

drop_past : {X : Type 0} (xs : List X) (i : ℕ) → length xs ≤ i → drop i xs ≡ []
drop_past [] zero past = refl
drop_past [] (suc i) past = refl
drop_past (x ∷ xs) zero past = absurd (omega (arith, past))
drop_past (x ∷ xs) (suc i) past = drop_past xs i (omega (arith, past))

-- ---- packets

one_more : (w : World) (p : Packet) (ps : List Packet) → with_packets (with_packets w (p ∷ [])) ps ≡ with_packets w (p ∷ ps)
one_more w p ps = ap (λ bag. record w { bag = bag }) (append_assoc w.bag (p ∷ []) ps)

bag_next : (w new : World) (packets : List HeldPacket) (i : ℕ) (d : HeldPacket) → i < length packets → new ≡ with_packets w (packet_of (slice_index_or packets i d) ∷ [])
    → with_packets new (map packet_of (drop (i + 1) packets)) ≡ with_packets w (map packet_of (drop i packets))
bag_next w new packets i d lt is =
    ap (λ (v : World). with_packets v (map packet_of (drop (i + 1) packets))) is
    ∙ one_more w (packet_of (slice_index_or packets i d)) (map packet_of (drop (i + 1) packets))
    ∙ ap (λ ps. with_packets w (map packet_of ps)) (sym (drop_next packets i d lt))

text_next : (w new : World) (lines lines' : List ℕ) (packets : List HeldPacket) (i : ℕ) (d : HeldPacket) → i < length packets → new ≡ with_packets w (packet_of (slice_index_or packets i d) ∷ [])
    → lines' ≡ lines ++ sent_texts (length w.bag) (packet_of (slice_index_or packets i d) ∷ [])
    → lines' ++ sent_texts (length new.bag) (map packet_of (drop (i + 1) packets)) ≡ lines ++ sent_texts (length w.bag) (map packet_of (drop i packets))
text_next w new lines lines' packets i d lt is printed =
    let p = packet_of (slice_index_or packets i d) in
    let rest = map packet_of (drop (i + 1) packets) in
    let count : length new.bag ≡ length w.bag + 1 = ap (λ (v : World). length v.bag) is ∙ length-append w.bag (p ∷ []) in
    let one : sent_texts (length w.bag) (p ∷ []) ≡ sent_text (length w.bag) p.from p.to p.payload = append-nil _ in
    ap (λ n. lines' ++ sent_texts n rest) count
    ∙ (ap (λ (t : List ℕ). t ++ sent_texts (length w.bag + 1) rest) (printed ∙ ap (λ (t : List ℕ). lines ++ t) one)
    ∙ (append_assoc lines (sent_text (length w.bag) p.from p.to p.payload) (sent_texts (length w.bag + 1) rest)
    ∙ ap (λ ps. lines ++ sent_texts (length w.bag) (map packet_of ps)) (sym (drop_next packets i d lt))))

-- the same of what stands there, by another name
pub bag_on : (w new : World) (packets : List HeldPacket) (i : ℕ) (d p : HeldPacket) → p ≡ slice_index_or packets i d → i < length packets → new ≡ with_packets w (packet_of p ∷ [])
    → with_packets new (map packet_of (drop (i + 1) packets)) ≡ with_packets w (map packet_of (drop i packets))
bag_on w new packets i d p item lt is = bag_next w new packets i d lt (is ∙ ap (λ q. with_packets w (packet_of q ∷ [])) item)

pub text_on : (w new : World) (lines lines' : List ℕ) (packets : List HeldPacket) (i : ℕ) (d p : HeldPacket) → p ≡ slice_index_or packets i d → i < length packets → new ≡ with_packets w (packet_of p ∷ [])
    → lines' ≡ lines ++ sent_texts (length w.bag) (packet_of p ∷ [])
    → lines' ++ sent_texts (length new.bag) (map packet_of (drop (i + 1) packets)) ≡ lines ++ sent_texts (length w.bag) (map packet_of (drop i packets))
text_on w new lines lines' packets i d p item lt is printed =
    text_next w new lines lines' packets i d lt (is ∙ ap (λ q. with_packets w (packet_of q ∷ [])) item) (printed ∙ ap (λ q. lines ++ sent_texts (length w.bag) (packet_of q ∷ [])) item)

pub bag_done : (w : World) (packets : List HeldPacket) (i : ℕ) → length packets ≤ i → with_packets w (map packet_of (drop i packets)) ≡ w
bag_done w packets i past =
    ap (λ ps. with_packets w (map packet_of ps)) (drop_past packets i past) ∙ ap (λ bag. record w { bag = bag }) (append-nil w.bag)

pub text_done : (w : World) (lines : List ℕ) (packets : List HeldPacket) (i : ℕ) → length packets ≤ i → lines ++ sent_texts (length w.bag) (map packet_of (drop i packets)) ≡ lines
text_done w lines packets i past =
    ap (λ ps. lines ++ sent_texts (length w.bag) (map packet_of ps)) (drop_past packets i past) ∙ append-nil lines

-- ---- entries

pub log_next : (w new : World) (address : ℕ) (entries : List What) (i : ℕ) (d : What) → i < length entries → new ≡ with_entries w address (what_of (slice_index_or entries i d) ∷ [])
    → with_entries new address (map what_of (drop (i + 1) entries)) ≡ with_entries w address (map what_of (drop i entries))
log_next w new address entries i d lt is =
    let what : LogEntry = what_of (slice_index_or entries i d) in
    ap (λ (v : World). with_entries v address (map what_of (drop (i + 1) entries))) is
    ∙ ap (λ log. record w { log = log }) (append_assoc w.log (record { node = address; what = what } ∷ []) (map (λ what. record { node = address; what = what }) (map what_of (drop (i + 1) entries))))
    ∙ ap (λ ws. with_entries w address (map what_of ws)) (sym (drop_next entries i d lt))

pub log_done : (w : World) (address : ℕ) (entries : List What) (i : ℕ) → length entries ≤ i → with_entries w address (map what_of (drop i entries)) ≡ w
log_done w address entries i past =
    ap (λ ws. with_entries w address (map what_of ws)) (drop_past entries i past) ∙ ap (λ log. record w { log = log }) (append-nil w.log)

-- A packet more among the octets of all.
use Rattle.std.proofs.Common.{◌≡◌, ℕ, ◌+◌, ◌-◌, ◌<◌, ◌≤◌, List, [], ◌∷◌, ◌++◌, length, map, take, drop, Some, refl, sym, ap, ◌∙◌, arith, length-append, length-drop, slice_get, slice_index_or, zero, suc}
use Rattle.std.proofs.lemmas.List.{take-append-le, drop-append-le, drop_at, take_all, length-map}
use Rattle.std.specs.List.{AllByRecursion}
use Rattle.mu_model_wire.specs.Packet.{Packet}
use Rattle.mu_world.specs.Bag.{packet_in, IsWithin}
use Rattle.mu_world.specs.declared.head.Head.{Head}

-- octets behind the others move none
still_within : (octets more : List ℕ) (head : Head) → IsWithin octets head → IsWithin (octets ++ more) head
still_within octets more head w = record { there = omega (arith, w.there, length-append octets more); few = w.few }

still_there : (octets more : List ℕ) (head : Head) → IsWithin octets head → packet_in (octets ++ more) head ≡ packet_in octets head
still_there octets more head w =
    let rest : drop head.begins (octets ++ more) ≡ drop head.begins octets ++ more = drop-append-le head.begins octets more (omega (arith, w.there)) in
    let part = take-append-le head.length (drop head.begins octets) more (omega (arith, w.there, length-drop head.begins octets)) in
    ap (λ (payload : List ℕ). record { from = head.from; to = head.to; payload = payload }) (ap (take head.length) rest ∙ part)

pub grown : (octets more : List ℕ) (heads : List Head) (head : Head) → AllByRecursion (IsWithin octets) heads → IsWithin (octets ++ more) head → AllByRecursion (IsWithin (octets ++ more)) (heads ++ head ∷ [])
grown octets more [] head all here = (here, tt)
grown octets more (h ∷ heads) head all here = (still_within octets more h all.0, grown octets more heads head all.1 here)

pub grown_alone : (octets more : List ℕ) (heads : List Head) → AllByRecursion (IsWithin octets) heads → AllByRecursion (IsWithin (octets ++ more)) heads
grown_alone octets more [] all = tt
grown_alone octets more (h ∷ heads) all = (still_within octets more h all.0, grown_alone octets more heads all.1)

pub alone_still : (octets more : List ℕ) (heads : List Head) → AllByRecursion (IsWithin octets) heads → map (packet_in (octets ++ more)) heads ≡ map (packet_in octets) heads
alone_still octets more [] all = refl
alone_still octets more (h ∷ heads) all =
    ap (λ (p : Packet). p ∷ map (packet_in (octets ++ more)) heads) (still_there octets more h all.0) ∙ ap (λ (ps : List Packet). packet_in octets h ∷ ps) (alone_still octets more heads all.1)

-- the head of octets that are put behind the others
pub put_within : (octets more : List ℕ) (head : Head) → head.begins ≡ length octets → head.length ≡ length more → length more ≤ 380 → IsWithin (octets ++ more) head
put_within octets more head begins long few = record { there = omega (arith, begins, long, length-append octets more); few = omega (arith, long, few) }

pub put_in : (octets more : List ℕ) (heads : List Head) (head : Head) → AllByRecursion (IsWithin octets) heads → head.begins ≡ length octets → head.length ≡ length more
    → map (packet_in (octets ++ more)) (heads ++ head ∷ []) ≡ map (packet_in octets) heads ++ record { from = head.from; to = head.to; payload = more } ∷ []
put_in octets more [] head all begins long =
    let rest : drop head.begins (octets ++ more) ≡ more = ap (λ n. drop n (octets ++ more)) begins ∙ drop_at octets more (length octets) refl in
    ap (λ (payload : List ℕ). record { from = head.from; to = head.to; payload = payload } ∷ []) (ap (take head.length) rest ∙ take_all head.length more (omega (arith, long)))
put_in octets more (h ∷ heads) head all begins long =
    ap (λ (p : Packet). p ∷ map (packet_in (octets ++ more)) (heads ++ head ∷ [])) (still_there octets more h all.0) ∙ ap (λ (ps : List Packet). packet_in octets h ∷ ps) (put_in octets more heads head all.1 begins long)

-- the head of a number is within
within_at : (octets : List ℕ) (heads : List Head) (k : ℕ) (d : Head) → k < length heads → AllByRecursion (IsWithin octets) heads → IsWithin octets (slice_index_or heads k d)
within_at octets [] k d lt all = absurd (omega (arith, lt))
within_at octets (h ∷ heads) zero d lt all = all.0
within_at octets (h ∷ heads) (suc k) d lt all = within_at octets heads k d (omega (arith, lt)) all.1

pub there_at : (octets : List ℕ) (heads : List Head) (k : ℕ) (d : Head) → k < length heads → AllByRecursion (IsWithin octets) heads → (slice_index_or heads k d).begins + (slice_index_or heads k d).length ≤ length octets
there_at octets heads k d lt all =
    let w = within_at octets heads k d lt all in
    w.there

pub few_at : (octets : List ℕ) (heads : List Head) (k : ℕ) (d : Head) → k < length heads → AllByRecursion (IsWithin octets) heads → (slice_index_or heads k d).length ≤ 380
few_at octets heads k d lt all =
    let w = within_at octets heads k d lt all in
    w.few

-- a number of a packet is one of a head
pub number_within : (octets : List ℕ) (heads : List Head) (bag : List Packet) (k : ℕ) → map (packet_in octets) heads ≡ bag → k < length bag → k < length heads
number_within octets heads bag k is lt = omega (arith, length-map heads (packet_in octets), ap length is, lt)

-- the packet of a number
got_at : (octets : List ℕ) (heads : List Head) (k : ℕ) (d : Head) → k < length heads → slice_get (map (packet_in octets) heads) k ≡ Some (packet_in octets (slice_index_or heads k d))
got_at octets [] k d lt = absurd (omega (arith, lt))
got_at octets (h ∷ heads) zero d lt = refl
got_at octets (h ∷ heads) (suc k) d lt = got_at octets heads k d (omega (arith, lt))

pub at_is : (octets : List ℕ) (heads : List Head) (bag : List Packet) (k : ℕ) (d : Head) (payload : List ℕ) → map (packet_in octets) heads ≡ bag → k < length heads
    → payload ≡ take (slice_index_or heads k d).length (drop (slice_index_or heads k d).begins octets)
    → slice_get bag k ≡ Some (record { from = (slice_index_or heads k d).from; to = (slice_index_or heads k d).to; payload = payload })
at_is octets heads bag k d payload is lt same =
    let head = slice_index_or heads k d in
    ap (λ (ps : List Packet). slice_get ps k) (sym is) ∙ (got_at octets heads k d lt ∙ ap (λ (p : List ℕ). Some (record { from = head.from; to = head.to; payload = p })) (sym same))

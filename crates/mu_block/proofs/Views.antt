-- What a buffer shows.
use Rattle.std.proofs.Common.{◌≡◌, ◌<◌, ◌≤◌, ℕ, zero, suc, ◌+◌, ◌-◌, ◌*◌, Bool, true, false, List, [], ◌∷◌, ◌++◌, length, take, set, replicate, map, drop, min, subst, refl, ap, sym, ◌∙◌, arith, Option, Some, None, ◌⊎◌, inl, inr, length-take, length-drop}
use Rattle.std.specs.Prelude.{◌≢◌, ◌==◌, nat_lt, not, is_some, is_none, if◌then◌else◌}
use Rattle.std.specs.List.{range_with_len, concat, count_by}
use Rattle.std.proofs.Math.Seq.{length-take-le}
use Rattle.std.proofs.Math.Nat.{mul-le-mul_right, div-add-mod'}
use Rattle.std.proofs.lemmas.Nat.{mod_below}
use Rattle.std.proofs.lemmas.Bool.{cases_lt}
use Rattle.std.proofs.lemmas.List.{ext_get_or, get_or-set_other, get_or_past}
use Rattle.mu_model_node.specs.Sound.{HaveLengths}
use Rattle.std.proofs.lemmas.Grind.{get_or-set_at}
use Rattle.std.proofs.Math.ListN.{length-set}
use Rattle.std.proofs.lemmas.List.FromFn.{get_or-map-range_with_len, length-map-range_with_len}
use borrow.Rule.Slice.PartMut.{put_mid}
use Rattle.mu_model_wire.specs.Reports.{has, complement}
use Rattle.mu_model_image.specs.Pieces.{chunk_of, chunk_count, chunk_length, chunks_of}
use Rattle.mu_model_node.specs.Slots.{Slots, at, missing, is_full, joined, held_count}
use Rattle.mu_block.specs.Coming.{Coming, IsComing, IsOpen, octets_of_chunk, opened, with_chunk, is_whole, whole_of, whole_size}
use Rattle.std.specs.Option.{option_map}
use Rattle.std.proofs.lemmas.Bool.{ltb-true}
use Rattle.mu_block.specs.Buffer.{chunk_in, chunks_in, coming, AreFields}
use Rattle.mu_block.proofs.Counts.{all_there, missing_count, both_counts, full_test, missing_rest}
use Rattle.mu_block.proofs.Chunks.{at_chunk, count_of_chunks, by_came, came_there, is_there, none_came}
use Rattle.mu_block.proofs.Parts.{begins_within, written, others_stay}

apart : (i j : ℕ) → (i ≡ j) ⊎ ((j < i) ⊎ (i < j))
apart i j = grind arith

differ : (i j : ℕ) → (j < i) ⊎ (i < j) → j ≢ i
differ i j (inl h) = λ e. omega arith
differ i j (inr h) = λ e. omega arith

-- one chunk more, where the octets are written in its place
pub one_more : (octets piece : List ℕ) (came : List Bool) (size n i k : ℕ) → size ≤ length octets → 0 < n → i < length came → length came ≡ chunk_count size n
    → length piece ≡ chunk_length size n i → k ≡ length piece
    → chunks_in (take size (put_mid (i * n) k octets piece)) n (set came i true) ≡ set (chunks_in (take size octets) n came) i (Some piece)
one_more octets piece came size n i k room some there count long amount =
    let block : List ℕ = take size (put_mid (i * n) k octets piece) in
    let within : i * n < size = begins_within size n i some (omega arith) in
    let slots : List (Option (List ℕ)) = chunks_in (take size octets) n came in
    let places : length slots ≡ length came = count_of_chunks (take size octets) n came in
    let lengths : length (chunks_in block n (set came i true)) ≡ length came = count_of_chunks block n (set came i true) ∙ length-set came i true in
    ext_get_or None _ _ (lengths ∙ sym places ∙ sym (length-set slots i (Some piece))) (λ j h.
    let inside : j < length came = omega (arith, lengths) in
    at_chunk block n (set came i true) j (omega (arith, length-set came i true))
    ∙ elim (apart i j) [
      | inl e ↦ by_came block n (set came i true) j true (get_or-set_at came i j true false (sym e) there)
          ∙ ap (λ (p : List ℕ). Some p) (ap (chunk_of block n) (sym e) ∙ written octets piece size n i k room (omega arith) long amount)
          ∙ sym (get_or-set_at slots i j (Some piece) None (sym e) (omega arith))
      | inr ne ↦ let other : j ≢ i = differ i j ne in
          by_came block n (set came i true) j (has came j) (get_or-set_other came i j true false other)
          ∙ ap (λ (p : List ℕ). if has came j then Some p else None) (others_stay octets piece size n i j k room (omega arith) long amount ne)
          ∙ sym (at_chunk (take size octets) n came j inside)
          ∙ sym (get_or-set_other slots i j (Some piece) None other)
    ])

-- one that came again
pub same_more : (came : List Bool) (i : ℕ) → i < length came → has came i ≡ true → set came i true ≡ came
same_more [] i h e = absurd (omega arith)
same_more (b ∷ came) zero h e = ap (λ (v : Bool). v ∷ came) (sym e)
same_more (b ∷ came) (suc i) h e = ap (λ (bs : List Bool). b ∷ bs) (same_more came i (omega arith) e)

-- all that is there, where all is there
joined_all : (f : ℕ → List ℕ) (is : List ℕ) → joined (map (λ i. Some (f i)) is) ≡ concat (map f is)
joined_all f [] = refl
joined_all f (i ∷ is) = ap (λ (rest : List ℕ). f i ++ rest) (joined_all f is)

chunk_is : (block : List ℕ) (n : ℕ) (came : List Bool) (i : ℕ) → has came i ≡ true → chunk_in block n came i ≡ Some (chunk_of block n i)
chunk_is block n came i e = by_came block n came i true e

pub joined_block : (block : List ℕ) (n : ℕ) (came : List Bool) → is_full (chunks_in block n came) ≡ true → length came ≡ chunk_count (length block) n → joined (chunks_in block n came) ≡ concat (chunks_of block n)
joined_block block n came full count =
    let here = came_there block n came in
    let places = count_of_chunks block n came in
    let all : (i : ℕ) → i < length came → has came i ≡ true = λ i h. ap (λ (set : List Bool). has set i) (sym here) ∙ all_there (chunks_in block n came) full i (omega arith) in
    let same : chunks_in block n came ≡ map (λ i. Some (chunk_of block n i)) (range_with_len 0 (length came)) =
    ext_get_or None _ _ (places ∙ sym (length-map-range_with_len (λ i. Some (chunk_of block n i)) 0 (length came))) (λ i h.
    let inside : i < length came = omega arith in
    at_chunk block n came i inside ∙ chunk_is block n came i (all i inside)
    ∙ sym (get_or-map-range_with_len (λ j. Some (chunk_of block n j)) 0 (length came) i i None inside (omega arith))) in
    ap joined same ∙ joined_all (chunk_of block n) (range_with_len 0 (length came))
    ∙ ap (λ (m : ℕ). concat (map (chunk_of block n) (range_with_len 0 m))) count

-- ---- by whether there is a block

pub open_shows : (o : Bool) (c : Coming) (v : Option Coming) → (if o then Some c else None) ≡ v → o ≡ true → Some c ≡ v
open_shows true c v e h = e
open_shows false c v e h = cc

pub closed_shows : (o : Bool) (c : Coming) (v : Option Coming) → (if o then Some c else None) ≡ v → o ≡ false → None ≡ v
closed_shows true c v e h = cc
closed_shows false c v e h = e

pub missing_by : (block : List ℕ) (n : ℕ) (came : List Bool) → count_by not came ≡ count_by is_none (chunks_in block n came)
missing_by block n came = ap (count_by not) (sym (came_there block n came)) ∙ sym (missing_count (chunks_in block n came))

pub received_by : (block : List ℕ) (n : ℕ) (came : List Bool) (left : ℕ) → left ≡ count_by not came → length came - left ≡ held_count (chunks_in block n came)
received_by block n came left e = omega (arith, missing_by block n came, both_counts (chunks_in block n came), count_of_chunks block n came)

pub missing_set : (block : List ℕ) (n : ℕ) (came : List Bool) → complement came ≡ missing (chunks_in block n came)
missing_set block n came = ap complement (sym (came_there block n came)) ∙ sym (missing_rest (chunks_in block n came))

pub there_by : (block : List ℕ) (n : ℕ) (came : List Bool) (i : ℕ) → has came i ≡ is_some (at (chunks_in block n came) i)
there_by block n came i = elim (cases_lt i (length came)) [
  | inl inside ↦ sym (ap is_some (at_chunk block n came i inside ∙ by_came block n came i (has came i) refl) ∙ is_there (has came i) (chunk_of block n i))
  | inr past ↦ get_or_past came i false past ∙ sym (ap is_some (get_or_past (chunks_in block n came) i None (omega (arith, count_of_chunks block n came))))
]

pub full_by : (block : List ℕ) (n : ℕ) (came : List Bool) (left : ℕ) → left ≡ count_by not came → (left == 0) ≡ is_full (chunks_in block n came)
full_by block n came left e = ap (λ (m : ℕ). m == 0) (e ∙ missing_by block n came) ∙ full_test (chunks_in block n came)

-- ---- the ranges

few : (size n : ℕ) → size ≤ 16384 → 8 ≤ n → chunk_count size n ≤ 2048
few size n most least = elim (cases_lt (chunk_count size n) 2049) [
  | inl small ↦ omega arith
  | inr big ↦ let up : 2049 * n ≤ chunk_count size n * n = mul-le-mul_right n big in absurd (omega (arith, div-add-mod' (size + n - 1) n))
]

at_least_one : (size n : ℕ) → 1 ≤ size → 8 ≤ n → 1 ≤ chunk_count size n
at_least_one size n least most = elim (cases_lt (chunk_count size n) 1) [
  | inl none ↦ let up : chunk_count size n * n ≤ 0 * n = mul-le-mul_right n (omega arith) in absurd (omega (arith, div-add-mod' (size + n - 1) n, mod_below (size + n - 1) n (omega arith)))
  | inr one ↦ one
]

long_chunk : (block : List ℕ) (n i : ℕ) → length (chunk_of block n i) ≡ chunk_length (length block) n i
long_chunk block n i = omega (arith, length-take (min (length block) ((i + 1) * n) - i * n) (drop (i * n) block), length-drop (i * n) block)

piece_is : (b : Bool) (chunk piece : List ℕ) → (if b then Some chunk else None) ≡ Some piece → chunk ≡ piece
piece_is true chunk piece e = cc
piece_is false chunk piece e = cc

never : (v : Option (List ℕ)) (piece : List ℕ) → v ≡ None → v ≡ Some piece → ⊥
never v piece none is = cc

have_lengths : (octets : List ℕ) (size n : ℕ) (came : List Bool) → size ≤ length octets → HaveLengths (chunk_length size n) (chunks_in (take size octets) n came)
have_lengths octets size n came room i piece e = elim (cases_lt i (length came)) [
  | inl inside ↦
      let block : List ℕ = take size octets in
      ap (length {A = ℕ}) (sym (piece_is (has came i) (chunk_of block n i) piece (sym (at_chunk block n came i inside ∙ by_came block n came i (has came i) refl) ∙ e)))
      ∙ long_chunk block n i ∙ ap (λ (m : ℕ). chunk_length m n i) (length-take-le size octets room)
  | inr past ↦
      absurd (never (at (chunks_in (take size octets) n came) i) piece (get_or_past (chunks_in (take size octets) n came) i None (omega (arith, count_of_chunks (take size octets) n came))) e)
]

pub is_coming : (number n size : ℕ) (came : List Bool) (left : ℕ) (octets : List ℕ) → AreFields n size came left octets → IsComing (coming number n size came octets)
is_coming number n size came left octets f =
    let places = count_of_chunks (take size octets) n came in
    record {
      size_least = f.size_least;
      size_most = f.size_most;
      chunk_least = f.chunk_least;
      chunk_most = f.chunk_most;
      count = places ∙ f.count;
      count_least = omega (arith, at_least_one size n f.size_least f.chunk_least, f.count);
      count_most = omega (arith, few size n f.size_most f.chunk_least, f.count);
      lengths = have_lengths octets size n came (omega (arith, f.size_most, f.room));
    }

pub open_is_coming : (o : Bool) (c : Coming) (v : Option Coming) → (if o then Some c else None) ≡ v → IsComing c → IsOpen v
open_is_coming true c v e is = subst IsOpen e is
open_is_coming false c v e is = subst IsOpen e tt

-- ---- what is asked of a chunk that is put

pub record HasPlace (o : Bool) (n size : ℕ) (came : List Bool) (chunk long : ℕ) : Type 0 where
  pub there : o ≡ true
  pub within : chunk < length came
  pub lasts : long ≡ chunk_length size n chunk

by_test : (b : Bool) (x y : ℕ) → (if b then Some x else None) ≡ Some y → (b ≡ true) × (x ≡ y)
by_test true x y e = (refl, cc)
by_test false x y e = cc

pub has_place : (o : Bool) (number n size : ℕ) (came : List Bool) (octets : List ℕ) (v : Option Coming) (chunk long : ℕ)
    → (if o then Some (coming number n size came octets) else None) ≡ v → octets_of_chunk v chunk ≡ Some long → HasPlace o n size came chunk long
has_place true number n size came octets v chunk long e asked =
    let test = by_test (nat_lt chunk (length (chunks_in (take size octets) n came))) (chunk_length size n chunk) long (ap (λ (w : Option Coming). octets_of_chunk w chunk) e ∙ asked) in
    let below : chunk < length (chunks_in (take size octets) n came) = ltb-true _ _ test.0 in
    record { there = refl; within = omega (arith, count_of_chunks (take size octets) n came); lasts = sym test.1 }
has_place false number n size came octets v chunk long e asked =
    let none : None ≡ Some long = ap (λ (w : Option Coming). octets_of_chunk w chunk) e ∙ asked in cc

pub room_for : (n size : ℕ) (came : List Bool) (left : ℕ) (octets : List ℕ) (o : Bool) (chunk long : ℕ)
    → AreFields n size came left octets → HasPlace o n size came chunk long → (chunk * n < size) × (chunk * n + long ≤ size)
room_for n size came left octets o chunk long f h =
    let begins : chunk * n < size = begins_within size n chunk (omega (arith, f.chunk_least)) (omega (arith, h.within, f.count)) in
    (begins, omega (arith, h.lasts))

pub put_shows : (o : Bool) (number n size : ℕ) (came more : List Bool) (octets written : List ℕ) (v : Option Coming) (i : ℕ) (piece : List ℕ)
    → (if o then Some (coming number n size came octets) else None) ≡ v
    → chunks_in (take size written) n more ≡ set (chunks_in (take size octets) n came) i (Some piece)
    → (if o then Some (coming number n size more written) else None) ≡ option_map (λ c. with_chunk c i piece) v
put_shows true number n size came more octets written v i piece e same =
    ap (λ (slots : Slots). Some (record { size = size; block = record { number = number; chunk_size = n; chunks = slots } })) same
    ∙ ap (option_map (λ c. with_chunk c i piece)) e
put_shows false number n size came more octets written v i piece e same = ap (option_map (λ c. with_chunk c i piece)) e

-- ---- a block that begins, and one that is whole

pub opens : (number n size k : ℕ) (came : List Bool) (octets : List ℕ) → came ≡ replicate k false → k ≡ chunk_count size n
    → Some (coming number n size came octets) ≡ Some (opened number n size)
opens number n size k came octets none count =
    ap (λ (slots : Slots). Some (record { size = size; block = record { number = number; chunk_size = n; chunks = slots } }))
    (ap (chunks_in (take size octets) n) none ∙ none_came (take size octets) n k ∙ ap (λ (m : ℕ). replicate m None) count)

pub asks_length : (number n size : ℕ) (came : List Bool) (octets : List ℕ) (i : ℕ) (b : Bool) → nat_lt i (length came) ≡ b
    → octets_of_chunk (Some (coming number n size came octets)) i ≡ (if b then Some (chunk_length size n i) else None)
asks_length number n size came octets i b e =
    ap (λ (v : Bool). if v then Some (chunk_length size n i) else None) (ap (nat_lt i) (count_of_chunks (take size octets) n came) ∙ e)

pub whole_shows : (o : Bool) (number n size : ℕ) (came : List Bool) (left : ℕ) (octets : List ℕ) (v : Option Coming) (block : List ℕ)
    → (if o then Some (coming number n size came octets) else None) ≡ v → AreFields n size came left octets → is_whole v ≡ true
    → ((xs : List ℕ) (k : ℕ) → 0 < k → concat (chunks_of xs k) ≡ xs) → block ≡ take size octets → Some block ≡ whole_of v
whole_shows true number n size came left octets v block e f full tile is =
    let slots : Slots = chunks_in (take size octets) n came in
    let all : is_full slots ≡ true = ap is_whole e ∙ full in
    let long : length (take size octets) ≡ size = length-take-le size octets (omega (arith, f.size_most, f.room)) in
    let whole : joined slots ≡ take size octets =
    joined_block (take size octets) n came all (f.count ∙ ap (λ (m : ℕ). chunk_count m n) (sym long)) ∙ tile (take size octets) n (omega (arith, f.chunk_least)) in
    ap (λ (xs : List ℕ). Some xs) (is ∙ sym whole) ∙ sym (ap (λ (b : Bool). if b then Some (joined slots) else None) all) ∙ ap whole_of e
whole_shows false number n size came left octets v block e f full tile is =
    let no : false ≡ true = ap is_whole e ∙ full in cc

pub whole_sized : (o : Bool) (number n size : ℕ) (came : List Bool) (left : ℕ) (octets : List ℕ) (v : Option Coming) (block : List ℕ)
    → (if o then Some (coming number n size came octets) else None) ≡ v → AreFields n size came left octets → is_whole v ≡ true
    → block ≡ take size octets → Some (length block) ≡ whole_size v
whole_sized true number n size came left octets v block e f full is =
    let slots : Slots = chunks_in (take size octets) n came in
    let all : is_full slots ≡ true = ap is_whole e ∙ full in
    let long : length block ≡ size = ap (length {A = ℕ}) is ∙ length-take-le size octets (omega (arith, f.size_most, f.room)) in
    ap (λ (m : ℕ). Some m) long ∙ sym (ap (λ (b : Bool). if b then Some size else None) all) ∙ ap whole_size e
whole_sized false number n size came left octets v block e f full is =
    let no : false ≡ true = ap is_whole e ∙ full in cc

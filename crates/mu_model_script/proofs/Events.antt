-- An event that is read has its fields in their ranges.
use Rattle.std.proofs.Common.{◌≡◌, ℕ, suc, ◌≤◌, ◌⊎◌, Bool, true, false, List, [], ◌∷◌, ◌++◌, length, Option, Some, None, Result, Ok, Err, cond, inl, inr, refl, ap, subst, arith}
use Rattle.std.specs.Prelude.{nat_eq, bytes_eq, nat_lt, nat_le, codes, ◌&&◌, ◌||◌}
use Rattle.std.specs.List.{AllByRecursion, onto_first}
use Rattle.std.specs.Option.{option_map, option_and_then}
use Rattle.hex.specs.Hex.{decode_of}
use Rattle.hex.specs.declared.error.FromHexError.{FromHexError}
use Rattle.hex.proofs.HexLemmas.{decode_of-ok}
use Rattle.mu_model_flash.specs.declared.Pattern.{Pattern}
use Rattle.mu_model_flash.specs.declared.Pattern.TheVariants.{Old as OldBits, New as NewBits, Made as MadeBits}
use Rattle.mu_model_script.specs.declared.LineFault.{LineFault}
use Rattle.mu_model_script.specs.declared.LineWhy.TheVariants.{Long}
use Rattle.mu_model_script.specs.Pieces.{Token, tokens_of, pieces}
use Rattle.mu_model_wire.specs.Packet.{is_unicast, is_group}
use Rattle.mu_model_script.specs.Tokens.{Content, Hex, Made, Kind, unicast, group_or_none, destination, number_in, octets_up_to, image, mode, receivers, pattern, Value, Number, Octets, Image, Bits, Addresses, value_of, mode_of, put_before, unicasts_of, are_different, if_receivers, receivers_of, if_address, address_of, number_of, octets_of, if_length, content_of, made_of, seed_and_size, hex_after, made_after, after_prefix, pattern_of, seeded_bits}
use Rattle.mu_model_script.specs.Event.{Event, Node, Pair, Old, Updater, Distributor, Stock, Say, Deliver, Time, Cut, Tear, Active, Phase, Settle, Rows, Packet}
use Rattle.mu_model_script.specs.Ranges.{IsWithin, IsUnicast, IsGroup, IsOctets, IsContent, IsPattern, IsNode, AreReceivers, IsUpdater, IsInRange}
use Rattle.mu_model_script.specs.Lines.{LineRow, node_row, pair_row, old_row, say_row, deliver_row, time_row, cut_row, tear_row, active_row, phase_row, updater_row, distributor_row, stock_row, settle_row, rows_row, packet_row, line_rows, station_rows, script_rows, event_by, ◌>>=◌, or_refuse, refuse, Left, next_token, value_at, nothing_left, values_at, row_of, event_of, is_silent, some_event, event_among, line_event, script_event}
use Rattle.mu_model_script.proofs.Numbers.{number_of-some}

-- ---- steps

bind_ok : {A B : Type 0} (r : Result A LineFault) (f : A → Result B LineFault) (y : B) → (r >>= f) ≡ Ok y → (x : A) × (r ≡ Ok x) × (f x ≡ Ok y)
bind_ok (Ok x) f y h = (x, refl, h)
bind_ok (Err e) f y h = cc h

not_refused : {A : Type 0} (o : Option A) (at : ℕ) (x : A) → or_refuse o at ≡ Ok x → o ≡ Some x
not_refused (Some y) at x h = cc h
not_refused None at x h = cc h

mapped : {A B : Type 0} (f : A → B) (o : Option A) (y : B) → option_map f o ≡ Some y → (x : A) × (o ≡ Some x) × (f x ≡ y)
mapped f (Some x) y h = (x, refl, cc h)
mapped f None y h = cc h

-- ---- tokens

abbrev IsSaid : Kind → Value → Type 0
IsSaid unicast (Number address) = IsUnicast address
IsSaid group_or_none (Number group) = (group ≡ 0) ⊎ IsGroup group
IsSaid destination (Number address) = IsUnicast address ⊎ IsGroup address
IsSaid (number_in least most) (Number n) = IsWithin least most n
IsSaid (octets_up_to most) (Octets octets) = IsOctets most octets
IsSaid image (Image content) = IsContent content
IsSaid pattern (Bits left) = IsPattern left
IsSaid mode (Number n) = IsWithin 1 2 n
IsSaid (receivers most) (Addresses to) = AreReceivers most to
IsSaid _ _ = ⊥

abbrev tested : {A : Type 0} → Bool → A → Option A
tested passes x = cond passes (Some x) None

passed : {A : Type 0} (passes : Bool) (x y : A) → tested passes x ≡ Some y → (passes ≡ true) × (x ≡ y)
passed true x y h = (refl, cc h)
passed false x y h = cc h

address_passed : (test : ℕ → Bool) (read : Option ℕ) (address : ℕ) → option_and_then (λ a. tested (test a) a) read ≡ Some address → test address ≡ true
address_passed test (Some a) address h =
    let p = passed (test a) a address h in
    let P : ℕ → Type 0 = λ n. test n ≡ true in
    subst P p.1 p.0
address_passed test None address h = cc h

unicast_is : (a : ℕ) → is_unicast a ≡ true → IsUnicast a
unicast_is a h = (grind arith, grind arith)

group_is : (a : ℕ) → is_group a ≡ true → IsGroup a
group_is a h = (grind arith, grind arith)

either : (p q : Bool) {P Q : Type 0} → (p ≡ true → P) → (q ≡ true → Q) → (p || q) ≡ true → P ⊎ Q
either true q f g h = inl (f refl)
either false q f g h = inr (g h)

zero_is : (a : ℕ) → nat_eq a 0 ≡ true → a ≡ 0
zero_is a h = grind arith

octets_within : (most : ℕ) (text : List ℕ) (read : Result (List ℕ) FromHexError) (octets : List ℕ) → decode_of text ≡ read → if_length most read ≡ Some octets → IsOctets most octets
octets_within most text (Ok found) octets is h =
    let bytes = (decode_of-ok text found is).3 in
    let p = passed (nat_le 1 (length found) && nat_le (length found) most) found octets h in
    let fits : IsWithin 1 most (length found) = (grind (arith, p.0), grind (arith, p.0)) in
    let P : List ℕ → Type 0 = IsOctets most in
    subst P p.1 (fits, bytes)
octets_within most text (Err e) octets is h = cc h

octets_said : (most : ℕ) (text octets : List ℕ) → octets_of most text ≡ Some octets → IsOctets most octets
octets_said most text octets h = octets_within most text (decode_of text) octets refl h

number_said : (least most n : ℕ) (text : List ℕ) → number_of least most text ≡ Some n → IsWithin least most n
number_said least most n text h = let read = number_of-some least most n text h in (read.2, read.3)

made_from : (seed size : Option ℕ) (content : Content) → ((n : ℕ) → seed ≡ Some n → IsWithin 0 65535 n) → ((n : ℕ) → size ≡ Some n → IsWithin 1 1048576 n)
    → seed_and_size seed size ≡ Some content → IsContent content
made_from (Some seed) (Some size) content p q h =
    let is : Made seed size ≡ content = cc h in
    let P : Content → Type 0 = IsContent in
    subst P is (p seed refl, q size refl)
made_from (Some seed) None content p q h = cc h
made_from None size content p q h = cc h

made_said : (parts : List (List ℕ)) (content : Content) → made_of parts ≡ Some content → IsContent content
made_said (seed ∷ size ∷ []) content h =
    made_from (number_of 0 65535 seed) (number_of 1 1048576 size) content (λ n is. number_said 0 65535 n seed is) (λ n is. number_said 1 1048576 n size is) h
made_said [] content h = cc h
made_said (seed ∷ []) content h = cc h
made_said (seed ∷ size ∷ more ∷ parts) content h = cc h

made_after_said : (text : Option (List ℕ)) (content : Content) → made_after text ≡ Some content → IsContent content
made_after_said (Some text) content h = made_said (pieces 58 text) content h
made_after_said None content h = cc h

hex_after_said : (text : Option (List ℕ)) (otherwise : Option Content) (content : Content) → (otherwise ≡ Some content → IsContent content)
    → hex_after text otherwise ≡ Some content → IsContent content
hex_after_said (Some text) otherwise content other h =
    let m = mapped Hex (octets_of 1024 text) content h in
    let P : Content → Type 0 = IsContent in
    subst P m.2 (octets_said 1024 text m.0 m.1)
hex_after_said None otherwise content other h = other h

content_said : (text : List ℕ) (content : Content) → content_of text ≡ Some content → IsContent content
content_said text content h =
    let made = made_after (after_prefix (codes "made:") text) in
    hex_after_said (after_prefix (codes "hex:") text) made content (made_after_said (after_prefix (codes "made:") text) content) h

seeded_said : (text : Option (List ℕ)) (left : Pattern) → seeded_bits text ≡ Some left → IsPattern left
seeded_said (Some text) left h =
    let m = mapped MadeBits (number_of 0 65535 text) left h in
    let P : Pattern → Type 0 = IsPattern in
    subst P m.2 (number_said 0 65535 m.0 text m.1)
seeded_said None left h = cc h

old_said : (left : Pattern) → Some OldBits ≡ Some left → IsPattern left
old_said left h = let P : Pattern → Type 0 = IsPattern in subst P (let e : OldBits ≡ left = cc h in e) tt

new_said : (left : Pattern) → Some NewBits ≡ Some left → IsPattern left
new_said left h = let P : Pattern → Type 0 = IsPattern in subst P (let e : NewBits ≡ left = cc h in e) tt

chosen_said : (none all : Bool) (made : Option Pattern) (left : Pattern) → (made ≡ Some left → IsPattern left) → cond none (Some OldBits) (cond all (Some NewBits) made) ≡ Some left → IsPattern left
chosen_said true all made left other h = old_said left h
chosen_said false true made left other h = new_said left h
chosen_said false false made left other h = other h

pattern_said : (text : List ℕ) (left : Pattern) → pattern_of text ≡ Some left → IsPattern left
pattern_said text left h =
    let seed = after_prefix (codes "made:") text in
    chosen_said (bytes_eq text (codes "none")) (bytes_eq text (codes "all")) (seeded_bits seed) left (seeded_said seed left) h

mode_chosen : (push pull : Bool) (n : ℕ) → cond push (Some 1) (cond pull (Some 2) None) ≡ Some n → IsWithin 1 2 n
mode_chosen true pull n h =
    let is : 1 ≡ n = cc h in
    subst (IsWithin 1 2) is (omega arith, omega arith)
mode_chosen false true n h =
    let is : 2 ≡ n = cc h in
    subst (IsWithin 1 2) is (omega arith, omega arith)
mode_chosen false false n h = cc h

before_said : (address : Option ℕ) (addresses : Option (List ℕ)) (to : List ℕ) → put_before address addresses ≡ Some to
    → (a : ℕ) × (others : List ℕ) × (address ≡ Some a) × (addresses ≡ Some others) × ((a ∷ others) ≡ to)
before_said (Some a) (Some others) to h = (a, others, refl, refl, cc h)
before_said (Some a) None to h = cc h
before_said None addresses to h = cc h

unicasts_said : (texts : List (List ℕ)) (to : List ℕ) → unicasts_of texts ≡ Some to → AllByRecursion IsUnicast to × (length to ≡ length texts)
unicasts_said [] to h =
    let is : [] ≡ to = cc h in
    subst (λ xs. AllByRecursion IsUnicast xs × (length xs ≡ 0)) is (tt, refl)
unicasts_said (text ∷ texts) to h =
    let b = before_said (if_address is_unicast text) (unicasts_of texts) to h in
    let rest = unicasts_said texts b.1 b.3 in
    subst (λ xs. AllByRecursion IsUnicast xs × (length xs ≡ length (text ∷ texts))) b.4
    ((unicast_is b.0 (address_passed is_unicast (address_of text) b.0 b.2), rest.0), ap (λ n. suc n) rest.1)

both_true : (p q : Bool) → (p && q) ≡ true → (p ≡ true) × (q ≡ true)
both_true true q h = (refl, h)
both_true false q h = absurd cc

on_first : (x : ℕ) (splits : List (List ℕ)) → 1 ≤ length splits → 1 ≤ length (onto_first x splits)
on_first x [] h = absurd (omega (arith, h))
on_first x (split ∷ splits) h = h

some_pieces : (octets : List ℕ) → 1 ≤ length (pieces 44 octets)
some_pieces [] = omega arith
some_pieces (octet ∷ octets) =
    elim (nat_eq octet 44) as (λ t. 1 ≤ length (cond t ([] ∷ pieces 44 octets) (onto_first octet (pieces 44 octets)))) [
      | true ↦ omega arith
      | false ↦ on_first octet (pieces 44 octets) (some_pieces octets)
    ]

receivers_are : (most : ℕ) (texts : List (List ℕ)) (read : Option (List ℕ)) (to : List ℕ) → unicasts_of texts ≡ read → 1 ≤ length texts → if_receivers most read ≡ Some to → AreReceivers most to
receivers_are most texts (Some found) to is some h =
    let p = passed (nat_le (length found) most && are_different found) found to h in
    let both = both_true (nat_le (length found) most) (are_different found) p.0 in
    let said = unicasts_said texts found is in
    let few : length found ≤ most = grind (arith, both.0) in
    let least : 1 ≤ length found = omega (arith, some, said.1) in
    subst (AreReceivers most) p.1 (record { some = least; few = few; unicast = said.0; different = both.1 })
receivers_are most texts None to is some h = cc h

value_said : (kind : Kind) (text : List ℕ) (value : Value) → value_of kind text ≡ Some value → IsSaid kind value
value_said unicast text value h =
    let m = mapped Number (if_address is_unicast text) value h in
    let P : Value → Type 0 = IsSaid unicast in
    subst P m.2 (unicast_is m.0 (address_passed is_unicast (address_of text) m.0 m.1))
value_said group_or_none text value h =
    let m = mapped Number (if_address (λ a. nat_eq a 0 || is_group a) text) value h in
    let P : Value → Type 0 = IsSaid group_or_none in
    let test = address_passed (λ a. nat_eq a 0 || is_group a) (address_of text) m.0 m.1 in
    subst P m.2 (either (nat_eq m.0 0) (is_group m.0) (zero_is m.0) (group_is m.0) test)
value_said destination text value h =
    let m = mapped Number (if_address (λ a. is_unicast a || is_group a) text) value h in
    let P : Value → Type 0 = IsSaid destination in
    let test = address_passed (λ a. is_unicast a || is_group a) (address_of text) m.0 m.1 in
    subst P m.2 (either (is_unicast m.0) (is_group m.0) (unicast_is m.0) (group_is m.0) test)
value_said (number_in least most) text value h =
    let m = mapped Number (number_of least most text) value h in
    let P : Value → Type 0 = IsSaid (number_in least most) in
    subst P m.2 (number_said least most m.0 text m.1)
value_said (octets_up_to most) text value h =
    let m = mapped Octets (octets_of most text) value h in
    let P : Value → Type 0 = IsSaid (octets_up_to most) in
    subst P m.2 (octets_said most text m.0 m.1)
value_said image text value h =
    let m = mapped Image (content_of text) value h in
    let P : Value → Type 0 = IsSaid image in
    subst P m.2 (content_said text m.0 m.1)
value_said pattern text value h =
    let m = mapped Bits (pattern_of text) value h in
    let P : Value → Type 0 = IsSaid pattern in
    subst P m.2 (pattern_said text m.0 m.1)
value_said mode text value h =
    let m = mapped Number (mode_of text) value h in
    let P : Value → Type 0 = IsSaid mode in
    subst P m.2 (mode_chosen (bytes_eq text (codes "push")) (bytes_eq text (codes "pull")) m.0 m.1)
value_said (receivers most) text value h =
    let m = mapped Addresses (receivers_of most text) value h in
    let P : Value → Type 0 = IsSaid (receivers most) in
    subst P m.2 (receivers_are most (pieces 44 text) (unicasts_of (pieces 44 text)) m.0 refl (some_pieces text) m.1)

-- ---- rows

value_at-said : (kind : Kind) (left : Left) (read : Value × Left) → value_at kind left ≡ Ok read → IsSaid kind read.0
unfolding value_at
value_at-said kind left read h =
    let next = bind_ok (next_token left.tokens left.end) _ read h in
    let value = bind_ok (or_refuse (value_of kind next.0.0.octets) next.0.0.at) _ read next.2 in
    let P : Value × Left → Type 0 = λ r. IsSaid kind r.0 in
    let is : (value.0, next.0.1) ≡ read = cc value.2 in
    subst P is (value_said kind next.0.0.octets value.0 (not_refused (value_of kind next.0.0.octets) next.0.0.at value.0 value.1))

abbrev AreSaid : List Kind → List Value → Type 0
AreSaid [] [] = Unit {0}
AreSaid (kind ∷ kinds) (value ∷ values) = IsSaid kind value × AreSaid kinds values
AreSaid _ _ = ⊥

none_said : (tokens : List Token) (values : List Value) → nothing_left tokens ≡ Ok values → AreSaid [] values
none_said [] [] h = tt
none_said [] (value ∷ values) h = cc h
none_said (token ∷ tokens) values h = cc h

values_said : (kinds : List Kind) (left : Left) (values : List Value) → values_at kinds left ≡ Ok values → AreSaid kinds values
values_said [] left values h = none_said left.tokens values h
values_said (kind ∷ kinds) left values h =
    let first = bind_ok (value_at kind left) _ values h in
    let others = bind_ok (values_at kinds first.0.1) _ values first.2 in
    let is : (first.0.0 ∷ others.0) ≡ values = cc others.2 in
    let P : List Value → Type 0 = AreSaid (kind ∷ kinds) in
    subst P is (value_at-said kind left first.0 first.1, values_said kinds first.0.1 others.0 others.1)

-- what a row says of values of its kinds is in range
abbrev SaysInRange : LineRow → Type 0
SaysInRange row = (values : List Value) (event : Event) → AreSaid row.kinds values → row.event values ≡ Some event → IsInRange event

node_says : SaysInRange node_row
node_says (Number address ∷ Number group ∷ Number pages ∷ Number version ∷ Image content ∷ []) event said h =
    let is : Node address group pages version content ≡ event = cc h in
    let P : Event → Type 0 = IsInRange in
    subst P is (said.0, said.1.0, said.1.1.0, said.1.1.1.0, said.1.1.1.1.0)
node_says _ event said h = cc h

pair_says : SaysInRange pair_row
pair_says (Number address ∷ Number group ∷ Number pages ∷ Number version ∷ Image content ∷ Number second_version ∷ Image second_content ∷ []) event said h =
    let is : Pair address group pages version content second_version second_content ≡ event = cc h in
    let P : Event → Type 0 = IsInRange in
    let first : IsNode address group pages version content = (said.0, said.1.0, said.1.1.0, said.1.1.1.0, said.1.1.1.1.0) in
    subst P is (first, said.1.1.1.1.1.0, said.1.1.1.1.1.1.0)
pair_says _ event said h = cc h

old_says : SaysInRange old_row
old_says (Number address ∷ Number group ∷ Number pages ∷ Number version ∷ Image content ∷ []) event said h =
    let is : Old address group pages version content ≡ event = cc h in
    let P : Event → Type 0 = IsInRange in
    subst P is (said.0, said.1.0, said.1.1.0, said.1.1.1.0, said.1.1.1.1.0)
old_says _ event said h = cc h

say_says : SaysInRange say_row
say_says (Number from ∷ Number to ∷ Octets payload ∷ []) event said h =
    let is : Say from to payload ≡ event = cc h in
    let P : Event → Type 0 = IsInRange in
    subst P is (said.0, said.1.0, said.1.1.0)
say_says _ event said h = cc h

deliver_says : SaysInRange deliver_row
deliver_says (Number packet ∷ Number address ∷ []) event said h =
    let is : Deliver packet address ≡ event = cc h in
    let P : Event → Type 0 = IsInRange in
    subst P is (said.0, said.1.0)
deliver_says _ event said h = cc h

time_says : SaysInRange time_row
time_says (Number address ∷ Number ms ∷ []) event said h =
    let is : Time address ms ≡ event = cc h in
    let P : Event → Type 0 = IsInRange in
    subst P is (said.0, said.1.0)
time_says _ event said h = cc h

cut_says : SaysInRange cut_row
cut_says (Number address ∷ []) event said h =
    let is : Cut address ≡ event = cc h in
    let P : Event → Type 0 = IsInRange in
    subst P is said.0
cut_says _ event said h = cc h

tear_says : SaysInRange tear_row
tear_says (Number address ∷ Number number ∷ Bits left ∷ []) event said h =
    let is : Tear address number left ≡ event = cc h in
    let P : Event → Type 0 = IsInRange in
    subst P is (said.0, said.1.0, said.1.1.0)
tear_says _ event said h = cc h

active_says : SaysInRange active_row
active_says (Number address ∷ []) event said h =
    let is : Active address ≡ event = cc h in
    let P : Event → Type 0 = IsInRange in
    subst P is said.0
active_says _ event said h = cc h

phase_says : SaysInRange phase_row
phase_says (Number address ∷ []) event said h =
    let is : Phase address ≡ event = cc h in
    let P : Event → Type 0 = IsInRange in
    subst P is said.0
phase_says _ event said h = cc h

updater_says : SaysInRange updater_row
updater_says (Number address ∷ Number group ∷ Number id ∷ Number ttl ∷ Number base ∷ Number way ∷ Number log ∷ Number chunk ∷ Number version ∷ Image content ∷ Addresses to ∷ []) event said h =
    let is : Updater address group id ttl base way log chunk version content to ≡ event = cc h in
    let P : Event → Type 0 = IsInRange in
    let rest = said.1.1.1.1.1 in
    subst P is (record {
      address_in = said.0;
      group_in = said.1.0;
      id_in = said.1.1.0;
      ttl_in = said.1.1.1.0;
      base_in = said.1.1.1.1.0;
      mode_in = rest.0;
      log_in = rest.1.0;
      chunk_in = rest.1.1.0;
      version_in = rest.1.1.1.0;
      content_in = rest.1.1.1.1.0;
      receivers_in = rest.1.1.1.1.1.0;
    })
updater_says _ event said h = cc h

distributor_says : SaysInRange distributor_row
distributor_says (Number address ∷ Number pages ∷ []) event said h =
    let is : Distributor address pages ≡ event = cc h in
    let P : Event → Type 0 = IsInRange in
    subst P is (said.0, said.1.0)
distributor_says _ event said h = cc h

stock_says : SaysInRange stock_row
stock_says (Number address ∷ Number version ∷ Image content ∷ []) event said h =
    let is : Stock address version content ≡ event = cc h in
    let P : Event → Type 0 = IsInRange in
    subst P is (said.0, said.1.0, said.1.1.0)
stock_says _ event said h = cc h

settle_says : SaysInRange settle_row
settle_says (Number turns ∷ []) event said h =
    let is : Settle turns ≡ event = cc h in
    let P : Event → Type 0 = IsInRange in
    subst P is said.0
settle_says _ event said h = cc h

rows_says : SaysInRange rows_row
rows_says (Number address ∷ []) event said h =
    let is : Rows address ≡ event = cc h in
    let P : Event → Type 0 = IsInRange in
    subst P is said.0
rows_says _ event said h = cc h

packet_says : SaysInRange packet_row
packet_says (Number number ∷ []) event said h =
    let is : Packet number ≡ event = cc h in
    let P : Event → Type 0 = IsInRange in
    subst P is said.0
packet_says _ event said h = cc h

abbrev EveryRow : (LineRow → Type 0) → List LineRow → Type 0
EveryRow P [] = Unit {0}
EveryRow P (row ∷ rows) = P row × EveryRow P rows

row_of-every : (P : LineRow → Type 0) (rows : List LineRow) (word : List ℕ) (row : LineRow) → EveryRow P rows → row_of rows word ≡ Some row → P row
row_of-every P [] word row every h = cc h
row_of-every P (first ∷ rows) word row every h =
    let Q : Bool → Type 0 = λ t. cond t (Some first) (row_of rows word) ≡ Some row → P row in
    elim (bytes_eq word first.word) as Q [
      | true ↦ λ is. subst P (let e : first ≡ row = cc is in e) every.0
      | false ↦ λ is. row_of-every P rows word row every.1 is
    ] h

every_row : EveryRow SaysInRange line_rows
every_row = (node_says, (pair_says, (old_says, (say_says, (deliver_says, (time_says, (cut_says, (tear_says, (active_says, (phase_says, tt))))))))))

every_both : (P : LineRow → Type 0) (rows more : List LineRow) → EveryRow P rows → EveryRow P more → EveryRow P (rows ++ more)
every_both P [] more h k = k
every_both P (row ∷ rows) more h k = (h.0, every_both P rows more h.1 k)

every_station : EveryRow SaysInRange station_rows
every_station = (updater_says, (distributor_says, (stock_says, (settle_says, (rows_says, (packet_says, tt))))))

module _ (rows : List LineRow) (every : EveryRow SaysInRange rows) where
  event_of-in_range : (left : Left) (event : Event) → event_of rows left ≡ Ok event → IsInRange event
  event_of-in_range left event h =
      let word = bind_ok (next_token left.tokens left.end) _ event h in
      let row = bind_ok (or_refuse (row_of rows word.0.0.octets) word.0.0.at) _ event word.2 in
      let values = bind_ok (values_at row.0.kinds word.0.1) _ event row.2 in
      let says = row_of-every SaysInRange rows word.0.0.octets row.0 every (not_refused (row_of rows word.0.0.octets) word.0.0.at row.0 row.1) in
      says values.0 event (values_said row.0.kinds word.0.1 values.0 values.1) (not_refused (row.0.event values.0) word.0.1.end event values.2)

some_event-ok : (read : Result Event LineFault) (event : Event) → some_event read ≡ Ok (Some event) → read ≡ Ok event
some_event-ok (Ok found) event h = cc h
some_event-ok (Err e) event h = cc h

-- what holds of an event that the rows give holds of an event of a line
of_line : (P : List LineRow → Event → Type 0) (rows : List LineRow) (line : List ℕ) (event : Event)
    → (event_of rows (record { tokens = tokens_of line; end = length line }) ≡ Ok event → P rows event) → event_among rows line ≡ Ok (Some event) → P rows event
of_line P rows line event of h =
    let read = event_of rows (record { tokens = tokens_of line; end = length line }) in
    let Short : Bool → Type 0 = λ t. cond t (refuse 4096 Long) (cond (is_silent line) (Ok None) (some_event read)) ≡ Ok (Some event) → P rows event in
    let Silent : Bool → Type 0 = λ t. cond t (Ok None) (some_event read) ≡ Ok (Some event) → P rows event in
    elim (nat_lt 4096 (length line)) as Short [
      | true ↦ λ is. cc is
      | false ↦ elim (is_silent line) as Silent [
        | true ↦ λ is. cc is
        | false ↦ λ is. of (some_event-ok read event is)
      ]
    ] h

pub line_event-in_range : (line : List ℕ) (event : Event) → line_event line ≡ Ok (Some event) → IsInRange event
line_event-in_range line event h = of_line (λ rows e. IsInRange e) line_rows line event (event_of-in_range line_rows every_row (record { tokens = tokens_of line; end = length line }) event) h

pub script_event-in_range : (line : List ℕ) (event : Event) → script_event line ≡ Ok (Some event) → IsInRange event
script_event-in_range line event h =
    of_line (λ rows e. IsInRange e) script_rows line event (event_of-in_range script_rows (every_both SaysInRange line_rows station_rows every_row every_station) (record { tokens = tokens_of line; end = length line }) event) h

-- ---- more rows

row_among : (rows more : List LineRow) (word : List ℕ) (row : LineRow) → row_of rows word ≡ Some row → row_of (rows ++ more) word ≡ Some row
row_among [] more word row h = absurd cc
row_among (first ∷ rows) more word row h =
    elim (bytes_eq word first.word) as (λ t. cond t (Some first) (row_of rows word) ≡ Some row → cond t (Some first) (row_of (rows ++ more) word) ≡ Some row) [
      | true ↦ λ is. is
      | false ↦ λ is. row_among rows more word row is
    ] h

refused_or : {A : Type 0} (o o' : Option A) (at : ℕ) (x : A) → (o ≡ Some x → o' ≡ Some x) → or_refuse o at ≡ Ok x → or_refuse o' at ≡ Ok x
refused_or o o' at x h is = ap (λ p. or_refuse p at) (h (not_refused o at x is))

event_of-more : (rows more : List LineRow) (left : Left) (event : Event) → event_of rows left ≡ Ok event → event_of (rows ++ more) left ≡ Ok event
event_of-more rows more left event h =
    let word = bind_ok (next_token left.tokens left.end) _ event h in
    let row = bind_ok (or_refuse (row_of rows word.0.0.octets) word.0.0.at) _ event word.2 in
    let same = refused_or (row_of rows word.0.0.octets) (row_of (rows ++ more) word.0.0.octets) word.0.0.at row.0 (row_among rows more word.0.0.octets row.0) row.1 in
    rw (word.1, same) row.2

pub node_lines : (line : List ℕ) (event : Event) → line_event line ≡ Ok (Some event) → script_event line ≡ Ok (Some event)
node_lines line event h =
    let left : Left = record { tokens = tokens_of line; end = length line } in
    let read = event_of line_rows left in
    let whole = event_of script_rows left in
    elim (nat_lt 4096 (length line)) as (λ t. cond t (refuse 4096 Long) (cond (is_silent line) (Ok None) (some_event read)) ≡ Ok (Some event) → cond t (refuse 4096 Long) (cond (is_silent line) (Ok None) (some_event whole)) ≡ Ok (Some event)) [
      | true ↦ λ is. is
      | false ↦ elim (is_silent line) as (λ t. cond t (Ok None) (some_event read) ≡ Ok (Some event) → cond t (Ok None) (some_event whole) ≡ Ok (Some event)) [
        | true ↦ λ is. is
        | false ↦ λ is. ap (λ r. some_event r) (event_of-more line_rows station_rows left event (some_event-ok read event is))
      ]
    ] h

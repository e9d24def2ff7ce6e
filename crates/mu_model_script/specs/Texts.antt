-- The texts that a script's run writes (this profile): tokens with one blank between, ended by LF. Numbers are decimal but for
-- addresses, which are four hexadecimal digits; digits of octets are hexadecimal in lower case.
use Rattle.std.specs.Prelude.{ℕ, Bool, List, [], ◌∷◌, ◌++◌, codes, if◌then◌else◌}
use Rattle.std.specs.List.{join_with_byte}
use Rattle.std.specs.Fmt.{decimal}
use Rattle.std.specs.Int.{w16, to_be_bytes}
use Rattle.hex.specs.Hex.{encode_lower}
use Rattle.mu_model_script.specs.declared.LineWhy.{LineWhy}
use Rattle.mu_model_script.specs.declared.LineWhy.TheVariants.{Token, Long}
use Rattle.mu_model_script.specs.declared.BadWhy.{BadWhy}
use Rattle.mu_model_script.specs.declared.BadWhy.TheVariants.{Token as BadToken, Member, Packet, Premise}
use Rattle.mu_model_script.specs.Pieces.{blank, line_feed}

abbrev pub text_line : List (List ℕ) → List ℕ
text_line tokens = join_with_byte blank tokens ++ line_feed ∷ []

abbrev pub address_text : ℕ → List ℕ
address_text address = encode_lower (to_be_bytes w16 address)

-- sent K F T HEX: packet K of the bag
abbrev pub sent_text : (number from to : ℕ) (payload : List ℕ) → List ℕ
sent_text number from to payload = text_line (codes "sent" ∷ decimal number ∷ address_text from ∷ address_text to ∷ encode_lower payload ∷ [])

-- unread K A: packet K wasn't handled at A
abbrev pub unread_text : (number address : ℕ) → List ℕ
unread_text number address = text_line (codes "unread" ∷ decimal number ∷ address_text address ∷ [])

-- active A VERSION SIZE DIGEST
abbrev pub active_text : (address version size : ℕ) (digest : List ℕ) → List ℕ
active_text address version size digest = text_line (codes "active" ∷ address_text address ∷ decimal version ∷ decimal size ∷ encode_lower digest ∷ [])

-- boot A COUNT HELD: the record's count, and how many blocks of a bank in filling are held, else 0
abbrev pub boot_text : (address count held : ℕ) → List ℕ
boot_text address count held = text_line (codes "boot" ∷ address_text address ∷ decimal count ∷ decimal held ∷ [])

-- phase A UPDATE BLOB of a node, phase A DISTRIBUTION UPLOAD of a distributor
abbrev pub phase_text : (address first second : ℕ) → List ℕ
phase_text address first second = text_line (codes "phase" ∷ address_text address ∷ decimal first ∷ decimal second ∷ [])

-- phase A 1 of an updater that has ended, else phase A 0
abbrev pub ended_text : (address : ℕ) (ended : Bool) → List ℕ
ended_text address ended = text_line (codes "phase" ∷ address_text address ∷ decimal (if ended then 1 else 0) ∷ [])

-- row ADDRESS PHASE UPDATESTATUS TRANSFERSTATUS PROGRESS
abbrev pub row_text : (address phase update_status transfer_status progress : ℕ) → List ℕ
row_text address phase update_status transfer_status progress =
    text_line (codes "row" ∷ address_text address ∷ decimal phase ∷ decimal update_status ∷ decimal transfer_status ∷ decimal progress ∷ [])

abbrev pub line_word : LineWhy → List ℕ
line_word Token = codes "token"
line_word Long = codes "long"

abbrev pub bad_word : BadWhy → List ℕ
bad_word BadToken = codes "token"
bad_word Member = codes "member"
bad_word Packet = codes "packet"
bad_word Premise = codes "premise"

-- refused LINE PLACE WHY: lines are counted from 1
abbrev pub refused_text : (line place : ℕ) (why : List ℕ) → List ℕ
refused_text line place why = text_line (codes "refused" ∷ decimal line ∷ decimal place ∷ why ∷ [])

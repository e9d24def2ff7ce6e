-- Lines of nodes are read alike in any script, and say events of nodes.
use Rattle.std.proofs.Common.{◌≡◌, ℕ, true, false, List, [], ◌∷◌, ◌++◌, length, Option, Some, None, Result, Ok, Err, cond, refl, sym, ap, subst, arith}
use Rattle.std.specs.Prelude.{bytes_eq, nat_lt}
use Rattle.std.specs.List.{AllByRecursion, onto_first}
use Rattle.std.proofs.lemmas.Slice.Eq.{bytes_eq-Decides}
use Rattle.mu_model_script.specs.declared.LineFault.{LineFault}
use Rattle.mu_model_script.specs.declared.LineWhy.TheVariants.{Long}
use Rattle.mu_model_script.specs.Pieces.{Token, tokens_of, pieces, placed}
use Rattle.mu_model_script.specs.Tokens.{Value, Number, Octets, Image, Bits}
use Rattle.mu_model_script.specs.Event.{Event, Node, Old, Pair, Say, Deliver, Time, Cut, Tear, Active, Phase}
use Rattle.mu_model_script.specs.Lines.{LineRow, node_row, pair_row, old_row, say_row, deliver_row, time_row, cut_row, tear_row, active_row, phase_row, line_rows, station_rows, script_rows, refuse, ◌>>=◌, or_refuse, Left, values_at, row_of, event_by, event_of, is_silent, some_event, line_event, script_event}
use Rattle.mu_model_mesh.specs.Alike.{HasNoStationWord, IsOfNodes}

-- ---- rows that a table has more

row_among : (rows more : List LineRow) (word : List ℕ) → row_of more word ≡ None → row_of (rows ++ more) word ≡ row_of rows word
row_among [] more word h = h
row_among (first ∷ rows) more word h =
    elim (bytes_eq word first.word) as (λ t. cond t (Some first) (row_of (rows ++ more) word) ≡ cond t (Some first) (row_of rows word)) [
      | true ↦ refl
      | false ↦ row_among rows more word h
    ]

same_event : (tokens : List Token) (end : ℕ) → HasNoStationWord tokens → event_of script_rows (record { tokens = tokens; end = end }) ≡ event_of line_rows (record { tokens = tokens; end = end })
same_event [] end h = refl
same_event (word ∷ tokens) end h =
    let left : Left = record { tokens = tokens; end = end } in
    ap (λ row. or_refuse row word.at >>= (λ r. event_by r left)) (row_among line_rows station_rows word.octets h)

pub read_alike : (line : List ℕ) → IsOfNodes line → script_event line ≡ line_event line
read_alike line h =
    ap (λ read. cond (nat_lt 4096 (length line)) (refuse 4096 Long) (cond (is_silent line) (Ok None) (some_event read))) (same_event (tokens_of line) (length line) h)

-- ---- the words of two tables

other_word : (rows more : List LineRow) (word : List ℕ) (row : LineRow) → AllByRecursion (λ (r : LineRow). row_of more r.word ≡ None) rows → row_of rows word ≡ Some row → row_of more word ≡ None
other_word [] more word row every h = cc h
other_word (first ∷ rows) more word row every h =
    elim (bytes_eq word first.word) as (λ t. bytes_eq word first.word ≡ t → cond t (Some first) (row_of rows word) ≡ Some row → row_of more word ≡ None) [
      | true ↦ λ same is. subst (λ w. row_of more w ≡ None) (sym ((bytes_eq-Decides word first.word).0 same)) every.0
      | false ↦ λ same is. other_word rows more word row every.1 is
    ] refl h

words_differ : AllByRecursion (λ (r : LineRow). row_of station_rows r.word ≡ None) line_rows
words_differ = (refl, (refl, (refl, (refl, (refl, (refl, (refl, (refl, (refl, (refl, tt))))))))))

of_tokens : (tokens : List Token) (end : ℕ) (event : Event) → event_of line_rows (record { tokens = tokens; end = end }) ≡ Ok event → HasNoStationWord tokens
of_tokens [] end event h = tt
of_tokens (word ∷ tokens) end event h =
    let left : Left = record { tokens = tokens; end = end } in
    elim (row_of line_rows word.octets) as (λ found. row_of line_rows word.octets ≡ found → (or_refuse found word.at >>= (λ r. event_by r left)) ≡ Ok event → row_of station_rows word.octets ≡ None) [
      | None ↦ λ is e. cc e
      | Some row ↦ λ is e. other_word line_rows station_rows word.octets row words_differ is
    ] refl h

-- the first token of a comment begins as no word does
comment_word : (parts : List (List ℕ)) → HasNoStationWord (placed 0 (onto_first 35 parts))
comment_word [] = refl
comment_word (part ∷ parts) = refl

silent_line : (line : List ℕ) → is_silent line ≡ true → IsOfNodes line
silent_line [] h = refl
silent_line (octet ∷ octets) h =
    let is : octet ≡ 35 = grind (arith, h) in
    subst (λ o. IsOfNodes (o ∷ octets)) (sym is) (comment_word (pieces 32 octets))

event_read : (read : Result Event LineFault) (event : Option Event) → some_event read ≡ Ok event → (said : Event) × (read ≡ Ok said)
event_read (Ok found) event h = (found, refl)
event_read (Err e) event h = cc h

pub of_nodes_read : (line : List ℕ) (said : Option Event) → line_event line ≡ Ok said → IsOfNodes line
of_nodes_read line said h =
    let left : Left = record { tokens = tokens_of line; end = length line } in
    let read = event_of line_rows left in
    elim (nat_lt 4096 (length line)) as (λ t. cond t (refuse 4096 Long) (cond (is_silent line) (Ok None) (some_event read)) ≡ Ok said → IsOfNodes line) [
      | true ↦ λ is. cc is
      | false ↦ elim (is_silent line) as (λ t. is_silent line ≡ t → cond t (Ok None) (some_event read) ≡ Ok said → IsOfNodes line) [
        | true ↦ λ silent is. silent_line line silent
        | false ↦ λ silent is. let e = event_read read said is in of_tokens (tokens_of line) (length line) e.0 e.1
      ] refl
    ] h

-- ---- events of nodes

abbrev pub IsNodeEvent : Event → Type 0
IsNodeEvent (Node address group pages version content) = Unit {0}
IsNodeEvent (Old address group pages version content) = Unit {0}
IsNodeEvent (Pair address group pages version content second_version second) = Unit {0}
IsNodeEvent (Say from to payload) = Unit {0}
IsNodeEvent (Deliver packet address) = Unit {0}
IsNodeEvent (Time address ms) = Unit {0}
IsNodeEvent (Cut address) = Unit {0}
IsNodeEvent (Tear address number left) = Unit {0}
IsNodeEvent (Active address) = Unit {0}
IsNodeEvent (Phase address) = Unit {0}
IsNodeEvent _ = ⊥

-- what a row says is an event of nodes
abbrev SaysOfNodes : LineRow → Type 0
SaysOfNodes row = (values : List Value) (event : Event) → row.event values ≡ Some event → IsNodeEvent event

node_says : SaysOfNodes node_row
node_says (Number address ∷ Number group ∷ Number pages ∷ Number version ∷ Image content ∷ []) event h =
    let is : Node address group pages version content ≡ event = cc h in
    subst IsNodeEvent is tt
node_says _ event h = cc h

pair_says : SaysOfNodes pair_row
pair_says (Number address ∷ Number group ∷ Number pages ∷ Number version ∷ Image content ∷ Number second_version ∷ Image second ∷ []) event h =
    let is : Pair address group pages version content second_version second ≡ event = cc h in
    subst IsNodeEvent is tt
pair_says _ event h = cc h

old_says : SaysOfNodes old_row
old_says (Number address ∷ Number group ∷ Number pages ∷ Number version ∷ Image content ∷ []) event h =
    let is : Old address group pages version content ≡ event = cc h in
    subst IsNodeEvent is tt
old_says _ event h = cc h

say_says : SaysOfNodes say_row
say_says (Number from ∷ Number to ∷ Octets payload ∷ []) event h =
    let is : Say from to payload ≡ event = cc h in
    subst IsNodeEvent is tt
say_says _ event h = cc h

deliver_says : SaysOfNodes deliver_row
deliver_says (Number packet ∷ Number address ∷ []) event h =
    let is : Deliver packet address ≡ event = cc h in
    subst IsNodeEvent is tt
deliver_says _ event h = cc h

time_says : SaysOfNodes time_row
time_says (Number address ∷ Number ms ∷ []) event h =
    let is : Time address ms ≡ event = cc h in
    subst IsNodeEvent is tt
time_says _ event h = cc h

cut_says : SaysOfNodes cut_row
cut_says (Number address ∷ []) event h =
    let is : Cut address ≡ event = cc h in
    subst IsNodeEvent is tt
cut_says _ event h = cc h

tear_says : SaysOfNodes tear_row
tear_says (Number address ∷ Number number ∷ Bits left ∷ []) event h =
    let is : Tear address number left ≡ event = cc h in
    subst IsNodeEvent is tt
tear_says _ event h = cc h

active_says : SaysOfNodes active_row
active_says (Number address ∷ []) event h =
    let is : Active address ≡ event = cc h in
    subst IsNodeEvent is tt
active_says _ event h = cc h

phase_says : SaysOfNodes phase_row
phase_says (Number address ∷ []) event h =
    let is : Phase address ≡ event = cc h in
    subst IsNodeEvent is tt
phase_says _ event h = cc h

every_says : AllByRecursion SaysOfNodes line_rows
every_says = (node_says, (pair_says, (old_says, (say_says, (deliver_says, (time_says, (cut_says, (tear_says, (active_says, (phase_says, tt))))))))))

row_of-every : (P : LineRow → Type 0) (rows : List LineRow) (word : List ℕ) (row : LineRow) → AllByRecursion P rows → row_of rows word ≡ Some row → P row
row_of-every P [] word row every h = cc h
row_of-every P (first ∷ rows) word row every h =
    elim (bytes_eq word first.word) as (λ t. cond t (Some first) (row_of rows word) ≡ Some row → P row) [
      | true ↦ λ is. subst P (let e : first ≡ row = cc is in e) every.0
      | false ↦ λ is. row_of-every P rows word row every.1 is
    ] h

bind_ok : {A B : Type 0} (r : Result A LineFault) (f : A → Result B LineFault) (y : B) → (r >>= f) ≡ Ok y → (x : A) × (f x ≡ Ok y)
bind_ok (Ok x) f y h = (x, h)
bind_ok (Err e) f y h = cc h

not_refused : {A : Type 0} (o : Option A) (at : ℕ) (x : A) → or_refuse o at ≡ Ok x → o ≡ Some x
not_refused (Some y) at x h = cc h
not_refused None at x h = cc h

node_event_read : (tokens : List Token) (end : ℕ) (event : Event) → event_of line_rows (record { tokens = tokens; end = end }) ≡ Ok event → IsNodeEvent event
node_event_read [] end event h = cc h
node_event_read (word ∷ tokens) end event h =
    let left : Left = record { tokens = tokens; end = end } in
    elim (row_of line_rows word.octets) as (λ found. row_of line_rows word.octets ≡ found → (or_refuse found word.at >>= (λ r. event_by r left)) ≡ Ok event → IsNodeEvent event) [
      | None ↦ λ is e. cc e
      | Some row ↦ λ is e.
          let values = bind_ok (values_at row.kinds left) _ event e in
          row_of-every SaysOfNodes line_rows word.octets row every_says is values.0 event (not_refused (row.event values.0) end event values.1)
    ] refl h

-- what is read from a line is an event of nodes, if it is one
abbrev pub IsSaidOfNodes : Result (Option Event) LineFault → Type 0
IsSaidOfNodes (Ok (Some event)) = IsNodeEvent event
IsSaidOfNodes _ = Unit {0}

said_read : (read : Result Event LineFault) → ((event : Event) → read ≡ Ok event → IsNodeEvent event) → IsSaidOfNodes (some_event read)
said_read (Ok event) h = h event refl
said_read (Err e) h = tt

pub said_of_nodes : (line : List ℕ) → IsSaidOfNodes (line_event line)
said_of_nodes line =
    let left : Left = record { tokens = tokens_of line; end = length line } in
    let read = event_of line_rows left in
    elim (nat_lt 4096 (length line)) as (λ t. IsSaidOfNodes (cond t (refuse 4096 Long) (cond (is_silent line) (Ok None) (some_event read)))) [
      | true ↦ tt
      | false ↦ elim (is_silent line) as (λ t. IsSaidOfNodes (cond t (Ok None) (some_event read))) [
        | true ↦ tt
        | false ↦ said_read read (node_event_read (tokens_of line) (length line))
      ]
    ]

-- Of worked rows: octets, and what they say or where they are refused.
use Rattle.std.specs.Prelude.{ℕ, ◌≡◌, ◌++◌, ◌-◌, List, [], ◌∷◌, length, map, take, Result, Ok, Err}
use Rattle.std.specs.List.{range_with_len}
use Rattle.mu_model_wire.specs.declared.Refusal.{Refusal}
use Rattle.mu_model_wire.specs.declared.Why.TheVariants.{Opcode, Short, Value, Long}
use Rattle.mu_model_wire.specs.Fields.{Message, Shown}
use Rattle.mu_model_wire.specs.Reading.{message_at}
use Rattle.mu_model_wire.specs.Spelling.{spelling}
use Rattle.mu_model_wire.specs.Table.{rows}

-- ---- what is read

-- octets, what they say, and the octets that are written of it
abbrev pub Said : Type 0
Said = List ℕ × Result Message Refusal × List ℕ

abbrev pub written : Result Message Refusal → List ℕ
written (Ok message) = spelling rows message
written (Err refusal) = []

abbrev pub said_of : List ℕ → Said
said_of octets = (octets, message_at rows octets, written (message_at rows octets))

abbrev pub says : List ℕ → (opcode : ℕ) → List Shown → List (List Shown) → Said
says octets opcode fields entries = (octets, Ok (record { opcode = opcode; fields = fields; entries = entries }), octets)

abbrev pub AreSaid : List Said → Type 0
AreSaid table = map (λ (row : Said). said_of row.0) table ≡ table

-- ---- what is refused

-- a message, or a refusal for a reason at a place
pub data Outcome : Type 0 where
  Read : Outcome
  short : (at : ℕ) → Outcome
  value : (at : ℕ) → Outcome
  long : (at : ℕ) → Outcome
  opcode : (at : ℕ) → Outcome

abbrev pub refused_by : Refusal → Outcome
refused_by refusal = elim refusal.why as (λ w. Outcome) [ Opcode ↦ opcode refusal.at | Short ↦ short refusal.at | Value ↦ value refusal.at | Long ↦ long refusal.at ]

abbrev pub outcome_of : Result Message Refusal → Outcome
outcome_of (Ok message) = Read
outcome_of (Err refusal) = refused_by refusal

abbrev pub outcome : List ℕ → Outcome
outcome octets = outcome_of (message_at rows octets)

abbrev pub Judged : Type 0
Judged = List ℕ × Outcome

abbrev pub judged : List ℕ → Outcome → Judged
judged octets comes = (octets, comes)

abbrev pub AreJudged : List Judged → Type 0
AreJudged table = map (λ (row : Judged). judged row.0 (outcome row.0)) table ≡ table

-- ---- a message that is cut, or has an octet more

abbrev pub Cut : Type 0
Cut = List ℕ × List Outcome

abbrev pub cut : List ℕ → List Outcome → Cut
cut octets outcomes = (octets, outcomes)

-- the first octet, the first two, and so on but for all
abbrev pub beginnings : List ℕ → List (List ℕ)
beginnings octets = map (λ n. take n octets) (range_with_len 1 (length octets - 1))

abbrev pub cut_of : List ℕ → Cut
cut_of octets = cut octets (map outcome (beginnings octets) ++ outcome (octets ++ 0 ∷ []) ∷ [])

abbrev pub AreCut : List Cut → Type 0
AreCut table = map (λ (row : Cut). cut_of row.0) table ≡ table

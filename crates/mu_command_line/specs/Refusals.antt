-- What a command refuses of an input that has no lines (this profile).
use Rattle.std.specs.Prelude.{ℕ, ◌==◌, nat_lt, List, length, codes, Option, Some, None, if◌then◌else◌}
use Rattle.mu_model_script.specs.Texts.{refused_text}

abbrev pub refused_at : (place : ℕ) (word : List ℕ) → List ℕ
refused_at place word = refused_text 0 place word

-- an image of at most so many octets: an empty one at place 0, one that is too large at the place of its first octet past them
abbrev pub refusal_within : (most : ℕ) (octets : List ℕ) → Option (List ℕ)
refusal_within most octets =
    if length octets == 0 then Some (refused_at 0 (codes "short"))
    else if nat_lt most (length octets) then Some (refused_at most (codes "long"))
    else None

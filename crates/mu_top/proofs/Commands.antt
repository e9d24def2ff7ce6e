-- A command with keys.
use Rattle.std.proofs.Common.{◌≡◌, ℕ, true, List, [], ◌∷◌, Option, Some, None, refl}
use Rattle.std.specs.Prelude.{bytes_eq, codes}
use Rattle.mu_command_line.specs.Words.{word_at}
use Rattle.mu_top.specs.Words.{Command, command_of, image_command}

-- a list whose first word is `image` asks for what its keys say
pub image_words : (words : Option (List (List ℕ))) (word : List ℕ) (result : Option Command) → word_at words 0 ≡ Some word → bytes_eq word (codes "image") ≡ true
    → ((name : List ℕ) (keys : List (List ℕ)) → words ≡ Some (name ∷ keys) → result ≡ image_command keys) → result ≡ command_of words
image_words None word result first is by = absurd cc
image_words (Some []) word result first is by = absurd cc
image_words (Some (name ∷ keys)) word result first is by =
    let same : name ≡ word = cc in
    rw (same, is) (by name keys refl)

-- What holds of each place of a list, and of the step that a client is at.
use Rattle.std.specs.Prelude.{ℕ, ◌≢◌, ◌<◌, List, [], ◌∷◌, ⊤}
use Rattle.std.specs.List.{AllByRecursion}
use Rattle.mu_model_client.specs.declared.Sending.{Sending}
use Rattle.mu_model_client.specs.Client.{Step, Block, Chunks, Pull, Get, Place, Before, At, block_total}

-- no address stands twice
abbrev pub NoneTwice : List ℕ → Type 0
NoneTwice [] = Unit {0}
NoneTwice (a ∷ rest) = AllByRecursion (λ b. a ≢ b) rest × NoneTwice rest

-- R holds at each place, and there are as many
abbrev pub Each : {A B : Type 0} → (A → B → Type 0) → List A → List B → Type 0
Each R [] [] = ⊤
Each R (x ∷ xs) (y ∷ ys) = R x y × Each R xs ys
Each R _ _ = ⊥

-- a step about a block is about one of the BLOB
abbrev pub StepFits : Sending → Step → Type 0
StepFits p (Block b) = b < block_total p
StepFits p (Chunks b) = b < block_total p
StepFits p (Pull b) = b < block_total p
StepFits p (Get b) = b < block_total p
StepFits p _ = Unit {0}

-- and so is the place of a client
abbrev pub PlaceFits : Sending → Place → Type 0
PlaceFits p (Before step) = StepFits p step
PlaceFits p (At step) = StepFits p step
PlaceFits p _ = Unit {0}

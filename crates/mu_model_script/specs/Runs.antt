-- Runs of lines, for any command that does its input line by line. `Does w line text next` says that in the state `w` a line
-- is done, prints this text and leads to the next state; `Bars w line place word` that it is refused at this place, with this
-- word for why.
use Rattle.std.specs.Prelude.{ℕ, ◌≡◌, ◌+◌, List, [], ◌∷◌, ◌++◌, length}

-- all these lines, one after the other, and all that they print
abbrev pub Run : {W : Type 0} → (W → List ℕ → List ℕ → W → Type 0) → W → List (List ℕ) → List ℕ → W → Type 0
Run Does w [] text end = (text ≡ []) × (end ≡ w)
Run {W} Does w (line ∷ lines) text end =
    (next : W) × (first : List ℕ) × (others : List ℕ) × Does w line first next × Run Does next lines others end × (text ≡ first ++ others)

-- these lines are all done, from the state before the first, and this is what they print
pub record Prints {W : Type 0} (Does : W → List ℕ → List ℕ → W → Type 0) (start : W) (lines : List (List ℕ)) (text : List ℕ) : Type 0 where
  pub end : W
  pub run : Run Does start lines text end

-- The lines before one of them are done and print a text, and that line is refused: its number, counted from 1, the place
-- in it, and the word for why.
pub record Refuses {W : Type 0} (Does : W → List ℕ → List ℕ → W → Type 0) (Bars : W → List ℕ → ℕ → List ℕ → Type 0) (start : W) (lines : List (List ℕ)) (text : List ℕ) (number place : ℕ) (word : List ℕ) : Type 0 where
  pub before : List (List ℕ)
  pub line : List ℕ
  pub others : List (List ℕ)
  pub cut : lines ≡ before ++ line ∷ others
  pub end : W
  pub run : Run Does start before text end
  pub refused : Bars end line place word
  pub numbered : number ≡ length before + 1

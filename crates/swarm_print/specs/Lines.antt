-- Lines of words.
use Rattle.std.specs.Prelude.{ℕ, List, [], ◌∷◌, ◌++◌, length, flat_map, codes, decimal}

-- words with single spaces between them, and a newline
abbrev pub line : List (List ℕ) → List ℕ
line [] = codes "\n"
line (word ∷ []) = word ++ codes "\n"
line (word ∷ next ∷ words) = word ++ 32 ∷ line (next ∷ words)

-- what is listed and how many there are, then a line for each
abbrev pub listing : {X : Type 0} → List ℕ → (X → List ℕ) → List X → List ℕ
listing what line_of rows = line (what ∷ decimal (length rows) ∷ []) ++ flat_map line_of rows

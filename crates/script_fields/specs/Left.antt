-- The words that are left, and texts that were parted.
use Rattle.std.specs.Prelude.{ℕ, nat_eq, List, [], ◌∷◌, ◌≡◌, Option, Some, None}
use Rattle.std.specs.List.{slice_split}
use denote.Ref.{Bor}

abbrev pub words_left : Option (Bor (List ℕ)) → List (List ℕ)
words_left None = []
words_left (Some text) = slice_split (λ b. nat_eq b 32) text.now

-- the first word was taken, where there was one
abbrev pub Takes : List (List ℕ) → Option (List ℕ) → List (List ℕ) → Type 0
Takes old None new = (old ≡ []) × (new ≡ [])
Takes old (Some word) new = old ≡ word ∷ new

-- the bytes of both parts
abbrev pub parts_of : Bor (List ℕ) × Bor (List ℕ) → List ℕ × List ℕ
parts_of parts = (parts.0.now, parts.1.now)

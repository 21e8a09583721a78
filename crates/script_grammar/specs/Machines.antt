-- Machines that read words, and the first word that is wrong.
use Rattle.std.specs.Prelude.{ℕ, ◌+◌, ◌-◌, ◌<◌, ◌≤◌, ◌≡◌, List, [], ◌∷◌, ◌++◌, length, take, Option, Some, None, Result, Ok, Err}
use Rattle.script_grammar.specs.declared.lines.LineFault.{LineFault}
use Rattle.script_grammar.specs.declared.lines.LineFault.TheVariants as fault
use Rattle.script_grammar.specs.Words.{◌>>=◌}

-- a grammar: the state before any word, the state after one word more, and what was said where it is whole
pub record Machine (S R : Type 0) : Type 0 where
  pub start : S
  pub step : S → List ℕ → Option S
  pub whole : S → Option R

-- the state after the words
abbrev pub run : {S R : Type 0} → Machine S R → S → List (List ℕ) → Option S
run m s [] = Some s
run m s (word ∷ words) = m.step s word >>= λ next. run m next words

-- the words are a line that says this
abbrev pub IsSaid : {S R : Type 0} → Machine S R → List (List ℕ) → R → Type 0
IsSaid m words r = (run m m.start words >>= m.whole) ≡ Some r

-- some line begins with the words
abbrev pub Begins : {S R : Type 0} → Machine S R → List (List ℕ) → Type 0
Begins {S} {R} m words = (more : List (List ℕ)) × (r : R) × IsSaid m (words ++ more) r

-- what the words say: a line, the first word that no line with the earlier words has there, or the beginning of a line
abbrev pub Says : {S R : Type 0} → Machine S R → List (List ℕ) → Result R LineFault → Type 0
Says m words (Ok r) = IsSaid m words r
Says m words (Err (fault.Word k)) =
    (0 < k) × (k ≤ length words) × Begins m (take (k - 1) words) × (Begins m (take k words) → ⊥)
Says {S} {R} m words (Err fault.Cut) = Begins m words × ((r : R) → IsSaid m words r → ⊥)
Says m words (Err f) = ⊥

-- the words are at their end
abbrev pub ended : {R : Type 0} → Option R → Result R LineFault
ended (Some r) = Ok r
ended None = Err fault.Cut

-- the reading itself: the k-th word comes next
abbrev pub reads : {S R : Type 0} → Machine S R → ℕ → S → List (List ℕ) → Result R LineFault
reads m k s [] = ended (m.whole s)
reads m k s (word ∷ words) = elim (m.step s word) [ Some next ↦ reads m (k + 1) next words | None ↦ Err (fault.Word k) ]

abbrev pub meaning : {S R : Type 0} → Machine S R → List (List ℕ) → Result R LineFault
meaning m words = reads m 1 m.start words

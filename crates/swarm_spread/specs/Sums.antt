-- What the levels of a spread tree keep.
use Rattle.std.specs.Prelude.{Bool, List, [], if◌then◌else◌, length, suc, take, zero, ℕ, ◌+◌, ◌<◌, ◌≡◌, ◌≤◌, ◌==◌, ◌&&◌, ◌∷◌, true, false, ⊤, get_or}
use Rattle.std.specs.Cmp.Lexicographic.{slice_cmp}
use Rattle.std.specs.Ordering.{nat_cmp, ordering_then}
use Rattle.std.specs.Str.{bytes_eq}
use Rattle.std.specs.declared.cmp.Ordering.{Ordering}
use Rattle.std.specs.declared.cmp.Ordering.TheVariants.{Equal}
use Rattle.swarm_spread.specs.declared.levels.Levels.{Levels, End, Level'}

-- the numbers of those that pass, of two lists side by side
abbrev pub sum_where : {X : Type 0} → (X → Bool) → List X → List ℕ → ℕ
sum_where test [] hs = 0
sum_where test (x ∷ xs) [] = 0
sum_where test (x ∷ xs) (h ∷ hs) = (if test x then h else 0) + sum_where test xs hs

abbrev pub is_branch : ℕ → ℕ → Bool
is_branch branch other = branch == other

-- each branch has the sum of the tasks of its places
pub record IsSummed (here : List ℕ) (branches : List ℕ) (sums : List ℕ) : Type 0 where
  pub count : length branches ≡ length here
  pub fits : (place : ℕ) → place < length here → get_or branches place 0 < length sums
  pub each : (branch : ℕ) → branch < length sums → get_or sums branch 0 ≡ sum_where (is_branch branch) branches here

abbrev pub HasSums : List ℕ → Levels → Type 0
HasSums here End = ⊤
HasSums here (Level' branches sums p below) = IsSummed here branches.items sums.items × HasSums here below

-- the branch of each place, level by level
abbrev pub branches_of : Levels → List (List ℕ)
branches_of End = []
branches_of (Level' branches sums p below) = branches.items ∷ branches_of below

-- the two have the same values
abbrev pub same_path : List (List ℕ) → List (List ℕ) → Bool
same_path [] [] = true
same_path [] (y ∷ ys) = false
same_path (x ∷ xs) [] = false
same_path (x ∷ xs) (y ∷ ys) = bytes_eq y x && same_path xs ys

-- for the first so many preferences
abbrev pub same_branch : ℕ → List (List ℕ) → List (List ℕ) → Bool
same_branch depth one other = same_path (take depth one) (take depth other)

-- two places have the same branch exactly where they have the same values for so many preferences
abbrev pub IsBranching : ℕ → List (List (List ℕ)) → List ℕ → Type 0
IsBranching depth paths branches =
    (i j : ℕ) → i < length paths → j < length paths →
    (get_or branches i 0 == get_or branches j 0) ≡ same_branch depth (get_or paths i []) (get_or paths j [])

abbrev pub AreBranching : ℕ → List (List (List ℕ)) → List (List ℕ) → Type 0
AreBranching depth paths [] = ⊤
AreBranching depth paths (branches ∷ rest) = IsBranching depth paths branches × AreBranching (depth + 1) paths rest

-- each place has so many values
abbrev pub HasDepth : ℕ → List (List (List ℕ)) → Type 0
HasDepth depth paths = (place : ℕ) → place < length paths → length (get_or paths place []) ≡ depth

-- each place has more values
abbrev pub IsDeep : ℕ → List (List (List ℕ)) → Type 0
IsDeep depth paths = (place : ℕ) → place < length paths → depth < length (get_or paths place [])

-- the value of a place for a preference
abbrev pub value_at : List (List (List ℕ)) → ℕ → ℕ → List ℕ
value_at paths place depth = get_or (get_or paths place []) depth []

-- two places are of one branch of the level above, and have the same value
abbrev pub is_alike : List ℕ → List (List (List ℕ)) → ℕ → ℕ → ℕ → Bool
is_alike parents paths depth one other =
    get_or parents one 0 == get_or parents other 0 && bytes_eq (value_at paths other depth) (value_at paths one depth)

-- a branch is spoken of by the first of its places
pub record IsFirst (parents : List ℕ) (paths : List (List (List ℕ))) (depth : ℕ) (place : ℕ) (first : ℕ) : Type 0 where
  pub within : first ≤ place
  pub alike : is_alike parents paths depth first place ≡ true
  pub least : (other : ℕ) → other < first → is_alike parents paths depth other place ≡ false

-- so many branches, of a level below these
abbrev pub AreFirst : List ℕ → List (List (List ℕ)) → ℕ → ℕ → List ℕ → Type 0
AreFirst parents paths depth count branches =
    (place : ℕ) → place < count → IsFirst parents paths depth place (get_or branches place 0)

-- the tasks of a place's branch, where branches agree on so many preferences
abbrev pub branch_sum : List (List (List ℕ)) → List ℕ → ℕ → ℕ → ℕ
branch_sum paths here depth place = sum_where (same_branch depth (get_or paths place [])) paths here

-- by so many preferences in turn, from this one on: the sum of the branch, and then its value
abbrev pub order_from : List (List (List ℕ)) → List ℕ → ℕ → ℕ → ℕ → ℕ → Ordering
order_from paths here depth zero one other = Equal
order_from paths here depth (suc count) one other =
    ordering_then (nat_cmp (branch_sum paths here (depth + 1) one) (branch_sum paths here (depth + 1) other))
    (ordering_then (slice_cmp nat_cmp (value_at paths one depth) (value_at paths other depth))
    (order_from paths here (depth + 1) count one other))

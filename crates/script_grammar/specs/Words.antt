-- Words, and what stands in one.
use Rattle.std.specs.Prelude.{ℕ, nat_eq, nat_lt, ◌^◌, List, [], ◌∷◌, decimal, ◌&&◌, if◌then◌else◌, Option, Some, None}
use Rattle.std.specs.Str.{bytes_eq}
use Rattle.std.specs.Str.Parse.{digits_value}
use Rattle.std.specs.List.{slice_split}
use Rattle.swarm_filters.specs.Grammar.{is_name}

-- what stands between single spaces; two spaces in a row have an empty word between them
abbrev pub words_of : List ℕ → List (List ℕ)
words_of = slice_split (λ b. nat_eq b 32)

abbrev pub name_of : List ℕ → Option (List ℕ)
name_of word = if is_name word then Some word else None

-- the number that the word writes: below the limit, without a sign or a leading zero
abbrev pub number_below : ℕ → List ℕ → Option ℕ
number_below limit word =
    let n = digits_value 10 word in
    if nat_lt n limit && bytes_eq word (decimal n) then Some n else None

abbrev pub number_of : List ℕ → Option ℕ
number_of = number_below (2 ^ 64)

abbrev pub port_number : List ℕ → Option ℕ
port_number = number_below 65536

abbrev pub byte_number : List ℕ → Option ℕ
byte_number = number_below 256

infixl 10 ◌>>=◌
-- goes on with the value, where there is one
abbrev pub ◌>>=◌ : {A B : Type 0} → Option A → (A → Option B) → Option B
None >>= f = None
(Some x) >>= f = f x

abbrev pub with_first : ℕ → Option (List ℕ × List ℕ) → Option (List ℕ × List ℕ)
with_first b None = None
with_first b (Some parts) = Some (b ∷ parts.0, parts.1)

-- what stands before the first such byte, and what stands behind it
abbrev pub split_at : ℕ → List ℕ → Option (List ℕ × List ℕ)
split_at sep [] = None
split_at sep (b ∷ bs) = if nat_eq b sep then Some ([], bs) else with_first b (split_at sep bs)

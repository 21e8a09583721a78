-- Rows in pages of 64 places, by their ids.
use Rattle.std.specs.Prelude.{ℕ, ◌≡◌, suc, ⊤, drop, List, [], ◌∷◌, ◌++◌, length, map, replicate, slice_index_or, Option, None, Some}
use Rattle.std.specs.Option.{option_map}
use Rattle.std.specs.declared.boxed.Box.{Box}

-- an entry's row
abbrev pub row_of : {R : Type 0} → ℕ × R → R
row_of e = e.1

-- the places without the boxes
abbrev pub unboxed : {R Z : Type 0} → List (Option (Box R Z)) → List (Option R)
unboxed places = map (option_map (λ b. b.value)) places

-- the row at a place, if there is one
abbrev pub row_in : {R : Type 0} → List (Option R) → ℕ → Option R
row_in page at = slice_index_or page at None

-- the row at the first place that has one
abbrev pub first_in : {R : Type 0} → List (Option R) → Option R
first_in [] = None
first_in (None ∷ places) = first_in places
first_in (Some row ∷ places) = Some row

-- the row at the first place from this one on that has one
abbrev pub first_from : {R : Type 0} → ℕ → List (Option R) → Option R
first_from at page = first_in (drop at page)

-- the rows by their ids, of which this one belongs to the first place
abbrev pub rows_in : {R : Type 0} → ℕ → List (Option R) → List (ℕ × R)
rows_in id [] = []
rows_in id (None ∷ places) = rows_in (suc id) places
rows_in id (Some row ∷ places) = (id, row) ∷ rows_in (suc id) places

-- pages by their numbers, where they are there
abbrev pub Pages : Type 0 → Type 0
Pages R = List (Option (List (Option R)))

-- the places of a page, which has no rows if it isn't there
abbrev pub on_page : {R : Type 0} → Option (List (Option R)) → List (Option R)
on_page None = replicate 64 None
on_page (Some page) = page

-- the page with this number
abbrev pub page_in : {R : Type 0} → Pages R → ℕ → List (Option R)
page_in pages key = on_page (slice_index_or pages key None)

-- the places of all pages
abbrev pub all_places : {R : Type 0} → Pages R → List (Option R)
all_places [] = []
all_places (page ∷ pages) = on_page page ++ all_places pages

-- the rows of all pages
abbrev pub unpaged : {R : Type 0} → Pages R → List (ℕ × R)
unpaged pages = rows_in 0 (all_places pages)

-- each page has its 64 places
abbrev pub ArePages : {R : Type 0} → Pages R → Type 0
ArePages [] = ⊤
ArePages (page ∷ pages) = (length (on_page page) ≡ 64) × ArePages pages

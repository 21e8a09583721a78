-- The places of pages one behind the other: a place of a page is one of them, and further pages without rows change nothing.
use Rattle.std.proofs.Common.{◌≡◌, ◌<◌, ◌≤◌, ◌+◌, ◌-◌, ◌*◌, ◌++◌, ◌∷◌, ◌∙◌, Bool, cond, ℕ, zero, suc, true, false, List, [], None, Option, Some, length, drop, get_or, set, replicate, refl, sym, ap, subst, arith}
use Rattle.std.proofs.lemmas.List.{drop-append-le, drop-drop, drop-replicate, drop_all, drop_at, drop_more, get_or-append_right, get_or-replicate, get_or_append_left, get_or_past, get_or_read, length-append, length-replicate, length-set, append-nil, append_assoc, set-append_left, set-append_right, set-get_or, set-set}
use Rattle.std.specs.BTreeMap.{insert_entry, is_at}
use Rattle.std.specs.Map.{remove_entry, set_value}
use Rattle.std.specs.Ordering.{nat_cmp}
use Rattle.std.specs.Prelude.{◌/◌, ◌%◌, is_some}
use Rattle.swarm_index.proofs.Paged.{first_above, found, next_row, no_more_rows, row_changes, row_comes, row_found, row_goes}
use Rattle.swarm_index.specs.Inside.Boxes.{ArePages, Pages, all_places, first_from, first_in, on_page, page_in, row_in, rows_in, unpaged}
use Rattle.swarm_index.specs.Inside.Merged.{first_some}

module _ {R : Type 0} where
  -- places without rows

  none_in : (n : ℕ) → ◌≡◌ {A = Option R} (first_in (replicate n None)) None
  none_in zero = refl
  none_in (suc n) = none_in n

  none_from : (i n : ℕ) → ◌≡◌ {A = Option R} (first_from i (replicate n None)) None
  none_from i n = ap first_in (drop-replicate i n None) ∙ none_in (n - i)

  empty_page : (page : List (Option R)) → first_in page ≡ None → page ≡ replicate (length page) None
  empty_page [] none = refl
  empty_page (None ∷ places) none = ap (λ (p : List (Option R)). None ∷ p) (empty_page places none)
  empty_page (Some row ∷ places) none = let some : Some row ≡ None = none in cc

  first_joined : (places rest : List (Option R)) → first_in (places ++ rest) ≡ first_some (first_in places) (first_in rest)
  first_joined [] rest = refl
  first_joined (None ∷ places) rest = first_joined places rest
  first_joined (Some row ∷ places) rest = refl

  -- the place of an id, among all and on its page

  places_count : (pages : Pages R) → ArePages pages → length (all_places pages) ≡ 64 * length pages
  places_count [] are = refl
  places_count (page ∷ pages) are =
      length-append (on_page page) (all_places pages)
      ∙ (let rest = places_count pages are.1 in let e : length (on_page page) + length (all_places pages) ≡ 64 * suc (length pages) = omega (arith, are.0, rest) in e)

  at_place : (pages : Pages R) (key at id : ℕ) → ArePages pages → at < 64 → id ≡ 64 * key + at → row_in (page_in pages key) at ≡ row_in (all_places pages) id
  at_place [] key at id are lt e = get_or-replicate 64 at None None lt
  at_place (page ∷ pages) zero at id are lt e =
      ap (row_in (on_page page)) (let same : at ≡ id = omega (arith, e) in same)
      ∙ sym (get_or_append_left (on_page page) (all_places pages) None id (omega (arith, e, lt, are.0)))
  at_place (page ∷ pages) (suc key) at id are lt e =
      at_place pages key at (id - 64) are.1 lt (omega (arith, e))
      ∙ sym (get_or-append_right (on_page page) (all_places pages) 64 id None are.0 (omega (arith, e)))

  set_place : (pages : Pages R) (key at id : ℕ) (o : Option R) → ArePages pages → key < length pages → at < 64 → id ≡ 64 * key + at
      → all_places (set pages key (Some (set (page_in pages key) at o))) ≡ set (all_places pages) id o
  set_place [] key at id o are there lt e = absurd (omega (arith, there))
  set_place (page ∷ pages) zero at id o are there lt e =
      sym (set-append_left (on_page page) (all_places pages) at o (omega (arith, lt, are.0)))
      ∙ ap (λ (i : ℕ). set (on_page page ++ all_places pages) i o) (let same : at ≡ id = omega (arith, e) in same)
  set_place (page ∷ pages) (suc key) at id o are there lt e =
      ap (λ (places : List (Option R)). on_page page ++ places) (set_place pages key at (id - 64) o are.1 (omega (arith, there)) lt (omega (arith, e)))
      ∙ sym (set-append_right (on_page page) (all_places pages) 64 id o are.0 (omega (arith, e)))

  from_place : (pages : Pages R) (key at id : ℕ) → ArePages pages → at ≤ 64 → id ≡ 64 * key + at
      → first_from id (all_places pages) ≡ first_some (first_from at (page_in pages key)) (first_in (all_places (drop (suc key) pages)))
  from_place [] key at id are le e = ap first_in (drop_all id [] (omega arith)) ∙ ap (λ (o : Option R). first_some o None) (sym (none_from at 64))
  from_place (page ∷ pages) zero at id are le e =
      ap (λ (i : ℕ). first_from i (on_page page ++ all_places pages)) (let same : id ≡ at = omega (arith, e) in same)
      ∙ ap first_in (drop-append-le at (on_page page) (all_places pages) (omega (arith, le, are.0)))
      ∙ first_joined (drop at (on_page page)) (all_places pages)
  from_place (page ∷ pages) (suc key) at id are le e =
      ap (λ (i : ℕ). first_from i (on_page page ++ all_places pages)) (let same : id ≡ 64 + (64 * key + at) = omega (arith, e) in same)
      ∙ ap first_in (sym (drop-drop (64 * key + at) 64 (on_page page ++ all_places pages)))
      ∙ ap (λ (places : List (Option R)). first_from (64 * key + at) places) (drop_at (on_page page) (all_places pages) 64 are.0)
      ∙ from_place pages key at (64 * key + at) are.1 le refl

  -- pages that are set

  same_pages : (pages : Pages R) (key : ℕ) (a b : Option (List (Option R))) → on_page a ≡ on_page b → all_places (set pages key a) ≡ all_places (set pages key b)
  same_pages [] key a b e = refl
  same_pages (page ∷ pages) zero a b e = ap (λ (places : List (Option R)). places ++ all_places pages) e
  same_pages (page ∷ pages) (suc key) a b e = ap (λ (places : List (Option R)). on_page page ++ places) (same_pages pages key a b e)

  set_pages : (pages : Pages R) (key : ℕ) (page : Option (List (Option R))) → ArePages pages → length (on_page page) ≡ 64 → ArePages (set pages key page)
  set_pages [] key page are long = tt
  set_pages (p ∷ pages) zero page are long = (long, are.1)
  set_pages (p ∷ pages) (suc key) page are long = (are.0, set_pages pages key page are.1 long)

  own_long : (pages : Pages R) (key : ℕ) → ArePages pages → length (page_in pages key) ≡ 64
  own_long [] key are = length-replicate 64 (let nothing : Option R = None in nothing)
  own_long (page ∷ pages) zero are = are.0
  own_long (page ∷ pages) (suc key) are = own_long pages key are.1

  -- the directory gets longer

  more_pages : (pages : Pages R) → ArePages pages → ArePages (pages ++ None ∷ [])
  more_pages [] are = (length-replicate 64 (let nothing : Option R = None in nothing), tt)
  more_pages (page ∷ pages) are = (are.0, more_pages pages are.1)

  more_places : (pages : Pages R) → all_places (pages ++ None ∷ []) ≡ all_places pages ++ replicate 64 None
  more_places [] = append-nil (replicate 64 None)
  more_places (page ∷ pages) = ap (λ (places : List (Option R)). on_page page ++ places) (more_places pages) ∙ sym (append_assoc (on_page page) (all_places pages) (replicate 64 None))

  more_rows : (pages : Pages R) → unpaged (pages ++ None ∷ []) ≡ unpaged pages
  more_rows pages = ap (rows_in 0) (more_places pages) ∙ no_more_rows 0 64 (all_places pages)

  -- .. if there is memory
  pub pushed_rows : (old new : Pages R) (b : Bool) → new ≡ cond b (old ++ None ∷ []) old → unpaged new ≡ unpaged old
  pushed_rows old new true is = ap unpaged is ∙ more_rows old
  pushed_rows old new false is = ap unpaged is

  pub pushed_pages : (old new : Pages R) (b : Bool) → new ≡ cond b (old ++ None ∷ []) old → ArePages old → ArePages new
  pushed_pages old new true is are = subst (λ (pages : Pages R). ArePages pages) (sym is) (more_pages old are)
  pushed_pages old new false is are = subst (λ (pages : Pages R). ArePages pages) (sym is) are

  -- a walk over the directory: the row that is found at a place, or else none there
  module _ (pages : Pages R) (key : ℕ) where
    step : key < length pages → first_in (all_places (drop key pages)) ≡ first_some (first_from 0 (page_in pages key)) (first_in (all_places (drop (key + 1) pages)))
    step lt =
        ap (λ (ps : Pages R). first_in (all_places ps)) (drop_more pages key None lt)
        ∙ first_joined (page_in pages key) (all_places (drop (key + 1) pages))

    pub finds : (row : R) (t : Option R) → key < length pages → Some row ≡ first_from 0 (page_in pages key) → first_in (all_places (drop key pages)) ≡ t → Some row ≡ t
    finds row t lt some so = ap (λ (o : Option R). first_some o (first_in (all_places (drop (key + 1) pages)))) some ∙ sym (step lt) ∙ so

    pub goes_on : (t : Option R) → key < length pages → None ≡ first_from 0 (page_in pages key) → first_in (all_places (drop key pages)) ≡ t → first_in (all_places (drop (key + 1) pages)) ≡ t
    goes_on t lt none so = ap (λ (o : Option R). first_some o (first_in (all_places (drop (key + 1) pages)))) none ∙ sym (step lt) ∙ so

  -- where the page isn't there
  pub no_first : (pages : Pages R) (key at : ℕ) → None ≡ get_or pages key None → None ≡ first_from at (page_in pages key)
  no_first pages key at none = sym (none_from at 64) ∙ ap (λ (p : Option (List (Option R))). first_from at (on_page p)) none

  -- of a directory that is seen as rows
  module _ (pages : Pages R) (seen : List (ℕ × R)) (view : unpaged pages ≡ seen) (are : ArePages pages) (id key at : ℕ) (its_key : key ≡ id / 64) (its_at : at ≡ id % 64) where
    within : at < 64
    within = omega (arith, its_at)

    parts : id ≡ 64 * key + at
    parts = omega (arith, its_key, its_at)

    row_there : row_in (page_in pages key) at ≡ found seen id
    row_there = at_place pages key at id are within parts ∙ row_found 0 id id (all_places pages) (omega arith) ∙ ap (λ (rows : List (ℕ × R)). found rows id) view

    pub no_row : None ≡ get_or pages key None → None ≡ found seen id
    no_row none = sym (get_or-replicate 64 at None None within) ∙ ap (λ (p : Option (List (Option R))). row_in (on_page p) at) none ∙ row_there

    -- its page
    module _ (page : List (Option R)) (own : page_in pages key ≡ page) where
      pub at_row : row_in page at ≡ found seen id
      at_row = ap (λ (p : List (Option R)). row_in p at) (sym own) ∙ row_there

      its_long : length page ≡ 64
      its_long = ap length (sym own) ∙ own_long pages key are

      pub at_long : at < length page
      at_long = omega (arith, its_long, within)

    pub none_past : length pages ≤ key → None ≡ found seen id
    none_past le = no_row (sym (get_or_past pages key None le))

    -- where no row was, none is removed
    pub none_left : None ≡ found seen id → seen ≡ remove_entry (is_at (nat_cmp id)) seen
    none_left none =
        let is : row_in (all_places pages) id ≡ None = row_found 0 id id (all_places pages) (omega arith) ∙ ap (λ (rows : List (ℕ × R)). found rows id) view ∙ sym none in
        sym view ∙ ap (rows_in 0) (sym (set-get_or (all_places pages) id None) ∙ ap (set (all_places pages) id) is)
        ∙ row_goes 0 id id (all_places pages) (omega arith) ∙ ap (remove_entry (is_at (nat_cmp id))) view

    -- the next row is on its own page, or else the first one behind
    next_there : first_some (first_from (at + 1) (page_in pages key)) (first_in (all_places (drop (key + 1) pages))) ≡ first_above id seen
    next_there =
        ap (λ (n : ℕ). first_some (first_from (at + 1) (page_in pages key)) (first_in (all_places (drop n pages)))) (let e : key + 1 ≡ suc key = omega arith in e)
        ∙ sym (from_place pages key (at + 1) (id + 1) are (omega (arith, within)) (omega (arith, parts)))
        ∙ next_row 0 (id + 1) id (all_places pages) (omega arith) ∙ ap (first_above id) view

    pub next_here : (row : R) → Some row ≡ first_from (at + 1) (page_in pages key) → Some row ≡ first_above id seen
    next_here row some = ap (λ (o : Option R). first_some o (first_in (all_places (drop (key + 1) pages)))) some ∙ next_there

    pub next_past : (o : Option R) → None ≡ first_from (at + 1) (page_in pages key) → o ≡ first_in (all_places (drop (key + 1) pages)) → o ≡ first_above id seen
    next_past o none is = is ∙ ap (λ (o : Option R). first_some o (first_in (all_places (drop (key + 1) pages)))) none ∙ next_there

    -- what was read at the page's number
    module _ (there : key < length pages) (read : Option (List (Option R))) (is_read : read ≡ get_or pages key read) where
      is_page : read ≡ get_or pages key None
      is_page = get_or_read pages key read there is_read None

      pub none_read : read ≡ None → None ≡ found seen id
      none_read none = no_row (sym none ∙ is_page)

      pub put_back : unpaged (set pages key read) ≡ seen
      put_back = ap (λ (p : Option (List (Option R))). unpaged (set pages key p)) is_page ∙ ap unpaged (set-get_or pages key None) ∙ view

      -- .. or is made anew, if it isn't there
      module _ (page : List (Option R)) (shown : on_page read ≡ page) where
        own : page_in pages key ≡ page
        own = ap on_page (sym is_page) ∙ shown

        pub page_row : row_in page at ≡ found seen id
        page_row = at_row page own

        pub page_long : at < length page
        page_long = at_long page own

        -- of which a place is set
        module _ (left : List (Option R)) (o : Option R) (is : left ≡ set page at o) where
          left_long : length left ≡ 64
          left_long = ap length is ∙ length-set page at o ∙ its_long page own

          pub left_pages : ArePages (set pages key (Some left))
          left_pages = set_pages pages key (Some left) are left_long

          left_places : all_places (set pages key (Some left)) ≡ set (all_places pages) id o
          left_places =
              ap (λ (p : List (Option R)). all_places (set pages key (Some p))) (is ∙ ap (λ (p : List (Option R)). set p at o) (sym own))
              ∙ set_place pages key at id o are there within parts

          pub gone_pages : ArePages (set (set pages key (Some left)) key None)
          gone_pages = set_pages (set pages key (Some left)) key None left_pages (length-replicate 64 (let nothing : Option R = None in nothing))

        module _ (left : List (Option R)) (row : R) (is : left ≡ set page at (Some row)) where
          pub rows_with : unpaged (set pages key (Some left)) ≡ insert_entry nat_cmp seen id row
          rows_with =
              ap (rows_in 0) (left_places left (Some row) is)
              ∙ row_comes 0 id id (all_places pages) row (omega arith) (let count = places_count pages are in omega (arith, count, there, within, parts))
              ∙ ap (λ (rows : List (ℕ × R)). insert_entry nat_cmp rows id row) view

          pub rows_changed : (old : R) → row_in page at ≡ Some old → unpaged (set pages key (Some left)) ≡ set_value (is_at (nat_cmp id)) seen row
          rows_changed old had =
              ap (rows_in 0) (left_places left (Some row) is)
              ∙ row_changes 0 id id (all_places pages) old row (omega arith) (sym (at_place pages key at id are within parts) ∙ ap (λ (p : List (Option R)). row_in p at) own ∙ had)
              ∙ ap (λ (rows : List (ℕ × R)). set_value (is_at (nat_cmp id)) rows row) view

          -- .. where another page was there for a while
          pub pages_anew : ArePages (set (set pages key read) key (Some left))
          pages_anew = subst (λ (ps : Pages R). ArePages ps) (sym (set-set pages key read (Some left))) (left_pages left (Some row) is)

          pub rows_anew : unpaged (set (set pages key read) key (Some left)) ≡ insert_entry nat_cmp seen id row
          rows_anew = ap unpaged (set-set pages key read (Some left)) ∙ rows_with

        module _ (left : List (Option R)) (is : left ≡ set page at None) where
          pub rows_without : unpaged (set pages key (Some left)) ≡ remove_entry (is_at (nat_cmp id)) seen
          rows_without = ap (rows_in 0) (left_places left None is) ∙ row_goes 0 id id (all_places pages) (omega arith) ∙ ap (remove_entry (is_at (nat_cmp id))) view

          -- .. and the page goes
          pub rows_gone : is_some (first_in left) ≡ false → unpaged (set (set pages key (Some left)) key None) ≡ remove_entry (is_at (nat_cmp id)) seen
          rows_gone none =
              ap unpaged (set-set pages key (Some left) None)
              ∙ ap (rows_in 0) (same_pages pages key None (Some left) (sym (empty_page left (nothing (first_in left) none) ∙ ap (λ (n : ℕ). replicate n None) (left_long left None is))))
              ∙ rows_without
            where
              nothing : (o : Option R) → is_some o ≡ false → o ≡ None
              nothing None f = refl
              nothing (Some row) f = let t : true ≡ false = f in cc

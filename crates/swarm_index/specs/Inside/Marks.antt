-- The marks by which rows are found: for each key of each row its number, its digest and the row's id.
use Rattle.std.specs.Prelude.{ℕ, ◌≡◌, ◌<◌, ◌≤◌, ◌+◌, ◌*◌, ◌%◌, ◌^◌, Bool, false, true, not, nat_lt, ◌==◌, ◌&&◌, ◌||◌, List, fold, map, Option, None, Some, if◌then◌else◌}
use Rattle.std.specs.HashMap.{HashMap, get}
use Rattle.std.specs.Map.{values_of}
use Rattle.std.specs.Option.{option_eq, option_map}
use Rattle.swarm_index.specs.Inside.Ids.{has_id}
use Rattle.swarm_index.specs.Keys.{KeyValue, Num, Pair, Text}
use Rattle.swarm_objects.specs.Rows.{IsRising, row_at}
use Rattle.swarm_objects.specs.Same.{same_number}

-- one number of two
abbrev pub mix : ℕ → ℕ → ℕ
mix a b = ((a * 1099511628211) % 2 ^ 64 + b) % 2 ^ 64

-- a number for a key; different keys may have one
abbrev pub digest : KeyValue → ℕ
digest (Num n) = n
digest (Pair a b) = mix a b
digest (Text bytes) = fold mix 0 bytes

-- both are the same key's number and digest
abbrev pub same_pair : ℕ × ℕ → ℕ × ℕ → Bool
same_pair x y = x.0 == y.0 && x.1 == y.1

-- the id is among the ids that were found, if any were
abbrev pub has_id_in : Option (List ℕ) → ℕ → Bool
has_id_in None id = false
has_id_in (Some ids) id = has_id ids id

-- the row with this id is marked with this digest of the key of this number
abbrev pub has_mark : {S : Type 0} → HashMap (ℕ × ℕ) (List ℕ) S → ℕ → ℕ → ℕ → Bool
has_mark marks which digest id = has_id_in (get same_pair marks (which, digest)) id

abbrev pub same_mark : ℕ → ℕ → ℕ → ℕ → ℕ → ℕ → Bool
same_mark which digest id w d i = (which == w && digest == d) && id == i

-- the row's digest of the key of this number
abbrev pub digest_at : {R : Type 0} → (ℕ → R → Option KeyValue) → ℕ → R → Option ℕ
digest_at key_of which row = option_map digest (key_of which row)

abbrev pub digest_in : {R : Type 0} → (ℕ → R → Option KeyValue) → ℕ → Option R → Option ℕ
digest_in key_of which None = None
digest_in key_of which (Some row) = digest_at key_of which row

-- the first, where the second isn't it
abbrev pub fresh : Option ℕ → Option ℕ → Option ℕ
fresh None b = None
fresh (Some d) None = Some d
fresh (Some d) (Some e) = if d == e then None else Some d

-- the row's digests that the other one hasn't
abbrev pub fresh_digests : {R : Type 0} → (ℕ → R → Option KeyValue) → R → Option R → ℕ → Option ℕ
fresh_digests key_of row other which = fresh (digest_at key_of which row) (digest_in key_of which other)

-- the marks of a row with these digests, of so many keys
abbrev pub is_mark : (ℕ → Option ℕ) → ℕ → ℕ → ℕ → ℕ → ℕ → Bool
is_mark digests count id w d i = id == i && (nat_lt w count && option_eq same_number (digests w) (Some d))

-- its mark of one key
abbrev pub is_mark_at : (ℕ → Option ℕ) → ℕ → ℕ → ℕ → ℕ → ℕ → Bool
is_mark_at digests which id w d i = id == i && (which == w && option_eq same_number (digests w) (Some d))

-- the marks of a row that is there
abbrev pub is_marked : {R : Type 0} → (ℕ → R → Option KeyValue) → ℕ → Option R → ℕ → ℕ → Bool
is_marked key_of count None w d = false
is_marked key_of count (Some row) w d = nat_lt w count && option_eq same_number (digest_at key_of w row) (Some d)

module _ {S : Type 0} (old new : HashMap (ℕ × ℕ) (List ℕ) S) where
  abbrev pub KeepsMarks : Type 0
  KeepsMarks = (w d i : ℕ) → has_mark new w d i ≡ has_mark old w d i

  abbrev pub AddsMarks : (ℕ → ℕ → ℕ → Bool) → Type 0
  AddsMarks is_new = (w d i : ℕ) → has_mark new w d i ≡ (is_new w d i || has_mark old w d i)

  abbrev pub DropsMarks : (ℕ → ℕ → ℕ → Bool) → Type 0
  DropsMarks is_old = (w d i : ℕ) → has_mark new w d i ≡ (not (is_old w d i) && has_mark old w d i)

  -- some come, and some of what there was then go
  abbrev pub ExchangesMarks : (ℕ → ℕ → ℕ → Bool) → (ℕ → ℕ → ℕ → Bool) → Type 0
  ExchangesMarks is_new is_old =
      (w d i : ℕ) → has_mark new w d i ≡ (not (is_old w d i) && (is_new w d i || has_mark old w d i))

-- the least id above the number with this mark
abbrev pub IsNextMark : {S : Type 0} → HashMap (ℕ × ℕ) (List ℕ) S → ℕ → ℕ → ℕ → Option ℕ → Type 0
IsNextMark marks w d after None = (i : ℕ) → after < i → has_mark marks w d i ≡ false
IsNextMark marks w d after (Some i) =
    (after < i) × (has_mark marks w d i ≡ true) × ((j : ℕ) → after < j → has_mark marks w d j ≡ true → i ≤ j)

-- none of these marks is there
abbrev pub HasNone : {S : Type 0} → HashMap (ℕ × ℕ) (List ℕ) S → (ℕ → ℕ → ℕ → Bool) → Type 0
HasNone marks is_new = (w d i : ℕ) → is_new w d i ≡ true → has_mark marks w d i ≡ false

module _ {R : Type 0} (id_of : R → ℕ) (key_of : ℕ → R → Option KeyValue) (count : ℕ) where
  -- the marks are those of the rows
  abbrev pub AreMarksOf : {S : Type 0} → List R → HashMap (ℕ × ℕ) (List ℕ) S → Type 0
  AreMarksOf rows marks = (w d i : ℕ) → has_mark marks w d i ≡ is_marked key_of count (row_at id_of i rows) w d

-- a row with its id
abbrev pub with_id : {R : Type 0} → (R → ℕ) → R → ℕ × R
with_id id_of row = (id_of row, row)

-- rows by their ids, and the marks of their keys
pub record IsTable
    {R S : Type 0}
    (id_of : R → ℕ)
    (key_of : ℕ → R → Option KeyValue)
    (count : ℕ)
    (entries : List (ℕ × R))
    (marks : HashMap (ℕ × ℕ) (List ℕ) S)
    : Type 0 where
  pub by_id : entries ≡ map (with_id id_of) (values_of entries)
  pub rising : IsRising id_of (values_of entries)
  pub marked : AreMarksOf id_of key_of count (values_of entries) marks

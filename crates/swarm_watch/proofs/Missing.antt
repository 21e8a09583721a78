-- Rows of which none has a key.
use Rattle.std.proofs.Common.{◌≡◌, ℕ, Bool, true, false, cond, List, [], ◌∷◌, ◌++◌, Option, Some, None, refl, ap, ◌∙◌, arith, ◌+◌, ◌≤◌, length}
use Rattle.std.specs.Prelude.{map, not, ◌==◌}
use Rattle.std.specs.List.{position, position_or_len}
use Rattle.std.specs.Option.{option_map}
use Rattle.std.proofs.lemmas.Grind.{common_steps}
use Rattle.std.proofs.lemmas.Bool.Decides.{nat_tests}
use Rattle.swarm_objects.proofs.RowChanges.{change_row-None, drop_row-None}
use Rattle.swarm_objects.specs.Rows.{change_row, drop_row, row_at}

pub none_cases : {X : Type 0} (b : Bool) (x : X) (o : Option X) → cond b (Some x) o ≡ None → (b ≡ false) × (o ≡ None)
none_cases true x o e = absurd cc
none_cases false x o e = (refl, e)

none_unless : {X : Type 0} (b : Bool) (x : X) (o : Option X) → b ≡ false → o ≡ None → cond b (Some x) o ≡ None
none_unless true x o f e = absurd cc
none_unless false x o f e = e

-- none of both has it exactly where neither has one
pub none_split : {X : Type 0} (key : X → ℕ) (id : ℕ) (a b : List X) → row_at key id (a ++ b) ≡ None →
    (row_at key id a ≡ None) × (row_at key id b ≡ None)
none_split key id [] b e = (refl, e)
none_split key id (x ∷ a) b e =
    let h = none_cases (key x == id) x (row_at key id (a ++ b)) e in
    let rest = none_split key id a b h.1 in
    (none_unless (key x == id) x (row_at key id a) h.0 rest.0, rest.1)

pub none_join : {X : Type 0} (key : X → ℕ) (id : ℕ) (a b : List X) → row_at key id a ≡ None → row_at key id b ≡ None →
    row_at key id (a ++ b) ≡ None
none_join key id [] b e f = f
none_join key id (x ∷ a) b e f =
    let h = none_cases (key x == id) x (row_at key id a) e in
    none_unless (key x == id) x (row_at key id (a ++ b)) h.0 (none_join key id a b h.1 f)

-- one more, which has another
pub none_cons : {X : Type 0} (key : X → ℕ) (id : ℕ) (x : X) (rows : List X) → (key x == id) ≡ false → row_at key id rows ≡ None →
    row_at key id (x ∷ rows) ≡ None
none_cons key id x rows other e = none_unless (key x == id) x (row_at key id rows) other e

pub other_way : (a b : ℕ) → (a == b) ≡ false → (b == a) ≡ false
other_way a b e = grind (arith, nat_tests)

-- rows that are seen under the same keys
pub row_at-seen : {X Y : Type 0} (key : X → ℕ) (seen_key : Y → ℕ) (see : X → Y) (id : ℕ) (rows : List X) → ((x : X) → seen_key (see x) ≡ key x) →
    row_at key id rows ≡ None → row_at seen_key id (map see rows) ≡ None
row_at-seen key seen_key see id [] same e = refl
row_at-seen key seen_key see id (x ∷ rows) same e =
    let h = none_cases (key x == id) x (row_at key id rows) e in
    none_unless (seen_key (see x) == id) (see x) (row_at seen_key id (map see rows)) (ap (λ k. k == id) (same x) ∙ h.0)
    (row_at-seen key seen_key see id rows same h.1)

-- one row with the key among others

changed_here : {X : Type 0} (key : X → ℕ) (id : ℕ) (f : X → X) (x : X) → key x ≡ id → cond (key x == id) (f x) x ≡ f x
changed_here key id f x is = let t : (key x == id) ≡ true = grind (arith, nat_tests) in ap (λ b. cond b (f x) x) t

pub change_split : {X : Type 0} (key : X → ℕ) (id : ℕ) (f : X → X) (a : List X) (x : X) (b : List X) → row_at key id a ≡ None →
    row_at key id b ≡ None → key x ≡ id → change_row key id f (a ++ x ∷ b) ≡ a ++ f x ∷ b
change_split key id f [] x b left right is =
    ap (λ y. y ∷ change_row key id f b) (changed_here key id f x is)
    ∙ ap (λ ys. f x ∷ ys) (change_row-None key id f b right)
change_split key id f (y ∷ a) x b left right is =
    let h = none_cases (key y == id) y (row_at key id a) left in
    ap (λ v. cond v (f y) y ∷ change_row key id f (a ++ x ∷ b)) h.0 ∙ ap (λ ys. y ∷ ys) (change_split key id f a x b h.1 right is)

pub drop_split : {X : Type 0} (key : X → ℕ) (id : ℕ) (a : List X) (x : X) (b : List X) → row_at key id a ≡ None →
    row_at key id b ≡ None → key x ≡ id → drop_row key id (a ++ x ∷ b) ≡ a ++ b
drop_split key id [] x b left right is =
    let t : (key x == id) ≡ true = grind (arith, nat_tests) in
    ap (λ v. cond (not v) (x ∷ drop_row key id b) (drop_row key id b)) t ∙ drop_row-None key id b right
drop_split key id (y ∷ a) x b left right is =
    let h = none_cases (key y == id) y (row_at key id a) left in
    ap (λ v. cond (not v) (y ∷ drop_row key id (a ++ x ∷ b)) (drop_row key id (a ++ x ∷ b))) h.0
    ∙ ap (λ ys. y ∷ ys) (drop_split key id a x b h.1 right is)

pub seen_at : {X Y : Type 0} (key : X → ℕ) (seen_key : Y → ℕ) (see : X → Y) (id : ℕ) (rows : List X) → ((x : X) → seen_key (see x) ≡ key x) →
    row_at seen_key id (map see rows) ≡ option_map see (row_at key id rows)
seen_at key seen_key see id [] same = refl
seen_at key seen_key see id (x ∷ rows) same =
    ap (λ k. cond (k == id) (Some (see x)) (row_at seen_key id (map see rows))) (same x)
    ∙ go (key x == id) (seen_at key seen_key see id rows same)
  where
    go : (b : Bool) → row_at seen_key id (map see rows) ≡ option_map see (row_at key id rows) →
        cond b (Some (see x)) (row_at seen_key id (map see rows)) ≡ option_map see (cond b (Some x) (row_at key id rows))
    go true rest = refl
    go false rest = rest

-- no place has the key

not_before : {X : Type 0} (key : X → ℕ) (id : ℕ) (rows : List X) → length rows ≤ position_or_len (λ row. key row == id) rows →
    row_at key id rows ≡ None
not_before key id [] le = refl
not_before key id (x ∷ rows) le = go (key x == id) (not_before key id rows) le
  where
    go : (b : Bool) → (length rows ≤ position_or_len (λ row. key row == id) rows → row_at key id rows ≡ None) →
        length (x ∷ rows) ≤ cond (not b) (1 + position_or_len (λ row. key row == id) rows) 0 → cond b (Some x) (row_at key id rows) ≡ None
    go true below le = absurd (omega arith)
    go false below le = below (omega arith)

pub no_place : {X : Type 0} (key : X → ℕ) (id : ℕ) (rows : List X) → position (λ row. key row == id) rows ≡ None → row_at key id rows ≡ None
no_place key id rows none = not_before key id rows (grind (arith, common_steps))

-- What is kept of watchers where one comes, moves or goes, and where an event is given up.
use Rattle.std.proofs.Common.{◌≡◌, ℕ, ◌+◌, ◌-◌, ◌<◌, ◌≤◌, zero, suc, Bool, true, false, cond, nat_lt, nat_le, List, [], ◌∷◌, ◌++◌, length, take, None, refl, sym, ap, ◌∙◌, arith}
use Rattle.std.specs.Prelude.{map, ◌||◌, ◌&&◌, ◌==◌}
use Rattle.std.specs.List.{list_any}
use Rattle.std.proofs.lemmas.Bool.Decides.{nat_tests}
use Rattle.swarm_objects.specs.Watches.{filter_admits}
use Rattle.swarm_objects.proofs.Tests.{or_right}
use Rattle.swarm_objects.specs.Rows.{row_at}
use Rattle.swarm_objects.specs.declared.watches.Event.{Event}
use Rattle.swarm_watch.proofs.Missing.{none_cases, none_cons, none_join, none_split, other_way, row_at-seen}
use Rattle.swarm_watch.specs.Inside.Cursors.{AreDistinct, AreWaited, AreWithin, cursor_id, is_waited_at, stepped_back, waits_at}
use Rattle.swarm_watch.specs.declared.cursors.Cursor.{Cursor}

and_first : (u v : Bool) → u ≡ false → (u && v) ≡ false
and_first true v e = absurd cc
and_first false v e = refl

pub or_more : (u v w : Bool) → (v ≡ true → w ≡ true) → (u || v) ≡ true → (u || w) ≡ true
or_more true v w more e = refl
or_more false v w more e = more e

pub any_skip : {X : Type 0} (p : X → Bool) (a : List X) (x : X) (b : List X) → p x ≡ false → list_any p (a ++ x ∷ b) ≡ list_any p (a ++ b)
any_skip p [] x b e = ap (λ v. v || list_any p b) e
any_skip p (y ∷ a) x b e = ap (λ v. p y || v) (any_skip p a x b e)

pub any_more : {X : Type 0} (p : X → Bool) (a : List X) (x : X) (b : List X) → list_any p (a ++ b) ≡ true → list_any p (a ++ x ∷ b) ≡ true
any_more p [] x b e = or_right (p x) (list_any p b) e
any_more p (y ∷ a) x b e = or_more (p y) (list_any p (a ++ b)) (list_any p (a ++ x ∷ b)) (any_more p a x b) e

pub any_map : {X Y : Type 0} (p : Y → Bool) (q : X → Bool) (f : X → Y) (xs : List X) → ((x : X) → p (f x) ≡ q x) → list_any p (map f xs) ≡ list_any q xs
any_map p q f [] same = refl
any_map p q f (x ∷ xs) same = ap (λ v. v || list_any p (map f xs)) (same x) ∙ ap (λ v. q x || v) (any_map p q f xs same)

-- Who is waited for.

waits_not_yet : (place : ℕ) (e : Event) (x : Cursor) → place < x.from → waits_at place e x ≡ false
waits_not_yet place e x lt = and_first (nat_le x.from place) (filter_admits x.filter e) (grind (arith, nat_tests))

-- before the place of a watcher the others wait
pub waited_before : (a : List Cursor) (x : Cursor) (b : List Cursor) (place : ℕ) (es : List Event) (n : ℕ) → place + n ≤ x.from →
    AreWaited (a ++ x ∷ b) place es → AreWaited (a ++ b) place (take n es)
waited_before a x b place es zero le w = tt
waited_before a x b place [] (suc n) le w = tt
waited_before a x b place (e ∷ es) (suc n) le w = (
  sym (any_skip (waits_at place e) a x b (waits_not_yet place e x (omega arith))) ∙ w.0,
  waited_before a x b (suc place) es n (omega arith) w.1,
)

pub waited_more : (a : List Cursor) (x : Cursor) (b : List Cursor) (place : ℕ) (es : List Event) → AreWaited (a ++ b) place es →
    AreWaited (a ++ x ∷ b) place es
waited_more a x b place [] w = tt
waited_more a x b place (e ∷ es) w = (any_more (waits_at place e) a x b w.0, waited_more a x b (suc place) es w.1)

waits_back : (end place : ℕ) (e : Event) (x : Cursor) → place < end → waits_at place e (stepped_back end x) ≡ waits_at place e x
waits_back end place e x lt = go (nat_lt end x.from) refl
  where
    go : (b : Bool) → nat_lt end x.from ≡ b → waits_at place e (cond b (record x { from = x.from - 1 }) x) ≡ waits_at place e x
    go true t = let same : nat_le (x.from - 1) place ≡ nat_le x.from place = grind (arith, nat_tests) in ap (λ v. v && filter_admits x.filter e) same
    go false t = refl

-- where an event is given up, the earlier ones are waited for as before
pub waited_back : (end : ℕ) (xs : List Cursor) (place : ℕ) (es : List Event) → place + length es ≤ end → AreWaited xs place es →
    AreWaited (map (stepped_back end) xs) place es
waited_back end xs place [] le w = tt
waited_back end xs place (e ∷ es) le w = (
  any_map (waits_at place e) (waits_at place e) (stepped_back end) xs (λ x. waits_back end place e x (omega arith)) ∙ w.0,
  waited_back end xs (suc place) es (omega arith) w.1,
)

waited_at : (xs : List Cursor) (m n : ℕ) (es : List Event) → m ≡ n → AreWaited xs m es → AreWaited xs n es
waited_at xs m n [] same w = tt
waited_at xs m n (e ∷ es) same w =
    (ap (λ k. is_waited_at xs k e) (sym same) ∙ w.0, waited_at xs (suc m) (suc n) es (omega arith) w.1)

pub waited_append : (xs : List Cursor) (place : ℕ) (a b : List Event) → AreWaited xs place a → AreWaited xs (place + length a) b →
    AreWaited xs place (a ++ b)
waited_append xs place [] b w v = waited_at xs (place + 0) place b (omega arith) v
waited_append xs place (e ∷ a) b w v =
    (w.0, waited_append xs (suc place) a b w.1 (waited_at xs (place + suc (length a)) (suc place + length a) b (omega arith) v))

-- Places.

pub within_split : (n : ℕ) (a : List Cursor) (x : Cursor) (b : List Cursor) → AreWithin n (a ++ x ∷ b) → AreWithin n (a ++ b) × (x.from ≤ n)
within_split n [] x b w = (w.1, w.0)
within_split n (y ∷ a) x b w = let r = within_split n a x b w.1 in ((w.0, r.0), r.1)

pub within_join : (n : ℕ) (a : List Cursor) (x : Cursor) (b : List Cursor) → AreWithin n (a ++ b) → x.from ≤ n → AreWithin n (a ++ x ∷ b)
within_join n [] x b w le = (le, w)
within_join n (y ∷ a) x b w le = (w.0, within_join n a x b w.1 le)

pub within_more : (m n : ℕ) (xs : List Cursor) → m ≤ n → AreWithin m xs → AreWithin n xs
within_more m n [] le w = tt
within_more m n (x ∷ xs) le w = (let below = w.0 in omega arith, within_more m n xs le w.1)

back_within : (end n : ℕ) (x : Cursor) → end ≤ n → x.from ≤ suc n → (stepped_back end x).from ≤ n
back_within end n x le below = go (nat_lt end x.from) refl
  where
    go : (b : Bool) → nat_lt end x.from ≡ b → (cond b (record x { from = x.from - 1 }) x).from ≤ n
    go true t = omega arith
    go false t = grind (arith, nat_tests)

pub within_back : (end n : ℕ) (xs : List Cursor) → end ≤ n → AreWithin (suc n) xs → AreWithin n (map (stepped_back end) xs)
within_back end n [] le w = tt
within_back end n (x ∷ xs) le w = (back_within end n x le w.0, within_back end n xs le w.1)

-- Ids.

pub distinct_split : (a : List Cursor) (x : Cursor) (b : List Cursor) → AreDistinct (a ++ x ∷ b) →
    AreDistinct (a ++ b) × (row_at cursor_id x.id a ≡ None) × (row_at cursor_id x.id b ≡ None)
distinct_split [] x b d = (d.1, refl, d.0)
distinct_split (y ∷ a) x b d =
    let h = none_split cursor_id y.id a (x ∷ b) d.0 in
    let k = none_cases (x.id == y.id) x (row_at cursor_id y.id b) h.1 in
    let r = distinct_split a x b d.1 in
    ((none_join cursor_id y.id a b h.0 k.1, r.0), none_cons cursor_id x.id y a (other_way x.id y.id k.0) r.1, r.2)

pub distinct_join : (a : List Cursor) (x : Cursor) (b : List Cursor) → AreDistinct (a ++ b) → row_at cursor_id x.id a ≡ None →
    row_at cursor_id x.id b ≡ None → AreDistinct (a ++ x ∷ b)
distinct_join [] x b d left right = (right, d)
distinct_join (y ∷ a) x b d left right =
    let h = none_split cursor_id y.id a b d.0 in
    let k = none_cases (y.id == x.id) y (row_at cursor_id x.id a) left in
    (none_join cursor_id y.id a (x ∷ b) h.0 (none_cons cursor_id y.id x b (other_way y.id x.id k.0) h.1), distinct_join a x b d.1 k.1 right)

same_id : (end : ℕ) (x : Cursor) → (stepped_back end x).id ≡ x.id
same_id end x = go (nat_lt end x.from)
  where
    go : (b : Bool) → (cond b (record x { from = x.from - 1 }) x).id ≡ x.id
    go true = refl
    go false = refl

pub distinct_back : (end : ℕ) (xs : List Cursor) → AreDistinct xs → AreDistinct (map (stepped_back end) xs)
distinct_back end [] d = tt
distinct_back end (x ∷ xs) d = (
  ap (λ k. row_at cursor_id k (map (stepped_back end) xs)) (same_id end x)
      ∙ row_at-seen cursor_id cursor_id (stepped_back end) x.id xs (same_id end) d.0,
  distinct_back end xs d.1,
)

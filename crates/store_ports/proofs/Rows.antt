-- The counts of all services.
use Rattle.std.proofs.Common.{◌≡◌, ℕ, ◌+◌, ◌-◌, ◌≤◌, Bool, true, false, cond, eqb, List, [], ◌∷◌, Option, Some, None, refl, sym, ap, ◌∙◌, subst, arith}
use Rattle.std.specs.List.{list_any}
use Rattle.std.specs.Prelude.{IfSome, count_by, min, nat_lt, not, option_map, ◌&&◌, ◌||◌}
use Rattle.std.proofs.lemmas.Bool.Decides.{nat_tests}
use Rattle.std.proofs.lemmas.List.Sums.{sum_by-cons}
use Rattle.swarm_objects.proofs.RowChanges.{drop_row_above}
use Rattle.swarm_objects.proofs.Tests.{neither}
use Rattle.swarm_objects.specs.Rows.{RisesFrom, drop_row, row_at, service_id}
use Rattle.swarm_objects.specs.Services.Ports.{has_port_number, holds_port, is_numbered, ports_of}
use Rattle.swarm_objects.specs.declared.services.Service.{Service}
use Rattle.store_ports.specs.Counts.{AreNone, AreTimes, Counts, MovesAll, all_numbers, count_of, is_other, known, most_times, moved, own_times, times, times_in, times_of}

pub times_parted : (udp : Bool) (n id m : ℕ) (rows : List Service) → RisesFrom service_id m rows →
    times_in udp n rows ≡ times_in udp n (drop_row service_id id rows) + times_of udp n (row_at service_id id rows)
times_parted udp n id m [] r = refl
times_parted udp n id m (s ∷ rows) r = go (eqb s.id id) refl (times_parted udp n id s.id rows r.1)
  where
    go : (b : Bool) → eqb s.id id ≡ b →
        times_in udp n rows ≡ times_in udp n (drop_row service_id id rows) + times_of udp n (row_at service_id id rows) →
        times_in udp n (s ∷ rows) ≡
        times_in udp n (cond (not b) (s ∷ drop_row service_id id rows) (drop_row service_id id rows))
        + times_of udp n (cond b (Some s) (row_at service_id id rows))
    go true p below =
        let same : s.id ≡ id = grind (arith, nat_tests) in
        let gone : drop_row service_id id rows ≡ rows = drop_row_above service_id s.id id rows r.1 (omega (arith, same)) in
        let all = sum_by-cons (times udp n) s rows in
        let it : times_in udp n (drop_row service_id id rows) ≡ times_in udp n rows = ap (times_in udp n) gone in
        omega (arith, all, it)
    go false p below =
        let all = sum_by-cons (times udp n) s rows in
        let left = sum_by-cons (times udp n) s (drop_row service_id id rows) in
        omega (arith, all, left, below)

-- What a count tells stays true.

abbrev Tells : Option ℕ → ℕ → Type 0
Tells count k = IfSome (known count) (λ times. times ≡ k)

tells_more : (n k c : ℕ) → Tells (Some c) k → Tells (Some (moved true n c)) (k + n)
tells_more n k c tells = go (nat_lt c most_times) refl (nat_lt (min (c + n) most_times) most_times) refl tells
  where
    go : (b : Bool) → nat_lt c most_times ≡ b → (d : Bool) → nat_lt (min (c + n) most_times) most_times ≡ d →
        IfSome (cond b (Some c) None) (λ times. times ≡ k) →
        Tells (Some (cond b (min (c + n) most_times) c)) (k + n)
    go true p true q is = rw q (grind (arith, nat_tests, p, q, is))
    go true p false q is = rw q tt
    go false p d q is = rw p tt

tells_fewer : (n k c : ℕ) → Tells (Some c) (k + n) → Tells (Some (moved false n c)) k
tells_fewer n k c tells = go (nat_lt c most_times) refl (nat_lt (c - n) most_times) refl tells
  where
    go : (b : Bool) → nat_lt c most_times ≡ b → (d : Bool) → nat_lt (c - n) most_times ≡ d →
        IfSome (cond b (Some c) None) (λ times. times ≡ k + n) →
        Tells (Some (cond b (c - n) c)) k
    go true p true q is = rw q (omega (arith, is))
    go true p false q is = absurd (grind (arith, nat_tests, p, q))
    go false p d q is = rw p tt

pub entered : (n k : ℕ) (a b : Option ℕ) → b ≡ option_map (moved true n) a → Tells a k → Tells b (k + n)
entered n k None b move tells = subst (λ c. Tells c (k + n)) (sym move) tt
entered n k (Some c) b move tells = subst (λ d. Tells d (k + n)) (sym move) (tells_more n k c tells)

pub left : (n k : ℕ) (a b : Option ℕ) → b ≡ option_map (moved false n) a → Tells a (k + n) → Tells b k
left n k None b move tells = subst (λ c. Tells c k) (sym move) tt
left n k (Some c) b move tells = subst (λ d. Tells d k) (sym move) (tells_fewer n k c tells)

-- the numbers of one row are taken out, and those of the row in its place put in
pub counted_again : (id : ℕ) (rows now : List Service) (p q r : Counts) → RisesFrom service_id 0 rows → RisesFrom service_id 0 now →
    drop_row service_id id now ≡ drop_row service_id id rows → AreTimes p rows →
    MovesAll false (λ udp n. times_of udp n (row_at service_id id rows)) p q →
    MovesAll true (λ udp n. times_of udp n (row_at service_id id now)) q r → AreTimes r now
counted_again id rows now p q r rising rises others are out in_ = λ udp n.
    let rest = times_in udp n (drop_row service_id id rows) in
    let before = subst (Tells (count_of udp p n)) (times_parted udp n id 0 rows rising) (are udp n) in
    let between = left (times_of udp n (row_at service_id id rows)) rest (count_of udp p n) (count_of udp q n) (out udp n) before in
    let after = entered (times_of udp n (row_at service_id id now)) rest (count_of udp q n) (count_of udp r n) (in_ udp n) between in
    let same : rest + times_of udp n (row_at service_id id now) ≡ times_in udp n now =
    ap (λ ys. times_in udp n ys + times_of udp n (row_at service_id id now)) (sym others)
    ∙ sym (times_parted udp n id 0 now rises) in
    subst (Tells (count_of udp r n)) same after

-- none are named at first, and after all are forgotten
pub none_named : (p : Counts) → AreNone p → AreTimes p []
none_named p are = λ udp n. subst (λ c. Tells c 0) (sym (are udp n)) (go (nat_lt n all_numbers))
  where
    go : (b : Bool) → Tells (cond b (Some 0) None) 0
    go true = refl
    go false = tt

pub none_left : (p q : Counts) → ((udp : Bool) (n : ℕ) → count_of udp q n ≡ option_map (λ _. 0) (count_of udp p n)) → AreTimes q []
none_left p q are = λ udp n. subst (λ c. Tells c 0) (sym (are udp n)) (go (count_of udp p n))
  where
    go : (c : Option ℕ) → Tells (option_map (λ _. 0) c) 0
    go None = tt
    go (Some k) = refl

-- one service more
pub one_more : (s : Service) (rows : List Service) (p q : Counts) → AreTimes p rows → MovesAll true (λ udp n. times udp n s) p q →
    AreTimes q (s ∷ rows)
one_more s rows p q are in_ = λ udp n.
    let sum : times_in udp n rows + times udp n s ≡ times_in udp n (s ∷ rows) = omega (arith, sum_by-cons (times udp n) s rows) in
    subst (Tells (count_of udp q n)) sum (entered (times udp n s) (times_in udp n rows) (count_of udp p n) (count_of udp q n) (in_ udp n) (are udp n))

-- What a count says.

pub none_any : {X : Type 0} (p : X → Bool) (xs : List X) → count_by p xs ≡ 0 → list_any p xs ≡ false
none_any p [] e = refl
none_any p (x ∷ xs) e = go (p x) (sym (sum_by-cons (λ y. cond (p y) 1 0) x xs) ∙ e) (none_any p xs)
  where
    go : (b : Bool) → cond b 1 0 + count_by p xs ≡ 0 → (count_by p xs ≡ 0 → list_any p xs ≡ false) → (b || list_any p xs) ≡ false
    go true zero below = absurd (omega (arith, zero))
    go false zero below = below (omega (arith, zero))

holds-none : (udp : Bool) (n : ℕ) (s : Service) → times udp n s ≡ 0 → holds_port udp n s ≡ false
holds-none udp n s e =
    let a : count_by (has_port_number udp n) s.spec.ports ≡ 0 = omega (arith, e) in
    let b : count_by (has_port_number udp n) (ports_of s.previous) ≡ 0 = omega (arith, e) in
    let c : count_by (is_numbered udp n) s.numbers ≡ 0 = omega (arith, e) in
    neither _ _ (neither _ _ (none_any (has_port_number udp n) s.spec.ports a) (none_any (has_port_number udp n) (ports_of s.previous) b))
    (none_any (is_numbered udp n) s.numbers c)

others-none : (id : ℕ) (udp : Bool) (n : ℕ) (rows : List Service) → times_in udp n (drop_row service_id id rows) ≡ 0 →
    list_any (is_other (Some id) udp n) rows ≡ false
others-none id udp n [] e = refl
others-none id udp n (s ∷ rows) e = go (eqb s.id id) refl (eqb id s.id) refl e (others-none id udp n rows)
  where
    go : (b : Bool) → eqb s.id id ≡ b → (c : Bool) → eqb id s.id ≡ c →
        times_in udp n (cond (not b) (s ∷ drop_row service_id id rows) (drop_row service_id id rows)) ≡ 0 →
        (times_in udp n (drop_row service_id id rows) ≡ 0 → list_any (is_other (Some id) udp n) rows ≡ false) →
        ((not c && holds_port udp n s) || list_any (is_other (Some id) udp n) rows) ≡ false
    go true p true q zero below = below zero
    go true p false q zero below = absurd (grind (arith, nat_tests))
    go false p true q zero below = absurd (grind (arith, nat_tests))
    go false p false q zero below =
        let all = sum_by-cons (times udp n) s (drop_row service_id id rows) in
        neither _ _ (holds-none udp n s (omega (arith, all, zero))) (below (omega (arith, all, zero)))

all-none : (udp : Bool) (n : ℕ) (rows : List Service) → times_in udp n rows ≡ 0 → list_any (is_other None udp n) rows ≡ false
all-none udp n [] e = refl
all-none udp n (s ∷ rows) e =
    let all = sum_by-cons (times udp n) s rows in
    neither _ _ (holds-none udp n s (omega (arith, all, e))) (all-none udp n rows (omega (arith, all, e)))

-- where no more are known than the own ones, no other service holds the number
pub no_other : (own : Option ℕ) (udp : Bool) (n known named : ℕ) (rows : List Service) → RisesFrom service_id 0 rows →
    known ≡ times_in udp n rows → named ≤ own_times own udp n rows → known ≤ named →
    list_any (is_other own udp n) rows ≡ false
no_other None udp n known named rows rising is few most = all-none udp n rows (omega (arith, is, few, most))
no_other (Some id) udp n known named rows rising is few most =
    let parts = times_parted udp n id 0 rows rising in
    others-none id udp n rows (omega (arith, is, few, most, parts))

-- The counts of the port numbers that services hold, under changes of the services.
use Rattle.std.proofs.Common.{◌≡◌, ℕ, Bool, true, false, cond, List, [], ◌∷◌, Option, None, Result, Ok, Err, refl, ap, ◌∙◌, subst}
use Rattle.std.specs.List.{list_any}
use Rattle.std.specs.Prelude.{OnErr, OnOk, filter, map, ◌||◌}
use Rattle.swarm_objects.specs.Rows.{RisesFrom, drop_row, first_of, row_at, service_id, with_row}
use Rattle.swarm_objects.specs.declared.services.Service.{Service}
use Rattle.store_ports.proofs.Rows.{counted_again}
use Rattle.swarm_store.proofs.ByKey.{gone_twice, gone_with}
use Rattle.store_ports.specs.Counts.{AreTimes, Counts, MovesAll, times_of}

pub put_counts : {A B : Type 0} (result : Result A B) (row : Service) (rows now : List Service) (p q r : Counts) →
    RisesFrom service_id 0 rows → RisesFrom service_id 0 now → OnOk result (now ≡ with_row service_id row rows) →
    OnErr result (now ≡ rows) → AreTimes p rows →
    MovesAll false (λ udp n. times_of udp n (row_at service_id row.id rows)) p q →
    MovesAll true (λ udp n. times_of udp n (row_at service_id row.id now)) q r → AreTimes r now
put_counts (Ok a) row rows now p q r rising rises ok err =
    counted_again row.id rows now p q r rising rises (ap (drop_row service_id row.id) ok ∙ gone_with service_id row rows)
put_counts (Err b) row rows now p q r rising rises ok err =
    counted_again row.id rows now p q r rising rises (ap (drop_row service_id row.id) err)

pub drop_counts : {A B : Type 0} (result : Result A B) (id : ℕ) (rows now : List Service) (p q r : Counts) →
    RisesFrom service_id 0 rows → RisesFrom service_id 0 now → OnOk result (now ≡ drop_row service_id id rows) →
    OnErr result (now ≡ rows) → AreTimes p rows →
    MovesAll false (λ udp n. times_of udp n (row_at service_id id rows)) p q →
    MovesAll true (λ udp n. times_of udp n (row_at service_id id now)) q r → AreTimes r now
drop_counts (Ok a) id rows now p q r rising rises ok err =
    counted_again id rows now p q r rising rises (ap (drop_row service_id id) ok ∙ gone_twice service_id id rows)
drop_counts (Err b) id rows now p q r rising rises ok err =
    counted_again id rows now p q r rising rises (ap (drop_row service_id id) err)

pub back_counts : (id : ℕ) (row : Option Service) (rows now : List Service) (p q r : Counts) → RisesFrom service_id 0 rows →
    RisesFrom service_id 0 now → row ≡ row_at service_id id rows → drop_row service_id id now ≡ drop_row service_id id rows →
    AreTimes p rows → MovesAll false (λ udp n. times_of udp n row) p q →
    MovesAll true (λ udp n. times_of udp n (row_at service_id id now)) q r → AreTimes r now
back_counts id row rows now p q r rising rises was others are out in_ =
    counted_again id rows now p q r rising rises others are
    (subst (λ o. MovesAll false (λ udp n. times_of udp n o) p q) was out) in_

pub none_first : (p : Service → Bool) (rows : List Service) → list_any p rows ≡ false → None ≡ first_of (map service_id (filter p rows))
none_first p [] e = refl
none_first p (s ∷ rows) e = go (p s) refl e (none_first p rows)
  where
    go : (b : Bool) → p s ≡ b → (b || list_any p rows) ≡ false → (list_any p rows ≡ false → None ≡ first_of (map service_id (filter p rows))) →
        None ≡ first_of (map service_id (cond b (s ∷ filter p rows) (filter p rows)))
    go true t none below = absurd cc
    go false t none below = below none

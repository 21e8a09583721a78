-- Changes that put no row of a service leave its row.
use Rattle.std.proofs.Common.{◌≡◌, ◌∙◌, ◌∷◌, ℕ, Bool, List, Some, [], ap, arith, cond, eqb, false, inl, inr, not, refl}
use Rattle.std.proofs.Common.{subst, sym, true}
use Rattle.std.proofs.lemmas.Bool.Decides.{nat_tests}
use Rattle.swarm_objects.proofs.RowLemmas.{Has-map_cases}
use Rattle.swarm_objects.specs.ChangeLists.{apply_change, apply_changes}
use Rattle.swarm_objects.specs.Rows.{Has, has_row, put_row, row_at, service_id, task_id}
use Rattle.swarm_objects.specs.Tasks.New.{with_task}
use Rattle.swarm_objects.specs.World.{Tables}
use Rattle.swarm_objects.specs.declared.rows.Change.TheVariants as change
use Rattle.swarm_objects.specs.declared.rows.Change.{Change}
use Rattle.swarm_objects.specs.declared.services.Service.{Service}

put-other : (s : Service) (id : ℕ) (rows : List Service) → not (eqb s.id id) ≡ true →
    row_at service_id id (put_row service_id s rows) ≡ row_at service_id id rows
put-other s id [] apart = refl
put-other s id (r ∷ rows) apart = go (eqb r.id s.id) refl (put-other s id rows apart)
  where
    go : (b : Bool) → eqb r.id s.id ≡ b → row_at service_id id (put_row service_id s rows) ≡ row_at service_id id rows →
        row_at service_id id (cond b s r ∷ put_row service_id s rows) ≡ row_at service_id id (r ∷ rows)
    go true same rest =
        let off : eqb s.id id ≡ false = grind (arith, nat_tests, apart) in
        let was : eqb r.id id ≡ false = grind (arith, nat_tests, same, off) in
        ap (λ b. cond b (Some s) (row_at service_id id (put_row service_id s rows))) off ∙ rest
        ∙ sym (ap (λ b. cond b (Some r) (row_at service_id id rows)) was)
    go false same rest = ap (λ o. cond (eqb r.id id) (Some r) o) rest

service-step : (t : Tables) (id : ℕ) (c : Change) → ((s : Service) → c ≡ change.PutService s → not (eqb s.id id) ≡ true) →
    row_at service_id id (apply_change t c).services ≡ row_at service_id id t.services
service-step t id (change.PutNode n) apart = refl
service-step t id (change.PutService s) apart = put-other s id t.services (apart s refl)
service-step t id (change.PutTask x) apart = go (has_row task_id x.id t.tasks)
  where
    go : (b : Bool) → row_at service_id id (cond b (record t { tasks = put_row task_id x t.tasks }) (with_task t x)).services
        ≡ row_at service_id id t.services
    go true = refl
    go false = refl
service-step t id (change.DropTask k) apart = refl
service-step t id (change.Keep a) apart = refl

one-row : (P : Service → Type 0) (id : ℕ) (t : Tables) (c : Change) →
    ((v : Service) → c ≡ change.PutService v → v.id ≡ id → P v) →
    ((v : Service) → Has t.services v → v.id ≡ id → P v) → (v : Service) → Has (apply_change t c).services v →
    v.id ≡ id → P v
one-row P id t (change.PutNode n) put was v h same = was v h same
one-row P id t (change.PutService s) put was v h same =
    let from = Has-map_cases (λ z. cond (eqb z.id s.id) s z) t.services v h in
    go from.0 from.1 (eqb from.0.id s.id) from.2
  where
    go : (z : Service) → Has t.services z → (b : Bool) → cond b s z ≡ v → P v
    go z there true is = subst P is (put s refl (ap service_id is ∙ same))
    go z there false is = subst P is (was z there (ap service_id is ∙ same))
one-row P id t (change.PutTask x) put was v h same = go (has_row task_id x.id t.tasks) h
  where
    go : (b : Bool) → Has (cond b (record t { tasks = put_row task_id x t.tasks }) (with_task t x)).services v → P v
    go true there = was v there same
    go false there = was v there same
one-row P id t (change.DropTask k) put was v h same = was v h same
one-row P id t (change.Keep a) put was v h same = was v h same

pub service-stays : (cs : List Change) (t : Tables) (id : ℕ) →
    ((c : Change) → Has cs c → (s : Service) → c ≡ change.PutService s → not (eqb s.id id) ≡ true) →
    row_at service_id id (apply_changes t cs).services ≡ row_at service_id id t.services
service-stays [] t id each = refl
service-stays (c ∷ cs) t id each =
    service-stays cs (apply_change t c) id (λ d h. each d (inr h)) ∙ service-step t id c (each c (inl refl))

-- the row that a service has after changes is one that it had, or one that they put
pub each-row : (P : Service → Type 0) (id : ℕ) (cs : List Change) (t : Tables) →
    ((c : Change) → Has cs c → (v : Service) → c ≡ change.PutService v → v.id ≡ id → P v) →
    ((v : Service) → Has t.services v → v.id ≡ id → P v) → (v : Service) → Has (apply_changes t cs).services v →
    v.id ≡ id → P v
each-row P id [] t put was v h same = was v h same
each-row P id (c ∷ cs) t put was v h same =
    each-row P id cs (apply_change t c) (λ d there. put d (inr there)) (one-row P id t c (put c (inl refl)) was) v h same

pub not-of : (b : Bool) → not b ≡ true → b ≡ false
not-of true e = absurd cc
not-of false e = refl

-- What the changes of the allocator make.
use Rattle.std.proofs.Common.{◌≡◌, ℕ, Bool, true, false, cond, eqb, List, [], ◌∷◌, Option, Some, None, refl, sym, ap, ◌∙◌, subst}
use Rattle.std.specs.List.{list_all}
use Rattle.std.specs.Prelude.{◌&&◌}
use Rattle.swarm_alloc.specs.Allocating.{put_service as put_service_list}
use Rattle.swarm_objects.proofs.RowLemmas.{Has-from_row_at}
use Rattle.swarm_objects.specs.Changes.{change_service, change_task}
use Rattle.swarm_objects.specs.Loops.Allocator.{with_addresses, with_port}
use Rattle.swarm_objects.specs.Rows.{change_row, network_id, row_at, service_id, task_id}
use Rattle.swarm_objects.specs.Sound.{IsSound, is_subnet}
use Rattle.swarm_objects.specs.World.{Tables}
use Rattle.swarm_objects.specs.declared.networks.Network.{Network}
use Rattle.swarm_objects.specs.declared.rows.Change.{Change}
use Rattle.swarm_objects.specs.declared.rows.Change.TheVariants as change
use Rattle.swarm_objects.specs.declared.services.PortNumber.{PortNumber}
use Rattle.swarm_objects.specs.declared.services.Service.{Service}
use Rattle.swarm_objects.proofs.Applied.{found_makes, makes_none, service_makes}
use Rattle.swarm_objects.specs.ChangeLists.{Makes, put_found}

pub ruleset no_changes = (makes_none)

-- no service has the id
unchanged : (id : ℕ) (f : Service → Service) (rows : List Service) → row_at service_id id rows ≡ None →
    rows ≡ change_row service_id id f rows
unchanged id f [] e = refl
unchanged id f (s ∷ rows) e = go (eqb s.id id) (unchanged id f rows) e
  where
    go : (b : Bool) → (row_at service_id id rows ≡ None → rows ≡ change_row service_id id f rows) →
        cond b (Some s) (row_at service_id id rows) ≡ None → s ∷ rows ≡ cond b (f s) s ∷ change_row service_id id f rows
    go true below k = absurd cc
    go false below k = ap (λ zs. s ∷ zs) (below k)

-- one service that may be there
services_make : (f : Service → Service) (id : ℕ) (t : Tables) (cs : List Change) → IsSound t →
    ((s : Service) → (f s).id ≡ s.id) → cs ≡ put_service_list f (row_at service_id id t.services) →
    Makes t cs (change_service id f t)
services_make f id t cs sound same list = go (row_at service_id id t.services) refl list
  where
    go : (o : Option Service) → row_at service_id id t.services ≡ o → cs ≡ put_service_list f o →
        Makes t cs (change_service id f t)
    go None e l =
        subst (λ rows. Makes t cs (record t { services = rows })) (unchanged id f t.services e) (makes_none t cs l)
    go (Some s) e l =
        let is : s.id ≡ id = (Has-from_row_at service_id id t.services s e).1 in
        let found : row_at service_id s.id t.services ≡ Some s = ap (λ k. row_at service_id k t.services) is ∙ e in
        subst (λ ds. Makes t ds (change_service id f t)) (sym l)
        (subst (λ k. Makes t (change.PutService (f s) ∷ []) (change_service k f t)) is
        (service_makes f t s sound (sym found) (same s)))

pub numberings_make : (version : ℕ) (number : PortNumber) (id : ℕ) (t : Tables) (cs : List Change) → IsSound t →
    cs ≡ put_service_list (with_port version number) (row_at service_id id t.services) →
    Makes t cs (change_service id (with_port version number) t)
numberings_make version number id t cs sound list =
    services_make (with_port version number) id t cs sound (λ s. refl) list

pub addressings_make : (version id : ℕ) (t : Tables) (cs : List Change) → IsSound t →
    cs ≡ put_found (with_addresses version t) (row_at task_id id t.tasks) →
    Makes t cs (change_task id (with_addresses version t) t)
addressings_make version id t cs sound list = found_makes (with_addresses version t) id t cs sound (λ x. refl) list

-- a network that is there is a subnet
pub row_subnet : (networks : List Network) (id : ℕ) (n : Network) → Some n ≡ row_at network_id id networks →
    list_all is_subnet networks ≡ true → is_subnet n ≡ true
row_subnet [] id n e all = absurd cc
row_subnet (m ∷ networks) id n e all = go (eqb m.id id) (is_subnet m) refl (row_subnet networks id n) e all
  where
    go : (b c : Bool) → is_subnet m ≡ c →
        (Some n ≡ row_at network_id id networks → list_all is_subnet networks ≡ true → is_subnet n ≡ true) →
        Some n ≡ cond b (Some m) (row_at network_id id networks) → (c && list_all is_subnet networks) ≡ true →
        is_subnet n ≡ true
    go true true is below k t = let same : m ≡ n = cc in subst (λ (z : Network). is_subnet z ≡ true) same is
    go false true is below k t = below k t
    go true false is below k t = absurd cc
    go false false is below k t = absurd cc

-- No address is two tasks', in every world of a legal history.
use Rattle.std.proofs.Common.{None, Option, Some, [], ap, arith, false, inl, inr, refl, subst, sym, true, ℕ, ◌+◌, ◌∙◌, ◌∷◌, ◌≡◌, ◌≤◌, ◌⊎◌}
use Rattle.std.proofs.lemmas.Bool.Decides.{nat_tests}
use Rattle.std.specs.List.{list_any}
use Rattle.std.specs.Prelude.{filter, map, nat_le, option_to_list, ◌&&◌, ◌-◌, ◌==◌, ◌^◌}
use Rattle.swarm_model.proofs.Laws.Any.{first-free}
use Rattle.swarm_model.proofs.Laws.GivesOut.{left}
use Rattle.swarm_model.proofs.Laws.Kept.{InOrder, IsNewOf, Keeps, Lightens, lighten-in_state, lighten-same}
use Rattle.swarm_model.proofs.Laws.OneEach.{no-alike}
use Rattle.swarm_model.proofs.Laws.Timely.{changed-cases, each-becomes}
use Rattle.swarm_model.proofs.Laws.Within.{within-lightens}
use Rattle.swarm_model.proofs.Moves.Rows.{Becomes, becomes-where, between-one}
use Rattle.swarm_model.proofs.Moves.Tables.{rank-most}
use Rattle.swarm_model.proofs.Moves.Worlds.{TaskMoves}
use Rattle.swarm_model.specs.Calls.Nodes.{is_left_behind, tables_without_node}
use Rattle.swarm_model.specs.Calls.Remote.{begun_tables}
use Rattle.swarm_model.specs.Content.{same_address}
use Rattle.swarm_model.specs.Laws.Fits.{has_address, share_address}
use Rattle.swarm_objects.proofs.RowLemmas.{Has-append_cases, Has-filter, Has-flat_map, Has-flat_map_cases, Has-map}
use Rattle.swarm_objects.proofs.Tests.{any-has, false_from_ne_true, first_so, second_so}
use Rattle.swarm_objects.specs.Changes.{change_task, in_state, placed}
use Rattle.swarm_objects.specs.Loops.Allocator.{address_in, new_addresses, with_addresses}
use Rattle.swarm_objects.specs.Loops.Scheduler.{is_to_place}
use Rattle.swarm_objects.specs.Rows.{Has, network_id, on_row, row_at, task_id}
use Rattle.swarm_objects.specs.Rules.Services.{has_alike}
use Rattle.swarm_objects.specs.Tasks.Addresses.{addresses_held, addresses_in, free_address, free_in}
use Rattle.swarm_objects.specs.Tasks.New.{with_task}
use Rattle.swarm_objects.specs.Tasks.Words.{is_not_over, is_pending, is_wanted}
use Rattle.swarm_objects.specs.Values.Ranks.{rank}
use Rattle.swarm_objects.specs.World.{Tables, empty_tables}
use Rattle.swarm_objects.specs.declared.networks.Network.{Network}
use Rattle.swarm_objects.specs.declared.nodes.Node.{Node}
use Rattle.swarm_objects.specs.declared.services.Service.{Service}
use Rattle.swarm_objects.specs.declared.tasks.Address.{Address}
use Rattle.swarm_objects.specs.declared.tasks.Task.{Task}
use Rattle.swarm_objects.specs.declared.tasks.TaskState.TheVariants as state
use Rattle.swarm_objects.specs.declared.tasks.TaskState.{TaskState}

-- the two tasks have an address in common, up to RUNNING
pub record Share (a b : Task) : Type 0 where
  pub first : is_not_over a ≡ true
  pub second : is_not_over b ≡ true
  pub of_first : Address
  pub of_second : Address
  pub has_first : Has a.addresses of_first
  pub has_second : Has b.addresses of_second
  pub network : of_first.network ≡ of_second.network
  pub number : of_first.number ≡ of_second.number

-- only one task has an address
pub record OwnAddresses (t : Tables) : Type 0 where
  pub own : (a b : Task) → Has t.tasks a → Has t.tasks b → Share a b → a.id ≡ b.id

not-over-before : (x y : Task) → TaskMoves x y → is_not_over y ≡ true → is_not_over x ≡ true
not-over-before x y m e =
    let high : rank y.state ≤ rank state.Running = grind (arith, nat_tests, e) in
    let low : rank x.state ≤ rank state.Running = omega (arith, high, m.rises.state) in
    grind (arith, nat_tests, low)

share-before : (clock : ℕ) (a b c d : Task) → Lightens clock a c → Lightens clock b d → Share c d → Share a b
share-before clock a b c d m n s = record {
  first = not-over-before a c m.moves s.first;
  second = not-over-before b d n.moves s.second;
  of_first = s.of_first;
  of_second = s.of_second;
  has_first = subst (λ xs. Has xs s.of_first) m.addresses s.has_first;
  has_second = subst (λ xs. Has xs s.of_second) n.addresses s.has_second;
  network = s.network;
  number = s.number;
}

tasks-lighten : (t u : Tables) → Becomes (Lightens t.clock) [] t.tasks u.tasks → OwnAddresses t → OwnAddresses u
tasks-lighten t u rows is = record {
  own = λ a b h k s.
      let from : (y : Task) → Has u.tasks y → (x : Task) × Has t.tasks x × Lightens t.clock x y =
      (λ y j. each-becomes (λ (z : Task). (x : Task) × Has t.tasks x × Lightens t.clock x z)
      (Lightens t.clock) t.tasks u.tasks rows
      (λ x z i l. (x, i, l)) y j) in
      let r = from a h in
      let q = from b k in
      let same = is.own r.0 q.0 r.1 q.1 (share-before t.clock r.0 q.0 a b r.2 q.2 s) in
      r.2.moves.id ∙ same ∙ sym q.2.moves.id;
}

same-tasks : (t u : Tables) → u.tasks ≡ t.tasks → OwnAddresses t → OwnAddresses u
same-tasks t u e is = record {
  own = λ a b h k s. is.own a b (subst (λ xs. Has xs a) e h) (subst (λ xs. Has xs b) e k) s;
}

-- one task is changed, which then shares nothing with another one
one-changes : (t : Tables) (x : Task) (f : Task → Task) → InOrder t → Has t.tasks x → ((y : Task) → (f y).id ≡ y.id) →
    ((y : Task) → Has t.tasks y → Share (f x) y → y.id ≡ x.id) → ((y : Task) → Has t.tasks y → Share y (f x) →
    y.id ≡ x.id) →
    OwnAddresses t → OwnAddresses (change_task x.id f t)
one-changes t x f order there same left right is = record {
  own = λ a b h k s.
      go a b (changed-cases task_id x.id f t.tasks a h) (changed-cases task_id x.id f t.tasks b k) s;
}
  where
    abbrev-free : (y : Task) → Has t.tasks y → y.id ≡ x.id → y ≡ x
    abbrev-free y h e = between-one task_id 1 t.next_id t.tasks y x order.tasks h there e

    go : (a b : Task) → ((y : Task) × Has t.tasks y × ((y ≡ a) ⊎ ((y.id ≡ x.id) × (f y ≡ a)))) →
        ((y : Task) × Has t.tasks y × ((y ≡ b) ⊎ ((y.id ≡ x.id) × (f y ≡ b)))) → Share a b → a.id ≡ b.id
    go a b p q s = by_first a b p.0 p.1 p.2 q.0 q.1 q.2 s
      where
        by_first : (a b y : Task) → Has t.tasks y → (y ≡ a) ⊎ ((y.id ≡ x.id) × (f y ≡ a)) → (z : Task) → Has t.tasks z →
            (z ≡ b) ⊎ ((z.id ≡ x.id) × (f z ≡ b)) → Share a b → a.id ≡ b.id
        by_first a b y h (inl e) z k (inl g) s =
            ap (λ (v : Task). v.id) (sym e)
            ∙ is.own y z h k (subst (λ (v : Task). Share y v) (sym g) (subst (λ (v : Task). Share v b) (sym e) s))
            ∙ ap (λ (v : Task). v.id) g
        by_first a b y h (inl e) z k (inr g) s =
            let now : f x ≡ b = ap f (sym (abbrev-free z k g.0)) ∙ g.1 in
            let shared : Share y (f x) = subst (λ (v : Task). Share y v) (sym now)
            (subst (λ (v : Task). Share v b) (sym e) s) in
            ap (λ (v : Task). v.id) (sym e) ∙ right y h shared ∙ sym (same x) ∙ ap (λ (v : Task). v.id) now
        by_first a b y h (inr e) z k (inl g) s =
            let now : f x ≡ a = ap f (sym (abbrev-free y h e.0)) ∙ e.1 in
            let shared : Share (f x) z = subst (λ (v : Task). Share (f x) v) (sym g)
            (subst (λ (v : Task). Share v b) (sym now) s) in
            ap (λ (v : Task). v.id) (sym now) ∙ same x ∙ sym (left z k shared) ∙ ap (λ (v : Task). v.id) g
        by_first a b y h (inr e) z k (inr g) s =
            ap (λ (v : Task). v.id) (sym e.1) ∙ same y ∙ e.0 ∙ sym g.0 ∙ sym (same z) ∙ ap (λ (v : Task). v.id) g.1

-- New addresses.

addresses-of : (network : ℕ) (x : Task) (a : Address) → Has x.addresses a → a.network ≡ network → Has
    (addresses_in network x) a.number
addresses-of network x a h e =
    Has-map (λ (b : Address). b.number) (filter (λ (b : Address). b.network == network) x.addresses) a
    (Has-filter (λ (b : Address). b.network == network) x.addresses a h (grind (arith, nat_tests, e)))

held-address : (t : Tables) (x : Task) (a : Address) → Has t.tasks x → is_not_over x ≡ true → Has x.addresses a →
    Has (addresses_held t a.network) a.number
held-address t x a h e k =
    Has-flat_map (addresses_in a.network) (filter is_not_over t.tasks) x a.number
    (Has-filter is_not_over t.tasks x h e) (addresses-of a.network x a k refl)

free-unheld : (t : Tables) (network k : ℕ) → free_address t network ≡ Some k → ¬ (Has (addresses_held t network) k)
free-unheld t network k e = go (row_at network_id network t.networks) e
  where
    go : (o : Option Network) → on_row None (free_in (addresses_held t network)) o ≡ Some k → ¬
        (Has (addresses_held t network) k)
    go None same = absurd cc
    go (Some n) same = first-free (n.base + 2) (n.base + 2 ^ (32 - n.length) - 2) (addresses_held t network) k same

-- a new address is free
new-free : (t : Tables) (x : Task) (a : Address) → Has (new_addresses t x) a → ¬
    (Has (addresses_held t a.network) a.number)
new-free t x a h =
    let from = Has-flat_map_cases (address_in t) x.template.networks a h in
    go from.0 (free_address t from.0) refl from.2
  where
    go : (network : ℕ) (o : Option ℕ) → free_address t network ≡ o →
        Has (map (λ k. (let new : Address = record { network = network; number = k } in new)) (option_to_list o)) a →
        ¬ (Has (addresses_held t a.network) a.number)
    go network None e k = absurd k
    go network (Some number) e (inl same) =
        subst (λ (z : Address). ¬ (Has (addresses_held t z.network) z.number)) same (free-unheld t network number e)
    go network (Some number) e (inr none) = absurd none

share-not : (t : Tables) (x y : Task) (a b : Address) → Has t.tasks y → is_not_over y ≡ true → Has
    (new_addresses t x) a → Has y.addresses b →
    a.network ≡ b.network → a.number ≡ b.number → ⊥
share-not t x y a b h over new old network number =
    new-free t x a new
    (subst (λ (n : ℕ). Has (addresses_held t n) a.number) (sym network)
    (subst (λ (n : ℕ). Has (addresses_held t b.network) n) (sym number) (held-address t y b h over old)))

address-keeps : (version : ℕ) (t : Tables) (x : Task) → InOrder t → Has t.tasks x → OwnAddresses t →
    OwnAddresses (change_task x.id (with_addresses version t) t)
address-keeps version t x order there is =
    one-changes t x (with_addresses version t) order there (λ y. refl)
    (λ y h s. absurd (share-not t x y s.of_first s.of_second h s.second s.has_first s.has_second s.network s.number))
    (λ y h s. absurd (share-not t x y s.of_second s.of_first h s.first s.has_second s.has_first (sym s.network)
    (sym s.number)))
    is

place-keeps : (version : ℕ) (t : Tables) (x : Task) (m : Node) → InOrder t → OwnAddresses t → Has t.tasks x →
    is_to_place x ≡ true →
    OwnAddresses (change_task x.id (placed version t.clock m.id) t)
place-keeps version t x m order is there e =
    one-changes t x (placed version t.clock m.id) order there (λ y. refl)
    (λ y h s. sym (is.own x y there h (record {
      first = pending-not-over x e;
      second = s.second;
      of_first = s.of_first;
      of_second = s.of_second;
      has_first = s.has_first;
      has_second = s.has_second;
      network = s.network;
      number = s.number;
    })))
    (λ y h s. is.own y x h there (record {
      first = s.first;
      second = pending-not-over x e;
      of_first = s.of_first;
      of_second = s.of_second;
      has_first = s.has_first;
      has_second = s.has_second;
      network = s.network;
      number = s.number;
    })) is
  where
    pending-not-over : (x : Task) → is_to_place x ≡ true → is_not_over x ≡ true
    pending-not-over x e = go x.state refl (first_so (is_pending x.state) (is_wanted x) e)
      where
        go : (s : TaskState) → x.state ≡ s → is_pending s ≡ true → is_not_over x ≡ true
        go state.Pending at p = ap (λ s. nat_le (rank s) (rank state.Running)) at
        go _ at p = absurd cc

comes-keeps : (t : Tables) (s : Service) (x : Task) → IsNewOf t s x → OwnAddresses t → OwnAddresses (with_task t x)
comes-keeps t s x new is = record {
  own = λ a b h k share. go a b (Has-append_cases t.tasks (x ∷ []) a h) (Has-append_cases t.tasks (x ∷ []) b k) share;
}
  where
    none : (y : Task) (a : Address) → x ≡ y → Has y.addresses a → ⊥
    none y a e h = subst (λ xs. Has xs a) new.addresses (subst (λ (z : Task). Has z.addresses a) (sym e) h)

    go : (a b : Task) → Has t.tasks a ⊎ Has (x ∷ []) a → Has t.tasks b ⊎ Has (x ∷ []) b → Share a b → a.id ≡ b.id
    go a b (inl h) (inl k) share = is.own a b h k share
    go a b (inr (inl e)) other share = absurd (none a share.of_first e share.has_first)
    go a b (inr (inr no_one)) other share = absurd no_one
    go a b (inl h) (inr (inl e)) share = absurd (none b share.of_second e share.has_second)
    go a b (inl h) (inr (inr no_one)) share = absurd no_one

node-goes : (version : ℕ) (t : Tables) (id : ℕ) → OwnAddresses t → OwnAddresses (tables_without_node version t id)
node-goes version t id is =
    tasks-lighten t (tables_without_node version t id)
    (becomes-where (Lightens t.clock) (is_left_behind id) (in_state version t.clock state.Orphaned) t.tasks
    (lighten-same t.clock)
    (λ x h e. lighten-in_state version t.clock state.Orphaned x (rank-most x.state) (λ p. absurd cc))) is

pub addresses-keep : Keeps OwnAddresses
addresses-keep = record {
  tasks = λ t new order is rows. tasks-lighten t (record t { tasks = new }) rows is;
  address = λ version t x order is there e. address-keeps version t x order there is;
  place = λ version t x m order is there e best. place-keeps version t x m order is there e;
  comes = λ t s x order is there new. comes-keeps t s x new is;
  runs = λ t new order is rows. same-tasks t _ refl is;
  port = λ version t s target udp number order is e. same-tasks t _ refl is;
  fails = λ version t s spec order is there e. same-tasks t _ refl is;
  updates = λ version t s d order is there same taken. same-tasks t _ refl is;
  rolls_back = λ version t s spec order is there e. same-tasks t _ refl is;
  service_comes = λ version t name d order is taken. same-tasks t _ refl is;
  attempts = λ t new is each. same-tasks t _ refl is;
  nodes = λ t f order is each. same-tasks t _ refl is;
  node_comes = λ t n order is id since. same-tasks t _ refl is;
  node_goes = λ version t id order is. node-goes version t id is;
  begins = λ version t n cpu mem order is there.
      tasks-lighten t (begun_tables version t n.id cpu mem) (within-lightens version t.clock n.id cpu mem t.tasks) is;
  registers = λ version t node order is. same-tasks t _ refl is;
  beats = λ t node is. same-tasks t _ refl is;
  networks = λ t new is. same-tasks t _ refl is;
  ids = λ t order is. same-tasks t _ refl is;
  ticks = λ t ms is. same-tasks t _ refl is;
  settings = λ t s e is. same-tasks t _ refl is;
}

pub addresses-empty : OwnAddresses empty_tables
addresses-empty = record { own = λ a b h k s. absurd h }

-- The law.

address-share : (a b : Task) → share_address a b ≡ true → Share a b
address-share a b e =
    let first = first_so (is_not_over a) (is_not_over b) (first_so (is_not_over a && is_not_over b)
    (list_any (has_address b) a.addresses) e) in
    let second = second_so (is_not_over a) (is_not_over b) (first_so (is_not_over a && is_not_over b)
    (list_any (has_address b) a.addresses) e) in
    let found = any-has (has_address b) a.addresses (second_so (is_not_over a && is_not_over b)
    (list_any (has_address b) a.addresses) e) in
    let other = any-has (same_address found.0) b.addresses found.2 in
    record {
      first = first;
      second = second;
      of_first = found.0;
      of_second = other.0;
      has_first = found.1;
      has_second = other.1;
      network = grind (
        arith,
        nat_tests,
        first_so (found.0.network == other.0.network)
            (found.0.number == other.0.number) other.2,
      );
      number = grind (
        arith,
        nat_tests,
        second_so (found.0.network == other.0.network)
            (found.0.number == other.0.number) other.2,
      );
    }

pub addresses-alike : (t : Tables) → InOrder t → OwnAddresses t → has_alike share_address t.tasks ≡ false
addresses-alike t order is =
    no-alike share_address task_id 1 t.next_id t.tasks order.tasks
    (λ a b h k less. false_from_ne_true (share_address a b)
    (λ e. let same = is.own a b h k (address-share a b e) in absurd (omega (arith, less, same))))

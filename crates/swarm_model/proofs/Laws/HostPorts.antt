-- No host port of a node is two placed tasks', in every world of a legal history.
use Rattle.std.proofs.Common.{Bool, List, None, Option, Some, [], ap, arith, false, inl, inr, refl, subst, sym, true, ℕ, ◌++◌, ◌∙◌, ◌∷◌, ◌≡◌, ◌⊎◌}
use Rattle.std.proofs.lemmas.Bool.Decides.{nat_tests}
use Rattle.std.specs.List.{list_any}
use Rattle.std.specs.Option.{option_eq}
use Rattle.std.specs.Prelude.{is_some, not, ◌&&◌, ◌≡◌}
use Rattle.swarm_model.proofs.Laws.Alone.{none-of-any}
use Rattle.swarm_model.proofs.Laws.Kept.{InOrder, IsNewOf, Keeps, Lightens, lighten-in_state, lighten-same}
use Rattle.swarm_model.proofs.Laws.OneEach.{no-alike}
use Rattle.swarm_model.proofs.Laws.Room.{IsLighter, Roomy, address-lighter, admits-all, lighter-by, lighter-same, on-node, on-node-by, roomy-empty, roomy-keeps, unplaced-new}
use Rattle.swarm_model.proofs.Laws.Timely.{changed-cases, each-becomes, each-changed}
use Rattle.swarm_model.proofs.Laws.Within.{within-lightens}
use Rattle.swarm_model.proofs.Moves.Placing.{best-is}
use Rattle.swarm_model.proofs.Moves.Rows.{Becomes, becomes-where, between-one}
use Rattle.swarm_model.proofs.Moves.Tables.{rank-most}
use Rattle.swarm_model.specs.Calls.Nodes.{is_left_behind, tables_without_node}
use Rattle.swarm_model.specs.Calls.Remote.{begun_tables}
use Rattle.swarm_model.specs.Laws.Fits.{share_host_port}
use Rattle.swarm_objects.proofs.RowLemmas.{Has-append_cases, Has-filter}
use Rattle.swarm_objects.proofs.SameLemmas.{Decides-option_eq, Decides-same_number}
use Rattle.swarm_objects.proofs.Tests.{any-has, false_from_ne_true, first_so, has-any, never-both, second_so}
use Rattle.swarm_objects.specs.Changes.{change_task, in_state, placed}
use Rattle.swarm_objects.specs.Loops.Allocator.{with_addresses}
use Rattle.swarm_objects.specs.Loops.Scheduler.{is_to_place}
use Rattle.swarm_objects.specs.Nodes.BestNode.{best_node}
use Rattle.swarm_objects.specs.Nodes.Filters.{has_free_host_ports}
use Rattle.swarm_objects.specs.Nodes.Holdings.{is_host_port_used, is_placed_on, tasks_placed_on}
use Rattle.swarm_objects.specs.Rows.{Has, change_row, task_id}
use Rattle.swarm_objects.specs.Rules.Services.{has_alike, is_host_clash, shares_number}
use Rattle.swarm_objects.specs.Same.{same_bool, same_number}
use Rattle.swarm_objects.specs.Tasks.Words.{is_on, is_placed}
use Rattle.swarm_objects.specs.World.{Tables, empty_tables}
use Rattle.swarm_objects.specs.declared.nodes.Node.{Node}
use Rattle.swarm_objects.specs.declared.services.Service.{Service}
use Rattle.swarm_objects.specs.declared.tasks.Task.{Task}
use Rattle.swarm_objects.specs.declared.tasks.TaskState.TheVariants as state
use Rattle.swarm_objects.specs.declared.templates.Port.{Port}
use Rattle.swarm_objects.specs.declared.templates.Template.{Template}

-- the two tasks stand on one node, and have a host port in common
pub record Clash (a b : Task) : Type 0 where
  pub node : ℕ
  pub first : is_placed_on node a ≡ true
  pub second : is_placed_on node b ≡ true
  pub of_first : Port
  pub of_second : Port
  pub has_first : Has a.template.host_ports of_first
  pub has_second : Has b.template.host_ports of_second
  pub clash : is_host_clash of_first of_second ≡ true

-- placed tasks have homes, and only one has a port of a node
pub record OwnPorts (t : Tables) : Type 0 where
  pub roomy : Roomy t
  pub own : (a b : Task) → Has t.tasks a → Has t.tasks b → Clash a b → a.id ≡ b.id

-- Clashes are mutual.

same-bool-back : (a b : Bool) → same_bool a b ≡ true → same_bool b a ≡ true
same-bool-back true true e = refl
same-bool-back true false e = absurd cc
same-bool-back false true e = absurd cc
same-bool-back false false e = refl

number-back : (a b : Option ℕ) → shares_number a b ≡ true → shares_number b a ≡ true
number-back None b e = absurd cc
number-back (Some a) None e = absurd cc
number-back (Some a) (Some b) e = grind (arith, nat_tests, e)

clash-back : (p q : Port) → is_host_clash p q ≡ true → is_host_clash q p ≡ true
clash-back p q e =
    let udp = same-bool-back p.udp q.udp (first_so (same_bool p.udp q.udp) (shares_number p.number q.number) e) in
    let number = number-back p.number q.number (second_so (same_bool p.udp q.udp)
    (shares_number p.number q.number) e) in
    ap (λ (b : Bool). b && shares_number q.number p.number) udp ∙ number

-- Tasks that lighten.

clash-before : (a b c d : Task) → IsLighter a c → IsLighter b d → Clash c d → Clash a b
clash-before a b c d m n s = record {
  node = s.node;
  first = m.on s.node s.first;
  second = n.on s.node s.second;
  of_first = s.of_first;
  of_second = s.of_second;
  has_first = subst (λ (x : Template). Has x.host_ports s.of_first) m.template s.has_first;
  has_second = subst (λ (x : Template). Has x.host_ports s.of_second) n.template s.has_second;
  clash = s.clash;
}

own-lighter : (t u : Tables) → ((y : Task) → Has u.tasks y → (x : Task) × Has t.tasks x ×
    (y.id ≡ x.id) × IsLighter x y) → OwnPorts t →
    (a b : Task) → Has u.tasks a → Has u.tasks b → Clash a b → a.id ≡ b.id
own-lighter t u from is a b h k s =
    let r = from a h in
    let q = from b k in
    r.2 ∙ is.own r.0 q.0 r.1 q.1 (clash-before r.0 q.0 a b r.3 q.3 s) ∙ sym q.2

from-lightens : (t : Tables) (new : List Task) → Becomes (Lightens t.clock) [] t.tasks new → Roomy t → (y : Task) →
    Has new y →
    (x : Task) × Has t.tasks x × (y.id ≡ x.id) × IsLighter x y
from-lightens t new rows roomy =
    each-becomes (λ (z : Task). (x : Task) × Has t.tasks x × (z.id ≡ x.id) × IsLighter x z)
    (Lightens t.clock) t.tasks new rows
    (λ x z i l. (x, i, l.moves.id, lighter-by t.clock t.nodes x z (roomy.homes x i) l))

from-changed : (t : Tables) (id : ℕ) (f : Task → Task) → ((x : Task) → (f x).id ≡ x.id) →
    ((x : Task) → IsLighter x (f x)) → (y : Task) →
    Has (change_row task_id id f t.tasks) y → (x : Task) × Has t.tasks x × (y.id ≡ x.id) × IsLighter x y
from-changed t id f same each =
    each-changed (λ (z : Task). (x : Task) × Has t.tasks x × (z.id ≡ x.id) × IsLighter x z) task_id id f t.tasks
    (λ x h. (x, h, refl, lighter-same x)) (λ x h e. (x, h, same x, each x))

same-own : (t u : Tables) → u.tasks ≡ t.tasks → OwnPorts t → (a b : Task) → Has u.tasks a → Has u.tasks b →
    Clash a b → a.id ≡ b.id
same-own t u e is a b h k s = is.own a b (subst (λ xs. Has xs a) e h) (subst (λ xs. Has xs b) e k) s

-- A task is placed.

-- no task of the node has a port of this one
free-ports : (t : Tables) (x y : Task) (m : ℕ) (p q : Port) → list_any (is_host_port_used
    (tasks_placed_on t m)) x.template.host_ports ≡ false →
    Has t.tasks y → is_placed_on m y ≡ true → Has x.template.host_ports p → Has y.template.host_ports q →
    is_host_clash p q ≡ true → ⊥
free-ports t x y m p q free h placed has_p has_q clash =
    let used =
    has-any (λ z. list_any (is_host_clash p) z.template.host_ports) (tasks_placed_on t m) y
    (Has-filter (is_placed_on m) t.tasks y h placed)
    (has-any (is_host_clash p) y.template.host_ports q has_q clash) in
    never-both (is_host_port_used (tasks_placed_on t m) p)
    (none-of-any (is_host_port_used (tasks_placed_on t m)) x.template.host_ports free p has_p) used

one-node : (version clock m node : ℕ) (x : Task) → is_placed_on node (placed version clock m x) ≡ true → node ≡ m
one-node version clock m node x e =
    let at : ◌≡◌ {A = Option ℕ} (Some m) (Some node) = (on-node (placed version clock m x) node e).1 in cc

placed-own : (version : ℕ) (t : Tables) (x : Task) (m : Node) → InOrder t → OwnPorts t → Has t.tasks x →
    list_any (is_host_port_used (tasks_placed_on t m.id)) x.template.host_ports ≡ false → (a b : Task) →
    Has (change_row task_id x.id (placed version t.clock m.id) t.tasks) a →
    Has (change_row task_id x.id (placed version t.clock m.id) t.tasks) b → Clash a b → a.id ≡ b.id
placed-own version t x m order is there free a b h k s =
    go a b (changed-cases task_id x.id (placed version t.clock m.id) t.tasks a h)
    (changed-cases task_id x.id (placed version t.clock m.id) t.tasks b k) s
  where
    is-x : (y : Task) → Has t.tasks y → y.id ≡ x.id → y ≡ x
    is-x y j e = between-one task_id 1 t.next_id t.tasks y x order.tasks j there e

    new-first : (z : Task) → Has t.tasks z → Clash (placed version t.clock m.id x) z → ⊥
    new-first z j c =
        let on : c.node ≡ m.id = one-node version t.clock m.id c.node x c.first in
        free-ports t x z m.id c.of_first c.of_second free j (subst
        (λ (n : ℕ). is_placed_on n z ≡ true) on c.second) c.has_first
        c.has_second c.clash

    new-second : (z : Task) → Has t.tasks z → Clash z (placed version t.clock m.id x) → ⊥
    new-second z j c =
        let on : c.node ≡ m.id = one-node version t.clock m.id c.node x c.second in
        free-ports t x z m.id c.of_second c.of_first free j (subst
        (λ (n : ℕ). is_placed_on n z ≡ true) on c.first) c.has_second
        c.has_first (clash-back c.of_first c.of_second c.clash)

    go : (a b : Task) → ((y : Task) × Has t.tasks y × ((y ≡ a) ⊎
        ((y.id ≡ x.id) × (placed version t.clock m.id y ≡ a)))) →
        ((y : Task) × Has t.tasks y × ((y ≡ b) ⊎ ((y.id ≡ x.id) × (placed version t.clock m.id y ≡ b)))) → Clash a b →
        a.id ≡ b.id
    go a b p q c = by_first p.0 p.1 p.2 q.0 q.1 q.2
      where
        by_first : (y : Task) → Has t.tasks y → (y ≡ a) ⊎ ((y.id ≡ x.id) × (placed version t.clock m.id y ≡ a)) →
            (z : Task) →
            Has t.tasks z → (z ≡ b) ⊎ ((z.id ≡ x.id) × (placed version t.clock m.id z ≡ b)) → a.id ≡ b.id
        by_first y h (inl e) z k (inl g) =
            ap (λ (v : Task). v.id) (sym e)
            ∙ is.own y z h k (subst (λ (v : Task). Clash y v) (sym g) (subst (λ (v : Task). Clash v b) (sym e) c))
            ∙ ap (λ (v : Task). v.id) g
        by_first y h (inl e) z k (inr g) =
            let now : placed version t.clock m.id x ≡ b = ap (placed version t.clock m.id) (sym (is-x z k g.0)) ∙ g.1 in
            absurd (new-second y h (subst (λ (v : Task). Clash y v) (sym now)
            (subst (λ (v : Task). Clash v b) (sym e) c)))
        by_first y h (inr e) z k (inl g) =
            let now : placed version t.clock m.id x ≡ a = ap (placed version t.clock m.id) (sym (is-x y h e.0)) ∙ e.1 in
            absurd (new-first z k (subst (λ (v : Task). Clash (placed version t.clock m.id x) v) (sym g)
            (subst (λ (v : Task). Clash v b) (sym now) c)))
        by_first y h (inr e) z k (inr g) =
            ap (λ (v : Task). v.id) (sym e.1) ∙ e.0 ∙ sym g.0 ∙ ap (λ (v : Task). v.id) g.1

free-host : (t : Tables) (x : Task) (m : Node) → has_free_host_ports t x m ≡ true →
    list_any (is_host_port_used (tasks_placed_on t m.id)) x.template.host_ports ≡ false
free-host t x m e = go (list_any (is_host_port_used (tasks_placed_on t m.id)) x.template.host_ports) e
  where
    go : (b : Bool) → not b ≡ true → b ≡ false
    go true k = absurd cc
    go false k = refl

place-keeps : (version : ℕ) (t : Tables) (x : Task) (m : Node) → InOrder t → OwnPorts t → Has t.tasks x →
    is_to_place x ≡ true →
    best_node t x ≡ Some m → OwnPorts (change_task x.id (placed version t.clock m.id) t)
place-keeps version t x m order is there e best = record {
  roomy = roomy-keeps.place version t x m order is.roomy there e best;
  own =
      placed-own version t x m order is there
      (free-host t x m (admits-all t x m (best-is t x m best).2 4 (inr (inr (inr (inr (inl refl)))))));
}

comes-own : (t : Tables) (s : Service) (x : Task) → IsNewOf t s x → OwnPorts t → (a b : Task) → Has
    (t.tasks ++ x ∷ []) a →
    Has (t.tasks ++ x ∷ []) b → Clash a b → a.id ≡ b.id
comes-own t s x new is a b h k c = go (Has-append_cases t.tasks (x ∷ []) a h) (Has-append_cases t.tasks (x ∷ []) b k)
  where
    none : (y : Task) (node : ℕ) → x ≡ y → is_placed_on node y ≡ true → ⊥
    none y node e on =
        never-both (is_placed x) (unplaced-new x new.state)
        (first_so (is_placed x) (is_on node x) (ap (is_placed_on node) e ∙ on))

    go : Has t.tasks a ⊎ Has (x ∷ []) a → Has t.tasks b ⊎ Has (x ∷ []) b → a.id ≡ b.id
    go (inl i) (inl j) = is.own a b i j c
    go (inr (inl e)) other = absurd (none a c.node e c.first)
    go (inr (inr no_one)) other = absurd no_one
    go (inl i) (inr (inl e)) = absurd (none b c.node e c.second)
    go (inl i) (inr (inr no_one)) = absurd no_one

node-goes : (version : ℕ) (t : Tables) (id : ℕ) → InOrder t → OwnPorts t → OwnPorts (tables_without_node version t id)
node-goes version t id order is = record {
  roomy = roomy-keeps.node_goes version t id order is.roomy;
  own =
      own-lighter t (tables_without_node version t id)
      (from-lightens t _
      (becomes-where (Lightens t.clock) (is_left_behind id) (in_state version t.clock state.Orphaned) t.tasks
      (lighten-same t.clock)
      (λ x h e. lighten-in_state version t.clock state.Orphaned x (rank-most x.state) (λ p. absurd cc))) is.roomy) is;
}

same-ports : (t u : Tables) → Roomy u → u.tasks ≡ t.tasks → OwnPorts t → OwnPorts u
same-ports t u roomy e is = record { roomy = roomy; own = same-own t u e is }

pub ports-keep : Keeps OwnPorts
ports-keep = record {
  tasks = λ t new order is rows. record {
    roomy = roomy-keeps.tasks t new order is.roomy rows;
    own = own-lighter t (record t { tasks = new }) (from-lightens t new rows is.roomy) is;
  };
  address = λ version t x order is there e. record {
    roomy = roomy-keeps.address version t x order is.roomy there e;
    own =
        own-lighter t (change_task x.id (with_addresses version t) t)
        (from-changed t x.id (with_addresses version t) (λ y. refl) (λ y. address-lighter version t y)) is;
  };
  place = λ version t x m order is there e best. place-keeps version t x m order is there e best;
  comes = λ t s x order is there new. record {
    roomy = roomy-keeps.comes t s x order is.roomy there new;
    own = comes-own t s x new is;
  };
  runs = λ t new order is rows. same-ports t _ (roomy-keeps.runs t new order is.roomy rows) refl is;
  port = λ version t s target udp number order is e. same-ports t _
      (roomy-keeps.port version t s target udp number order is.roomy e) refl is;
  fails = λ version t s spec order is there e. same-ports t _
      (roomy-keeps.fails version t s spec order is.roomy there e) refl is;
  updates = λ version t s d order is there same taken. same-ports t _
      (roomy-keeps.updates version t s d order is.roomy there same taken) refl is;
  rolls_back = λ version t s spec order is there e. same-ports t _
      (roomy-keeps.rolls_back version t s spec order is.roomy there e) refl is;
  service_comes = λ version t name d order is taken. same-ports t _
      (roomy-keeps.service_comes version t name d order is.roomy taken) refl is;
  attempts = λ t new is each. same-ports t _ (roomy-keeps.attempts t new is.roomy each) refl is;
  nodes = λ t f order is each. same-ports t _ (roomy-keeps.nodes t f order is.roomy each) refl is;
  node_comes = λ t n order is id since. same-ports t _ (roomy-keeps.node_comes t n order is.roomy id since) refl is;
  node_goes = λ version t id order is. node-goes version t id order is;
  begins = λ version t n cpu mem order is there. record {
    roomy = roomy-keeps.begins version t n cpu mem order is.roomy there;
    own =
        own-lighter t (begun_tables version t n.id cpu mem)
        (from-lightens t _ (within-lightens version t.clock n.id cpu mem t.tasks) is.roomy) is;
  };
  registers = λ version t node order is. same-ports t _ (roomy-keeps.registers version t node order is.roomy) refl is;
  beats = λ t node is. same-ports t _ (roomy-keeps.beats t node is.roomy) refl is;
  networks = λ t new is. same-ports t _ (roomy-keeps.networks t new is.roomy) refl is;
  ids = λ t order is. same-ports t _ (roomy-keeps.ids t order is.roomy) refl is;
  ticks = λ t ms is. same-ports t _ (roomy-keeps.ticks t ms is.roomy) refl is;
  settings = λ t s e is. same-ports t _ (roomy-keeps.settings t s e is.roomy) refl is;
}

pub ports-empty : OwnPorts empty_tables
ports-empty = record { roomy = roomy-empty; own = λ a b h k s. absurd h }

-- The law.

port-clash : (a b : Task) → share_host_port a b ≡ true → Clash a b
port-clash a b e =
    let four = first_so _ (list_any (is_host_port_used (b ∷ [])) a.template.host_ports) e in
    let ports = second_so (is_placed a && is_placed b && is_some a.node && option_eq same_number a.node b.node)
    (list_any (is_host_port_used (b ∷ [])) a.template.host_ports) e in
    let same = second_so (is_placed a && is_placed b && is_some a.node) (option_eq same_number a.node b.node) four in
    let three = first_so (is_placed a && is_placed b && is_some a.node) (option_eq same_number a.node b.node) four in
    let some = second_so (is_placed a && is_placed b) (is_some a.node) three in
    let two = first_so (is_placed a && is_placed b) (is_some a.node) three in
    let found = any-has (is_host_port_used (b ∷ [])) a.template.host_ports ports in
    go a.node refl some (first_so (is_placed a) (is_placed b) two) (second_so (is_placed a)
    (is_placed b) two) same found.0 found.1
    (any-has (λ x. list_any (is_host_clash found.0) x.template.host_ports) (b ∷ []) found.2)
  where
    go : (o : Option ℕ) → a.node ≡ o → is_some o ≡ true → is_placed a ≡ true → is_placed b ≡ true →
        option_eq same_number a.node b.node ≡ true →
        (p : Port) → Has a.template.host_ports p →
        ((x : Task) × Has (b ∷ []) x × (list_any (is_host_clash p) x.template.host_ports ≡ true)) → Clash a b
    go None at some pa pb same p h user = absurd cc
    go (Some node) at some pa pb same p h user =
        let other : b.node ≡ Some node =
        sym ((Decides-option_eq same_number Decides-same_number a.node b.node).0 same) ∙ at in
        by_user user.0 user.1 user.2 (on-node-by a node pa at) (on-node-by b node pb other) p h
      where
        by_user : (x : Task) → Has (b ∷ []) x → list_any (is_host_clash p) x.template.host_ports ≡ true →
            is_placed_on node a ≡ true →
            is_placed_on node b ≡ true → (r : Port) → Has a.template.host_ports p → Clash a b
        by_user x (inl e) any on_a on_b r h =
            let q = any-has (is_host_clash p) b.template.host_ports (subst
            (λ (z : Task). list_any (is_host_clash p) z.template.host_ports ≡ true) (sym e) any) in
            record {
              node = node;
              first = on_a;
              second = on_b;
              of_first = p;
              of_second = q.0;
              has_first = h;
              has_second = q.1;
              clash = q.2;
            }
        by_user x (inr none) any on_a on_b r h = absurd none

pub ports-alike : (t : Tables) → InOrder t → OwnPorts t → has_alike share_host_port t.tasks ≡ false
ports-alike t order is =
    no-alike share_host_port task_id 1 t.next_id t.tasks order.tasks
    (λ a b h k less. false_from_ne_true (share_host_port a b)
    (λ e. let same = is.own a b h k (port-clash a b e) in absurd (omega (arith, less, same))))

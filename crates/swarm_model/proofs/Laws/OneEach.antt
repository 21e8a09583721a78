-- No two live tasks of a place have one template, in every world of a legal history.
use Rattle.std.proofs.Common.{Bool, List, None, Option, Some, [], ap, arith, false, inl, inr, refl, subst, sym, true, ℕ, ◌++◌, ◌+◌, ◌<◌, ◌∙◌, ◌∷◌, ◌≡◌, ◌≤◌, ◌⊎◌}
use Rattle.std.proofs.lemmas.Bool.Decides.{nat_tests}
use Rattle.std.specs.List.{list_any}
use Rattle.std.specs.Prelude.{not, ◌&&◌, ◌==◌, ◌||◌}
use Rattle.swarm_model.proofs.Laws.Alone.{is-place}
use Rattle.swarm_model.proofs.Laws.Kept.{InOrder, IsNewOf, Keeps, Lightens, Runs}
use Rattle.swarm_model.proofs.Laws.KeptCalls.{kept-worlds}
use Rattle.swarm_model.proofs.Laws.Timely.{Where, each-changed, each-pushed}
use Rattle.swarm_model.proofs.Laws.Within.{within-lightens}
use Rattle.swarm_model.proofs.Moves.Duties.{addressed-moves}
use Rattle.swarm_model.proofs.Moves.Placing.{placed-moves}
use Rattle.swarm_model.proofs.Moves.Rows.{Becomes, RisesBetween, becomes-cases, becomes-change_at, becomes-where, between-has, between-one}
use Rattle.swarm_model.proofs.Moves.Tables.{moves-in_state, rank-most}
use Rattle.swarm_model.proofs.Moves.Worlds.{TaskMoves, task-same}
use Rattle.swarm_model.specs.Calls.Nodes.{is_left_behind, tables_without_node}
use Rattle.swarm_objects.specs.NewRows.{same_mode}
use Rattle.swarm_model.specs.Calls.Remote.{begun_tables}
use Rattle.swarm_objects.specs.Nodes.Opening.{tasks_within, with_resources}
use Rattle.swarm_model.specs.Calls.Services.{filled, new_service, with_service}
use Rattle.swarm_objects.specs.NewRows.{next_iteration, respecified}
use Rattle.swarm_model.specs.Laws.OneTemplate.{NoTwoAlike, OneTemplateLaw, are_alike, is_of_no_job}
use Rattle.swarm_objects.proofs.RowLemmas.{Has-append_cases, Has-from_row_at}
use Rattle.swarm_objects.proofs.SameLemmas.{Decides-same_place}
use Rattle.swarm_objects.proofs.Tests.{first_so, neither, second_so}
use Rattle.swarm_objects.specs.Changes.{change_service, change_task, in_state, placed}
use Rattle.swarm_objects.specs.Loops.Allocator.{gets_address, port_number, with_addresses, with_port}
use Rattle.swarm_objects.specs.Loops.Scheduler.{is_to_place}
use Rattle.swarm_objects.specs.Loops.Update.{back_at, with_run}
use Rattle.swarm_objects.specs.Nodes.BestNode.{best_node}
use Rattle.swarm_objects.specs.Nodes.Sessions.{registered}
use Rattle.swarm_objects.specs.Rows.{Has, change_row, drop_row, is_some_and, node_id, row_at, service_id, session_node, task_id}
use Rattle.swarm_objects.specs.Rules.Services.{has_alike}
use Rattle.swarm_objects.specs.Same.{same_place, same_template}
use Rattle.swarm_objects.specs.Services.Words.{is_job}
use Rattle.swarm_objects.specs.Tasks.New.{with_task}
use Rattle.swarm_objects.specs.Tasks.Places.{is_in_place}
use Rattle.swarm_objects.specs.Tasks.Words.{is_live}
use Rattle.swarm_objects.specs.Values.Ranks.{desired_rank}
use Rattle.swarm_objects.specs.World.{Tables, empty_tables}
use Rattle.swarm_objects.specs.declared.nodes.Node.{Node}
use Rattle.swarm_objects.specs.declared.services.Draft.{Draft}
use Rattle.swarm_objects.specs.declared.services.Mode.TheVariants as mode
use Rattle.swarm_objects.specs.declared.services.Mode.{Mode}
use Rattle.swarm_objects.specs.declared.services.Service.{Service}
use Rattle.swarm_objects.specs.declared.services.ServiceSpec.{ServiceSpec}
use Rattle.swarm_objects.specs.declared.services.UpdateRun.{UpdateRun}
use Rattle.swarm_objects.specs.declared.tasks.Task.{Task}
use Rattle.swarm_objects.specs.declared.tasks.TaskState.TheVariants as state
use Rattle.swarm_objects.specs.declared.templates.Template.{Template}

-- Modes.

abbrev pub mode_number : Mode → ℕ
mode_number (mode.Replicated n) = 0
mode_number mode.Global = 1
mode_number (mode.Job c n) = 2

-- they are of one kind
abbrev pub IsAlike : Mode → Mode → Type 0
IsAlike a b = mode_number a ≡ mode_number b

pub alike-by : (a b : Mode) → same_mode a b ≡ true → IsAlike a b
alike-by (mode.Replicated a) (mode.Replicated b) e = refl
alike-by mode.Global mode.Global e = refl
alike-by (mode.Job a b) (mode.Job c d) e = refl
alike-by _ _ e = absurd cc

pub job-alike : (a b : Mode) → IsAlike a b → is_job a ≡ is_job b
job-alike (mode.Replicated a) (mode.Replicated b) e = refl
job-alike mode.Global mode.Global e = refl
job-alike (mode.Job a b) (mode.Job c d) e = refl
job-alike (mode.Replicated a) mode.Global e = absurd cc
job-alike (mode.Replicated a) (mode.Job c d) e = absurd cc
job-alike mode.Global (mode.Replicated b) e = absurd cc
job-alike mode.Global (mode.Job c d) e = absurd cc
job-alike (mode.Job a b) (mode.Replicated c) e = absurd cc
job-alike (mode.Job a b) mode.Global e = absurd cc

-- The invariant.

-- the previous specification is of the present one's kind
abbrev pub IsOfKind : Service → Type 0
IsOfKind s = Where (λ (p : ServiceSpec). IsAlike p.mode s.spec.mode) s.previous

-- a task's iteration is no later than its service's, and that one where the service is no job
pub record IsIteration (x : Task) (s : Service) : Type 0 where
  pub most : x.iteration ≤ s.iteration
  pub only : is_job s.spec.mode ≡ false → x.iteration ≡ s.iteration

-- both are live in one place and one iteration of one service
pub record IsBeside (a b : Task) : Type 0 where
  pub service : a.service ≡ b.service
  pub place : a.place ≡ b.place
  pub iteration : a.iteration ≡ b.iteration
  pub live : is_live a ≡ true
  pub live_too : is_live b ≡ true

pub record OneEach (t : Tables) : Type 0 where
  pub kinds : (s : Service) → Has t.services s → IsOfKind s
  pub below : (x : Task) → Has t.tasks x → x.service < t.next_id
  pub iterations : (x : Task) (s : Service) → Has t.tasks x → Has t.services s → x.service ≡ s.id → IsIteration x s
  pub alone : (a b : Task) → Has t.tasks a → Has t.tasks b → a.id < b.id → IsBeside a b →
      same_template a.template b.template ≡ false

-- Tasks that move.

live-before : (x y : Task) → TaskMoves x y → is_live y ≡ true → is_live x ≡ true
live-before x y m live =
    let low : desired_rank y.desired ≤ desired_rank y.goal = grind (arith, nat_tests, live) in
    let goal : desired_rank y.goal ≡ desired_rank x.goal = ap desired_rank m.rises.making.goal in
    let high : desired_rank x.desired ≤ desired_rank x.goal = omega (arith, low, goal, m.rises.desired) in
    grind (arith, nat_tests, high)

beside-before : (a b c d : Task) → TaskMoves a c → TaskMoves b d → IsBeside c d → IsBeside a b
beside-before a b c d m n is = record {
  service = sym m.rises.making.service ∙ is.service ∙ n.rises.making.service;
  place = sym m.rises.making.place ∙ is.place ∙ n.rises.making.place;
  iteration = sym m.rises.making.iteration ∙ is.iteration ∙ n.rises.making.iteration;
  live = live-before a c m is.live;
  live_too = live-before b d n is.live_too;
}

-- each task is one that was there
abbrev FromTasks : List Task → List Task → Type 0
FromTasks old new = (y : Task) → Has new y → (x : Task) × Has old x × TaskMoves x y

pub from-becomes : (R : Task → Task → Type 0) → ((x y : Task) → R x y → TaskMoves x y) → (old new : List Task) →
    Becomes R [] old new →
    (y : Task) → Has new y → (x : Task) × Has old x × TaskMoves x y
from-becomes R moves old new rows y h =
    elim (becomes-cases R [] old new rows y h) [
      | inl r ↦ (r.0, r.1, moves r.0 y r.2)
      | inr none ↦ absurd none
    ]

tasks-move : (t : Tables) (new : List Task) → FromTasks t.tasks new → OneEach t → OneEach (record t { tasks = new })
tasks-move t new from is = record {
  kinds = is.kinds;
  below = λ y h. let r = from y h in omega (arith, is.below r.0 r.1, r.2.rises.making.service);
  iterations = λ y s h k e.
      let r = from y h in
      let old = is.iterations r.0 s r.1 k (sym r.2.rises.making.service ∙ e) in
      record {
        most = omega (arith, old.most, r.2.rises.making.iteration);
        only = λ j. r.2.rises.making.iteration ∙ old.only j;
      };
  alone = λ a b h k less beside.
      let r = from a h in
      let q = from b k in
      let old = is.alone r.0 q.0 r.1 q.1 (omega (arith, less, r.2.id, q.2.id))
      (beside-before r.0 q.0 a b r.2 q.2 beside) in
      subst (λ (x : Template). same_template x b.template ≡ false) (sym r.2.rises.making.template)
      (subst (λ (x : Template). same_template r.0.template x ≡ false) (sym q.2.rises.making.template) old);
}

-- one task is changed
task-moves : (t : Tables) (id : ℕ) (f : Task → Task) → ((x : Task) → Has t.tasks x → x.id ≡ id → TaskMoves x (f x)) →
    OneEach t →
    OneEach (change_task id f t)
task-moves t id f each is =
    tasks-move t (change_row task_id id f t.tasks)
    (from-becomes TaskMoves (λ x y m. m) t.tasks _ (becomes-change_at TaskMoves task_id id f t.tasks task-same each)) is

-- all else may change
pub grown : (t u : Tables) → u.tasks ≡ t.tasks → u.services ≡ t.services → t.next_id ≤ u.next_id → OneEach t → OneEach u
grown t u tasks services up is = record {
  kinds = λ s h. is.kinds s (subst (λ xs. Has xs s) services h);
  below = λ x h. omega (arith, up, is.below x (subst (λ xs. Has xs x) tasks h));
  iterations = λ x s h k e. is.iterations x s (subst (λ xs. Has xs x) tasks h) (subst (λ xs. Has xs s) services k) e;
  alone = λ a b h k. is.alone a b (subst (λ xs. Has xs a) tasks h) (subst (λ xs. Has xs b) tasks k);
}

-- A task comes.

in-place : (s : Service) (x y : Task) → y.service ≡ s.id → y.place ≡ x.place → y.iteration ≡ s.iteration →
    is_in_place s x.place y ≡ true
in-place s x y service place iteration =
    let of : (y.service == s.id) ≡ true = grind (arith, nat_tests, service) in
    let now : (y.iteration == s.iteration) ≡ true = grind (arith, nat_tests, iteration) in
    let same : same_place y.place x.place ≡ true = (Decides-same_place y.place x.place).1 place in
    three (y.service == s.id) (is_job s.spec.mode) (y.iteration == s.iteration) (same_place y.place x.place) of now same
  where
    three : (a j b c : Bool) → a ≡ true → b ≡ true → c ≡ true → ((a && (not j || b)) && c) ≡ true
    three false j b c ea eb ec = absurd cc
    three true true false c ea eb ec = absurd cc
    three true true true c ea eb ec = ec
    three true false b c ea eb ec = ec

comes-alone : (t : Tables) (s : Service) (x : Task) → InOrder t → OneEach t → IsNewOf t s x → (a b : Task) → Has
    (t.tasks ++ x ∷ []) a →
    Has (t.tasks ++ x ∷ []) b → a.id < b.id → IsBeside a b → same_template a.template b.template ≡ false
comes-alone t s x order is new a b h k less beside =
    go (Has-append_cases t.tasks (x ∷ []) a h) (Has-append_cases t.tasks (x ∷ []) b k)
  where
    is-new : (y : Task) → x ≡ y → y.id ≡ t.next_id
    is-new y e = ap (λ (z : Task). z.id) (sym e) ∙ new.id

    below : (y : Task) → Has t.tasks y → y.id < t.next_id
    below y j = (between-has task_id 1 t.next_id t.tasks y order.tasks j).1

    go : Has t.tasks a ⊎ Has (x ∷ []) a → Has t.tasks b ⊎ Has (x ∷ []) b → same_template a.template b.template ≡ false
    go (inl i) (inl j) = is.alone a b i j less beside
    go (inl i) (inr (inl e)) =
        let y_service : a.service ≡ s.id = beside.service ∙ ap (λ (z : Task). z.service) (sym e) ∙ new.service in
        let y_iteration : a.iteration ≡ s.iteration = beside.iteration ∙ ap (λ (z : Task). z.iteration)
        (sym e) ∙ new.iteration in
        let y_place : a.place ≡ x.place = beside.place ∙ ap (λ (z : Task). z.place) (sym e) in
        subst (λ (z : Task). same_template a.template z.template ≡ false) e
        (new.alone a i (in-place s x a y_service y_place y_iteration) beside.live)
    go (inl i) (inr (inr none)) = absurd none
    go (inr (inl e)) (inl j) = absurd (omega (arith, less, is-new a e, below b j))
    go (inr (inl e)) (inr (inl f)) = absurd (omega (arith, less, is-new a e, is-new b f))
    go (inr (inl e)) (inr (inr none)) = absurd none
    go (inr (inr none)) other = absurd none

task-comes : (t : Tables) (s : Service) (x : Task) → InOrder t → OneEach t → Has t.services s → IsNewOf t s x →
    OneEach (with_task t x)
task-comes t s x order is there new = record {
  kinds = is.kinds;
  below =
      each-pushed (λ (y : Task). y.service < t.next_id + 1) t.tasks x (λ y h. omega (arith, is.below y h))
      (omega (arith, new.service, (between-has service_id 1 t.next_id t.services s order.services there).1));
  iterations = λ y v h k e. go y v k e (Has-append_cases t.tasks (x ∷ []) y h);
  alone = comes-alone t s x order is new;
}
  where
    go : (y : Task) (v : Service) → Has t.services v → y.service ≡ v.id → Has t.tasks y ⊎ Has (x ∷ []) y →
        IsIteration y v
    go y v k e (inl h) = is.iterations y v h k e
    go y v k e (inr (inl same)) =
        let number : s.id ≡ v.id = sym new.service ∙ ap (λ (z : Task). z.service) same ∙ e in
        let one = between-one service_id 1 t.next_id t.services s v order.services there k number in
        let iteration : y.iteration ≡ v.iteration =
        ap (λ (z : Task). z.iteration) (sym same) ∙ new.iteration ∙ ap (λ (z : Service). z.iteration) one in
        record { most = omega (arith, iteration); only = λ j. iteration }
    go y v k e (inr (inr none)) = absurd none

-- Services that change.

pub record KeepsKind (x y : Service) : Type 0 where
  pub id : y.id ≡ x.id
  pub kind : IsOfKind y
  pub job : is_job y.spec.mode ≡ is_job x.spec.mode
  pub more : x.iteration ≤ y.iteration
  pub still : is_job x.spec.mode ≡ false → y.iteration ≡ x.iteration

services-change : (t : Tables) (new : List Service) → ((y : Service) → Has new y →
    (x : Service) × Has t.services x × KeepsKind x y) →
    OneEach t → OneEach (record t { services = new })
services-change t new from is = record {
  kinds = λ y h. (from y h).2.kind;
  below = is.below;
  iterations = λ x y h k e.
      let r = from y k in
      let old = is.iterations x r.0 h r.1 (e ∙ r.2.id) in
      record {
        most = omega (arith, old.most, r.2.more);
        only = λ j. let none = sym r.2.job ∙ j in old.only none ∙ sym (r.2.still none);
      };
  alone = is.alone;
}

keeps-same : (s : Service) → IsOfKind s → KeepsKind s s
keeps-same s kind = record { id = refl; kind = kind; job = refl; more = omega arith; still = λ j. refl }

-- one service is changed
service-changes : (t : Tables) (id : ℕ) (f : Service → Service) →
    ((s : Service) → Has t.services s → s.id ≡ id → (x : Service) × Has t.services x × KeepsKind x (f s)) → OneEach t →
    OneEach (change_service id f t)
service-changes t id f each is =
    services-change t (change_row service_id id f t.services)
    (each-changed (λ y. (x : Service) × Has t.services x × KeepsKind x y) service_id id f t.services
    (λ s h. (s, h, keeps-same s (is.kinds s h))) each) is

kind-of-runs : (clock : ℕ) (x y : Service) → Runs clock x y → IsOfKind x → KeepsKind x y
kind-of-runs clock x y r kind = record {
  id = r.id;
  kind =
      subst (λ (o : Option ServiceSpec). Where (λ (p : ServiceSpec). IsAlike p.mode y.spec.mode) o) (sym r.previous)
      (subst (λ (q : ServiceSpec). Where (λ (p : ServiceSpec). IsAlike p.mode q.mode) x.previous) (sym r.spec) kind);
  job = ap (λ (q : ServiceSpec). is_job q.mode) r.spec;
  more = omega (arith, r.iteration);
  still = λ j. r.iteration;
}

pub previous-kind : (s : Service) (spec : ServiceSpec) → IsOfKind s → s.previous ≡ Some spec →
    IsAlike spec.mode s.spec.mode
previous-kind s spec kind e = subst (Where (λ (p : ServiceSpec). IsAlike p.mode s.spec.mode)) e kind

back-kind : (version : ℕ) (run : UpdateRun) (s : Service) (spec : ServiceSpec) → IsAlike spec.mode s.spec.mode →
    KeepsKind s (with_run version run (back_at version spec s))
back-kind version run s spec alike =
    record { id = refl; kind = tt; job = job-alike spec.mode s.spec.mode alike; more = omega arith; still = λ j. refl }

iterated-more : (m : Mode) (k : ℕ) → k ≤ next_iteration m k
iterated-more (mode.Replicated n) k = omega arith
iterated-more mode.Global k = omega arith
iterated-more (mode.Job c n) k = omega arith

pub iterated-still : (m : Mode) (k : ℕ) → is_job m ≡ false → next_iteration m k ≡ k
iterated-still (mode.Replicated n) k e = refl
iterated-still mode.Global k e = refl
iterated-still (mode.Job c n) k e = absurd cc

respecified-kind : (version : ℕ) (back : Bool) (spec : ServiceSpec) (s : Service) → IsAlike spec.mode s.spec.mode →
    KeepsKind s (respecified version back spec s)
respecified-kind version back spec s alike = record {
  id = refl;
  kind = sym alike;
  job = job-alike spec.mode s.spec.mode alike;
  more = iterated-more s.spec.mode s.iteration;
  still = iterated-still s.spec.mode s.iteration;
}

service-comes : (version : ℕ) (t : Tables) (name : List ℕ) (d : Draft) → OneEach t →
    OneEach (with_service t (new_service version t name d))
service-comes version t name d is = record {
  kinds = each-pushed IsOfKind t.services (new_service version t name d) is.kinds tt;
  below = λ x h. omega (arith, is.below x h);
  iterations = λ x s h k e.
      each-pushed (λ (v : Service). x.service ≡ v.id → IsIteration x v) t.services (new_service version t name d)
      (λ v j. is.iterations x v h j) (λ same. absurd (omega (arith, same, is.below x h))) s k e;
  alone = is.alone;
}

-- Each change.

lightens-move : (clock : ℕ) (old new : List Task) → Becomes (Lightens clock) [] old new → FromTasks old new
lightens-move clock old new rows = from-becomes (Lightens clock) (λ x y l. l.moves) old new rows

address-keeps : (version : ℕ) (t : Tables) (x : Task) → InOrder t → OneEach t → Has t.tasks x →
    gets_address t x ≡ true →
    OneEach (change_task x.id (with_addresses version t) t)
address-keeps version t x order is there e =
    task-moves t x.id (with_addresses version t)
    (λ y h same.
    let one = between-one task_id 1 t.next_id t.tasks x y order.tasks there h (sym same) in
    subst (λ (z : Task). TaskMoves z (with_addresses version t z)) one (addressed-moves version t x e)) is

place-keeps : (version : ℕ) (t : Tables) (x : Task) (m : Node) → InOrder t → OneEach t → Has t.tasks x →
    is_to_place x ≡ true →
    best_node t x ≡ Some m → OneEach (change_task x.id (placed version t.clock m.id) t)
place-keeps version t x m order is there e best =
    task-moves t x.id (placed version t.clock m.id)
    (λ y h same.
    let one = between-one task_id 1 t.next_id t.tasks x y order.tasks there h (sym same) in
    subst (λ (z : Task). TaskMoves z (placed version t.clock m.id z)) one
    (placed-moves version t m.id x (order.good x there) (e, m, best, refl))) is

node-goes : (version : ℕ) (t : Tables) (id : ℕ) → OneEach t → OneEach (tables_without_node version t id)
node-goes version t id is =
    let left = record t { nodes = drop_row node_id id t.nodes; sessions = drop_row session_node id t.sessions } in
    tasks-move left _
    (from-becomes TaskMoves (λ x y m. m) t.tasks _
    (becomes-where TaskMoves (is_left_behind id) (in_state version t.clock state.Orphaned) t.tasks task-same
    (λ x h e. moves-in_state version t.clock state.Orphaned x (rank-most x.state))))
    (grown t left refl refl (omega arith) is)

begins : (version : ℕ) (t : Tables) (node cpu mem : ℕ) → OneEach t → OneEach (begun_tables version t node cpu mem)
begins version t node cpu mem is =
    let opened =
    record (registered version t node) { nodes = change_row node_id node (with_resources version cpu mem) t.nodes } in
    tasks-move opened (tasks_within version t.clock node cpu mem t.tasks)
    (lightens-move t.clock t.tasks _ (within-lightens version t.clock node cpu mem t.tasks))
    (grown t opened refl refl (omega arith) is)

pub one-each-keeps : Keeps OneEach
one-each-keeps = record {
  tasks = λ t new order is rows. tasks-move t new (lightens-move t.clock t.tasks new rows) is;
  address = λ version t x order is there e. address-keeps version t x order is there e;
  place = λ version t x m order is there e best. place-keeps version t x m order is there e best;
  comes = λ t s x order is there new. task-comes t s x order is there new;
  runs = λ t new order is rows.
      services-change t new
      (λ y h. elim (becomes-cases (Runs t.clock) [] t.services new rows y h) [
        | inl r ↦ (r.0, r.1, kind-of-runs t.clock r.0 y r.2 (is.kinds r.0 r.1))
        | inr none ↦ absurd none
      ]) is;
  port = λ version t s target udp number order is e.
      service-changes t s (with_port version (port_number target udp number))
      (λ v h same. (
        v,
        h,
        record {
          id = refl;
          kind = is.kinds v h;
          job = refl;
          more = omega arith;
          still =
              λ j. refl;
        },
      )) is;
  fails = λ version t s spec order is there e.
      service-changes t s.id _
      (λ v h same. (s, there, back-kind version _ s spec (previous-kind s spec (is.kinds s there) e))) is;
  updates = λ version t s d order is there same taken.
      service-changes t s.id _
      (λ v h k. (s, there, respecified-kind version false (filled t d) s (alike-by d.spec.mode s.spec.mode same))) is;
  rolls_back = λ version t s spec order is there e.
      service-changes t s.id _
      (λ v h k. (s, there, respecified-kind version true spec s (previous-kind s spec (is.kinds s there) e))) is;
  service_comes = λ version t name d order is taken. service-comes version t name d is;
  attempts = λ t new is each. grown t _ refl refl (omega arith) is;
  nodes = λ t f order is each. grown t _ refl refl (omega arith) is;
  node_comes = λ t n order is id since. grown t _ refl refl (omega arith) is;
  node_goes = λ version t id order is. node-goes version t id is;
  begins = λ version t n cpu mem order is there. begins version t n.id cpu mem is;
  registers = λ version t node order is. grown t _ refl refl (omega arith) is;
  beats = λ t node is. grown t _ refl refl (omega arith) is;
  networks = λ t new is. grown t _ refl refl (omega arith) is;
  ids = λ t order is. grown t _ refl refl (omega arith) is;
  ticks = λ t ms is. grown t _ refl refl (omega arith) is;
  settings = λ t s e is. grown t _ refl refl (omega arith) is;
}

pub one-each-empty : OneEach empty_tables
one-each-empty = record {
  kinds = λ s h. absurd h;
  below = λ x h. absurd h;
  iterations = λ x s h k e. absurd h;
  alone = λ a b h k less beside. absurd h;
}

-- The law.

pub none-any : {X : Type 0} (test : X → Bool) (xs : List X) → ((x : X) → Has xs x → test x ≡ false) →
    list_any test xs ≡ false
none-any test [] none = refl
none-any test (x ∷ xs) none =
    neither (test x) (list_any test xs) (none x (inl refl)) (none-any test xs (λ y h. none y (inr h)))

-- no two rows are alike, where none is like a later one
pub no-alike : {X : Type 0} (alike : X → X → Bool) (key : X → ℕ) (low high : ℕ) (xs : List X) →
    RisesBetween key low high xs →
    ((a b : X) → Has xs a → Has xs b → key a < key b → alike a b ≡ false) → has_alike alike xs ≡ false
no-alike alike key low high [] rises each = refl
no-alike alike key low high (x ∷ xs) rises each =
    neither (list_any (alike x) xs) (has_alike alike xs)
    (none-any (alike x) xs
    (λ b h. each x b (inl refl) (inr h)
    (let above = between-has key (key x + 1) high xs b rises.2 h in omega (arith, above.0))))
    (no-alike alike key (key x + 1) high xs rises.2 (λ a b h k less. each a b (inr h) (inr k) less))

-- tasks of a service that is there and is no job have its iteration
same-iteration : (t : Tables) (a b : Task) → OneEach t → Has t.tasks a → Has t.tasks b → a.service ≡ b.service →
    (a.iteration == b.iteration || is_of_no_job t b) ≡ true → a.iteration ≡ b.iteration
same-iteration t a b is h k of e = one (a.iteration == b.iteration) refl e
  where
    plain : (j : Bool) → not j ≡ true → j ≡ false
    plain true f = absurd cc
    plain false f = refl

    two : (o : Option Service) → row_at service_id b.service t.services ≡ o →
        is_some_and (λ s. not (is_job s.spec.mode)) o ≡ true → a.iteration ≡ b.iteration
    two None at f = absurd cc
    two (Some s) at f =
        let found = Has-from_row_at service_id b.service t.services s at in
        let no_job = plain (is_job s.spec.mode) f in
        (is.iterations a s h found.0 (of ∙ sym found.1)).only no_job
        ∙ sym ((is.iterations b s k found.0 (sym found.1)).only no_job)

    one : (c : Bool) → (a.iteration == b.iteration) ≡ c → (c || is_of_no_job t b) ≡ true → a.iteration ≡ b.iteration
    one true at f = grind (arith, nat_tests, at)
    one false at f = two (row_at service_id b.service t.services) refl f

alike-none : (t : Tables) → OneEach t → (a b : Task) → Has t.tasks a → Has t.tasks b → a.id < b.id →
    are_alike t a b ≡ false
alike-none t is a b h k less = go (are_alike t a b) refl
  where
    go : (r : Bool) → are_alike t a b ≡ r → r ≡ false
    go false e = refl
    go true e =
        let in_one = a.iteration == b.iteration || is_of_no_job t b in
        let five = first_so _ (same_template a.template b.template) e in
        let template = second_so (a.service == b.service && same_place a.place b.place && in_one && is_live a && is_live b)
        (same_template a.template b.template) e in
        let live_too = second_so (a.service == b.service && same_place a.place b.place && in_one && is_live a) (is_live b) five in
        let four = first_so (a.service == b.service && same_place a.place b.place && in_one && is_live a) (is_live b) five in
        let live = second_so (a.service == b.service && same_place a.place b.place && in_one) (is_live a) four in
        let three = first_so (a.service == b.service && same_place a.place b.place && in_one) (is_live a) four in
        let in_one_is = second_so (a.service == b.service && same_place a.place b.place) in_one three in
        let two = first_so (a.service == b.service && same_place a.place b.place) in_one three in
        let place = second_so (a.service == b.service) (same_place a.place b.place) two in
        let of = first_so (a.service == b.service) (same_place a.place b.place) two in
        let service : a.service ≡ b.service = grind (arith, nat_tests, of) in
        let beside : IsBeside a b = record {
          service = service;
          place = is-place a.place b.place place;
          iteration = same-iteration t a b is h k service in_one_is;
          live = live;
          live_too = live_too;
        } in
        sym template ∙ is.alone a b h k less beside

pub no-two-alike : (t : Tables) → InOrder t → OneEach t → NoTwoAlike t
no-two-alike t order is = no-alike (are_alike t) task_id 1 t.next_id t.tasks order.tasks (alike-none t is)

-- no two live tasks of a place have one template
pub one-template : OneTemplateLaw
one-template h legal = kept-worlds OneEach NoTwoAlike one-each-keeps one-each-empty no-two-alike h legal

-- Remote nodes by name, with their sessions, and the tasks that they report.
use Rattle.std.proofs.Common.{◌≡◌, ◌∙◌, ℕ, Bool, true, false, cond, List, Ok, Err, Option, Some, None, Result, ap, refl}
use Rattle.swarm_model.specs.Calls.Refusals.{found, node_by}
use Rattle.swarm_model.specs.Calls.Remote.{on_remote, on_session}
use Rattle.swarm_model.specs.Outcome.{Answered}
use Rattle.swarm_objects.specs.Nodes.Admission.{bad_report, not_admitted}
use Rattle.swarm_objects.specs.Nodes.Sessions.{session_of}
use Rattle.swarm_objects.specs.Refusals.{unless}
use Rattle.swarm_objects.specs.Rows.{row_at, task_id}
use Rattle.swarm_objects.specs.World.{Tables, World}
use Rattle.swarm_objects.specs.declared.ids.Kind.TheVariants as kind
use Rattle.swarm_objects.specs.declared.nodes.Node.{Node}
use Rattle.swarm_objects.specs.declared.replies.Refusal.{Refusal}
use Rattle.swarm_objects.specs.declared.replies.Refusal.TheVariants as refusal
use Rattle.swarm_objects.specs.declared.replies.Reply.{Reply}
use Rattle.swarm_objects.specs.declared.replies.Wanted.TheVariants as wanted_by
use Rattle.swarm_objects.specs.declared.tasks.Task.{Task}
use Rattle.swarm_objects.specs.declared.tasks.TaskState.{TaskState}
use Rattle.swarm_world.specs.Inside.Lookups.{if_admitted, outside, reportable, under_session}

-- What follows for the remote node with a name.

found-here : (remote : Bool) (x n : Node) (r : Refusal) (next : Node → Answered) →
    ◌≡◌ {A = Result Node Refusal} (cond remote (Ok x) (Err r)) (Ok n) →
    ◌≡◌ {A = Answered} (cond remote (next x) (Err r)) (next n)
found-here true x n r next e = let same : x ≡ n = cc in ap next same
found-here false x n r next e = absurd cc

pub on-outside : (t : Tables) (name : List ℕ) (n : Node) (next : Node → Answered) → outside t name ≡ Ok n →
    on_remote t name next ≡ next n
on-outside t name n next e = go (node_by t name) e
  where
    go : (o : Option Node) →
        found kind.Node (wanted_by.Name name) o (λ x. cond x.remote (Ok x) (Err (refusal.WrongKind x.id))) ≡ Ok n →
        found kind.Node (wanted_by.Name name) o (λ x. cond x.remote (next x) (Err (refusal.WrongKind x.id))) ≡ next n
    go None k = absurd cc
    go (Some x) k = found-here x.remote x n (refusal.WrongKind x.id) next k

-- What follows under its live session.

abbrev pub why_dead : Tables → ℕ → ℕ → Option Refusal
why_dead t session node = not_admitted t.clock session (session_of t node)

-- what follows, where nothing refuses it
abbrev unless_dead : Option Refusal → Answered → Answered
unless_dead o next = elim o [ Some r ↦ Err r | None ↦ next ]

pub on-live : (t : Tables) (name : List ℕ) (session : ℕ) (n : Node) (next : ℕ → Answered) → outside t name ≡ Ok n →
    why_dead t session n.id ≡ None → on_session t name session (λ x. next x.id) ≡ next n.id
on-live t name session n next there live =
    on-outside t name n (λ x. unless_dead (why_dead t session x.id) (next x.id)) there
    ∙ ap (λ (o : Option Refusal). unless_dead o (next n.id)) live

live-here : (o : Option Refusal) (id node : ℕ) → ◌≡◌ {A = Result ℕ Refusal} (unless o id) (Ok node) →
    (o ≡ None) × (id ≡ node)
live-here None id node e = let same : id ≡ node = cc in (refl, same)
live-here (Some r) id node e = absurd cc

pub on-admitted : (t : Tables) (name : List ℕ) (session node : ℕ) (next : ℕ → Answered) →
    under_session t name session ≡ Ok node → on_session t name session (λ x. next x.id) ≡ next node
on-admitted t name session node next e = go (outside t name) refl e
  where
    go : (o : Result Node Refusal) → outside t name ≡ o → if_admitted t session o ≡ Ok node →
        on_session t name session (λ x. next x.id) ≡ next node
    go (Ok n) there k =
        let live = live-here (why_dead t session n.id) n.id node k in
        on-live t name session n next there live.0 ∙ ap next live.1
    go (Err r) there k = absurd cc

-- A task of which the node may report a state.

bad-here : (o : Option Refusal) (y x : Task) (done : Task → Reply × World) →
    ◌≡◌ {A = Result Task Refusal} (unless o y) (Ok x) → ◌≡◌ {A = Answered} (unless o (done y)) (Ok (done x))
bad-here None y x done e = let same : y ≡ x = cc in ap (λ (z : Task). Ok (done z)) same
bad-here (Some r) y x done e = absurd cc

pub on-reportable : (t : Tables) (node task : ℕ) (s : TaskState) (x : Task) (done : Task → Reply × World) →
    reportable t node task s ≡ Ok x →
    ◌≡◌ {A = Answered} (found kind.Task (wanted_by.Id task) (row_at task_id task t.tasks)
    (λ y. unless (bad_report node y s) (done y))) (Ok (done x))
on-reportable t node task s x done e = go (row_at task_id task t.tasks) e
  where
    go : (o : Option Task) →
        found kind.Task (wanted_by.Id task) o (λ y. unless (bad_report node y s) y) ≡ Ok x →
        ◌≡◌ {A = Answered} (found kind.Task (wanted_by.Id task) o (λ y. unless (bad_report node y s) (done y)))
        (Ok (done x))
    go None k = absurd cc
    go (Some y) k = bad-here (bad_report node y s) y x done k

refused-report : (o : Option Refusal) (y : Task) (r : Refusal) (done : Task → Reply × World) →
    ◌≡◌ {A = Result Task Refusal} (unless o y) (Err r) → ◌≡◌ {A = Answered} (unless o (done y)) (Err r)
refused-report None y r done e = absurd cc
refused-report (Some x) y r done e = let same : x ≡ r = cc in ap (λ (z : Refusal). Err z) same

pub not-reportable : (t : Tables) (node task : ℕ) (s : TaskState) (r : Refusal) (done : Task → Reply × World) →
    reportable t node task s ≡ Err r →
    ◌≡◌ {A = Answered} (found kind.Task (wanted_by.Id task) (row_at task_id task t.tasks)
    (λ y. unless (bad_report node y s) (done y))) (Err r)
not-reportable t node task s r done e = go (row_at task_id task t.tasks) e
  where
    go : (o : Option Task) →
        found kind.Task (wanted_by.Id task) o (λ y. unless (bad_report node y s) y) ≡ Err r →
        ◌≡◌ {A = Answered} (found kind.Task (wanted_by.Id task) o (λ y. unless (bad_report node y s) (done y)))
        (Err r)
    go None k =
        let same : refusal.NotFound kind.Task (wanted_by.Id task) ≡ r = cc in ap (λ (z : Refusal). Err z) same
    go (Some y) k = refused-report (bad_report node y s) y r done k

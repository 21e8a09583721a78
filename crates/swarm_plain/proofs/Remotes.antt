-- Calls under a session.
use Rattle.std.proofs.Common.{◌≡◌, ℕ, Bool, true, false, cond, List, Option, Some, None, Ok, Err, ap}
use Rattle.swarm_model.specs.Calls.Refusals.{found, node_by}
use Rattle.swarm_objects.specs.Refusals.{unless}
use Rattle.swarm_objects.specs.Nodes.Admission.{not_admitted}
use Rattle.swarm_model.specs.Calls.Remote.{on_session, remote_pull, remote_status}
use Rattle.swarm_model.specs.Outcome.{Answered}
use Rattle.swarm_objects.specs.Nodes.Sessions.{session_of}
use Rattle.swarm_objects.specs.World.{Tables, World}
use Rattle.swarm_objects.specs.declared.ids.Kind.TheVariants as kind
use Rattle.swarm_objects.specs.declared.nodes.Node.{Node}
use Rattle.swarm_objects.specs.declared.replies.Refusal.{Refusal}
use Rattle.swarm_objects.specs.declared.replies.Refusal.TheVariants as refusal
use Rattle.swarm_objects.specs.declared.replies.Wanted.TheVariants as wanted_by
use Rattle.swarm_objects.specs.declared.tasks.TaskState.{TaskState}
use Rattle.swarm_plain.specs.Inside.Lookups.{pulled_by, reported, session_node_of}

admitted : (remote : Bool) (why : Option Refusal) (id n : ℕ) (next : ℕ → Answered) →
    cond remote (unless why id) (Err (refusal.WrongKind id)) ≡ Ok n →
    cond remote (elim why [ Some r ↦ Err r | None ↦ next id ]) (Err (refusal.WrongKind id)) ≡ next n
admitted true None id n next e = let same : id ≡ n = cc in ap next same
admitted true (Some r) id n next e = absurd cc
admitted false why id n next e = absurd cc

abbrev why : Tables → ℕ → Node → Option Refusal
why t session node = not_admitted t.clock session (session_of t node.id)

-- what follows for the node that was found
pub on_found : (t : Tables) (name : List ℕ) (session n : ℕ) (next : ℕ → Answered) →
    session_node_of t name session ≡ Ok n → on_session t name session (λ node. next node.id) ≡ next n
on_found t name session n next e = go (node_by t name) e
  where
    go : (o : Option Node) →
        found kind.Node (wanted_by.Name name) o
        (λ node. cond node.remote (unless (why t session node) node.id) (Err (refusal.WrongKind node.id))) ≡ Ok n →
        found kind.Node (wanted_by.Name name) o
        (λ node. cond node.remote (elim (why t session node) [ Some r ↦ Err r | None ↦ next node.id ])
        (Err (refusal.WrongKind node.id))) ≡ next n
    go None k = absurd cc
    go (Some node) k = admitted node.remote (why t session node) node.id n next k

pub status_of_found : (version : ℕ) (w : World) (name : List ℕ) (session n task : ℕ) (s : TaskState) →
    session_node_of w.tables name session ≡ Ok n →
    remote_status version w name session task s ≡ reported version w n s task
status_of_found version w name session n task s e =
    on_found w.tables name session n (λ id. reported version w id s task) e

pub pull_of_found : (w : World) (name : List ℕ) (session n : ℕ) → session_node_of w.tables name session ≡ Ok n →
    remote_pull w name session ≡ pulled_by w n
pull_of_found w name session n e = on_found w.tables name session n (λ id. pulled_by w id) e

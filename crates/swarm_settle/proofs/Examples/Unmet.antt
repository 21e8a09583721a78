-- Tasks that say why they don't run, truly or not.
use Rattle.std.proofs.Common.{ap, append-nil, arith, cond, leb, ◌∙◌}
use Rattle.std.proofs.lemmas.Bool.Decides.{nat_tests}
use Rattle.std.specs.Prelude.{List, None, Option, Some, [], false, fold, is_none, map, refl, suc, true, zero, ℕ, ◌+◌, ◌∷◌, ◌≡◌}
use Rattle.swarm_model.proofs.Examples.Journals.FullNetwork as full_network
use Rattle.swarm_model.proofs.Examples.Journals.FullNode as full_node
use Rattle.swarm_model.specs.Laws.Matches.{matches_world, says_exhausted}
use Rattle.swarm_objects.proofs.Examples.Rows.{node, replicas, tables, task}
use Rattle.swarm_objects.specs.Changes.{with_tables}
use Rattle.swarm_objects.specs.Limits.{first_port, last_port}
use Rattle.swarm_objects.specs.Rows.{first_free, first_gap, with_number}
use Rattle.swarm_objects.specs.Services.Ports.{free_port, numbers_given}
use Rattle.swarm_objects.specs.World.{World, empty_world}
use Rattle.swarm_objects.specs.declared.networks.Network.{Network}
use Rattle.swarm_objects.specs.declared.nodes.Node.{Node}
use Rattle.swarm_objects.specs.declared.services.PortNumber.{PortNumber}
use Rattle.swarm_objects.specs.declared.services.Service.{Service}
use Rattle.swarm_objects.specs.declared.tasks.Note.{Note}
use Rattle.swarm_objects.specs.declared.tasks.Note.TheVariants as note
use Rattle.swarm_objects.specs.declared.tasks.Place.TheVariants.{Slot}
use Rattle.swarm_objects.specs.declared.tasks.TaskState.TheVariants as state
use Rattle.swarm_objects.specs.declared.templates.Port.{Port}

-- Addresses: of a network of five, each has a task, and a sixth task is NEW.

abbrev of_length : ℕ → World
of_length length = with_tables full_network.world (record full_network.world.tables {
  networks = map (λ (n : Network). record n { length = length }) full_network.world.tables.networks;
})

no_free_address : matches_world (of_length 29) ≡ true
no_free_address = refl

-- one of thirteen is free
no_address_while_one_is_free : matches_world (of_length 28) ≡ false
no_address_while_one_is_free = refl

-- Nodes: the node is full for a fifth task.

abbrev with_room : World
with_room = with_tables full_node.world (record full_node.world.tables {
  nodes = map (λ (n : Node). record n { cpu = 9000 }) full_node.world.tables.nodes;
})

no_node_while_one_has_room : matches_world with_room ≡ false
no_node_while_one_has_room = refl

-- A PENDING task says rightly that one node is full for it, and there may be another.

abbrev full_node_beside : List Node → World
full_node_beside others = record empty_world {
  tables =
      tables (record (node 1) { cpu = 0; remote = true } ∷ others) (replicas 1 ∷ [])
      (record (task 3 (Slot 1) state.Pending) { note = note.Filters (0 ∷ 1 ∷ 0 ∷ 0 ∷ 0 ∷ 0 ∷ []) } ∷ []);
}

full_one_alone : matches_world (full_node_beside []) ≡ true
full_one_alone = refl

another_has_room : matches_world (full_node_beside (record (node 10) { remote = true } ∷ [])) ≡ false
another_has_room = refl

-- Ports: another service has so many, from the first one on, and one is open. Lemmas count them, since it takes most of a
-- minute to compute a world with all 2768.

-- so many numbers, from the greatest down to this one
abbrev numbers_down : ℕ → ℕ → List PortNumber
numbers_down low zero = []
numbers_down low (suc k) = record { target = 1; udp = false; number = low + k } ∷ numbers_down low k

abbrev holder : ℕ → Service
holder count = record (replicas 0) { id = 1; numbers = numbers_down first_port count }

abbrev open_port : Port
open_port = record { target = 80; number = None; udp = false }

abbrev asker : Service
asker = record (replicas 1) { spec = record (replicas 1).spec { ports = open_port ∷ [] } }

abbrev asking : ℕ → Note → World
asking count why = record empty_world {
  tables = tables [] (holder count ∷ asker ∷ []) (record (task 3 (Slot 1) state.New) { note = why } ∷ []);
}

-- so many numbers, from this one up
abbrev numbers_up : ℕ → ℕ → List ℕ
numbers_up low zero = []
numbers_up low (suc n) = low ∷ numbers_up (low + 1) n

one_below : (low n : ℕ) → with_number low (numbers_up (low + 1) n) ≡ numbers_up low (suc n)
one_below low zero = refl
one_below low (suc n) = grind (arith, nat_tests)

taken : (low k n : ℕ) →
    fold (λ ks k. with_number k ks) (numbers_up (low + k) n) (numbers_given false (numbers_down low k))
    ≡ numbers_up low (k + n)
taken low zero n =
    let start : low + 0 ≡ low = omega arith in
    let so_many : n ≡ 0 + n = omega arith in
    ap (λ m. numbers_up m n) start ∙ ap (numbers_up low) so_many
taken low (suc k) n =
    ap (λ ks. fold (λ ks k. with_number k ks) ks (numbers_given false (numbers_down low k)))
    (ap (λ m. with_number (low + k) (numbers_up m n)) (omega arith) ∙ one_below (low + k) n)
    ∙ taken low k (suc n)
    ∙ ap (numbers_up low) (omega arith)

gap : (low n : ℕ) → first_gap low (numbers_up low n) ≡ low + n
gap low zero = omega arith
gap low (suc n) = grind (arith, nat_tests, gap (low + 1) n)

counted : (low high count : ℕ) → first_free low high (numbers_given false (numbers_down low count))
    ≡ cond (leb (low + count) high) (Some (low + count)) None
counted low high count =
    let so_many : count + 0 ≡ count = omega arith in
    ap (λ n. cond (leb n high) (Some n) None)
    (ap (first_gap low) (taken low count 0 ∙ ap (numbers_up low) so_many) ∙ gap low count)

abbrev asking_port : ℕ → World
asking_port count = asking count (note.NoPort false)

abbrev next_port : ℕ → Option ℕ
next_port count = free_port (asking_port count).tables false

next : (count : ℕ) →
    next_port count ≡ cond (leb (first_port + count) last_port) (Some (first_port + count)) None
next count =
    ap (first_free first_port last_port) (append-nil (numbers_given false (numbers_down first_port count)))
    ∙ counted first_port last_port count

asked : (count : ℕ) → matches_world (asking_port count) ≡ is_none (next_port count)
asked count = go (next_port count) refl
  where
    go : (o : Option ℕ) → next_port count ≡ o → matches_world (asking_port count) ≡ is_none o
    go None e = rw e refl
    go (Some n) e = rw e refl

no_free_port : matches_world (asking_port 2768) ≡ true
no_free_port = asked 2768 ∙ ap is_none (next 2768)

-- the last one is free
no_port_while_one_is_free : matches_world (asking_port 2767) ≡ false
no_port_while_one_is_free = asked 2767 ∙ ap is_none (next 2767)

-- the service has no open port of the other protocol
no_port_of_another_protocol : says_exhausted
    (asking 0 note.Empty).tables asker (task 3 (Slot 1) state.New) (note.NoPort true)
    ≡ false
no_port_of_another_protocol = refl

-- A task that says nothing of the kind.

new_without_a_reason : matches_world (asking 0 note.Empty) ≡ false
new_without_a_reason = refl

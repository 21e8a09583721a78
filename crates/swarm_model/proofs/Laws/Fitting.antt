-- Reservations fit, in every world of a legal history.
use Rattle.swarm_model.proofs.Laws.Addresses.{OwnAddresses, addresses-alike, addresses-empty, addresses-keep}
use Rattle.swarm_model.proofs.Laws.HostPorts.{OwnPorts, ports-alike, ports-empty, ports-keep}
use Rattle.swarm_model.proofs.Laws.Ingress.{OwnNumbers, numbers-alike, numbers-empty, numbers-keep}
use Rattle.swarm_model.proofs.Laws.Kept.{InOrder, Keeps}
use Rattle.swarm_model.proofs.Laws.KeptCalls.{kept-worlds}
use Rattle.swarm_model.proofs.Laws.Room.{has-room}
use Rattle.swarm_model.specs.Laws.Fits.{Fits, FittingLaw, has_room_for}
use Rattle.swarm_objects.proofs.Tests.{all-pass}
use Rattle.swarm_objects.specs.World.{Tables}

-- two laws together
pub keeps-both : (P R : Tables → Type 0) → Keeps P → Keeps R → Keeps (λ t. P t × R t)
keeps-both P R p r = record {
  tasks = λ t new order q rows. (p.tasks t new order q.0 rows, r.tasks t new order q.1 rows);
  address = λ version t x order q there e.
      (p.address version t x order q.0 there e, r.address version t x order q.1 there e);
  place = λ version t x m order q there e best.
      (p.place version t x m order q.0 there e best, r.place version t x m order q.1 there e best);
  comes = λ t s x order q there new. (p.comes t s x order q.0 there new, r.comes t s x order q.1 there new);
  runs = λ t new order q rows. (p.runs t new order q.0 rows, r.runs t new order q.1 rows);
  port = λ version t s target udp number order q e.
      (p.port version t s target udp number order q.0 e, r.port version t s target udp number order q.1 e);
  fails = λ version t s spec order q there e.
      (p.fails version t s spec order q.0 there e, r.fails version t s spec order q.1 there e);
  updates = λ version t s d order q there same taken.
      (p.updates version t s d order q.0 there same taken, r.updates version t s d order q.1 there same taken);
  rolls_back = λ version t s spec order q there e.
      (p.rolls_back version t s spec order q.0 there e, r.rolls_back version t s spec order q.1 there e);
  service_comes = λ version t name d order q taken.
      (p.service_comes version t name d order q.0 taken, r.service_comes version t name d order q.1 taken);
  attempts = λ t new q each. (p.attempts t new q.0 each, r.attempts t new q.1 each);
  nodes = λ t f order q each. (p.nodes t f order q.0 each, r.nodes t f order q.1 each);
  node_comes = λ t n order q id since. (p.node_comes t n order q.0 id since, r.node_comes t n order q.1 id since);
  node_goes = λ version t id order q. (p.node_goes version t id order q.0, r.node_goes version t id order q.1);
  begins = λ version t n cpu mem order q there.
      (p.begins version t n cpu mem order q.0 there, r.begins version t n cpu mem order q.1 there);
  registers = λ version t node order q. (p.registers version t node order q.0, r.registers version t node order q.1);
  beats = λ t node q. (p.beats t node q.0, r.beats t node q.1);
  networks = λ t new q. (p.networks t new q.0, r.networks t new q.1);
  ids = λ t order q. (p.ids t order q.0, r.ids t order q.1);
  ticks = λ t ms q. (p.ticks t ms q.0, r.ticks t ms q.1);
  settings = λ t s e q. (p.settings t s e q.0, r.settings t s e q.1);
}

pub fit-keeps : Keeps (λ t. (OwnNumbers t × OwnAddresses t) × OwnPorts t)
fit-keeps =
    keeps-both (λ t. OwnNumbers t × OwnAddresses t) OwnPorts
    (keeps-both OwnNumbers OwnAddresses numbers-keep addresses-keep) ports-keep

pub fits : (t : Tables) → InOrder t → (OwnNumbers t × OwnAddresses t) × OwnPorts t → Fits t
fits t order is = record {
  resources = all-pass (has_room_for t) t.nodes (λ n h. has-room t is.1.roomy n h);
  ports = numbers-alike t order is.0.0;
  addresses = addresses-alike t order is.0.1;
  host_ports = ports-alike t order is.1;
}

-- reservations fit
pub all-fits : FittingLaw
all-fits h legal =
    kept-worlds (λ t. (OwnNumbers t × OwnAddresses t) × OwnPorts t) Fits fit-keeps
    ((numbers-empty, addresses-empty), ports-empty) fits h legal

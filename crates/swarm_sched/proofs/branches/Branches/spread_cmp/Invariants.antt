use Rattle.std.proofs.Common.{◌≡◌, [], drop, take, true}
use Rattle.swarm_objects.specs.Nodes.BestNode.{agrees, spread_cmp}
use Rattle.swarm_sched.proofs.branches.Branches.spread_cmp.Given as goal

abbrev pub invariant-loop-place : goal.invariant-loop-place
invariant-loop-place g l =
    let compare = spread_cmp l.self.tables l.self.service in
    record {
      same : l.self ≡ l.initial.self;
      alike : agrees (take l.place l.keys) l.a l.b ≡ true;
      order : compare (take l.place l.keys) (drop l.place l.keys) l.a l.b ≡ compare [] l.keys l.a l.b;
    }

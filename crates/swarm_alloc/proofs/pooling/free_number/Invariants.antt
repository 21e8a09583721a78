use Rattle.std.proofs.Common.{◌≡◌, [], drop}
use Rattle.swarm_alloc.proofs.Pooled.{keep_numbers}
use Rattle.swarm_alloc.proofs.pooling.free_number.Given as goal

abbrev pub invariant-loop-number : goal.invariant-loop-number
invariant-loop-number l = record {
  first : l.pool.first ≡ l.first;
  last : l.pool.last ≡ l.needed;
  taken : keep_numbers l.first l.needed l.pool.taken (drop l.number-index l.held)
      ≡ keep_numbers l.first l.needed [] l.held;
}

use Rattle.std.proofs.Common.{vec_len}
use Rattle.store_ports.proofs.Counting.{all_none}
use Rattle.store_ports.proofs.counts.no_counts.Goals as goal

pub returns-in-Ok : goal.returns-in-Ok
returns-in-Ok c = λ n.
    all_none 65536 (vec_len c.new-counts.result) n c.new-counts.result.items c.resize.new.self.items c.in-Ok.ensures.items
    c.new-counts.ensures.items c.new-counts.ensures.len

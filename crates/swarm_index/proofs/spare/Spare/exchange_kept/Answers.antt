use Rattle.swarm_index.proofs.Indexing.{place_free, put_in_place}
use Rattle.swarm_index.proofs.spare.Spare.exchange_kept.Goals as goal

pub insert-requires-clause-new_id : goal.insert-requires-clause-new_id
insert-requires-clause-new_id g c = place_free g.R.Row.id_of c.id.result c.args.row.now c.replace.result c.args.self.now.rows c.remove.new.self.rows c.id.ensures c.replace.ensures.value c.in-Some.ensures.rows

pub returns-clause-rows : goal.returns-clause-rows
returns-clause-rows g c = put_in_place g.R.Row.id_of c.id.result c.args.row.now c.replace.result c.in-Some.old c.args.self.now.rows c.remove.new.self.rows c.insert.new.self.rows
    c.in-Some.ensures.order c.id.ensures c.replace.ensures.value c.in-Some.ensures.value c.in-Some.ensures.rows c.insert.ensures.rows

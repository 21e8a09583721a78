use Rattle.swarm_index.proofs.InPage.{put_back, put_same}
use Rattle.swarm_index.proofs.pages.Page.exchange.Goals as goal

pub returns-in-Ok-clause-rows : goal.returns-in-Ok-clause-rows
returns-in-Ok-clause-rows g c = put_back c.args.self.now c.take.new.self c.put.new.self c.args.at c.swap.new.x c.args.row.now c.take.ensures.page c.put.ensures c.swap.ensures.x_after

pub returns-in-Err-clause-err : goal.returns-in-Err-clause-err
returns-in-Err-clause-err g c = put_same c.args.self.now c.take.new.self c.put-in-Err.new.self c.args.at c.in-Some.place.value c.take.ensures.page c.put-in-Err.ensures c.in-Some.ensures.row

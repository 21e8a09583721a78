use Rattle.swarm_replay.proofs.Taking.{takes_entry}
use Rattle.swarm_replay.proofs.replays.take_entry.Goals as goal

pub returns : goal.returns
returns c =
    takes_entry c.args.count _ _ c.args.line.now c.read_entry-read.result c.do_read-done.result c.read_entry-read.ensures.meaning
    c.read_entry-read.ensures.one c.read_entry-read.ensures.text c.do_read-done.ensures

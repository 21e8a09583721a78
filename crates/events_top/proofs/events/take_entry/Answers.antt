use Rattle.events_top.proofs.Telling.{tells_entry}
use Rattle.events_top.proofs.events.take_entry.Goals as goal

pub returns : goal.returns
returns c =
    tells_entry c.args.count _ _ _ c.args.line.now c.read_entry-read.result c.do_read-told.result
    c.read_entry-read.ensures.meaning c.read_entry-read.ensures.one c.read_entry-read.ensures.text c.do_read-told.ensures

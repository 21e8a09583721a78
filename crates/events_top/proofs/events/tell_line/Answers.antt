use Rattle.events_top.proofs.Telling.{tells_line}
use Rattle.events_top.proofs.events.tell_line.Goals as goal

pub returns-clause-tells : goal.returns-clause-tells
returns-clause-tells g c =
    tells_line c.args.count _ _ _ c.args.line.now c.take_entry-told.result c.put_told-done.result _
    c.take_entry-told.ensures c.put_told-done.ensures.puts

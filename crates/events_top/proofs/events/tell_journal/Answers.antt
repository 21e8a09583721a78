use Rattle.std.proofs.Common.{◌∙◌, ap}
use Rattle.events_top.specs.Endings.{why_not}
use Rattle.events_top.proofs.events.tell_journal.Goals as goal

pub returns-clause-tells : goal.returns-clause-tells
returns-clause-tells g c = (
  c.tell_entries-ending.new.after,
  c.why_not-why.ensures ∙ ap why_not c.plain.ensures.world,
  c.tell_entries-ending.ensures.tells,
)

use Rattle.role_words.proofs.Stepping.{all_slots}
use Rattle.role_words.proofs.reading.slots_among.Goals as goal

pub returns : goal.returns
returns c = all_slots c.window_from.result c.args.service.now c.args.tasks.now c.window_from.ensures.fresh

use Rattle.role_words.proofs.Stepping.{all_slots}
use Rattle.role_words.proofs.windows.slots.Goals as goal

pub returns : goal.returns
returns g c =
    let tasks = (g.R.Rows.tables c.args.rows.now).tasks in
    all_slots c.window_from.result c.args.service.now tasks c.window_from.ensures.fresh

use Rattle.std.proofs.Common.{◌∙◌}
use Rattle.events_top.proofs.Told.{whole}
use Rattle.events_top.proofs.events.tell_events.Goals as goal

pub returns : goal.returns
returns g c =
    let journal = c.tell_journal-told.ensures.tells in
    whole c.tell_journal-told.result.ending journal.0 _ _ _ _ _ _ _ _ _ _ _ _ _ journal.2 c.tell_journal-told.ensures.risen
    (λ u same. c.tell_ending.ensures.tells u (journal.1 ∙ same)) c.tell_ending.ensures.risen

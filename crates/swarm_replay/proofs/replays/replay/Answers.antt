use Rattle.swarm_replay.proofs.Expected.{replayed}
use Rattle.swarm_replay.proofs.Telling.{other_words}
use Rattle.swarm_replay.proofs.replays.replay.Goals as goal

pub returns-clause-replay : goal.returns-clause-replay
returns-clause-replay g c =
    replayed c.read_journal-verdict.result _ _ _ _ _ _ _ _ c.tell_verdict.result c.read_journal-verdict.ensures
    c.tell_verdict.ensures.tells c.tell_verdict.ensures.risen

pub returns-clause-words : goal.returns-clause-words
returns-clause-words g c =
    other_words c.read_journal-verdict.result _ _ _ _ c.tell_verdict.result c.tell_verdict.ensures.tells

use Rattle.swarm_plain.proofs.EntryLemmas.{kept-seen}
use Rattle.swarm_plain.specs.Plain.{world_of}
use Rattle.swarm_plain.proofs.Plain.end_seen.Goals as goal

pub returns : goal.returns
returns c =
    kept-seen (world_of c.args.before.now) (world_of c.args.self.now) (world_of c.end_unseen.new.self) c.replace-events.result
    c.put_all_changes.new.events c.end_unseen.ensures c.requires.events c.replace-events.ensures.value
    c.in_ok-put_all_changes.ensures

use Rattle.std.proofs.Common.{sym, ◌∙◌}
use Rattle.swarm_duties.proofs.Heads.{idle_is}
use Rattle.swarm_duties.proofs.Matching.{answer_matches}
use Rattle.swarm_plain.specs.Plain.{world_of}
use Rattle.swarm_duties.proofs.settling.settle.Goals as goal

pub idle_answer-requires : goal.idle_answer-requires
idle_answer-requires c = c.requires.small

pub returns-in-None-clause-matched : goal.returns-in-None-clause-matched
returns-in-None-clause-matched c =
    let w = world_of c.args.plain.now in
    answer_matches w c.idle_answer.result
    (c.idle_answer.ensures ∙ idle_is w (sym c.in-None.is ∙ c.in_ok-duty.ensures))

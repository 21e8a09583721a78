-- How the going over a journal ends, and what tells it.
use Rattle.std.specs.Prelude.{ℕ, nat_lt, List, [], ◌++◌, codes, if◌then◌else◌}
use Rattle.events_top.specs.declared.endings.Ending.{Ending}
use Rattle.events_top.specs.declared.endings.Ending.TheVariants.{Judged, OutFault}
use Rattle.swarm_objects.specs.Limits.{most_entries}
use Rattle.swarm_objects.specs.World.{World}
use Rattle.swarm_replay.specs.Replay.{verdict_status, verdict_text}
use Rattle.swarm_replay.specs.declared.verdicts.Verdict.TheVariants.{Legal, Illegal, BadLine, ReadFault, NoMemory}

-- the status of a replay, or that of a sink that failed
abbrev pub ending_status : Ending → ℕ
ending_status (Judged verdict) = verdict_status verdict
ending_status OutFault = 4

-- why an entry that may not follow this world may not
abbrev pub why_not : World → List ℕ
why_not w =
    if w.halted then codes "after Halt"
    else (if nat_lt w.entries most_entries then codes "not due" else codes "no room")

-- the line of a replay, and on a second one why
abbrev pub illegal_text : ℕ → List ℕ → List ℕ
illegal_text number why = verdict_text (Illegal number) ++ why ++ codes "\n"

-- what tells an ending, where it is a fault of the journal
abbrev pub ending_text : Ending → List ℕ → List ℕ
ending_text (Judged (Illegal number)) why = illegal_text number why
ending_text (Judged (BadLine number fault)) why = verdict_text (BadLine number fault)
ending_text (Judged (Legal count)) why = []
ending_text (Judged ReadFault) why = []
ending_text (Judged NoMemory) why = []
ending_text OutFault why = []

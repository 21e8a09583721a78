-- Where the last entry's line can't be put: the entries that were done are some first ones.
use Rattle.std.proofs.Common.{◌≡◌, ℕ, ◌≤◌, List, [], length, min, Option, refl, sym, arith}
use Rattle.std.proofs.lemmas.List.{append-nil}
use Rattle.swarm_input.proofs.Prefixes.{consumes_none}
use Rattle.swarm_input.specs.Held.{HeldBytes, TakesMore}
use Rattle.swarm_input.specs.Streams.{stream_of}
use Rattle.swarm_objects.specs.World.{World}
use Rattle.swarm_objects.specs.declared.calls.Entry.{Entry}
use Rattle.swarm_replay.proofs.Judged.{few_done, judged, no_rise}
use Rattle.swarm_replay.proofs.Judging.{no_memory, takes_more}
use Rattle.swarm_replay.specs.Inside.ReplaySteps.{IsJudgedOn, IsReplaying}
use Rattle.swarm_replay.specs.Journal.{most_lines}
use Rattle.swarm_replay.specs.Replay.{lines_for}
use Rattle.swarm_replay.specs.declared.verdicts.Verdict.TheVariants.{NoMemory}

-- nothing more is taken
same_held : (held : HeldBytes) (left : Option (List ℕ)) → TakesMore held held left left
same_held held left = record {
  taken = [];
  source = consumes_none left;
  bytes = sym (append-nil held.bytes);
  finished = refl;
}

pub breaks_off : (input left : Option (List ℕ)) (w : World) (count k l : ℕ) (held : HeldBytes) (H : List Entry) →
    IsReplaying input H w count held left → count ≤ 300001 → length held.bytes ≤ 12320 → l ≡ k →
    IsJudgedOn NoMemory H (stream_of input left k l)
breaks_off input left w count k l held H at few more same =
    let so_few : length H ≤ 300001 = omega (arith, at.count_is, few) in
    judged NoMemory input left k l H at.legal at.texts tt
    (no_memory input H held left left [] at.reached (consumes_none left))
    (takes_more input H held held left left (min most_lines (lines_for NoMemory H)) at.reached (few_done NoMemory H so_few)
    (same_held held left) more)
    (λ e. cc) (λ h. absurd (no_rise k l same h))

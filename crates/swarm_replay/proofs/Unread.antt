-- Where memory is wanting before anything is read: a replay of nothing.
use Rattle.std.proofs.Common.{◌≡◌, ℕ, List, [], Option, Some, None, refl, arith}
use Rattle.swarm_replay.specs.Journal.{journal_reading}
use Rattle.swarm_replay.specs.Replay.{IsReplay, IsVerdictOf}
use Rattle.swarm_input.specs.Streams.{stream_of}
use Rattle.swarm_replay.specs.declared.verdicts.Verdict.TheVariants.{NoMemory}
use Rattle.swarm_replay.proofs.Expected.{replayed}
use Rattle.swarm_input.proofs.Prefixes.{appends_none, consumes_none}

nothing_done : (a : Option (List ℕ)) → IsVerdictOf NoMemory a a []
nothing_done None = tt
nothing_done (Some input) = ((journal_reading input).entries, refl)

pub is_no_replay : (a : Option (List ℕ)) (m : ℕ) (x : Option (List ℕ)) (k status : ℕ) → status ≡ 5 →
    IsReplay (stream_of a a m m) (stream_of x x k k) status
is_no_replay a m x k status is = replayed NoMemory a a x x m m k k status (
  [],
  record {
    legal = tt;
    texts = refl;
    judges = tt;
    lines = nothing_done a;
    takes = record {
      lines = [];
      ahead = [];
      taken = consumes_none a;
      ends = omega arith;
      size = omega arith;
      few = omega arith;
    };
    cause = λ e. absurd (cc e);
    risen = λ h. absurd (omega (arith, h));
  },
) (is, appends_none x) (λ h. absurd (omega (arith, h)))

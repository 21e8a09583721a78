use Rattle.std.proofs.Common.{◌≡◌, ◌<◌, ℕ, List, [], ◌∷◌, ◌++◌, None, Ok, Err, sym, ◌∙◌, ap, subst, arith}
use Rattle.swarm_objects.specs.Outside.{Rose}
use Rattle.swarm_replay.specs.Inside.JournalBuffer.{GivesBytes, GivesNext}
use Rattle.swarm_replay.specs.Inside.ReplaySteps.{IsJudged, TakesEntry}
use Rattle.swarm_input.specs.Streams.{stream}
use Rattle.swarm_replay.specs.declared.verdicts.Verdict.{Verdict}
use Rattle.swarm_replay.proofs.Judged.{ends, full_ends, head_ends, line_ends, same_stop, same_verdict, stops}
use Rattle.swarm_replay.proofs.Judging.{goes_on, starts}
use Rattle.swarm_replay.proofs.replays.read_entries.Goals as goal

pub returns-in-Err : goal.returns-in-Err
returns-in-Err g c = (
  [],
  head_ends _ _ c.read_head.new.input c.in-Err.verdict _ _ c.in-Err.ensures.head.0 c.in-Err.ensures.head.1
      (λ e. c.in-Err.ensures.cause (ap (λ v. Err v) e))
      (λ h. same_verdict c.in-Err.verdict _ (c.in-Err.ensures.risen h)),
)

pub loop-count-init : goal.loop-count-init
loop-count-init g c = record {
  at = (
    [],
    starts _ _ c.args.input.now c.read_head.new.input c.args.world.now c.requires.held c.in-Ok.ensures.head c.requires.world,
  );
  few = omega arith;
  same = c.in-Ok.ensures.kept;
}

pub returns-in-Ok-None : goal.returns-in-Ok-None
returns-in-Ok-None g c =
    let kept = c.loop-count.invariant in
    let gives : GivesNext c.loop-count.input c.next_line.new.self (g.S.Source.left c.loop-count.source) (g.S.Source.left c.next_line.new.source) None =
    rw c.in-Ok-None.field-0-is at c.in-Ok-None.ensures.line in
    let H = kept.at.0 in (
      H,
      ends _ _ _ c.loop-count.world c.loop-count.count _ _ c.loop-count.input c.next_line.new.self H kept.at.1 kept.few
          gives c.in-Ok-None.ensures.few (c.in-Ok-None.ensures.kept ∙ kept.same),
    )

pub returns-in-Err-next_line : goal.returns-in-Err-next_line
returns-in-Err-next_line g c =
    let kept = c.loop-count.invariant in
    let H = kept.at.0 in
    let stop = c.in-Err-next_line.stop in
    let after = g.S.Source.faults c.next_line.new.source in
    subst (λ (v : Verdict). IsJudged v (stream g.S.Source.left g.S.Source.faults c.args.source.now c.next_line.new.source)) (sym c.stopped.ensures) (
      H,
      stops _ _ _ c.loop-count.world c.loop-count.count _ _ c.loop-count.input c.next_line.new.self stop H kept.at.1
          (omega arith) c.in-Err-next_line.ensures.takes c.in-Err-next_line.ensures.fault c.in-Err-next_line.ensures.few
          (λ e. subst (λ (n : ℕ). Rose n after) kept.same (c.in-Err-next_line.ensures.cause (ap (λ s. Err s) e)))
          (λ h. same_stop stop _ (c.in-Err-next_line.ensures.risen (subst (λ (n : ℕ). n < after) (sym kept.same) h))),
    )

pub returns-in-Err-take_entry : goal.returns-in-Err-take_entry
returns-in-Err-take_entry g c =
    let kept = c.loop-count.invariant in
    let line = c.in-Ok-Some.line in
    let verdict = c.in-Err-take_entry.verdict in
    let before = c.loop-count.world in
    let after = c.take_entry.new.world in
    let gives : GivesBytes c.loop-count.input c.next_line.new.self (g.S.Source.left c.loop-count.source) (g.S.Source.left c.next_line.new.source) line =
    rw c.in-Ok-Some.field-0-is at c.in-Ok-Some.ensures.line in
    let takes : TakesEntry c.loop-count.count before line (Err verdict) after =
    subst (λ (l : List ℕ). TakesEntry c.loop-count.count before l (Err verdict) after) c.as_slice.ensures c.in-Err-take_entry.ensures in
    let H = kept.at.0 in (
      H,
      line_ends _ _ _ before after c.loop-count.count _ _ c.loop-count.input c.next_line.new.self line verdict H kept.at.1
          (omega arith) gives c.in-Ok-Some.ensures.few takes (c.in-Ok-Some.ensures.kept ∙ kept.same),
    )

pub loop-count-preserved : goal.loop-count-preserved
loop-count-preserved g c =
    let kept = c.loop-count.invariant in
    let line = c.in-Ok-Some.line in
    let done = c.in-Ok-take_entry.field-0 in
    let before = c.loop-count.world in
    let after = c.take_entry.new.world in
    let gives : GivesBytes c.loop-count.input c.next_line.new.self (g.S.Source.left c.loop-count.source) (g.S.Source.left c.next_line.new.source) line =
    rw c.in-Ok-Some.field-0-is at c.in-Ok-Some.ensures.line in
    let takes : TakesEntry c.loop-count.count before line (Ok done) after =
    subst (λ (l : List ℕ). TakesEntry c.loop-count.count before l (Ok done) after) c.as_slice.ensures c.in-Ok-take_entry.ensures in
    let H = kept.at.0 in
    let entry = takes.0 in
    record {
      at = (
        H ++ entry ∷ [],
        goes_on _ _ _ before after c.loop-count.count c.loop-count.input c.next_line.new.self line H entry kept.at.1
            (omega arith) gives takes.1 takes.2 takes.3 takes.4 takes.5,
      );
      few = omega arith;
      same = c.in-Ok-Some.ensures.kept ∙ kept.same;
    }

pub returns : goal.returns
returns g c =
    let kept = c.loop-count.invariant in
    let H = kept.at.0 in
    let after = g.S.Source.faults c.read_end.new.source in (
      H,
      full_ends _ _ _ c.loop-count.world c.loop-count.count _ _ c.loop-count.input c.read_end.new.input c.read_end.result H
          kept.at.1 (omega (arith, kept.few)) c.read_end.ensures.ends c.read_end.ensures.few
          (λ e. subst (λ (n : ℕ). Rose n after) kept.same (c.read_end.ensures.cause e))
          (λ h. c.read_end.ensures.risen (subst (λ (n : ℕ). n < after) (sym kept.same) h)),
    )

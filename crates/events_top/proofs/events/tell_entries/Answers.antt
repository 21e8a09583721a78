use Rattle.std.proofs.Common.{◌<◌, ℕ, List, [], ◌∷◌, ◌++◌, None, Ok, Err, refl, sym, ◌∙◌, ap, subst, arith}
use Rattle.events_top.proofs.Telling.{full_behind, head_behind, line_over, puts_more, same_ending, stop_behind}
use Rattle.events_top.specs.Inside.Steps.{TellsJournal, TellsLine}
use Rattle.events_top.specs.declared.endings.Ending.TheVariants.{Judged}
use Rattle.swarm_input.proofs.Prefixes.{appends_none}
use Rattle.swarm_input.specs.Streams.{stream}
use Rattle.swarm_objects.specs.Outside.{Rose}
use Rattle.swarm_replay.proofs.Judged.{ends, full_ends, head_ends, same_stop, same_verdict, stops}
use Rattle.swarm_replay.proofs.Judging.{goes_on, starts}
use Rattle.swarm_replay.specs.Inside.JournalBuffer.{GivesBytes, GivesNext}
use Rattle.swarm_replay.specs.declared.verdicts.Verdict.{Verdict}
use Rattle.events_top.proofs.events.tell_entries.Goals as goal

pub returns-in-Err-clause-tells : goal.returns-in-Err-clause-tells
returns-in-Err-clause-tells g c =
    let verdict = c.in-Err.verdict in (
      [],
      head_ends _ _ c.read_head.new.input verdict _ _ c.in-Err.ensures.head.0 c.in-Err.ensures.head.1
          (λ e. c.in-Err.ensures.cause (ap (λ v. Err v) e)) (λ h. same_verdict verdict _ (c.in-Err.ensures.risen h)),
      appends_none (g.O.Sink.written c.args.out.now),
      head_behind verdict _ _ c.read_head.new.input _ c.in-Err.ensures.head.0,
    )

pub loop-count-init : goal.loop-count-init
loop-count-init g c = record {
  at = (
    [],
    starts _ _ c.args.input.now c.read_head.new.input c.args.after.now c.requires.held c.in-Ok.ensures.head c.requires.after,
    appends_none (g.O.Sink.written c.args.out.now),
  );
  both = c.requires.before ∙ sym c.requires.after;
  few = omega arith;
  same = c.in-Ok.ensures.kept;
  out_same = refl;
}

pub returns-in-Ok-None-clause-tells : goal.returns-in-Ok-None-clause-tells
returns-in-Ok-None-clause-tells g c =
    let kept = c.loop-count.invariant in
    let H = kept.at.0 in
    let gives : GivesNext c.loop-count.input c.next_line.new.self (g.S.Source.left c.loop-count.source) (g.S.Source.left c.next_line.new.source) None =
    rw c.in-Ok-None.field-0-is at c.in-Ok-None.ensures.line in (
      H,
      ends _ _ _ c.loop-count.after c.loop-count.count _ _ c.loop-count.input c.next_line.new.self H kept.at.1 kept.few gives
          c.in-Ok-None.ensures.few (c.in-Ok-None.ensures.kept ∙ kept.same),
      kept.at.2,
      tt,
    )

pub returns-in-Err-next_line-clause-tells : goal.returns-in-Err-next_line-clause-tells
returns-in-Err-next_line-clause-tells g c =
    let kept = c.loop-count.invariant in
    let H = kept.at.0 in
    let stop = c.in-Err-next_line.stop in
    let after = g.S.Source.faults c.next_line.new.source in
    subst
    (λ (v : Verdict). TellsJournal (Judged v) (stream g.S.Source.left g.S.Source.faults c.args.source.now c.next_line.new.source)
    (stream g.O.Sink.written g.O.Sink.faults c.args.out.now c.loop-count.out) c.loop-count.after)
    (sym c.stopped.ensures) (
      H,
      stops _ _ _ c.loop-count.after c.loop-count.count _ _ c.loop-count.input c.next_line.new.self stop H kept.at.1
          (omega arith) c.in-Err-next_line.ensures.takes c.in-Err-next_line.ensures.fault c.in-Err-next_line.ensures.few
          (λ e. subst (λ (n : ℕ). Rose n after) kept.same (c.in-Err-next_line.ensures.cause (ap (λ s. Err s) e)))
          (λ h. same_stop stop _ (c.in-Err-next_line.ensures.risen (subst (λ (n : ℕ). n < after) (sym kept.same) h))),
      kept.at.2,
      stop_behind _ stop _ H,
    )

pub returns-in-Err-tell_line-clause-tells : goal.returns-in-Err-tell_line-clause-tells
returns-in-Err-tell_line-clause-tells g c =
    let kept = c.loop-count.invariant in
    let line = c.in-Ok-Some.line in
    let ending = c.in-Err-tell_line.ending in
    let gives : GivesBytes c.loop-count.input c.next_line.new.self (g.S.Source.left c.loop-count.source) (g.S.Source.left c.next_line.new.source) line =
    rw c.in-Ok-Some.field-0-is at c.in-Ok-Some.ensures.line in
    let tells =
    subst
    (λ (l : List ℕ). TellsLine c.loop-count.count c.loop-count.after l (Err ending) c.tell_line.new.before c.tell_line.new.after
    (stream g.O.Sink.written g.O.Sink.faults c.loop-count.out c.tell_line.new.out))
    c.as_slice.ensures c.in-Err-tell_line.ensures.tells in
    line_over ending _ _ _ c.loop-count.after _ _ c.loop-count.count _ _ c.loop-count.input c.next_line.new.self line kept.at.0
    _ _ _ _ _ _ kept.at.1 (omega arith) gives c.in-Ok-Some.ensures.few tells (c.in-Ok-Some.ensures.kept ∙ kept.same)
    kept.out_same kept.at.2

pub returns-in-Err-tell_line-clause-risen : goal.returns-in-Err-tell_line-clause-risen
returns-in-Err-tell_line-clause-risen g c = λ h.
    let after = g.O.Sink.faults c.tell_line.new.out in
    same_ending c.in-Err-tell_line.ending _
    (c.in-Err-tell_line.ensures.risen (subst (λ (n : ℕ). n < after) (sym c.loop-count.invariant.out_same) h))

pub loop-count-preserved : goal.loop-count-preserved
loop-count-preserved g c =
    let kept = c.loop-count.invariant in
    let H = kept.at.0 in
    let line = c.in-Ok-Some.line in
    let done = c.in-Ok-tell_line.field-0 in
    let w = c.loop-count.after in
    let gives : GivesBytes c.loop-count.input c.next_line.new.self (g.S.Source.left c.loop-count.source) (g.S.Source.left c.next_line.new.source) line =
    rw c.in-Ok-Some.field-0-is at c.in-Ok-Some.ensures.line in
    let tells =
    subst
    (λ (l : List ℕ). TellsLine c.loop-count.count w l (Ok done) c.tell_line.new.before c.tell_line.new.after
    (stream g.O.Sink.written g.O.Sink.faults c.loop-count.out c.tell_line.new.out))
    c.as_slice.ensures c.in-Ok-tell_line.ensures.tells in
    let told = tells.1 in
    let faults = g.O.Sink.faults in
    record {
      at = (
        H ++ told.entry ∷ [],
        goes_on _ _ _ w c.tell_line.new.after c.loop-count.count c.loop-count.input c.next_line.new.self line H told.entry
            kept.at.1 (omega arith) gives told.means told.one told.has told.may told.after_is,
        puts_more _ _ _ (faults c.args.out.now) (faults c.loop-count.out) (faults c.tell_line.new.out) H told.entry w tells.0
            kept.at.1.world told.text_is kept.at.2 tells.2,
      );
      both = told.before_is;
      few = omega arith;
      same = c.in-Ok-Some.ensures.kept ∙ kept.same;
      out_same = c.in-Ok-tell_line.ensures.kept ∙ kept.out_same;
    }

pub returns-clause-tells : goal.returns-clause-tells
returns-clause-tells g c =
    let kept = c.loop-count.invariant in
    let H = kept.at.0 in
    let after = g.S.Source.faults c.read_end.new.source in (
      H,
      full_ends _ _ _ c.loop-count.after c.loop-count.count _ _ c.loop-count.input c.read_end.new.input c.read_end.result H
          kept.at.1 (omega (arith, kept.few)) c.read_end.ensures.ends c.read_end.ensures.few
          (λ e. subst (λ (n : ℕ). Rose n after) kept.same (c.read_end.ensures.cause e))
          (λ h. c.read_end.ensures.risen (subst (λ (n : ℕ). n < after) (sym kept.same) h)),
      kept.at.2,
      full_behind c.loop-count.count c.read_end.result _ _ _ _ _ H c.read_end.ensures.ends,
    )

use Rattle.std.proofs.Common.{◌≡◌, ◌+◌, refl, ◌∙◌, ap, subst, arith, Ok, Err, None}
use Rattle.script_grammar.specs.Lines.{meaning_of}
use Rattle.swarm_input.proofs.Prefixes.{appends_none}
use Rattle.swarm_input.specs.LineBuffer.{GivesLine, HandsOut}
use Rattle.swarm_input.specs.Script.{in_text}
use Rattle.swarm_lines.proofs.Answering.{ending_failed, is_read, line_answers, line_cause, line_full, no_later, no_rise, out_line, reader_answers, reader_full, refused_line, risen_fault, risen_from, rose_later, same_ending, text_answers, text_cause, text_full, whole_answers, whole_cause, whole_full}
use Rattle.swarm_lines.proofs.Fits.{does_fit, fit_none}
use Rattle.swarm_lines.proofs.Ways.{begins, end, line_ends, line_some, next, reader_fault, some, takes_line, takes_on, text_fault}
use Rattle.swarm_lines.proofs.scripts.read_script.Goals as goal
use Rattle.swarm_lines.specs.Endings.{ending_of, whole_ending}
use Rattle.swarm_lines.specs.Inside.LineSteps.{SaysLine}
use Rattle.swarm_model.specs.Own.{own}
use Rattle.turn_cell.specs.Passes.{seen}

pub loop-line-init : goal.loop-line-init
loop-line-init g c =
    let none = c.requires.none in record {
      pass = c.requires.pass;
      reading = rw c.new-input.ensures (begins (g.S.Source.left c.args.script.now) (seen c.args.pass.now) none);
      fit = fit_none (own 0 (seen c.args.pass.now)) none;
      out = rw none (appends_none (g.O.Sink.written c.args.out.now));
      refused = rw none refl;
      counted = omega arith;
      read = rw c.new-input.ensures (omega arith);
      same = refl;
      same_script = refl;
    }

pub returns-in-Ok-None-clause-read : goal.returns-in-Ok-None-clause-read
returns-in-Ok-None-clause-read g c =
    let kept = c.loop-line.invariant in
    let H = seen c.loop-line.pass in
    let r = kept.reading in
    let number = c.loop-line.number in
    let input = c.loop-line.input in
    let gives : HandsOut input c.next_line.new.self (g.S.Source.left c.loop-line.script) (g.S.Source.left c.next_line.new.script) None = rw c.in-Ok-None.field-0-is at c.in-Ok-None.ensures.line in
    is_read _ (whole_ending c.loop-line.refused) _ _ _ _ _ _ _ _ H c.whole_ending.ensures
    (end _ r.said number input c.next_line.new.self _ _ H c.loop-line.refused r.reached r.keeps gives)
    (some _ r.said number input _ H r.reached r.keeps)
    kept.fit
    (whole_answers c.loop-line.refused _ _ _ _ H kept.refused kept.out)
    (takes_on _ r.said number input c.next_line.new.self _ _ r.reached gives.0 c.in-Ok-None.ensures.few)
    (λ e. absurd {0} (whole_cause c.loop-line.refused e))
    (no_later _ _ kept.same)
    (λ e. absurd {0} (whole_full c.loop-line.refused e))
    (λ h. absurd {0} (no_rise _ _ (c.in-Ok-None.ensures.kept ∙ kept.same_script) h))
    (λ h. absurd {0} (no_rise _ _ kept.same h))

pub returns-in-Err-clause-read : goal.returns-in-Err-clause-read
returns-in-Err-clause-read g c =
    let kept = c.loop-line.invariant in
    let H = seen c.loop-line.pass in
    let r = kept.reading in
    let number = c.loop-line.number in
    let input = c.loop-line.input in
    let fault = c.in-Err.fault in
    is_read _ (ending_of (number + 1) fault) _ _ _ _ _ _ _ _ H c.ending_of.ensures
    (reader_fault _ r.said number input c.next_line.new.self _ _ H fault r.reached r.keeps c.in-Err.ensures.takes c.in-Err.ensures.fault)
    (some _ r.said number input _ H r.reached r.keeps)
    kept.fit
    (reader_answers (number + 1) fault _ _ _ _ H kept.out)
    (takes_on _ r.said number input c.next_line.new.self _ _ r.reached c.in-Err.ensures.takes c.in-Err.ensures.few)
    (λ e. rose_later _ _ _ (no_later _ _ kept.same_script) (c.in-Err.ensures.cause (ap (λ f. Err f) (ending_failed (number + 1) fault e))))
    (no_later _ _ kept.same)
    (λ e. absurd {0} (reader_full (number + 1) fault e))
    (λ h. risen_fault (number + 1) fault _ refl (c.in-Err.ensures.risen (risen_from _ _ _ kept.same_script h)))
    (λ h. absurd {0} (no_rise _ _ kept.same h))

pub returns-in-Err-say-clause-read : goal.returns-in-Err-say-clause-read
returns-in-Err-say-clause-read g c =
    let kept = c.loop-line.invariant in
    let H = seen c.loop-line.pass in
    let r = kept.reading in
    let number = c.loop-line.number in
    let input = c.loop-line.input in
    let line = c.in-Ok-Some.line in
    let ending = c.in-Err-say.ending in
    let gives : GivesLine input c.next_line.new.self (g.S.Source.left c.loop-line.script) (g.S.Source.left c.next_line.new.script) line = rw c.in-Ok-Some.field-0-is at c.in-Ok-Some.ensures.line in
    let says : SaysLine (number + 1) (in_text (meaning_of line.text)) (Err ending) = subst (λ t. SaysLine (number + 1) (in_text (meaning_of t)) (Err ending)) c.as_slice.ensures c.in-Err-say.ensures.says in
    is_read _ ending _ _ _ _ _ _ _ _ H refl
    (text_fault _ r.said number input c.next_line.new.self _ _ H line ending r.reached r.keeps gives says)
    (some _ r.said number input _ H r.reached r.keeps)
    kept.fit
    (text_answers (number + 1) (in_text (meaning_of line.text)) ending _ _ _ _ H says kept.out)
    (takes_line _ r.said number input c.next_line.new.self _ _ line r.reached gives c.in-Ok-Some.ensures.few)
    (λ e. absurd {0} (text_cause (number + 1) (in_text (meaning_of line.text)) ending says e))
    (no_later _ _ kept.same)
    (λ e. absurd {0} (text_full (number + 1) (in_text (meaning_of line.text)) ending says e))
    (λ h. absurd {0} (no_rise _ _ (c.in-Ok-Some.ensures.kept ∙ kept.same_script) h))
    (λ h. absurd {0} (no_rise _ _ kept.same h))

pub returns-in-Err-take_line-clause-read : goal.returns-in-Err-take_line-clause-read
returns-in-Err-take_line-clause-read g c =
    let kept = c.loop-line.invariant in
    let H = seen c.loop-line.pass in
    let G = seen c.take_line.new.pass in
    let r = kept.reading in
    let number = c.loop-line.number in
    let input = c.loop-line.input in
    let line = c.in-Ok-Some.line in
    let said = c.in-Ok.said in
    let ending = c.in-Err-take_line.ending in
    let gives : GivesLine input c.next_line.new.self (g.S.Source.left c.loop-line.script) (g.S.Source.left c.next_line.new.script) line = rw c.in-Ok-Some.field-0-is at c.in-Ok-Some.ensures.line in
    let means : in_text (meaning_of line.text) ≡ Ok said = rw (← c.as_slice.ensures) c.in-Ok.ensures.says in
    let does = c.in-Err-take_line.ensures.line in
    let lines = line_ends ending _ r.said number input c.next_line.new.self _ _ H G line said _ _ r.reached r.keeps gives means c.in-Ok-Some.ensures.few does in
    is_read _ ending _ _ _ _ _ _ _ _ G refl lines
    (line_some ending _ _ H G said _ _ does lines)
    (does_fit (Err ending) said H G _ _ c.in-Ok.ensures.fit does kept.fit)
    (line_answers ending r.said said H G _ _ _ _ _ _ r.keeps does kept.out (no_later _ _ kept.same) (λ e. c.in-Err-take_line.ensures.cause (ap (λ f. Err f) e)))
    (takes_line _ r.said number input c.next_line.new.self _ _ line r.reached gives c.in-Ok-Some.ensures.few)
    (λ e. absurd {0} (line_cause ending said H G _ _ does e))
    (omega arith)
    (λ e. line_full ending said H G _ _ does e)
    (λ h. absurd {0} (no_rise _ _ (c.in-Ok-Some.ensures.kept ∙ kept.same_script) h))
    (λ h. same_ending ending _ refl (c.in-Err-take_line.ensures.risen (risen_from _ _ _ kept.same h)))

pub loop-line-preserved : goal.loop-line-preserved
loop-line-preserved g c =
    let kept = c.loop-line.invariant in
    let H = seen c.loop-line.pass in
    let G = seen c.take_line.new.pass in
    let line = c.in-Ok-Some.line in
    let gives : GivesLine c.loop-line.input c.next_line.new.self (g.S.Source.left c.loop-line.script) (g.S.Source.left c.next_line.new.script) line =
    rw c.in-Ok-Some.field-0-is at c.in-Ok-Some.ensures.line in
    let means : in_text (meaning_of line.text) ≡ Ok c.in-Ok.said = rw (← c.as_slice.ensures) c.in-Ok.ensures.says in
    let does = c.in-Ok-take_line.ensures.line in
    record {
      pass = c.take_line.ensures.pass;
      reading = next _ H G c.loop-line.number c.loop-line.input c.next_line.new.self _ _ line c.in-Ok.said does.0 kept.reading gives means c.in-Ok-Some.ensures.few does.1;
      fit = does_fit (Ok c.in-Ok-take_line.answer) c.in-Ok.said H G _ _ c.in-Ok.ensures.fit does kept.fit;
      out = out_line _ _ _ H G does.0 does.1.came kept.out does.2;
      refused = refused_line c.loop-line.refused c.in-Ok-take_line.answer H G does.0 does.1.came kept.refused does.3;
      counted = omega (arith, gives.read, gives.some);
      read = gives.within;
      same = c.in-Ok-take_line.ensures.kept ∙ kept.same;
      same_script = c.in-Ok-Some.ensures.kept ∙ kept.same_script;
    }

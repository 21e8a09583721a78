use Rattle.swarm_spans.proofs.Waking.{word_sleeps, word_woken}
use Rattle.swarm_spans.proofs.wakes.Wakes.wake.Goals as goal
use Rattle.swarm_spans.proofs.wakes.Wakes.wake.Goals.{then-self-word, else-self-word}

pub loop-word-preserved : goal.loop-word-preserved
loop-word-preserved c =
    elim c.if-self-word.branch [
      | then-self-word w ↦
          rw w.self-is
          (rw w.span-is
          (word_woken c.args.now c.loop-word.word c.args.self.now c.loop-word.self c.args.span.now c.loop-word.span
          w.add_word.new.self c.loop-word.invariant w.add_word.ensures.wider w.add_word.ensures.all))
      | else-self-word w ↦
          rw w.self-is
          (rw w.span-is
          (word_sleeps c.args.now c.loop-word.word c.args.self.now c.loop-word.self c.args.span.now c.loop-word.span
          c.loop-word.invariant w.if-self-word.false))
    ]

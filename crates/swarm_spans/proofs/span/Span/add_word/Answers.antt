use Rattle.swarm_spans.proofs.Waking.{word_all}
use Rattle.swarm_spans.proofs.span.Span.add_word.Goals as goal

pub returns-clause-all : goal.returns-clause-all
returns-clause-all c =
    word_all c.join.new.self c.of_word.result c.args.word c.of_word.ensures c.join.ensures.all

use Rattle.std.proofs.Common.{◌≡◌}
use Rattle.std.specs.Slice.Iter.{iter_rest}
use Rattle.std.specs.Option.{option_map}
use Rattle.std.specs.Prelude.{find}
use Rattle.swarm_agent.specs.Agent.{has_news, news_after, news_of}
use Rattle.swarm_agent.proofs.looks.first_news.Given as goal

abbrev pub invariant-loop-executor : goal.invariant-loop-executor
invariant-loop-executor l = option_map news_of (find has_news (iter_rest l.executor-iterator)) ≡ news_after l.after l.executors

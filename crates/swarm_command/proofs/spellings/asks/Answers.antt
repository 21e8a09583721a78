use Rattle.std.proofs.Common.{◌≡◌, ◌∙◌, ◌||◌, rules, map, string_bytes}
use Rattle.std.specs.Prelude.{is_some}
use Rattle.swarm_command.specs.CommandLine.{is_replay, made_number, run_number, run_workers}
use Rattle.swarm_command.proofs.Spelled.{any_asked}
use Rattle.swarm_command.proofs.spellings.asks.Goals as goal

pub returns : goal.returns
returns c =
    let words = map string_bytes c.args.words.now in
    let is : c.is_any.result ≡ (is_some (run_workers words) || (is_replay words || (is_some (made_number words) || is_some (run_number words)))) = search rules in
    is ∙ any_asked (run_workers words) (is_replay words) (made_number words) (run_number words)

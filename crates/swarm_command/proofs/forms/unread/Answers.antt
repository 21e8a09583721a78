use Rattle.std.proofs.Common.{◌∙◌, sym, map, string_bytes}
use Rattle.swarm_command.specs.CommandLine.{form_of}
use Rattle.swarm_command.proofs.Spelled.{unread_none, unread_some}
use Rattle.swarm_command.proofs.forms.unread.Goals as goal

pub returns-then-asks : goal.returns-then-asks
returns-then-asks c = unread_some (form_of (map string_bytes c.args.words.now)) (sym c.asks.ensures ∙ c.if-asks.true)

pub returns-else-asks : goal.returns-else-asks
returns-else-asks c = unread_none (form_of (map string_bytes c.args.words.now)) (sym c.asks.ensures ∙ c.if-asks.false)

use Rattle.std.proofs.Common.{take, ap, sym, ◌∙◌, arith}
use Rattle.std.specs.List.{position}
use Rattle.swarm_input.specs.Lines.{is_newline}
use Rattle.swarm_input.proofs.Sights.{seen, beyond_seen, unseen}
use Rattle.swarm_input.proofs.input.look_at.Goals as goal

pub returns-then-read-place-ge-SCRIPT : goal.returns-then-read-place-ge-SCRIPT
returns-then-read-place-ge-SCRIPT c =
    beyond_seen c.args.read c.in-Some.place c.args.bytes.now (ap (position is_newline) (sym c.front.ensures) ∙ sym c.newline_in.ensures ∙ c.in-Some.is) (omega arith)

pub look_open-requires-clause-none : goal.look_open-requires-clause-none
look_open-requires-clause-none c = unseen (take 8193 c.args.bytes.now) (ap (position is_newline) (sym c.front.ensures) ∙ sym c.newline_in.ensures ∙ c.in-None.is)

pub returns-else-read-place-ge-SCRIPT : goal.returns-else-read-place-ge-SCRIPT
returns-else-read-place-ge-SCRIPT c =
    seen c.args.read c.in-Some.place c.args.bytes.now (ap (position is_newline) (sym c.front.ensures) ∙ sym c.newline_in.ensures ∙ c.in-Some.is) (omega arith)

use Rattle.std.proofs.Common.{ap, sym, ◌∙◌}
use Rattle.std.specs.Option.{option_copied_mut}
use Rattle.swarm_index.proofs.MarkLemmas.{emptied_drops, written_drops}
use Rattle.swarm_index.proofs.marks.Marks.remove.Goals as goal

pub returns-then-is_empty : goal.returns-then-is_empty
returns-then-is_empty c = emptied_drops c.args.self.now.map (c.get_mut.follows.lender c.remove.new.self) c.args.which c.args.digest c.args.id c.in-Some.ids.now c.remove.new.self (sym c.get_mut.ensures.value ∙ ap option_copied_mut c.in-Some.is) (c.get_mut.follows.holds c.remove.new.self) c.remove-then-is_empty.new.self c.remove.ensures (c.is_empty.ensures.0 c.if-is_empty.true) c.remove-then-is_empty.ensures.updates.0

pub returns-else-is_empty : goal.returns-else-is_empty
returns-else-is_empty c = written_drops c.args.self.now.map (c.get_mut.follows.lender c.remove.new.self) c.args.which c.args.digest c.args.id c.in-Some.ids.now c.remove.new.self (sym c.get_mut.ensures.value ∙ ap option_copied_mut c.in-Some.is) (c.get_mut.follows.holds c.remove.new.self) c.remove.ensures

use Rattle.std.proofs.Common.{ap, sym, ◌∙◌}
use Rattle.std.specs.Option.{option_copied_mut}
use Rattle.swarm_index.proofs.MarkLemmas.{entry_adds, on_err, on_ok, written_adds, written_keeps}
use Rattle.swarm_index.proofs.marks.Marks.add.Goals as goal

pub returns-in-Some-clause-ok : goal.returns-in-Some-clause-ok
returns-in-Some-clause-ok c = on_ok c.add.result _ _ (written_adds c.args.self.now.map (c.get_mut.follows.lender c.add.new.self) c.args.which c.args.digest c.args.id c.in-Some.ids.now c.add.new.self (sym c.get_mut.ensures.value ∙ ap option_copied_mut c.in-Some.is) (c.get_mut.follows.holds c.add.new.self)) c.add.ensures.ok

pub returns-in-Some-clause-err : goal.returns-in-Some-clause-err
returns-in-Some-clause-err c = on_err c.add.result _ _ (written_keeps c.args.self.now.map (c.get_mut.follows.lender c.add.new.self) c.args.which c.args.digest c.args.id c.in-Some.ids.now c.add.new.self (sym c.get_mut.ensures.value ∙ ap option_copied_mut c.in-Some.is) (c.get_mut.follows.holds c.add.new.self)) c.add.ensures.err

pub returns-in-Ok-insert-clause-ok : goal.returns-in-Ok-insert-clause-ok
returns-in-Ok-insert-clause-ok c = entry_adds c.args.self.now.map _ c.insert.new.self c.args.which c.args.digest c.args.id c.in-Ok.ids (sym c.get_mut.ensures.value ∙ ap option_copied_mut c.in_default.is) c.get_mut.follows.holds-at-none c.in-Ok.ensures c.in-Ok-insert.ensures.updates.0

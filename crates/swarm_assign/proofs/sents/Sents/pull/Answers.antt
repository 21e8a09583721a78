use Rattle.std.proofs.Common.{ap, subst, sym, ◌<◌, ◌∙◌}
use Rattle.std.specs.Option.{option_copied_mut}
use Rattle.swarm_assign.proofs.ByNode.{count-at, kept-told, message-first, message-told, none-at, rows-kept, rows-told, sent-at}
use Rattle.swarm_assign.specs.Sents.{sent_count}
use Rattle.swarm_objects.specs.Bounds.{far_end}
use Rattle.swarm_objects.specs.Rows.{row_at, sent_node}
use Rattle.swarm_assign.proofs.sents.Sents.pull.Goals as goal

pub tell-requires-clause-count : goal.tell-requires-clause-count
tell-requires-clause-count c =
    subst (λ n. n < far_end)
    (ap (sent_count c.args.node) (sym c.self.view_is)
    ∙ count-at c.args.node c.in-Some.sent.now c.self.inside.rows.entries
    (ap option_copied_mut (sym c.in-Some.is) ∙ c.get_mut.ensures.value))
    c.requires.count

pub invariant_of-self : goal.invariant_of-self
invariant_of-self c =
    kept-told c.args.node c.args.due.now c.tell.result c.in-Some.sent.now c.tell.new.sent c.self.inside.rows.entries _
    c.self.invariant (ap option_copied_mut (sym c.in-Some.is) ∙ c.get_mut.ensures.value)
    (c.get_mut.follows.holds c.tell.new.sent).0 c.tell.ensures.told c.tell.ensures.err

pub returns-in-Some-clause-message : goal.returns-in-Some-clause-message
returns-in-Some-clause-message c =
    message-told c.args.node c.args.due.now c.tell.result c.in-Some.sent.now _
    (sent-at c.args.node c.in-Some.sent.now c.self.inside.rows.entries c.self.invariant
    (ap option_copied_mut (sym c.in-Some.is) ∙ c.get_mut.ensures.value)
    ∙ ap (row_at sent_node c.args.node) c.self.view_is)
    c.tell.ensures.message

pub returns-in-Some-clause-sent : goal.returns-in-Some-clause-sent
returns-in-Some-clause-sent c =
    rows-told c.args.node c.args.due.now c.tell.result c.in-Some.sent.now c.tell.new.sent c.self.inside.rows.entries _
    c.args.self.now c.self.view_is c.self.invariant (ap option_copied_mut (sym c.in-Some.is) ∙ c.get_mut.ensures.value)
    (c.get_mut.follows.holds c.tell.new.sent).0 c.tell.ensures.told

pub returns-in-Some-clause-err : goal.returns-in-Some-clause-err
returns-in-Some-clause-err c =
    rows-kept c.args.node c.tell.result c.in-Some.sent.now c.tell.new.sent c.self.inside.rows.entries _ c.args.self.now
    c.self.view_is (ap option_copied_mut (sym c.in-Some.is) ∙ c.get_mut.ensures.value)
    (c.get_mut.follows.holds c.tell.new.sent).0 c.tell.ensures.err

pub returns-in-None-clause-message : goal.returns-in-None-clause-message
returns-in-None-clause-message c =
    message-first c.args.due.now c.begin.result _
    (ap (row_at sent_node c.args.node) (sym c.self.view_is)
    ∙ none-at c.args.node c.self.inside.rows.entries (ap option_copied_mut (sym c.in-None.is) ∙ c.get_mut.ensures.value))
    c.begin.ensures.message

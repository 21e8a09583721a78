use Rattle.std.proofs.Common.{Err, None, Ok, ap, refl, subst, sym, ◌∙◌, ◌≡◌}
use Rattle.swarm_model.specs.History.{replay}
use Rattle.swarm_objects.specs.Rows.{row_at}
use Rattle.swarm_store.specs.Stored.{Stored}
use Rattle.swarm_watch.specs.Calls.{MayAnswerAs, begin_answer}
use Rattle.swarm_watch.specs.Watchings.{watching_id}
use Rattle.swarm_world.proofs.Asking.{begun, begun_not}
use Rattle.swarm_world.proofs.Transacting.{few_ids, next-is}
use Rattle.swarm_world.proofs.parts.Parts.watch.Goals as goal

pub begin-requires : goal.begin-requires
begin-requires c =
    let is = c.requires.at in
    subst (λ id. row_at watching_id id c.args.self.now.watches.watchers ≡ None)
    (sym (c.next_id-id.ensures ∙ next-is c.args.self.now (replay is.history) is.stands.has))
    (c.new_watches_are_the_worlds.ensures.free is.history c.args.self.now.watches is.legal is.stands.watches)

pub take_id-requires : goal.take_id-requires
take_id-requires c = few_ids c.args.self.now c.requires.at

pub returns-in-Ok : goal.returns-in-Ok
returns-in-Ok c = λ h stands.
    let p = c.args.self.now in
    let number = next-is p (replay h) stands.has in
    begun h c.args.filter p _ c.take_id.result (Ok tt) stands (c.take_id.ensures.id ∙ number) refl
    (c.new_watches_are_the_worlds.ensures.begun h c.args.filter p.watches c.begin.new.self (Ok tt) stands.watches
    (subst (λ id. MayAnswerAs (begin_answer p.watches.watchers id c.args.filter) p.watches (Ok tt) c.begin.new.self)
    (c.next_id-id.ensures ∙ number) c.in-Ok.ensures))
    (ap (λ (s : Stored). s.tables) c.take_id.ensures.taken) refl refl refl refl

pub returns-in-Err : goal.returns-in-Err
returns-in-Err c = λ h stands.
    let p = c.args.self.now in
    let r = c.in-Err.refusal in
    begun_not h c.args.filter p c.begin.new.self r c.told.result stands
    (c.new_watches_are_the_worlds.ensures.begun h c.args.filter p.watches c.begin.new.self (Err r) stands.watches
    (subst (λ id. MayAnswerAs (begin_answer p.watches.watchers id c.args.filter) p.watches (Err r) c.begin.new.self)
    (c.next_id-id.ensures ∙ next-is p (replay h) stands.has) c.in-Err.ensures))
    c.told.ensures

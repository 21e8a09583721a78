use Rattle.std.proofs.Common.{◌∙◌, inl, subst, sym}
use Rattle.swarm_model.specs.Calls.{call_outcome}
use Rattle.swarm_model.specs.Outcome.{Gives}
use Rattle.swarm_plain.proofs.EntryLemmas.{gives-entered, kept-either}
use Rattle.swarm_plain.specs.Plain.{world_of}
use Rattle.swarm_plain.proofs.Plain.enter.Goals as goal

pub returns-in-Ok-clause-reply : goal.returns-in-Ok-clause-reply
returns-in-Ok-clause-reply c =
    let w = world_of c.args.self.now in
    let v = world_of c.answer_call.new.self in
    let call = c.args.call.now in
    let done = c.in-Ok.ensures.answer in
    inl (gives-entered w v (world_of c.end_unseen.new.self) call c.in-Ok.reply done
    (c.end_unseen.ensures ∙ sym (kept-either w v call c.in-Ok.reply c.requires.unseen done)))

pub returns-in-Ok-clause-halt : goal.returns-in-Ok-clause-halt
returns-in-Ok-clause-halt c = λ halt.
    let w = world_of c.args.self.now in
    let v = world_of c.answer_call.new.self in
    let call = c.args.call.now in
    let done = c.in-Ok.ensures.answer in
    subst (λ k. Gives (call_outcome w k) c.in-Ok.reply (world_of c.end_unseen.new.self)) halt
    (gives-entered w v (world_of c.end_unseen.new.self) call c.in-Ok.reply done
    (c.end_unseen.ensures ∙ sym (kept-either w v call c.in-Ok.reply c.requires.unseen done)))

use Rattle.role_words.proofs.Stepping.{follows_behind, follows_in, follows_none}
use Rattle.role_words.proofs.reading.next_slot.Goals as goal

pub returns-in-Some : goal.returns-in-Some
returns-in-Some c =
    let s = c.args.service.now in
    let tasks = c.args.tasks.now in
    follows_in c.args.window.now c.next.new.self c.next.result c.in-Some.slot s tasks c.in-Some.is
    (c.next.ensures s tasks c.requires)

pub returns-in-Some-beyond : goal.returns-in-Some-beyond
returns-in-Some-beyond c =
    let s = c.args.service.now in
    let tasks = c.args.tasks.now in
    follows_behind c.args.window.now c.next.new.self c.go_on.new.window c.next-in-Some-beyond.new.self c.next.result
    c.next-in-Some-beyond.result c.beyond.result c.in-Some-beyond.first s tasks c.requires c.in-None.is
    (c.next.ensures s tasks c.requires) c.beyond.ensures c.in-Some-beyond.is c.go_on.ensures.fresh
    (c.next-in-Some-beyond.ensures s tasks c.go_on.ensures.shows)

pub returns-in-None-beyond : goal.returns-in-None-beyond
returns-in-None-beyond c =
    let s = c.args.service.now in
    let tasks = c.args.tasks.now in
    follows_none c.args.window.now c.next.new.self c.next.result c.beyond.result s tasks c.requires c.in-None.is
    (c.next.ensures s tasks c.requires) c.beyond.ensures c.in-None-beyond.is

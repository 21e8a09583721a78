-- A caller's entries in a history, each with the history before it.
use Rattle.std.specs.Prelude.{List, [], ◌∷◌, ◌++◌, ◌==◌, if◌then◌else◌, map, ℕ}
use Rattle.swarm_model.specs.History.{replay, step_reply}
use Rattle.swarm_objects.specs.declared.calls.Entry.{Entry}
use Rattle.swarm_objects.specs.declared.replies.Reply.{Reply}

-- an entry, and the history before it
pub record Step : Type 0 where
  pub before : List Entry
  pub entry : Entry

abbrev pub step_at : List Entry → Entry → Step
step_at before e = record { before = before; entry = e }

-- the caller's entries among those that come after a history
abbrev pub own_from : ℕ → List Entry → List Entry → List Step
own_from by before [] = []
own_from by before (e ∷ es) =
    if e.by == by then step_at before e ∷ own_from by (before ++ e ∷ []) es else own_from by (before ++ e ∷ []) es

abbrev pub own : ℕ → List Entry → List Step
own by h = own_from by [] h

-- what the entry was answered
abbrev pub reply_to : Step → Reply
reply_to s = step_reply (replay s.before) s.entry

-- the replies to the caller's entries, in order
abbrev pub own_replies_from : ℕ → List Entry → List Entry → List Reply
own_replies_from by before es = map reply_to (own_from by before es)

abbrev pub own_replies : ℕ → List Entry → List Reply
own_replies by h = own_replies_from by [] h

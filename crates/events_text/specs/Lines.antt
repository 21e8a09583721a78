-- The line of an entry: what it was, what it was answered, and what it made of each row.
use Rattle.std.specs.Prelude.{ℕ, List, [], ◌∷◌, ◌++◌, map, codes}
use Rattle.std.specs.Str.Lossy.{utf8_lossy}
use Rattle.serde_json.specs.Data.{Data, string, array, object, no_members, member}
use Rattle.serde_json.specs.View.{items_of}
use Rattle.swarm_model.specs.Changed.{changes_between}
use Rattle.swarm_model.specs.History.{step_reply, step_world}
use Rattle.swarm_objects.specs.DutyTexts.{spaced}
use Rattle.swarm_objects.specs.World.{World, empty_world}
use Rattle.swarm_objects.specs.declared.calls.Entry.{Entry}
use Rattle.swarm_objects.specs.declared.replies.Reply.{Reply}
use Rattle.script_grammar.specs.Texts.{what_words}
use Rattle.swarm_print.specs.Details.{count, json_line}
use Rattle.swarm_print.specs.Texts.{reply_text}
use Rattle.events_text.specs.Changes.{change_data}

-- a text; JSON has no other bytes than UTF-8
abbrev pub text_data : List ℕ → Data
text_data text = string (utf8_lossy text)

-- the entry's text as the journal has it, but for its caller
abbrev pub what_text : Entry → List ℕ
what_text e = spaced (what_words e.what)

-- the changes between two worlds, of which the second is after the entry: one for each of the model's events
abbrev pub changes_data : World → World → List Data
changes_data old new =
    map (change_data old.tables new.tables) (changes_between new.entries old.tables new.tables)

-- an entry that was answered so, and made the second world of the first
abbrev pub entry_between : World → Entry → Reply → World → Data
entry_between old e reply new = object
    (member (codes "caller") (count e.by)
    (member (codes "changes") (array (items_of (changes_data old new)))
    (member (codes "clock") (count new.tables.clock)
    (member (codes "entry") (count new.entries)
    (member (codes "reply") (text_data (reply_text reply))
    (member (codes "text") (text_data (what_text e))
    no_members))))))

abbrev pub entry_data : World → Entry → Data
entry_data w e = entry_between w e (step_reply w e) (step_world w e)

-- the line of an entry that follows those of this world
abbrev pub entry_line : World → Entry → List ℕ
entry_line w e = json_line (entry_data w e)

abbrev pub lines_from : World → List Entry → List ℕ
lines_from w [] = []
lines_from w (e ∷ es) = entry_line w e ++ lines_from (step_world w e) es

-- a line for each entry of a history
abbrev pub event_lines : List Entry → List ℕ
event_lines = lines_from empty_world

-- The end of a run: the ways of the journal, and the finished history.
use Rattle.std.proofs.Common.{◌≡◌, ℕ, inl, inr, List, [], ◌∷◌, length, true, Option, Some, None, Result, Ok, Err, sym, ◌∙◌, ap, subst, arith}
use Rattle.std.specs.List.{list_all}
use Rattle.std.proofs.lemmas.List.{length-append}
use Rattle.std.specs.Io.KnownBytes.{Consumes}
use Rattle.swarm_input.specs.declared.faults.WriteFault.{WriteFault}
use Rattle.swarm_input.specs.declared.faults.WriteFault.TheVariants.{Failed as SinkFailed, NoMemory as NoSpace}
use Rattle.swarm_input.proofs.Prefixes.{prefix_all, prefix_then, then_all}
use Rattle.swarm_input.specs.Script.{bad_line}
use Rattle.swarm_input.specs.Streams.{PutsBoth, PutsThenPrefix, Stream, stream_of}
use Rattle.swarm_lines.proofs.Alone.{of_script, replies_alone, up_to_last}
use Rattle.swarm_lines.proofs.Following.{Ends, follows_script, halted, own_cut, put_still, script_still}
use Rattle.swarm_lines.proofs.Quiet.{out_append}
use Rattle.swarm_lines.proofs.Telling.{as_unsaid, puts_halted}
use Rattle.swarm_lines.specs.Callers.{PutsOf, PutsOwnUpToLast}
use Rattle.swarm_lines.specs.Came.{Stays}
use Rattle.swarm_lines.specs.Closing.{IsClosed}
use Rattle.swarm_lines.specs.Endings.{after_fault, after_journal, out_of_memory}
use Rattle.swarm_lines.specs.Finished.{IsFinished, Stands}
use Rattle.swarm_lines.specs.OfScript.{PutsUpToLast}
use Rattle.swarm_lines.specs.Putting.{part_out}
use Rattle.swarm_lines.specs.ScriptSteps.{KeepsFirstLinesOfScript, KeepsScript, PutsToLast}
use Rattle.swarm_lines.specs.declared.endings.Ending.{Ending}
use Rattle.swarm_lines.specs.declared.endings.Ending.TheVariants.{Done, Refused, ReadFault, OutFault, JournalFault, NoMemory, NoMemoryAt, BadLine, Full}
use Rattle.swarm_model.proofs.Base.Halting.{entries-legal}
use Rattle.swarm_model.specs.History.{IsLegal, replies}
use Rattle.swarm_model.specs.Own.{own, own_replies}
use Rattle.swarm_model.specs.Script.{is_of_a_caller, own_call}
use Rattle.swarm_objects.specs.Limits.{most_entries}
use Rattle.swarm_objects.specs.Outside.{AppendsPrefix}
use Rattle.swarm_objects.specs.declared.calls.Call.TheVariants.{Halt}
use Rattle.swarm_objects.specs.declared.calls.Entry.{Entry}
use Rattle.swarm_objects.specs.declared.replies.Reply.{Reply}
use Rattle.swarm_world.specs.Work.{IsFull}

-- The journal's sink failed.

as_journal_fault : (a b : Option (List ℕ)) (now : List Entry) → KeepsScript Done a b now → KeepsScript JournalFault a b now
as_journal_fault None b now h = tt
as_journal_fault (Some input) None now h = absurd h
as_journal_fault (Some input) (Some left) now h = h

as_journal_fault_too : (a b : Option (List ℕ)) (now : List Entry) → KeepsScript Refused a b now →
    KeepsScript JournalFault a b now
as_journal_fault_too None b now h = tt
as_journal_fault_too (Some input) None now h = absurd h
as_journal_fault_too (Some input) (Some left) now h = h

pub stands_fault : (e : Ending) (a b : Option (List ℕ)) (m n : ℕ) (x z : Option (List ℕ)) (k j : ℕ) (now : List Entry) →
    Stands e (stream_of a b m n) (stream_of x z k j) now →
    Stands (after_fault e) (stream_of a b m n) (stream_of x z k j) now
stands_fault Done a b m n x z k j now s = record { lines = as_journal_fault a b now s.lines; answers = s.answers.0 }
stands_fault Refused a b m n x z k j now s = record { lines = as_journal_fault_too a b now s.lines; answers = s.answers.0 }
stands_fault ReadFault a b m n x z k j now s = s
stands_fault OutFault a b m n x z k j now s = s
stands_fault JournalFault a b m n x z k j now s = s
stands_fault NoMemory a b m n x z k j now s = s
stands_fault (NoMemoryAt number fault) a b m n x z k j now s = s
stands_fault (BadLine number fault) a b m n x z k j now s = s
stands_fault Full a b m n x z k j now s = s

-- Memory was wanting for it.

-- what was put of a bad line, whether its sink failed or not
part_of_both : (x z : Option (List ℕ)) (k j : ℕ) (first second : List ℕ) → PutsBoth (stream_of x z k j) first second →
    PutsThenPrefix (stream_of x z k j) first second
part_of_both x z k j first second h =
    elim h [ inl whole ↦ (length second, then_all x z first second whole) | inr part ↦ part.1 ]

-- and of the replies where their sink failed
part_of_replies : (x z : Option (List ℕ)) (k j : ℕ) (now : List Entry) → PutsToLast (stream_of x z k j) now →
    AppendsPrefix x z (part_out (own 0 now))
part_of_replies x z k j now h =
    subst (AppendsPrefix x z) (sym (ap part_out h.keeps.steps ∙ out_append h.earlier h.later))
    (prefix_then x z (part_out h.earlier) (part_out h.later) h.puts.0 h.puts.1)

pub stands_memory : (e : Ending) (a b : Option (List ℕ)) (m n : ℕ) (x z : Option (List ℕ)) (k j : ℕ) (now : List Entry) →
    Stands e (stream_of a b m n) (stream_of x z k j) now → KeepsScript NoMemory a b now →
    Stands (out_of_memory e) (stream_of a b m n) (stream_of x z k j) now
stands_memory Done a b m n x z k j now s some =
    record { lines = some; answers = prefix_all x z (part_out (own 0 now)) s.answers.0 }
stands_memory Refused a b m n x z k j now s some =
    record { lines = some; answers = prefix_all x z (part_out (own 0 now)) s.answers.0 }
stands_memory ReadFault a b m n x z k j now s some =
    record { lines = some; answers = prefix_all x z (part_out (own 0 now)) s.answers }
stands_memory JournalFault a b m n x z k j now s some =
    record { lines = some; answers = prefix_all x z (part_out (own 0 now)) s.answers }
stands_memory Full a b m n x z k j now s some =
    record { lines = some; answers = prefix_all x z (part_out (own 0 now)) s.answers }
stands_memory OutFault a b m n x z k j now s some =
    record { lines = some; answers = part_of_replies x z k j now s.answers }
stands_memory NoMemory a b m n x z k j now s some = s
stands_memory (NoMemoryAt number fault) a b m n x z k j now s some = s
stands_memory (BadLine number fault) a b m n x z k j now s some = record {
  lines = as_unsaid a b now number fault s.lines;
  answers = part_of_both x z k j (part_out (own 0 now)) (bad_line number fault) s.answers;
}

-- By the journal's result.

-- where memory is wanting, some first lines are kept
pub some_source : (a b : Option (List ℕ)) (now : List Entry) (bytes : List ℕ) → Consumes a b bytes →
    KeepsFirstLinesOfScript a now → KeepsScript NoMemory a b now
some_source None b now bytes c h = tt
some_source (Some input) None now bytes c h = absurd c
some_source (Some input) (Some left) now bytes c h = h

pub stands_after : (e : Ending) (r : Result (Unit {0}) WriteFault) (a b : Option (List ℕ)) (m n : ℕ)
    (x z : Option (List ℕ)) (k j : ℕ) (now : List Entry) → Stands e (stream_of a b m n) (stream_of x z k j) now →
    KeepsScript NoMemory a b now → Stands (after_journal e r) (stream_of a b m n) (stream_of x z k j) now
stands_after e (Ok done) a b m n x z k j now s some = s
stands_after e (Err SinkFailed) a b m n x z k j now s some = stands_fault e a b m n x z k j now s
stands_after e (Err NoSpace) a b m n x z k j now s some = stands_memory e a b m n x z k j now s some

-- The finished history.

-- a full history has no room for others before Halt
nothing_more : (now start : List Entry) → IsLegal (halted start) → IsFull now → Stays now start → length start ≡ most_entries
nothing_more now start legal full s =
    let few = entries-legal (halted start) legal in
    let long = length-append start (own_call Halt ∷ []) in
    let grown = ap (λ (l : List Entry). length l) s.history ∙ length-append now s.rest in
    let count = full.1 in
    omega arith

pub full_start : (e : Ending) (now start : List Entry) → IsLegal (halted start) → (e ≡ Full → IsFull now) →
    Stays now start → e ≡ Full → length start ≡ most_entries
full_start e now start legal full s is = nothing_more now start legal (full is) s

alone_answers : (e : Ending) (out : Stream) (now start : List Entry) → Stays now start → Ends 0 start →
    PutsOf e out (own_replies 0 now) (PutsToLast out now) → PutsOf e out (replies (halted start)) (PutsUpToLast out (halted start))
alone_answers e out now start s ends puts =
    subst (λ (l : List Reply). PutsOf e out l (PutsUpToLast out (halted start))) (replies_alone start ends)
    (puts_halted e out now start (PutsUpToLast out (halted start)) s
    (λ cut. up_to_last out start ends (put_still out now start s cut)) puts)

ends_alone : (workers : ℕ) (start : List Entry) → workers ≡ 0 → Ends workers start → Ends 0 start
ends_alone workers start none ends = subst (λ (k : ℕ). Ends k start) none ends

finished_by : (workers : ℕ) (e : Ending) (script out : Stream) (now start : List Entry) → Stays now start →
    Ends workers start → (e ≡ Full → IsFull now) → Stands e script out now → IsFinished workers e script out (halted start)
finished_by workers e script out now start s ends full stands =
    let lines = script_still e script.before script.after now start s stands.lines in
    record {
      follows = follows_script workers e script.before script.after start ends lines;
      own_answers =
          puts_halted e out now start (PutsOwnUpToLast out (halted start)) s
          (λ cut. own_cut workers out start ends (put_still out now start s cut)) stands.answers;
      lines = λ none.
          let alone = ends_alone workers start none ends in
          of_script e script.before script.after start alone (full_start e now start ends.legal full s) lines;
      answers = λ none. alone_answers e out now start s (ends_alone workers start none ends) stands.answers;
    }

pub finished : (workers : ℕ) (d e : Ending) (script out told : Stream) (H : List Entry) → IsLegal H →
    (c : IsClosed workers d script out H) → (e ≡ Full → IsFull c.now) → Stands e script told c.now →
    IsFinished workers e script told H
finished workers d e script out told H legal c full stands =
    let ends : Ends workers c.start = record {
      legal = subst IsLegal c.ends legal;
      callers = subst (λ (h : List Entry). list_all (is_of_a_caller workers) h ≡ true) c.ends c.callers;
    } in
    subst (IsFinished workers e script told) (sym c.ends)
    (finished_by workers e script told c.now c.start c.stays ends full stands)

-- What was put of the journal, by its result, and the cause of the ending that this gives.
use Rattle.std.proofs.Common.{◌≡◌, inl, inr, ℕ, List, refl, Option, Result, Ok, Err}
use Rattle.std.specs.Io.KnownBytes.{Appends}
use Rattle.swarm_input.proofs.Prefixes.{prefix_all}
use Rattle.swarm_input.specs.Streams.{Stream, stream_of}
use Rattle.swarm_input.specs.declared.faults.WriteFault.{WriteFault}
use Rattle.swarm_input.specs.declared.faults.WriteFault.TheVariants.{Failed, NoMemory as NoSpace}
use Rattle.swarm_lines.proofs.Telling.{IsTold}
use Rattle.swarm_lines.specs.Endings.{after_fault, after_journal, out_of_memory}
use Rattle.swarm_lines.specs.declared.endings.Ending.{Ending}
use Rattle.swarm_lines.specs.declared.endings.Ending.TheVariants.{Done, Refused, ReadFault, OutFault, JournalFault, NoMemory, NoMemoryAt, BadLine, Full}
use Rattle.swarm_objects.specs.Outside.{AppendsPrefix, PutsPiece, Rose}
use Rattle.swarm_objects.specs.declared.calls.Entry.{Entry}
use Rattle.swarm_replay.specs.Journal.{journal_text}
use Rattle.swarm_top.specs.Theorem.{HasCauseOf, PutsJournal}

-- what was put of it, and the cause of the ending
pub record IsJournaled (ending : Ending) (script out journal : Stream) (W : List Entry) : Type 0 where
  pub writes : PutsJournal ending journal W
  pub cause : HasCauseOf ending script out journal

-- it was written whole
written : (e : Ending) (a b : Option (List ℕ)) (m n : ℕ) (x z : Option (List ℕ)) (k j : ℕ) (p q : Option (List ℕ)) (u v : ℕ) (now W : List Entry) → IsTold e a b m n x z k j now →
    Appends p q (journal_text W) → IsJournaled e (stream_of a b m n) (stream_of x z k j) (stream_of p q u v) W
written Done a b m n x z k j p q u v now W told puts = record { writes = puts; cause = tt }
written Refused a b m n x z k j p q u v now W told puts = record { writes = puts; cause = tt }
written ReadFault a b m n x z k j p q u v now W told puts = record { writes = inl puts; cause = told.cause refl }
written OutFault a b m n x z k j p q u v now W told puts = record { writes = inl puts; cause = told.out_cause refl }
written NoMemory a b m n x z k j p q u v now W told puts = record { writes = prefix_all p q (journal_text W) puts; cause = tt }
written (NoMemoryAt number fault) a b m n x z k j p q u v now W told puts = record { writes = prefix_all p q (journal_text W) puts; cause = tt }
written (BadLine number fault) a b m n x z k j p q u v now W told puts = record { writes = inl puts; cause = tt }
written Full a b m n x z k j p q u v now W told puts = record { writes = inl puts; cause = tt }
written JournalFault a b m n x z k j p q u v now W told puts = absurd (told.other refl)

-- its sink failed
unwritten : (e : Ending) (a b : Option (List ℕ)) (m n : ℕ) (x z : Option (List ℕ)) (k j : ℕ) (p q : Option (List ℕ)) (u v : ℕ) (now W : List Entry) → IsTold e a b m n x z k j now →
    AppendsPrefix p q (journal_text W) → Rose u v → IsJournaled (after_fault e) (stream_of a b m n) (stream_of x z k j) (stream_of p q u v) W
unwritten Done a b m n x z k j p q u v now W told puts rose = record { writes = puts; cause = rose }
unwritten Refused a b m n x z k j p q u v now W told puts rose = record { writes = puts; cause = rose }
unwritten ReadFault a b m n x z k j p q u v now W told puts rose = record { writes = inr (rose, puts); cause = told.cause refl }
unwritten OutFault a b m n x z k j p q u v now W told puts rose = record { writes = inr (rose, puts); cause = told.out_cause refl }
unwritten NoMemory a b m n x z k j p q u v now W told puts rose = record { writes = puts; cause = tt }
unwritten (NoMemoryAt number fault) a b m n x z k j p q u v now W told puts rose = record { writes = puts; cause = tt }
unwritten (BadLine number fault) a b m n x z k j p q u v now W told puts rose = record { writes = inr (rose, puts); cause = tt }
unwritten Full a b m n x z k j p q u v now W told puts rose = record { writes = inr (rose, puts); cause = tt }
unwritten JournalFault a b m n x z k j p q u v now W told puts rose = absurd (told.other refl)

-- memory was wanting for it
unmade : (e : Ending) (a b : Option (List ℕ)) (m n : ℕ) (x z : Option (List ℕ)) (k j : ℕ) (p q : Option (List ℕ)) (u v : ℕ) (now W : List Entry) → IsTold e a b m n x z k j now →
    AppendsPrefix p q (journal_text W) → IsJournaled (out_of_memory e) (stream_of a b m n) (stream_of x z k j) (stream_of p q u v) W
unmade Done a b m n x z k j p q u v now W told puts = record { writes = puts; cause = tt }
unmade Refused a b m n x z k j p q u v now W told puts = record { writes = puts; cause = tt }
unmade ReadFault a b m n x z k j p q u v now W told puts = record { writes = puts; cause = tt }
unmade OutFault a b m n x z k j p q u v now W told puts = record { writes = puts; cause = tt }
unmade NoMemory a b m n x z k j p q u v now W told puts = record { writes = puts; cause = tt }
unmade (NoMemoryAt number fault) a b m n x z k j p q u v now W told puts = record { writes = puts; cause = tt }
unmade (BadLine number fault) a b m n x z k j p q u v now W told puts = record { writes = puts; cause = tt }
unmade Full a b m n x z k j p q u v now W told puts = record { writes = puts; cause = tt }
unmade JournalFault a b m n x z k j p q u v now W told puts = absurd (told.other refl)

pub journaled : (e : Ending) (r : Result (Unit {0}) WriteFault) (a b : Option (List ℕ)) (m n : ℕ) (x z : Option (List ℕ)) (k j : ℕ) (p q : Option (List ℕ)) (u v : ℕ) (now W : List Entry) → IsTold e a b m n x z k j now →
    PutsPiece p q (journal_text W) r → (r ≡ Err Failed → Rose u v) → IsJournaled (after_journal e r) (stream_of a b m n) (stream_of x z k j) (stream_of p q u v) W
journaled e (Ok done) a b m n x z k j p q u v now W told puts cause = written e a b m n x z k j p q u v now W told puts
journaled e (Err Failed) a b m n x z k j p q u v now W told puts cause = unwritten e a b m n x z k j p q u v now W told puts (cause refl)
journaled e (Err NoSpace) a b m n x z k j p q u v now W told puts cause = unmade e a b m n x z k j p q u v now W told puts

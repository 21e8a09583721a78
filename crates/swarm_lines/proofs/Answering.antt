-- What is put for the lines of a script.
use Rattle.std.proofs.Common.{◌≡◌, ℕ, ◌≤◌, ◌<◌, List, ◌++◌, take, Bool, true, false, ◌||◌, refl, Option, Some, Result, Err, sym, ◌∙◌, ap, subst, arith, ◌+◌}
use Rattle.std.specs.Io.KnownBytes.{Appends}
use Rattle.std.proofs.lemmas.List.{append-nil}
use Rattle.script_grammar.specs.declared.lines.Line.{Line}
use Rattle.swarm_input.proofs.Prefixes.{appends_more, prefix_all, prefix_of}
use Rattle.swarm_input.specs.Streams.{stream_of}
use Rattle.swarm_input.specs.declared.faults.Fault.{Fault}
use Rattle.swarm_input.specs.declared.input.ReadFault.TheVariants.{Failed, Bad, NoMemory}
use Rattle.swarm_input.specs.declared.input.ReadFault.{ReadFault}
use Rattle.swarm_lines.proofs.Coming.{own_came}
use Rattle.swarm_lines.proofs.Joining.{last_joins}
use Rattle.swarm_lines.proofs.Quiet.{out_append, quiet_undone, refused_append}
use Rattle.swarm_lines.proofs.Ways.{TakesWithin}
use Rattle.swarm_lines.specs.Came.{Came}
use Rattle.swarm_lines.specs.Endings.{ending_of, whole_ending}
use Rattle.swarm_lines.specs.Fitting.{AreFit}
use Rattle.swarm_lines.specs.Inside.LineSteps.{DoesLine, SaysLine}
use Rattle.swarm_lines.specs.Putting.{part_out, part_refused}
use Rattle.swarm_lines.specs.ScriptSteps.{IsRead, KeepsDone, KeepsFirstLinesOfScript, KeepsScript, PutsReadReplies}
use Rattle.swarm_lines.specs.Serial.{asked}
use Rattle.swarm_lines.specs.declared.endings.Ending.{Ending}
use Rattle.swarm_lines.specs.declared.endings.Ending.TheVariants.{Done, Refused, ReadFault as SourceFault, OutFault, JournalFault, NoMemory as NoRoom, NoMemoryAt, BadLine, Full}
use Rattle.swarm_model.specs.Own.{Step, own}
use Rattle.swarm_objects.specs.Outside.{AppendsPrefix, Rose}
use Rattle.swarm_objects.specs.declared.calls.Entry.{Entry}
use Rattle.swarm_world.specs.Work.{IsFull}

-- Counts.

pub rose_later : (a b c : ℕ) → a ≤ b → Rose b c → Rose a c
rose_later a b c h r = omega (arith, h, r)

-- a count that stood still
pub no_later : (a b : ℕ) → b ≡ a → a ≤ b
no_later a b e = omega (arith, e)

pub no_rise : (a b : ℕ) → b ≡ a → a < b → ⊥
no_rise a b e h = omega (arith, e, h)

pub risen_from : (a b c : ℕ) → b ≡ a → a < c → b < c
risen_from a b c e h = omega (arith, e, h)

pub risen_fault : {T : Type 0} (number : ℕ) (fault : ReadFault) (r : Result T ReadFault) → r ≡ Err fault →
    r ≡ Err Failed → ending_of number fault ≡ SourceFault
risen_fault {T} number Failed r e h = refl
risen_fault {T} number (Bad fault) r e h = cc
risen_fault {T} number NoMemory r e h = cc

pub same_ending : {T : Type 0} (ending : Ending) (r : Result T Ending) → r ≡ Err ending → r ≡ Err OutFault →
    ending ≡ OutFault
same_ending {T} ending r e h = cc

-- What is put.

out_came : (H G : List Entry) (part : List Step) → Came H G part →
    part_out (own 0 G) ≡ part_out (own 0 H) ++ part_out part
out_came H G part c = ap part_out (own_came H G part c) ∙ out_append (own 0 H) part

-- after the whole script
pub whole_answers : (refused : Bool) (a b : Option (List ℕ)) (m n : ℕ) (H : List Entry) →
    refused ≡ part_refused (own 0 H) → Appends a b (part_out (own 0 H)) →
    PutsReadReplies (whole_ending refused) (stream_of a b m n) H
whole_answers true a b m n H e puts = (puts, sym e)
whole_answers false a b m n H e puts = (puts, sym e)

-- at a fault of the reader
pub reader_answers : (number : ℕ) (fault : ReadFault) (a b : Option (List ℕ)) (m n : ℕ) (H : List Entry) →
    Appends a b (part_out (own 0 H)) → PutsReadReplies (ending_of number fault) (stream_of a b m n) H
reader_answers number Failed a b m n H puts = puts
reader_answers number (Bad fault) a b m n H puts = puts
reader_answers number NoMemory a b m n H puts = prefix_all a b (part_out (own 0 H)) puts

-- at a line whose text can't be read
pub text_answers : (number : ℕ) (meaning : Result Line Fault) (ending : Ending) (a b : Option (List ℕ)) (m n : ℕ)
    (H : List Entry) → SaysLine number meaning (Err ending) → Appends a b (part_out (own 0 H)) →
    PutsReadReplies ending (stream_of a b m n) H
text_answers number meaning (BadLine k fault) a b m n H says puts = puts
text_answers number meaning NoRoom a b m n H says puts = prefix_all a b (part_out (own 0 H)) puts
text_answers number meaning Done a b m n H says puts = absurd says
text_answers number meaning Refused a b m n H says puts = absurd says
text_answers number meaning SourceFault a b m n H says puts = absurd says
text_answers number meaning OutFault a b m n H says puts = absurd says
text_answers number meaning JournalFault a b m n H says puts = absurd says
text_answers number meaning Full a b m n H says puts = absurd says
text_answers number meaning (NoMemoryAt k fault) a b m n H says puts = absurd says

-- at a line that ends the run
pub line_answers : (ending : Ending) (done : List Line) (line : Line) (H G : List Entry) (a b c : Option (List ℕ))
    (k m n : ℕ) → KeepsDone done H → DoesLine (Err ending) line H G b c → Appends a b (part_out (own 0 H)) → k ≤ m →
    (ending ≡ OutFault → Rose m n) → PutsReadReplies ending (stream_of a c k n) G
line_answers OutFault done line H G a b c k m n keeps does puts later cause = (
  record {
    done = done;
    last = line;
    earlier = own 0 H;
    later = does.0;
    keeps = last_joins done line H G does.0 does.1.came keeps does.1.keeps;
    puts = (
      does.2.0,
      appends_more a b c (part_out (own 0 H)) (take does.2.0 (part_out does.0)) puts does.2.1,
    );
  },
  rose_later k m n later (cause refl),
)
line_answers NoRoom done line H G a b c k m n keeps does puts later cause =
    let same : Appends a c (part_out (own 0 H)) =
    subst (λ (o : Option (List ℕ)). Appends a o (part_out (own 0 H))) (sym does.3) puts in
    subst (AppendsPrefix a c) (sym (out_came H G does.0 does.1))
    (prefix_of a c (part_out (own 0 H)) (part_out does.0) (prefix_all a c (part_out (own 0 H)) same))
line_answers Full done line H G a b c k m n keeps does puts later cause =
    let same : Appends a c (part_out (own 0 H)) =
    subst (λ (o : Option (List ℕ)). Appends a o (part_out (own 0 H))) (sym does.4) puts in
    subst (Appends a c)
    (sym (out_came H G does.0 does.1
    ∙ ap (λ (l : List ℕ). part_out (own 0 H) ++ l) (quiet_undone G (Some (asked line)) does.0 does.2)
    ∙ append-nil (part_out (own 0 H)))) same
line_answers Done done line H G a b c k m n keeps does puts later cause = absurd does
line_answers Refused done line H G a b c k m n keeps does puts later cause = absurd does
line_answers SourceFault done line H G a b c k m n keeps does puts later cause = absurd does
line_answers JournalFault done line H G a b c k m n keeps does puts later cause = absurd does
line_answers (NoMemoryAt number fault) done line H G a b c k m n keeps does puts later cause = absurd does
line_answers (BadLine number fault) done line H G a b c k m n keeps does puts later cause = absurd does

-- a line more was answered
pub out_line : (a b c : Option (List ℕ)) (H G : List Entry) (part : List Step) → Came H G part →
    Appends a b (part_out (own 0 H)) → Appends b c (part_out part) → Appends a c (part_out (own 0 G))
out_line a b c H G part came puts more =
    subst (Appends a c) (sym (out_came H G part came))
    (appends_more a b c (part_out (own 0 H)) (part_out part) puts more)

pub refused_line : (refused answer : Bool) (H G : List Entry) (part : List Step) → Came H G part →
    refused ≡ part_refused (own 0 H) → answer ≡ part_refused part → (refused || answer) ≡ part_refused (own 0 G)
refused_line refused answer H G part came e f =
    ap (λ (b : Bool). b || answer) e
    ∙ ap (λ (b : Bool). part_refused (own 0 H) || b) f
    ∙ sym (ap part_refused (own_came H G part came) ∙ refused_append (own 0 H) part)

-- Causes.

-- a line doesn't fail the source
pub line_cause : (ending : Ending) (line : Line) (H G : List Entry) (b c : Option (List ℕ)) →
    DoesLine (Err ending) line H G b c → ending ≡ SourceFault → ⊥
line_cause OutFault line H G b c does e = cc
line_cause NoRoom line H G b c does e = cc
line_cause Full line H G b c does e = cc
line_cause Done line H G b c does e = absurd does
line_cause Refused line H G b c does e = absurd does
line_cause SourceFault line H G b c does e = absurd does
line_cause JournalFault line H G b c does e = absurd does
line_cause (NoMemoryAt number fault) line H G b c does e = absurd does
line_cause (BadLine number fault) line H G b c does e = absurd does

-- only a failure of the source ends the run so
pub ending_failed : (number : ℕ) (fault : ReadFault) → ending_of number fault ≡ SourceFault → fault ≡ Failed
ending_failed number Failed e = refl
ending_failed number (Bad fault) e = cc
ending_failed number NoMemory e = cc

pub text_cause : (number : ℕ) (meaning : Result Line Fault) (ending : Ending) → SaysLine number meaning (Err ending) →
    ending ≡ SourceFault → ⊥
text_cause number meaning (BadLine k fault) says e = cc
text_cause number meaning NoRoom says e = cc
text_cause number meaning Done says e = absurd says
text_cause number meaning Refused says e = absurd says
text_cause number meaning SourceFault says e = absurd says
text_cause number meaning OutFault says e = absurd says
text_cause number meaning JournalFault says e = absurd says
text_cause number meaning Full says e = absurd says
text_cause number meaning (NoMemoryAt k fault) says e = absurd says

-- the history is full only where a line says so
pub line_full : (ending : Ending) (line : Line) (H G : List Entry) (b c : Option (List ℕ)) →
    DoesLine (Err ending) line H G b c → ending ≡ Full → IsFull G
line_full Full line H G b c does e = does.3
line_full OutFault line H G b c does e = cc
line_full NoRoom line H G b c does e = cc
line_full Done line H G b c does e = absurd does
line_full Refused line H G b c does e = absurd does
line_full SourceFault line H G b c does e = absurd does
line_full JournalFault line H G b c does e = absurd does
line_full (NoMemoryAt number fault) line H G b c does e = absurd does
line_full (BadLine number fault) line H G b c does e = absurd does

pub reader_full : (number : ℕ) (fault : ReadFault) → ending_of number fault ≡ Full → ⊥
reader_full number Failed e = cc
reader_full number (Bad fault) e = cc
reader_full number NoMemory e = cc

pub text_full : (number : ℕ) (meaning : Result Line Fault) (ending : Ending) → SaysLine number meaning (Err ending) →
    ending ≡ Full → ⊥
text_full number meaning (BadLine k fault) says e = cc
text_full number meaning NoRoom says e = cc
text_full number meaning Done says e = absurd says
text_full number meaning Refused says e = absurd says
text_full number meaning SourceFault says e = absurd says
text_full number meaning OutFault says e = absurd says
text_full number meaning JournalFault says e = absurd says
text_full number meaning Full says e = absurd says
text_full number meaning (NoMemoryAt k fault) says e = absurd says

pub whole_full : (refused : Bool) → whole_ending refused ≡ Full → ⊥
whole_full true e = cc
whole_full false e = cc

pub whole_cause : (refused : Bool) → whole_ending refused ≡ SourceFault → ⊥
whole_cause true e = cc
whole_cause false e = cc

-- the parts of a reading, joined
pub is_read : (e ending : Ending) (a b : Option (List ℕ)) (m n : ℕ) (x y : Option (List ℕ)) (k l : ℕ) (H : List Entry) →
    e ≡ ending → KeepsScript ending a b H → KeepsFirstLinesOfScript a H → AreFit (own 0 H) →
    PutsReadReplies ending (stream_of x y k l) H → TakesWithin a b → (ending ≡ SourceFault → Rose m n) → k ≤ l →
    (ending ≡ Full → IsFull H) → (m < n → ending ≡ SourceFault) → (k < l → ending ≡ OutFault) →
    IsRead e (stream_of a b m n) (stream_of x y k l) H
is_read e ending a b m n x y k l H is lines some fit answers takes cause later full script_risen out_risen =
    subst (λ (d : Ending). IsRead d (stream_of a b m n) (stream_of x y k l) H) (sym is) (record {
      lines = lines;
      some = some;
      fit = fit;
      answers = answers;
      takes = takes;
      cause = cause;
      later = later;
      full = full;
      script_risen = script_risen;
      out_risen = out_risen;
    })

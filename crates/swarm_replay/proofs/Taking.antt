-- The line of an entry, read and done.
use Rattle.std.proofs.Common.{◌≡◌, ◌⊎◌, inl, inr, ℕ, List, true, Result, Ok, Err, sym, ◌∙◌, ap}
use Rattle.std.specs.Prelude.{IfOk}
use Rattle.swarm_objects.specs.World.{World}
use Rattle.swarm_objects.specs.declared.calls.Entry.{Entry}
use Rattle.script_grammar.specs.Entries.{entry_meaning}
use Rattle.script_grammar.specs.HasText.{has_text}
use Rattle.script_grammar.specs.declared.lines.LineFault.{LineFault}
use Rattle.script_grammar.specs.declared.lines.LineFault.TheVariants as fault
use Rattle.script_grammar.specs.Texts.{entry_text}
use Rattle.swarm_replay.specs.Inside.ReplaySteps.{DoesRead, TakesEntry}
use Rattle.swarm_replay.specs.declared.verdicts.EntryFault.TheVariants.{Head, Size, Text}
use Rattle.swarm_replay.specs.declared.verdicts.Verdict.{Verdict}
use Rattle.swarm_replay.specs.declared.verdicts.Verdict.TheVariants.{Legal, Illegal, BadLine, ReadFault, NoMemory}

abbrev pub ReadsAs : List ℕ → Result Entry LineFault → Type 0
ReadsAs line read = (read ≡ entry_meaning line) ⊎ (read ≡ Err fault.NoMemory)

-- the meaning of a line that was read
pub meaning_is : (line : List ℕ) (entry : Entry) → ReadsAs line (Ok entry) → entry_meaning line ≡ Ok entry
meaning_is line entry (inl h) = sym h
meaning_is line entry (inr h) = cc

-- that of a line that can't be read
fault_is : (line : List ℕ) (why : LineFault) → ReadsAs line (Err why) → (why ≡ fault.NoMemory → ⊥) → entry_meaning line ≡ Err why
fault_is line why (inl h) other = sym h
fault_is line why (inr h) other = absurd (other cc)

pub takes_entry : (count : ℕ) (before after : World) (line : List ℕ) (read : Result Entry LineFault) (result : Result (Unit {0}) Verdict) →
    ReadsAs line read → IfOk read (λ entry. line ≡ entry_text entry) → IfOk read (λ entry. has_text entry ≡ true) →
    DoesRead count before read result after → TakesEntry count before line result after
takes_entry count before after line (Ok entry) (Ok done) reads one text does =
    (entry, meaning_is line entry reads, one, text, does.0, does.1)
takes_entry count before after line (Ok entry) (Err (Illegal number)) reads one text does =
    (does.0, (entry, meaning_is line entry reads, does.1))
takes_entry count before after line (Ok entry) (Err NoMemory) reads one text does = tt
takes_entry count before after line (Ok entry) (Err (BadLine number fault)) reads one text does = absurd does
takes_entry count before after line (Ok entry) (Err ReadFault) reads one text does = absurd does
takes_entry count before after line (Ok entry) (Err (Legal number)) reads one text does = absurd does
takes_entry count before after line (Err why) (Err (BadLine number (Text found))) reads one text does =
    (does.0, fault_is line why reads does.2 ∙ ap (λ f. Err f) (sym does.1))
takes_entry count before after line (Err why) (Err NoMemory) reads one text does = tt
takes_entry count before after line (Err why) (Ok done) reads one text does = absurd does
takes_entry count before after line (Err why) (Err (BadLine number Head)) reads one text does = absurd does
takes_entry count before after line (Err why) (Err (BadLine number Size)) reads one text does = absurd does
takes_entry count before after line (Err why) (Err ReadFault) reads one text does = absurd does
takes_entry count before after line (Err why) (Err (Illegal number)) reads one text does = absurd does
takes_entry count before after line (Err why) (Err (Legal number)) reads one text does = absurd does

-- How the reading ended, told, and what Halt leaves of what was put.
use Rattle.std.proofs.Common.{◌≡◌, ℕ, ◌≤◌, ◌<◌, inl, inr, List, [], ◌∷◌, ◌++◌, take, Bool, true, false, ◌||◌, refl, Option, Some, None, sym, ◌∙◌, ap, subst}
use Rattle.std.proofs.lemmas.List.{append-nil}
use Rattle.std.specs.Io.KnownBytes.{Appends}
use Rattle.std.specs.List.{list_any}
use Rattle.std.specs.Prelude.{⊤}
use Rattle.swarm_input.proofs.Prefixes.{appends_more, then_none}
use Rattle.swarm_input.specs.Script.{bad_line}
use Rattle.swarm_input.specs.Streams.{PutsBoth, PutsPrefix, PutsThenPrefix, PutsUnlessFailed, Puts, Stream, stream_of}
use Rattle.swarm_input.specs.declared.faults.Fault.{Fault}
use Rattle.swarm_lines.proofs.Answering.{rose_later}
use Rattle.swarm_lines.proofs.Coming.{own_came}
use Rattle.swarm_lines.proofs.Quiet.{out_append, refused_append}
use Rattle.swarm_lines.specs.Callers.{PutsOf, output}
use Rattle.swarm_lines.specs.Came.{Stays}
use Rattle.swarm_lines.specs.Endings.{TellsEnding}
use Rattle.swarm_lines.specs.Putting.{part_out, part_refused, texts_of}
use Rattle.swarm_lines.specs.ScriptSteps.{IsRead, KeepsScript, PutsToLast}
use Rattle.swarm_lines.specs.Serial.{is_refused}
use Rattle.swarm_lines.specs.declared.endings.Ending.{Ending}
use Rattle.swarm_lines.specs.declared.endings.Ending.TheVariants.{Done, Refused, ReadFault, OutFault, JournalFault, NoMemory, NoMemoryAt, BadLine, Full}
use Rattle.swarm_model.specs.Own.{Step, own, own_replies, step_at}
use Rattle.swarm_model.specs.Script.{own_call}
use Rattle.swarm_objects.specs.Outside.{Rose}
use Rattle.swarm_objects.specs.declared.calls.Call.TheVariants.{Halt}
use Rattle.swarm_objects.specs.declared.calls.Entry.{Entry}
use Rattle.swarm_objects.specs.declared.replies.Reply.{Reply}
use Rattle.swarm_world.specs.Work.{IsFull}

-- the sink after the bad line, where that was put as far as the sink took it
bad_put : (x y z : Option (List ℕ)) (k l j : ℕ) (H : List Entry) (number : ℕ) (fault : Fault) → Appends x y (part_out (own 0 H)) → k ≤ l → PutsUnlessFailed (stream_of y z l j) (bad_line number fault) →
    PutsBoth (stream_of x z k j) (part_out (own 0 H)) (bad_line number fault)
bad_put x y z k l j H number fault puts later tells = elim tells [
  | inl whole ↦ inl (appends_more x y z (part_out (own 0 H)) (bad_line number fault) puts whole)
  | inr part ↦ inr (rose_later k l j later part.0, (part.1.0, appends_more x y z (part_out (own 0 H)) (take part.1.0 (bad_line number fault)) puts part.1.1))
]

-- the endings before which the sink of the replies may have failed
abbrev pub FailsOut : Ending → Type 0
FailsOut OutFault = ⊤
FailsOut (BadLine number fault) = ⊤
FailsOut Done = ⊥
FailsOut Refused = ⊥
FailsOut ReadFault = ⊥
FailsOut JournalFault = ⊥
FailsOut NoMemory = ⊥
FailsOut (NoMemoryAt number fault) = ⊥
FailsOut Full = ⊥

-- how the reading ended was told
pub record IsTold (ending : Ending) (a b : Option (List ℕ)) (m n : ℕ) (x z : Option (List ℕ)) (k j : ℕ) (H : List Entry) : Type 0 where
  pub lines : KeepsScript ending a b H
  pub answers : PutsOf ending (stream_of x z k j) (own_replies 0 H) (PutsToLast (stream_of x z k j) H)
  pub cause : ending ≡ ReadFault → Rose m n
  pub out_cause : ending ≡ OutFault → Rose k j
  pub other : ending ≡ JournalFault → ⊥
  pub full : ending ≡ Full → IsFull H
  pub script_risen : m < n → ending ≡ ReadFault
  pub out_risen : k < j → FailsOut ending

other_fault : (number : ℕ) (fault : Fault) → BadLine number fault ≡ ReadFault → ⊥
other_fault number fault e = cc

other_out : (number : ℕ) (fault : Fault) → BadLine number fault ≡ OutFault → ⊥
other_out number fault e = cc

told_done : (a b : Option (List ℕ)) (m n : ℕ) (x y : Option (List ℕ)) (k l : ℕ) (H : List Entry) → IsRead Done (stream_of a b m n) (stream_of x y k l) H → IsTold Done a b m n x y k l H
told_done a b m n x y k l H read = record {
  lines = read.lines;
  answers = (read.answers.0, read.answers.1);
  cause = λ e. cc;
  out_cause = λ e. cc;
  other = λ e. cc;
  full = λ e. cc;
  script_risen = read.script_risen;
  out_risen = λ h. subst FailsOut (sym (read.out_risen h)) tt;
}

told_refused : (a b : Option (List ℕ)) (m n : ℕ) (x y : Option (List ℕ)) (k l : ℕ) (H : List Entry) → IsRead Refused (stream_of a b m n) (stream_of x y k l) H → IsTold Refused a b m n x y k l H
told_refused a b m n x y k l H read = record {
  lines = read.lines;
  answers = (read.answers.0, read.answers.1);
  cause = λ e. cc;
  out_cause = λ e. cc;
  other = λ e. cc;
  full = λ e. cc;
  script_risen = read.script_risen;
  out_risen = λ h. subst FailsOut (sym (read.out_risen h)) tt;
}

told_read_fault : (a b : Option (List ℕ)) (m n : ℕ) (x y : Option (List ℕ)) (k l : ℕ) (H : List Entry) → IsRead ReadFault (stream_of a b m n) (stream_of x y k l) H → IsTold ReadFault a b m n x y k l H
told_read_fault a b m n x y k l H read = record {
  lines = read.lines;
  answers = read.answers;
  cause = λ e. read.cause refl;
  out_cause = λ e. cc;
  other = λ e. cc;
  full = λ e. cc;
  script_risen = read.script_risen;
  out_risen = λ h. subst FailsOut (sym (read.out_risen h)) tt;
}

told_full : (a b : Option (List ℕ)) (m n : ℕ) (x y : Option (List ℕ)) (k l : ℕ) (H : List Entry) → IsRead Full (stream_of a b m n) (stream_of x y k l) H → IsTold Full a b m n x y k l H
told_full a b m n x y k l H read = record {
  lines = read.lines;
  answers = read.answers;
  cause = λ e. cc;
  out_cause = λ e. cc;
  other = λ e. cc;
  full = λ e. read.full refl;
  script_risen = read.script_risen;
  out_risen = λ h. subst FailsOut (sym (read.out_risen h)) tt;
}

told_out_fault : (a b : Option (List ℕ)) (m n : ℕ) (x y : Option (List ℕ)) (k l : ℕ) (H : List Entry) → IsRead OutFault (stream_of a b m n) (stream_of x y k l) H → IsTold OutFault a b m n x y k l H
told_out_fault a b m n x y k l H read = record {
  lines = read.lines;
  answers = read.answers.0;
  cause = λ e. cc;
  out_cause = λ e. read.answers.1;
  other = λ e. cc;
  full = λ e. cc;
  script_risen = read.script_risen;
  out_risen = λ h. tt;
}

told_no_memory : (a b : Option (List ℕ)) (m n : ℕ) (x y : Option (List ℕ)) (k l : ℕ) (H : List Entry) → IsRead NoMemory (stream_of a b m n) (stream_of x y k l) H → IsTold NoMemory a b m n x y k l H
told_no_memory a b m n x y k l H read = record {
  lines = read.lines;
  answers = read.answers;
  cause = λ e. cc;
  out_cause = λ e. cc;
  other = λ e. cc;
  full = λ e. cc;
  script_risen = read.script_risen;
  out_risen = λ h. subst FailsOut (sym (read.out_risen h)) tt;
}

told_bad : (a b : Option (List ℕ)) (m n : ℕ) (x y z : Option (List ℕ)) (k l j : ℕ) (H : List Entry) (number : ℕ) (fault : Fault) → IsRead (BadLine number fault) (stream_of a b m n) (stream_of x y k l) H →
    PutsUnlessFailed (stream_of y z l j) (bad_line number fault) → IsTold (BadLine number fault) a b m n x z k j H
told_bad a b m n x y z k l j H number fault read tells = record {
  lines = read.lines;
  answers = bad_put x y z k l j H number fault read.answers read.later tells;
  cause = λ e. cc;
  out_cause = λ e. cc;
  other = λ e. cc;
  full = λ e. cc;
  script_risen = λ h. absurd (other_fault number fault (read.script_risen h));
  out_risen = λ h. tt;
}

pub as_unsaid : (a b : Option (List ℕ)) (W : List Entry) (number : ℕ) (fault : Fault) → KeepsScript (BadLine number fault) a b W → KeepsScript (NoMemoryAt number fault) a b W
as_unsaid None b W number fault h = tt
as_unsaid (Some input) None W number fault h = absurd h
as_unsaid (Some input) (Some left) W number fault h = h

unsaid_is : (number i : ℕ) (fault f : Fault) → i ≡ number → f ≡ fault → NoMemoryAt i f ≡ NoMemoryAt number fault
unsaid_is number i fault f e h = cc

told_unsaid : (a b : Option (List ℕ)) (m n : ℕ) (x y : Option (List ℕ)) (k l : ℕ) (H : List Entry) (number : ℕ) (fault : Fault) → IsRead (BadLine number fault) (stream_of a b m n) (stream_of x y k l) H →
    IsTold (NoMemoryAt number fault) a b m n x y k l H
told_unsaid a b m n x y k l H number fault read = record {
  lines = as_unsaid a b H number fault read.lines;
  answers = (0, then_none x y (part_out (own 0 H)) (bad_line number fault) read.answers);
  cause = λ e. cc;
  out_cause = λ e. cc;
  other = λ e. cc;
  full = λ e. cc;
  script_risen = λ h. absurd (other_fault number fault (read.script_risen h));
  out_risen = λ h. absurd (other_out number fault (read.out_risen h));
}

same_told : (e d : Ending) (a b : Option (List ℕ)) (m n : ℕ) (x y z : Option (List ℕ)) (k l j : ℕ) (H : List Entry) → IsTold e a b m n x y k l H → d ≡ e → z ≡ y → j ≡ l → IsTold d a b m n x z k j H
same_told e d a b m n x y z k l j H told same_ending same_bytes same_faults =
    subst (λ (c : Ending). IsTold c a b m n x z k j H) (sym same_ending)
    (subst (λ (c : Option (List ℕ)). IsTold e a b m n x c k j H) (sym same_bytes) (subst (λ (c : ℕ). IsTold e a b m n x y k c H) (sym same_faults) told))

pub told : (e d : Ending) (a b : Option (List ℕ)) (m n : ℕ) (x y z : Option (List ℕ)) (k l j : ℕ) (H : List Entry) → IsRead e (stream_of a b m n) (stream_of x y k l) H → TellsEnding e d (stream_of y z l j) → IsTold d a b m n x z k j H
told Done d a b m n x y z k l j H read tells = same_told Done d a b m n x y z k l j H (told_done a b m n x y k l H read) tells.0 tells.1 tells.2
told Refused d a b m n x y z k l j H read tells = same_told Refused d a b m n x y z k l j H (told_refused a b m n x y k l H read) tells.0 tells.1 tells.2
told ReadFault d a b m n x y z k l j H read tells = same_told ReadFault d a b m n x y z k l j H (told_read_fault a b m n x y k l H read) tells.0 tells.1 tells.2
told Full d a b m n x y z k l j H read tells = same_told Full d a b m n x y z k l j H (told_full a b m n x y k l H read) tells.0 tells.1 tells.2
told OutFault d a b m n x y z k l j H read tells = same_told OutFault d a b m n x y z k l j H (told_out_fault a b m n x y k l H read) tells.0 tells.1 tells.2
told NoMemory d a b m n x y z k l j H read tells = same_told NoMemory d a b m n x y z k l j H (told_no_memory a b m n x y k l H read) tells.0 tells.1 tells.2
told JournalFault d a b m n x y z k l j H read tells = absurd read.answers
told (NoMemoryAt number fault) d a b m n x y z k l j H read tells = absurd read.answers
told (BadLine number fault) (BadLine i f) a b m n x y z k l j H read tells =
    subst (λ (q : ℕ). IsTold (BadLine q f) a b m n x z k j H) (sym tells.0)
    (subst (λ (g : Fault). IsTold (BadLine number g) a b m n x z k j H) (sym tells.1) (told_bad a b m n x y z k l j H number fault read tells.2))
told (BadLine number fault) (NoMemoryAt i f) a b m n x y z k l j H read tells =
    same_told (NoMemoryAt number fault) (NoMemoryAt i f) a b m n x y z k l j H (told_unsaid a b m n x y k l H number fault read) (unsaid_is number i fault f tells.0 tells.1) tells.2 tells.3
told (BadLine number fault) Done a b m n x y z k l j H read tells = let no : Done ≡ BadLine number fault = tells.0 in cc
told (BadLine number fault) Refused a b m n x y z k l j H read tells = let no : Refused ≡ BadLine number fault = tells.0 in cc
told (BadLine number fault) ReadFault a b m n x y z k l j H read tells = let no : ReadFault ≡ BadLine number fault = tells.0 in cc
told (BadLine number fault) OutFault a b m n x y z k l j H read tells = let no : OutFault ≡ BadLine number fault = tells.0 in cc
told (BadLine number fault) JournalFault a b m n x y z k l j H read tells = let no : JournalFault ≡ BadLine number fault = tells.0 in cc
told (BadLine number fault) NoMemory a b m n x y z k l j H read tells = let no : NoMemory ≡ BadLine number fault = tells.0 in cc
told (BadLine number fault) Full a b m n x y z k l j H read tells = let no : Full ≡ BadLine number fault = tells.0 in cc

-- Halt behind what was read puts nothing out, and is not refused.

pub own_halted : (now start : List Entry) → Stays now start →
    own 0 (start ++ own_call Halt ∷ []) ≡ own 0 now ++ step_at start (own_call Halt) ∷ []
own_halted now start s =
    own_came start (start ++ own_call Halt ∷ []) (step_at start (own_call Halt) ∷ [])
    (record { rest = own_call Halt ∷ []; history = refl; steps = refl })
    ∙ ap (λ (l : List Step). l ++ step_at start (own_call Halt) ∷ []) (own_came now start [] s ∙ append-nil (own 0 now))

out_halted : (now start : List Entry) → Stays now start →
    output (start ++ own_call Halt ∷ []) ≡ part_out (own 0 now)
out_halted now start s =
    ap part_out (own_halted now start s)
    ∙ out_append (own 0 now) (step_at start (own_call Halt) ∷ [])
    ∙ append-nil (part_out (own 0 now))

or_false : (b : Bool) → (b || false) ≡ b
or_false true = refl
or_false false = refl

refused_halted : (now start : List Entry) → Stays now start →
    list_any is_refused (own_replies 0 (start ++ own_call Halt ∷ [])) ≡ part_refused (own 0 now)
refused_halted now start s =
    ap part_refused (own_halted now start s)
    ∙ refused_append (own 0 now) (step_at start (own_call Halt) ∷ [])
    ∙ or_false (part_refused (own 0 now))

-- the same was put, of replies with the same texts
puts_same : (e : Ending) (out : Stream) (rs ts : List Reply) (C D : Type 0) → texts_of ts ≡ texts_of rs →
    list_any is_refused ts ≡ list_any is_refused rs → (C → D) → PutsOf e out rs C → PutsOf e out ts D
puts_same Done out rs ts C D same goes cut puts = (subst (Puts out) (sym same) puts.0, goes ∙ puts.1)
puts_same Refused out rs ts C D same goes cut puts = (subst (Puts out) (sym same) puts.0, goes ∙ puts.1)
puts_same ReadFault out rs ts C D same goes cut puts = subst (Puts out) (sym same) puts
puts_same JournalFault out rs ts C D same goes cut puts = subst (Puts out) (sym same) puts
puts_same Full out rs ts C D same goes cut puts = subst (Puts out) (sym same) puts
puts_same (BadLine number fault) out rs ts C D same goes cut puts =
    subst (λ (t : List ℕ). PutsBoth out t (bad_line number fault)) (sym same) puts
puts_same OutFault out rs ts C D same goes cut puts = cut puts
puts_same NoMemory out rs ts C D same goes cut puts = subst (PutsPrefix out) (sym same) puts
puts_same (NoMemoryAt number fault) out rs ts C D same goes cut puts =
    subst (λ (t : List ℕ). PutsThenPrefix out t (bad_line number fault)) (sym same) puts

pub puts_halted : (e : Ending) (out : Stream) (now start : List Entry) (D : Type 0) → Stays now start →
    (PutsToLast out now → D) → PutsOf e out (own_replies 0 now) (PutsToLast out now) →
    PutsOf e out (own_replies 0 (start ++ own_call Halt ∷ [])) D
puts_halted e out now start D s cut puts =
    puts_same e out (own_replies 0 now) (own_replies 0 (start ++ own_call Halt ∷ [])) (PutsToLast out now) D
    (out_halted now start s) (refused_halted now start s) cut puts

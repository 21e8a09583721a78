-- The line of an entry: read, done, told and put.
use Rattle.std.proofs.Common.{◌≡◌, ℕ, ◌+◌, ◌<◌, ◌≤◌, length, List, [], ◌∷◌, ◌++◌, true, Result, Ok, Err, Option, sym, ◌∙◌, ap, subst, append_assoc, arith}
use Rattle.std.specs.Prelude.{IfOk}
use Rattle.std.proofs.lemmas.List.{append-nil}
use Rattle.events_text.specs.Lines.{entry_line, event_lines, lines_from}
use Rattle.events_top.specs.Inside.Steps.{IsBehind, IsKept, PutsTold, TellsEntry, TellsJournal, TellsLine, TellsRead}
use Rattle.events_top.specs.declared.endings.Ending.{Ending}
use Rattle.events_top.specs.declared.endings.Ending.TheVariants.{Judged, OutFault}
use Rattle.script_grammar.specs.HasText.{has_text}
use Rattle.script_grammar.specs.Texts.{entry_text}
use Rattle.script_grammar.specs.declared.lines.LineFault.{LineFault}
use Rattle.events_top.proofs.BreakingOff.{breaks_off}
use Rattle.swarm_input.proofs.Prefixes.{appends_more, prefix_more}
use Rattle.swarm_objects.specs.Outside.{AppendsPrefix, Rose}
use Rattle.swarm_input.specs.Held.{HeldBytes}
use Rattle.swarm_input.specs.Streams.{Puts, Stream, stream_of}
use Rattle.swarm_model.specs.History.{replay, replay_from, step_world}
use Rattle.swarm_objects.specs.World.{World, empty_world}
use Rattle.swarm_objects.specs.declared.calls.Entry.{Entry}
use Rattle.swarm_replay.proofs.Judged.{line_ends}
use Rattle.swarm_replay.proofs.Judging.{goes_on}
use Rattle.swarm_replay.proofs.Taking.{ReadsAs, meaning_is, takes_entry}
use Rattle.swarm_replay.specs.Inside.JournalBuffer.{GivesBytes}
use Rattle.swarm_replay.specs.Inside.ReplaySteps.{EndsAtHead, EndsFull, IsReplaying, TakesEntry, stopped}
use Rattle.swarm_replay.specs.declared.entry_lines.Stop.{Stop}
use Rattle.swarm_replay.specs.declared.entry_lines.Stop.TheVariants as stop
use Rattle.swarm_replay.specs.declared.verdicts.EntryFault.TheVariants.{Head, Size, Text}
use Rattle.swarm_replay.specs.declared.verdicts.Verdict.{Verdict}
use Rattle.swarm_replay.specs.declared.verdicts.Verdict.TheVariants.{Legal, Illegal, BadLine, ReadFault, NoMemory}

-- Lines of histories.

lines-snoc : (w : World) (H : List Entry) (e : Entry) → lines_from w (H ++ e ∷ []) ≡ lines_from w H ++ entry_line (replay_from w H) e
lines-snoc w [] e = append-nil (entry_line w e)
lines-snoc w (d ∷ H) e =
    ap (λ (t : List ℕ). entry_line w d ++ t) (lines-snoc (step_world w d) H e)
    ∙ sym (append_assoc (entry_line w d) (lines_from (step_world w d) H) (entry_line (replay_from (step_world w d) H) e))

-- one line more
pub one_more : (H : List Entry) (e : Entry) (w : World) (text : List ℕ) → w ≡ replay H → text ≡ entry_line w e →
    event_lines H ++ text ≡ event_lines (H ++ e ∷ [])
one_more H e w text world is =
    ap (λ (t : List ℕ). event_lines H ++ t) (is ∙ ap (λ (u : World). entry_line u e) world) ∙ sym (lines-snoc empty_world H e)

-- An entry.

pub tells_entry : (count : ℕ) (w before after : World) (line : List ℕ) (read : Result Entry LineFault)
    (result : Result (List ℕ) Verdict) → ReadsAs line read → IfOk read (λ entry. line ≡ entry_text entry) →
    IfOk read (λ entry. has_text entry ≡ true) → TellsRead count w read result before after →
    TellsEntry count w line result before after
tells_entry count w before after line (Ok e) (Ok text) reads one has does = record {
  entry = e;
  means = meaning_is line e reads;
  one = one;
  has = has;
  may = does.0;
  after_is = does.1;
  before_is = does.2;
  text_is = does.3;
}
tells_entry count w before after line (Ok e) (Err (Illegal number)) reads one has does =
    (takes_entry count w after line (Ok e) (Err (Illegal number)) reads one has (does.0, does.1), does.2)
tells_entry count w before after line (Ok e) (Err NoMemory) reads one has does = (tt, tt)
tells_entry count w before after line (Ok e) (Err (Legal number)) reads one has does = absurd does
tells_entry count w before after line (Ok e) (Err (BadLine number fault)) reads one has does = absurd does
tells_entry count w before after line (Ok e) (Err ReadFault) reads one has does = absurd does
tells_entry count w before after line (Err why) (Err (BadLine number (Text found))) reads one has does =
    (takes_entry count w after line (Err why) (Err (BadLine number (Text found))) reads one has does, tt)
tells_entry count w before after line (Err why) (Err NoMemory) reads one has does = (tt, tt)
tells_entry count w before after line (Err why) (Ok text) reads one has does = absurd does
tells_entry count w before after line (Err why) (Err (BadLine number Head)) reads one has does = absurd does
tells_entry count w before after line (Err why) (Err (BadLine number Size)) reads one has does = absurd does
tells_entry count w before after line (Err why) (Err ReadFault) reads one has does = absurd does
tells_entry count w before after line (Err why) (Err (Illegal number)) reads one has does = absurd does
tells_entry count w before after line (Err why) (Err (Legal number)) reads one has does = absurd does

pub tells_line : (count : ℕ) (w before after : World) (line : List ℕ) (told : Result (List ℕ) Verdict)
    (done : Result (Unit {0}) Ending) (out : Stream) → TellsEntry count w line told before after → PutsTold told done out →
    TellsLine count w line done before after out
tells_line count w before after line (Ok text) (Ok u) out tells puts = (text, tells, puts)
tells_line count w before after line (Ok text) (Err OutFault) out tells puts = (text, tells, puts.0, puts.1)
tells_line count w before after line (Ok text) (Err (Judged verdict)) out tells puts = absurd puts
tells_line count w before after line (Err verdict) (Err (Judged found)) out tells puts =
    subst (λ (v : Verdict). TakesEntry count w line (Err v) after × IsKept v w after × Puts out []) (sym puts.0)
    (tells.0, tells.1, puts.1)
tells_line count w before after line (Err verdict) (Err OutFault) out tells puts = absurd puts
tells_line count w before after line (Err verdict) (Ok u) out tells puts = absurd puts

-- The world behind which a verdict stands.

pub head_behind : (verdict : Verdict) (left after : Option (List ℕ)) (new : HeldBytes) (w : World) →
    EndsAtHead verdict left after new → IsBehind verdict w []
head_behind (Legal count) left after new w at = tt
head_behind (Illegal number) left after new w at = absurd at
head_behind (BadLine number fault) left after new w at = tt
head_behind ReadFault left after new w at = tt
head_behind NoMemory left after new w at = tt

pub stop_behind : (number : ℕ) (why : Stop) (w : World) (H : List Entry) → IsBehind (stopped number why) w H
stop_behind number stop.Failed w H = tt
stop_behind number stop.Long w H = tt
stop_behind number stop.NoMemory w H = tt

pub kept_behind : (verdict : Verdict) (w after : World) (H : List Entry) → IsKept verdict w after → w ≡ replay H →
    IsBehind verdict after H
kept_behind (Illegal number) w after H kept world = kept ∙ world
kept_behind (Legal count) w after H kept world = tt
kept_behind (BadLine number fault) w after H kept world = tt
kept_behind ReadFault w after H kept world = tt
kept_behind NoMemory w after H kept world = tt

pub full_behind : (count : ℕ) (verdict : Verdict) (old new : HeldBytes) (left after : Option (List ℕ)) (w : World)
    (H : List Entry) → EndsFull count verdict old new left after → IsBehind verdict w H
full_behind count (Legal number) old new left after w H at = tt
full_behind count (Illegal number) old new left after w H at = absurd at
full_behind count (BadLine number fault) old new left after w H at = tt
full_behind count ReadFault old new left after w H at = tt
full_behind count NoMemory old new left after w H at = tt

-- Endings that are the same.

pub same_ending : (a b : Ending) → ◌≡◌ {A = Result (Unit {0}) Ending} (Err a) (Err b) → a ≡ b
same_ending a b e = cc

-- nothing more was put
puts_none : (a b c : Option (List ℕ)) (k l m : ℕ) (text : List ℕ) → Puts (stream_of a b k l) text → Puts (stream_of b c l m) [] →
    Puts (stream_of a c k m) text
puts_none a b c k l m text puts none =
    subst (λ (t : List ℕ). Puts (stream_of a c k m) t) (append-nil text) (appends_more a b c text [] puts none)

-- Where the line of an entry ends the reading.

pub line_over : (ending : Ending) (input left rest : Option (List ℕ)) (w before after : World) (count k l : ℕ)
    (held new : HeldBytes) (line : List ℕ) (H : List Entry) (a b d : Option (List ℕ)) (m n p : ℕ) →
    IsReplaying input H w count held left → count < 300001 → GivesBytes held new left rest line →
    length new.bytes ≤ 12320 → TellsLine count w line (Err ending) before after (stream_of b d n p) → l ≡ k → n ≡ m →
    Puts (stream_of a b m n) (event_lines H) →
    TellsJournal ending (stream_of input rest k l) (stream_of a d m p) after
line_over (Judged verdict) input left rest w before after count k l held new line H a b d m n p at few gives more tells same even put = (
  H,
  line_ends input left rest w after count k l held new line verdict H at few gives more tells.0 same,
  puts_none a b d m n p (event_lines H) put tells.2,
  kept_behind verdict w after H tells.1 at.world,
)
line_over OutFault input left rest w before after count k l held new line H a b d m n p at few gives more tells same even put =
    let text = tells.0 in
    let told = tells.1 in
    let e = told.entry in
    let next = goes_on input left rest w after count held new line H e at few gives told.means told.one told.has told.may
    told.after_is in (
      H ++ e ∷ [],
      breaks_off input rest after (count + 1) k l new (H ++ e ∷ []) next (omega (arith, few)) more same,
      subst (λ (x : ℕ). Rose x p) even tells.2,
      subst (λ (t : List ℕ). AppendsPrefix a d t) (one_more H e w text at.world told.text_is)
          (prefix_more a b d (event_lines H) text put tells.3),
    )

-- one line of events more was put
pub puts_more : (a b d : Option (List ℕ)) (m n p : ℕ) (H : List Entry) (e : Entry) (w : World) (text : List ℕ) →
    w ≡ replay H → text ≡ entry_line w e → Puts (stream_of a b m n) (event_lines H) → Puts (stream_of b d n p) text →
    Puts (stream_of a d m p) (event_lines (H ++ e ∷ []))
puts_more a b d m n p H e w text world is put more =
    subst (λ (t : List ℕ). Puts (stream_of a d m p) t) (one_more H e w text world is)
    (appends_more a b d (event_lines H) text put more)

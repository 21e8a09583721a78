-- Where caller 0 is alone, what it kept makes the history the one that a script has without workers.
use Rattle.std.proofs.Common.{◌≡◌, ℕ, ◌<◌, List, [], ◌∷◌, ◌++◌, length, map, take, true, false, Bool, ◌==◌, cond, refl, Option, Some, None, sym, ◌∙◌, ap, subst, append_assoc}
use Rattle.std.proofs.lemmas.List.{append-nil, append_cancel_left, append_cancel_right}
use Rattle.std.specs.List.{list_all}
use Rattle.script_grammar.specs.declared.lines.Line.{Line}
use Rattle.swarm_input.specs.Script.{Reading, reading}
use Rattle.swarm_input.specs.Streams.{PutsThenPrefix, Stream}
use Rattle.swarm_lines.proofs.Following.{Ends, halted, last_cut}
use Rattle.swarm_lines.proofs.Joining.{last_done}
use Rattle.swarm_lines.specs.OfScript.{BeginsNext, IsOfFullHistory, IsOfScript, PutsUpToLast}
use Rattle.swarm_lines.specs.Putting.{part_out, texts_of}
use Rattle.swarm_lines.specs.ScriptSteps.{KeepsDone, KeepsFull, KeepsLast, KeepsScript, KeepsStop, PutsToLast, next_asked}
use Rattle.swarm_lines.specs.Serial.{asked, entries, entries_from, line_entries, line_out, output_text, serial}
use Rattle.swarm_lines.specs.declared.endings.Ending.{Ending}
use Rattle.swarm_lines.specs.declared.endings.Ending.TheVariants.{Done, Refused, ReadFault, OutFault, JournalFault, NoMemory, NoMemoryAt, BadLine, Full}
use Rattle.swarm_model.proofs.Base.Histories.{IsLegalFrom-append, admitted-Halt, replay-append, room_admitted, room_duty}
use Rattle.swarm_model.proofs.Following.Alone.{AreOwn, both, is_own, none_left, of_callers, own_all, own_append, own_join}
use Rattle.swarm_model.proofs.Following.KeptAlone.{kept-alone-law, kept-stop-law}
use Rattle.swarm_model.proofs.Following.Own.{replies_own}
use Rattle.swarm_model.specs.Follows.{IsEnd}
use Rattle.swarm_model.specs.History.{IsLegal, IsLegalFrom, may_follow, replay, replay_from, replies}
use Rattle.swarm_model.specs.Kept.{KeepsLines, before_next}
use Rattle.swarm_model.specs.Own.{Step, own, own_from, own_replies, step_at}
use Rattle.swarm_model.specs.Script.{Asked, own_call}
use Rattle.swarm_model.specs.Serial.{BeginsNext as BeginsAsked, asked_entries, entries_from as asked_from}
use Rattle.swarm_objects.specs.Limits.{most_entries}
use Rattle.swarm_objects.specs.World.{World, empty_world}
use Rattle.swarm_objects.specs.declared.calls.Call.TheVariants.{Halt}
use Rattle.swarm_objects.specs.declared.calls.Entry.{Entry}
use Rattle.swarm_objects.specs.declared.calls.What.TheVariants.{Call as Called, Duty as Done_duty}
use Rattle.swarm_objects.specs.declared.calls.What.{What}

-- The entries of lines.

entries_asked : (w : World) (lines : List Line) → entries_from w lines ≡ asked_from w (map asked lines)
entries_asked w [] = refl
entries_asked w (line ∷ lines) =
    ap (λ (l : List Entry). line_entries w line ++ l) (entries_asked (replay_from w (line_entries w line)) lines)

entries-snoc : (w : World) (lines : List Line) (line : Line) →
    entries_from w (lines ++ line ∷ []) ≡ entries_from w lines ++ line_entries (replay_from w (entries_from w lines)) line
entries-snoc w [] line = append-nil (line_entries w line)
entries-snoc w (first ∷ lines) line =
    let es = line_entries w first in
    let v = replay_from w es in
    ap (λ (l : List Entry). es ++ l) (entries-snoc v lines line)
    ∙ sym (append_assoc es (entries_from v lines) (line_entries (replay_from v (entries_from v lines)) line))
    ∙ ap (λ (u : World). (es ++ entries_from v lines) ++ line_entries u line)
    (sym (replay-append w es (entries_from v lines)))

-- what was kept of lines alone is their entries
alone_done : (done : List Line) (start : List Entry) → Ends 0 start → KeepsDone done start → start ≡ entries done
alone_done done start ends keeps =
    let s = kept-alone-law (map asked done) None start ends.legal ends.callers keeps in
    s.entries_are ∙ ap (λ (l : List Entry). asked_from empty_world (map asked done) ++ l) s.begins
    ∙ append-nil (asked_from empty_world (map asked done)) ∙ sym (entries_asked empty_world done)

begins_next : (w : World) (left : List Line) (part : List Entry) → BeginsAsked w (next_asked left) part →
    BeginsNext w left part
begins_next w [] part b = b
begins_next w (line ∷ left) part b = b

-- The script.

alone_all : (script : Reading) (start : List Entry) → Ends 0 start → KeepsDone script.said start →
    halted start ≡ serial script.said
alone_all script start ends keeps = ap halted (alone_done script.said start ends keeps)

same_asked : (a b : Asked) → Some a ≡ Some b → a ≡ b
same_asked a b e = cc

alone_stop : (done : List Line) (next : Line) (start : List Entry) → Ends 0 start → KeepsStop done next start →
    (n : ℕ) × (n < length (line_entries (replay (entries done)) next))
    × (start ≡ entries done ++ take n (line_entries (replay (entries done)) next))
alone_stop done next start ends k =
    let s = kept-stop-law (map asked done) (Some (asked next)) k.earlier k.later start ends.legal ends.callers k.steps
    k.keeps k.undone in
    let same : s.line ≡ asked next = sym (same_asked (asked next) s.line s.next_is) in
    let before : asked_from empty_world (map asked done) ≡ entries done = sym (entries_asked empty_world done) in (
      s.count,
      subst (λ (l : List Entry). s.count < length (asked_entries (replay l) (asked next))) before
          (subst (λ (x : Asked). s.count < length (asked_entries (replay (asked_from empty_world (map asked done))) x)) same
          s.more),
      s.entries_are
          ∙ ap (λ (x : Asked). asked_from empty_world (map asked done) ++ take s.count (asked_entries (replay (asked_from empty_world (map asked done))) x)) same
          ∙ ap (λ (l : List Entry). l ++ take s.count (asked_entries (replay l) (asked next))) before,
    )

alone_full : (script : Reading) (start : List Entry) → Ends 0 start → length start ≡ most_entries →
    KeepsFull script start → IsOfFullHistory script (halted start)
alone_full script start ends full k =
    let s = alone_stop k.done k.next start ends k.keeps in
    record {
      done = k.done;
      next = k.next;
      left = k.left;
      part = s.0;
      lines = k.lines;
      more = s.1;
      history_is = ap halted s.2;
      count = ap (λ (l : List Entry). length l) (sym s.2) ∙ full;
    }

pub of_script : (e : Ending) (a b : Option (List ℕ)) (start : List Entry) → Ends 0 start →
    (e ≡ Full → length start ≡ most_entries) → KeepsScript e a b start → IsOfScript e a b (halted start)
of_script e None b start ends full keeps = tt
of_script e (Some input) None start ends full keeps = absurd keeps
of_script Done (Some input) (Some left) start ends full keeps =
    (keeps.0, alone_all (reading input) start ends keeps.1)
of_script Refused (Some input) (Some left) start ends full keeps =
    (keeps.0, alone_all (reading input) start ends keeps.1)
of_script JournalFault (Some input) (Some left) start ends full keeps =
    (keeps.0, alone_all (reading input) start ends keeps.1)
of_script (BadLine number fault) (Some input) (Some left) start ends full keeps =
    (keeps.0, alone_all (reading input) start ends keeps.1)
of_script (NoMemoryAt number fault) (Some input) (Some left) start ends full keeps =
    (keeps.0, alone_all (reading input) start ends keeps.1)
of_script ReadFault (Some input) (Some left) start ends full keeps = record {
  taken = keeps.taken;
  bytes = keeps.bytes;
  lines = (keeps.lines.0, ap halted (alone_done _ start ends keeps.lines.1));
}
of_script Full (Some input) (Some left) start ends full keeps =
    alone_full (reading input) start ends (full refl) keeps
of_script OutFault (Some input) (Some left) start ends full keeps = record {
  done = keeps.done;
  last = keeps.last;
  left = keeps.left;
  lines = keeps.lines;
  history_is = ap halted (alone_done (keeps.done ++ keeps.last ∷ []) start ends
      (last_done keeps.done keeps.last keeps.earlier keeps.later start keeps.keeps));
}
of_script NoMemory (Some input) (Some left) start ends full keeps =
    let s = kept-alone-law (map asked keeps.done) (next_asked keeps.left) start ends.legal ends.callers keeps.keeps in
    let same : asked_from empty_world (map asked keeps.done) ≡ entries keeps.done = sym (entries_asked empty_world keeps.done) in
    record {
      done = keeps.done;
      left = keeps.left;
      part = s.part;
      lines = keeps.lines;
      next = begins_next (replay (entries keeps.done)) keeps.left s.part
          (subst (λ (l : List Entry). BeginsAsked (replay l) (next_asked keeps.left) s.part) same s.begins);
      history_is = ap halted (s.entries_are ∙ ap (λ (l : List Entry). l ++ s.part) same);
    }

-- What was put before its sink failed.

running_by : (w : World) (what : What) → may_follow w what ≡ true → w.halted ≡ false
running_by w (Called call) may = (room_admitted w call may).0
running_by w (Done_duty d) may = (room_duty w d may).0

-- a beginning that something follows may be followed by Halt
legal_cut : (before more : List Entry) (e : Entry) → IsLegal (before ++ e ∷ more) → IsLegal (halted before)
legal_cut before more e legal =
    let parts = IsLegalFrom-append empty_world before (e ∷ more) legal in
    legal_joined empty_world before (own_call Halt ∷ []) parts.0
    (admitted-Halt (replay before) (running_by (replay before) e.what parts.1.0), tt)
  where
    legal_joined : (w : World) (h g : List Entry) → IsLegalFrom w h → IsLegalFrom (replay_from w h) g →
        IsLegalFrom w (h ++ g)
    legal_joined w [] g first rest = rest
    legal_joined w (x ∷ h) g first rest =
        (first.0, legal_joined (replay_from w (x ∷ [])) h g first.1 rest)

-- what stands behind the last line's entries is Halt alone
end_alone : (w : World) (rest : List Entry) → IsEnd w None rest → AreOwn rest → rest ≡ own_call Halt ∷ []
end_alone w rest end own =
    let parts = own_append end.part (own_call Halt ∷ []) (subst AreOwn end.entries own) in
    end.entries
    ∙ ap (λ (l : List Entry). l ++ own_call Halt ∷ []) (none_left end.part parts.0 end.part_is.0 end.part_is.1)

-- of caller 0 alone the history before its next step is the one that was cut there
before_cut : (before part : List Entry) → AreOwn part → before_next (own_from 0 before part) (before ++ part) ≡ before
before_cut before [] own = append-nil before
before_cut before (x ∷ part) own =
    ap (λ (l : List Step). before_next l (before ++ x ∷ part))
    (chosen (x.by == 0) (step_at before x) (own_from 0 (before ++ x ∷ []) part) (both (is_own x) (list_all is_own part) own).0)
  where
    chosen : {X : Type 0} (c : Bool) (x : X) (l : List X) → c ≡ true → cond c (x ∷ l) l ≡ x ∷ l
    chosen true x l e = refl
    chosen false x l e = absurd cc

some_behind : (part : List Entry) (last : Entry) → (e : Entry) × (more : List Entry) × (part ++ last ∷ [] ≡ e ∷ more)
some_behind [] last = (last, [], refl)
some_behind (x ∷ part) last = (x, part ++ last ∷ [], refl)

ends_cut : (before part : List Entry) → IsLegal (before ++ (part ++ own_call Halt ∷ [])) → AreOwn before → Ends 0 before
ends_cut before part legal own =
    let some = some_behind part (own_call Halt) in
    record {
      legal = legal_cut before some.1 some.0 (subst (λ (l : List Entry). IsLegal (before ++ l)) some.2 legal);
      callers = of_callers 0 (halted before) (own_join before (own_call Halt ∷ []) own refl);
    }

-- the steps of lines and of a last one are those of their entries
record AloneLast (done : List Line) (last : Line) (earlier later : List Step) (start : List Entry) : Type 0 where
  pub are : start ≡ entries done ++ line_entries (replay (entries done)) last
  pub own_before : AreOwn (entries done)
  pub own_last : AreOwn (line_entries (replay (entries done)) last)
  pub earlier_are : earlier ≡ own 0 (entries done)
  pub later_are : later ≡ own_from 0 (entries done) (line_entries (replay (entries done)) last)

alone_cut : (done : List Line) (last : Line) (earlier later : List Step) (start before part : List Entry) → Ends 0 start →
    KeepsLast done last earlier later start → start ≡ before ++ part → own 0 before ≡ earlier →
    own_from 0 before part ≡ later → AloneLast done last earlier later start
alone_cut done last earlier later start before part ends k is first second =
    let owns = own_append start (own_call Halt ∷ []) (own_all (halted start) ends.callers) in
    let parts = own_append before part (subst AreOwn is owns.0) in
    let legal : IsLegal (before ++ (part ++ own_call Halt ∷ [])) =
    subst IsLegal (ap halted is ∙ append_assoc before part (own_call Halt ∷ [])) ends.legal in
    let now : before_next later start ≡ before =
    ap (λ (l : List Step). before_next l start) (sym second)
    ∙ ap (before_next (own_from 0 before part)) is ∙ before_cut before part parts.1 in
    let keeps : KeepsDone done before =
    subst (λ (l : List Step). KeepsLines (map asked done) None l before) (sym first)
    (subst (λ (l : List Entry). KeepsLines (map asked done) None earlier l) now k.keeps) in
    let same : before ≡ entries done = alone_done done before (ends_cut before part legal parts.0) keeps in
    let all : start ≡ entries done ++ line_entries (replay (entries done)) last =
    alone_done (done ++ last ∷ []) start ends (last_done done last earlier later start k)
    ∙ entries-snoc empty_world done last in
    let rest : part ≡ line_entries (replay (entries done)) last =
    append_cancel_left (entries done) part (line_entries (replay (entries done)) last)
    (ap (λ (l : List Entry). l ++ part) (sym same) ∙ sym is ∙ all) in
    record {
      are = all;
      own_before = subst AreOwn same parts.0;
      own_last = subst AreOwn rest parts.1;
      earlier_are = sym first ∙ ap (own 0) same;
      later_are =
          sym second ∙ ap (λ (l : List Entry). own_from 0 l part) same ∙ ap (own_from 0 (entries done)) rest;
    }

alone_last : (done : List Line) (last : Line) (earlier later : List Step) (start : List Entry) → Ends 0 start →
    KeepsLast done last earlier later start → AloneLast done last earlier later start
alone_last done last earlier later start ends k =
    let c = last_cut 0 done last earlier later start ends k in
    let cut = c.cut in
    let owns = own_append cut.before (cut.part ++ cut.rest)
    (subst AreOwn cut.entries (own_all (halted start) ends.callers)) in
    let behind = own_append cut.part cut.rest owns.1 in
    let end = end_alone (replay (cut.before ++ cut.part)) cut.rest cut.end_is behind.1 in
    let is : start ≡ cut.before ++ cut.part =
    append_cancel_right start (cut.before ++ cut.part) (own_call Halt ∷ [])
    (cut.entries ∙ ap (λ (l : List Entry). cut.before ++ (cut.part ++ l)) end
    ∙ sym (append_assoc cut.before cut.part (own_call Halt ∷ []))) in
    alone_cut done last earlier later start cut.before cut.part ends k is c.earlier_are c.later_are

pub up_to_last : (out : Stream) (start : List Entry) → Ends 0 start → PutsToLast out start →
    PutsUpToLast out (halted start)
up_to_last out start ends puts =
    let a = alone_last puts.done puts.last puts.earlier puts.later start ends puts.keeps in
    let before = entries puts.done in
    let es = line_entries (replay before) puts.last in
    let first : part_out puts.earlier ≡ output_text before =
    ap part_out a.earlier_are ∙ ap texts_of (replies_own [] before a.own_before) in
    let second : part_out puts.later ≡ line_out before puts.last =
    ap part_out a.later_are ∙ ap texts_of (replies_own before es a.own_last) in
    record {
      before = before;
      last = puts.last;
      history_is = ap halted a.are;
      puts = subst (λ (l : List ℕ). PutsThenPrefix out (output_text before) l) second
          (subst (λ (l : List ℕ). PutsThenPrefix out l (part_out puts.later)) first puts.puts);
    }

-- the replies to caller 0 are all
pub replies_alone : (start : List Entry) → Ends 0 start → own_replies 0 (halted start) ≡ replies (halted start)
replies_alone start ends = replies_own [] (halted start) (own_all (halted start) ends.callers)

-- A line joins the earlier ones, whatever others appended meanwhile.
use Rattle.std.proofs.Common.{◌≡◌, inl, inr, List, [], ◌∷◌, ◌++◌, Bool, true, false, cond, ◌==◌, map, Option, None, Some, refl, sym, ◌∙◌, subst, append_assoc, append-nil, arith}
use Rattle.std.proofs.lemmas.List.{map-append}
use Rattle.script_grammar.specs.declared.lines.Line.{Line}
use Rattle.swarm_lines.proofs.Coming.{busy_then, own_came}
use Rattle.swarm_lines.specs.Came.{Came, Stays}
use Rattle.swarm_lines.specs.ScriptSteps.{KeepsDone, KeepsLast, KeepsSome, KeepsStop, next_asked}
use Rattle.swarm_lines.specs.Serial.{asked}
use Rattle.swarm_model.proofs.Following.Keeping.{idle_on, keeps_more}
use Rattle.swarm_model.proofs.Following.Kept.{choose_no}
use Rattle.swarm_model.specs.Kept.{KeepsLine, KeepsLines, KeepsPart, KeepsUndone, SeesIdle, before_next}
use Rattle.swarm_model.specs.Own.{Step, own, own_from, step_at}
use Rattle.swarm_model.specs.Script.{Asked, Asks, Nothing, Settles, Waits}
use Rattle.swarm_objects.specs.declared.calls.Entry.{Entry}

-- What was seen before.

abbrev before_of : Bool → Entry → List Entry → List Step → List Entry → List Entry
before_of b e old rest now = before_next (cond b (step_at old e ∷ rest) rest) now

next_by : (b : Bool) (e : Entry) (old : List Entry) (rest : List Step) (now : List Entry) → (e.by == 0) ≡ b →
    SeesIdle old → ((e.by == 0) ≡ false → SeesIdle (before_next rest now)) → SeesIdle (before_of b e old rest now)
next_by true e old rest now is s later = s
next_by false e old rest now is s later = later is

-- what was seen before holds just before caller 0's next entry, or now
next_idle : (old rest : List Entry) → SeesIdle old → SeesIdle (before_next (own_from 0 old rest) (old ++ rest))
next_idle old [] s = subst SeesIdle (sym (append-nil old)) s
next_idle old (e ∷ rest) s =
    next_by (e.by == 0) e old (own_from 0 (old ++ e ∷ []) rest) (old ++ e ∷ rest) refl s
    (λ is.
    subst (λ (l : List Entry). SeesIdle (before_next (own_from 0 (old ++ e ∷ []) rest) l)) (append_assoc old (e ∷ []) rest)
    (next_idle (old ++ e ∷ []) rest
    (idle_on old (e ∷ []) (choose_no (e.by == 0) (step_at old e ∷ []) [] is) s)))

pub came_idle : (old new : List Entry) (part : List Step) → Came old new part → SeesIdle old →
    SeesIdle (before_next part new)
came_idle old new part c s =
    subst (λ (l : List Step). SeesIdle (before_next l new)) c.steps
    (subst (λ (l : List Entry). SeesIdle (before_next (own_from 0 old c.rest) l)) (sym c.history)
    (next_idle old c.rest s))

-- What is kept, where others appended.

line_still : (line : Asked) (part : List Step) (now new : List Entry) → (SeesIdle now → SeesIdle new) →
    KeepsLine line part now → KeepsLine line part new
line_still Nothing part now new on keeps = keeps
line_still (Asks c) part now new on keeps = keeps
line_still (Settles budget) part now new on keeps = keeps
line_still (Waits ms) part now new on keeps =
    record { begun = keeps.begun; all = keeps.all; idle = λ less. on (keeps.idle less) }

before_still : (rest : List Step) (now new : List Entry) → (SeesIdle now → SeesIdle new) →
    SeesIdle (before_next rest now) → SeesIdle (before_next rest new)
before_still [] now new on s = on s
before_still (x ∷ rest) now new on s = s

keeps_still : (lines : List Asked) (next : Option Asked) (parts : List Step) (now new : List Entry) →
    (SeesIdle now → SeesIdle new) → KeepsLines lines next parts now → KeepsLines lines next parts new
keeps_still [] next parts now new on keeps = keeps
keeps_still (line ∷ lines) next parts now new on keeps = (
  keeps.0,
  keeps.1,
  keeps.2,
  line_still line keeps.0 (before_next keeps.1 now) (before_next keeps.1 new) (before_still keeps.1 now new on) keeps.3,
  keeps_still lines next keeps.1 now new on keeps.4,
)

undone_still : (next : Option Asked) (part : List Step) (now new : List Entry) → Stays now new →
    KeepsUndone now next part → KeepsUndone new next part
undone_still None part now new s keeps = keeps
undone_still (Some Nothing) part now new s keeps = keeps
undone_still (Some (Asks c)) part now new s keeps = keeps
undone_still (Some (Settles budget)) part now new s keeps = keeps
undone_still (Some (Waits ms)) part now new s keeps = record {
  begun = keeps.begun;
  more = elim keeps.more [
    | inl some ↦ inl some
    | inr busy ↦ inr (busy.0, busy_then now new s busy.1)
  ];
}

stays_own : (now new : List Entry) → Stays now new → own 0 new ≡ own 0 now
stays_own now new s = own_came now new [] s ∙ append-nil (own 0 now)

pub some_still : (done : List Asked) (next : Option Asked) (now new : List Entry) → Stays now new →
    KeepsLines done next (own 0 now) now → KeepsLines done next (own 0 new) new
some_still done next now new s keeps =
    subst (λ (l : List Step). KeepsLines done next l new) (sym (stays_own now new s))
    (keeps_still done next (own 0 now) now new (came_idle now new [] s) keeps)

pub last_still : (done : List Line) (last : Line) (earlier later : List Step) (now new : List Entry) → Stays now new →
    KeepsLast done last earlier later now → KeepsLast done last earlier later new
last_still done last earlier later now new s k = record {
  steps = stays_own now new s ∙ k.steps;
  keeps = keeps_still (map asked done) None earlier (before_next later now) (before_next later new)
      (before_still later now new (came_idle now new [] s)) k.keeps;
  made = line_still (asked last) later now new (came_idle now new [] s) k.made;
}

pub stop_still : (done : List Line) (next : Line) (now new : List Entry) → Stays now new → KeepsStop done next now →
    KeepsStop done next new
stop_still done next now new s k = record {
  earlier = k.earlier;
  later = k.later;
  steps = stays_own now new s ∙ k.steps;
  keeps = keeps_still (map asked done) None k.earlier (before_next k.later now) (before_next k.later new)
      (before_still k.later now new (came_idle now new [] s)) k.keeps;
  undone = undone_still (Some (asked next)) k.later now new s k.undone;
}

-- One line more.

joins : (lines more : List Asked) (next : Option Asked) (old new : List Entry) (part : List Step) → Came old new part →
    KeepsLines lines None (own 0 old) old → KeepsLines more next part new →
    KeepsLines (lines ++ more) next (own 0 new) new
joins lines more next old new part c keeps further =
    subst (λ (l : List Step). KeepsLines (lines ++ more) next l new) (sym (own_came old new part c))
    (keeps_more lines next more (own 0 old) part old new (came_idle old new part c) keeps further)

-- all of it
pub line_joins : (done : List Line) (line : Line) (old new : List Entry) (part : List Step) → Came old new part →
    KeepsDone done old → KeepsLine (asked line) part new → KeepsDone (done ++ line ∷ []) new
line_joins done line old new part c keeps made =
    subst (λ (l : List Asked). KeepsLines l None (own 0 new) new) (sym (map-append asked done (line ∷ [])))
    (joins (map asked done) (asked line ∷ []) None old new part c keeps
    (part, [], sym (append-nil part), made, refl))

-- a part of it
pub part_joins : (done : List Line) (line : Line) (left : List Line) (old new : List Entry) (part : List Step) →
    Came old new part → KeepsDone done old → KeepsPart (Some (asked line)) part → KeepsSome done (line ∷ left) new
part_joins done line left old new part c keeps made =
    subst (λ (l : List Asked). KeepsLines l (Some (asked line)) (own 0 new) new) (append-nil (map asked done))
    (joins (map asked done) [] (Some (asked line)) old new part c keeps made)

-- nothing of what comes next
none_part : (next : Option Asked) → KeepsPart next []
none_part None = refl
none_part (Some Nothing) = refl
none_part (Some (Asks c)) = refl
none_part (Some (Settles budget)) = (λ s h. absurd h, omega arith)
none_part (Some (Waits ms)) = record {
  stretches = [];
  last = [];
  ticks = refl;
  are_turns = λ s h. absurd h;
  few = omega arith;
}

none_next : (lines : List Asked) (next : Option Asked) (parts : List Step) (now : List Entry) →
    KeepsLines lines None parts now → KeepsLines lines next parts now
none_next [] next parts now keeps = subst (KeepsPart next) (sym keeps) (none_part next)
none_next (line ∷ lines) next parts now keeps =
    (keeps.0, keeps.1, keeps.2, keeps.3, none_next lines next keeps.1 now keeps.4)

pub done_some : (done left : List Line) (now : List Entry) → KeepsDone done now → KeepsSome done left now
done_some done left now keeps = none_next (map asked done) (next_asked left) (own 0 now) now keeps

-- it is the last
pub last_joins : (done : List Line) (last : Line) (old new : List Entry) (part : List Step) → Came old new part →
    KeepsDone done old → KeepsLine (asked last) part new → KeepsLast done last (own 0 old) part new
last_joins done last old new part c keeps made = record {
  steps = own_came old new part c;
  keeps = keeps_still (map asked done) None (own 0 old) old (before_next part new) (came_idle old new part c) keeps;
  made = made;
}

-- it isn't done
pub stop_joins : (done : List Line) (next : Line) (old new : List Entry) (part : List Step) → Came old new part →
    KeepsDone done old → KeepsUndone new (Some (asked next)) part → KeepsStop done next new
stop_joins done next old new part c keeps undone = record {
  earlier = own 0 old;
  later = part;
  steps = own_came old new part c;
  keeps = keeps_still (map asked done) None (own 0 old) old (before_next part new) (came_idle old new part c) keeps;
  undone = undone;
}

-- What is kept of lines to the last one is kept of all of them, and of some.

cut_lines : (lines : List Asked) (line : Asked) (earlier later : List Step) (now : List Entry) →
    KeepsLines lines None earlier (before_next later now) → KeepsLine line later now →
    KeepsLines (lines ++ line ∷ []) None (earlier ++ later) now
cut_lines lines line earlier later now keeps made =
    keeps_more lines None (line ∷ []) earlier later (before_next later now) now (λ s. s) keeps
    (later, [], sym (append-nil later), made, refl)

pub last_done : (done : List Line) (last : Line) (earlier later : List Step) (now : List Entry) →
    KeepsLast done last earlier later now → KeepsDone (done ++ last ∷ []) now
last_done done last earlier later now k =
    subst (λ (l : List Asked). KeepsLines l None (own 0 now) now) (sym (map-append asked done (last ∷ [])))
    (subst (λ (l : List Step). KeepsLines (map asked done ++ asked last ∷ []) None l now) (sym k.steps)
    (cut_lines (map asked done) (asked last) earlier later now k.keeps k.made))

undone_part : (now : List Entry) (next : Option Asked) (part : List Step) → KeepsUndone now next part →
    KeepsPart next part
undone_part now None part keeps = absurd keeps
undone_part now (Some Nothing) part keeps = absurd keeps
undone_part now (Some (Asks c)) part keeps = keeps
undone_part now (Some (Settles budget)) part keeps = keeps
undone_part now (Some (Waits ms)) part keeps = keeps.begun

pub stop_some : (done : List Line) (next : Line) (left : List Line) (now : List Entry) → KeepsStop done next now →
    KeepsSome done (next ∷ left) now
stop_some done next left now k =
    subst (λ (l : List Asked). KeepsLines l (Some (asked next)) (own 0 now) now) (append-nil (map asked done))
    (subst (λ (l : List Step). KeepsLines (map asked done ++ []) (Some (asked next)) l now) (sym k.steps)
    (keeps_more (map asked done) (Some (asked next)) [] k.earlier k.later (before_next k.later now) now (λ s. s) k.keeps
    (undone_part now (Some (asked next)) k.later k.undone)))

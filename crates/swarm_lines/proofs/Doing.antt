-- What a line did, whole and in part.
use Rattle.std.proofs.Common.{◌≡◌, ℕ, inl, inr, List, [], ◌∷◌, ◌++◌, Bool, false, true, ◌||◌, refl, Option, Result, Ok, Err, sym, ◌∙◌, ap, subst}
use Rattle.std.specs.Prelude.{IfErr, IfOk}
use Rattle.std.specs.Io.KnownBytes.{Appends}
use Rattle.std.proofs.lemmas.List.{append-nil}
use Rattle.script_grammar.specs.declared.lines.Line.TheVariants.{Blank, Call as CallLine, Settle as SettleLine, Wait}
use Rattle.swarm_lines.proofs.Coming.{came_none, came_stays, came_then, saw}
use Rattle.swarm_lines.proofs.Quiet.{quiet_ticks, quiet_turns, out_append, refused_append}
use Rattle.swarm_lines.specs.Came.{Answered, Came, Stays, StaysBy}
use Rattle.swarm_lines.specs.Inside.LineSteps.{DoesLine, PutsAnswer, ending_by}
use Rattle.swarm_lines.specs.Putting.{part_out, part_refused}
use Rattle.swarm_lines.specs.Serial.{is_refused}
use Rattle.swarm_lines.specs.Stretches.{Settled, StopsTurns, StopsWait, Waited}
use Rattle.swarm_lines.specs.declared.endings.Ending.{Ending}
use Rattle.swarm_lines.specs.declared.endings.Ending.TheVariants.{Done, Refused, ReadFault, OutFault, JournalFault, NoMemory, NoMemoryAt, BadLine, Full}
use Rattle.swarm_lines.specs.declared.unanswered.Unanswered.{Unanswered}
use Rattle.swarm_lines.specs.declared.unanswered.Unanswered.TheVariants as unanswered
use Rattle.swarm_model.proofs.Following.Turns.{next_own}
use Rattle.swarm_model.specs.History.{replay, step_reply}
use Rattle.swarm_model.specs.Kept.{KeepsSettled}
use Rattle.swarm_model.specs.Own.{Step, step_at}
use Rattle.swarm_model.specs.Script.{own_call}
use Rattle.swarm_objects.specs.Outside.{AppendsPrefix}
use Rattle.swarm_objects.specs.declared.calls.Call.{Call}
use Rattle.swarm_objects.specs.declared.calls.Call.TheVariants.{Settle}
use Rattle.swarm_objects.specs.declared.calls.Entry.{Entry}
use Rattle.swarm_objects.specs.declared.replies.Reply.{Reply}
use Rattle.swarm_print.specs.Texts.{reply_text}

or_false : (b : Bool) → b ≡ (b || false)
or_false true = refl
or_false false = refl

abbrev call_step : (old new : List Entry) (call : Call) (reply : Reply) → Answered old new call reply → Step
call_step old new call reply a = step_at a.one.before (own_call call)

text_is : (old new : List Entry) (call : Call) (reply : Reply) (a : Answered old new call reply) →
    reply_text reply ≡ part_out (call_step old new call reply a ∷ [])
text_is old new call reply a =
    ap reply_text a.reply_is ∙ sym (append-nil (reply_text (step_reply (replay a.one.before) (own_call call))))

refusal_is : (old new : List Entry) (call : Call) (reply : Reply) (a : Answered old new call reply) →
    is_refused reply ≡ part_refused (call_step old new call reply a ∷ [])
refusal_is old new call reply a =
    ap is_refused a.reply_is ∙ or_false (is_refused (step_reply (replay a.one.before) (own_call call)))

-- A call.

pub call_line : (call : Call) (given : Result Reply Unanswered) (result : Result Bool Ending) (old new : List Entry)
    (out out_after : Option (List ℕ)) → IfOk given (λ reply. Answered old new call reply) →
    IfErr given (λ cause. StaysBy cause old new) → PutsAnswer given result out out_after →
    DoesLine result (CallLine call) old new out out_after
call_line call (Ok reply) (Ok refused) old new out out_after a failed puts = (
  call_step old new call reply a ∷ [],
  record { came = a.one.came; keeps = (a.one.before, refl) },
  subst (Appends out out_after) (text_is old new call reply a) puts.0,
  puts.1 ∙ refusal_is old new call reply a,
)
call_line call (Ok reply) (Err OutFault) old new out out_after a failed puts = (
  call_step old new call reply a ∷ [],
  record { came = a.one.came; keeps = (a.one.before, refl) },
  subst (AppendsPrefix out out_after) (text_is old new call reply a) puts,
)
call_line call (Ok reply) (Err NoMemory) old new out out_after a failed puts =
    (call_step old new call reply a ∷ [], a.one.came, inl (a.one.before, refl), puts)
call_line call (Ok reply) (Err Full) old new out out_after a failed puts = absurd puts
call_line call (Ok reply) (Err Done) old new out out_after a failed puts = absurd puts
call_line call (Ok reply) (Err Refused) old new out out_after a failed puts = absurd puts
call_line call (Ok reply) (Err ReadFault) old new out out_after a failed puts = absurd puts
call_line call (Ok reply) (Err JournalFault) old new out out_after a failed puts = absurd puts
call_line call (Ok reply) (Err (NoMemoryAt number fault)) old new out out_after a failed puts = absurd puts
call_line call (Ok reply) (Err (BadLine number fault)) old new out out_after a failed puts = absurd puts
call_line call (Err unanswered.Full) result old new out out_after made stays puts =
    subst (λ (r : Result Bool Ending). DoesLine r (CallLine call) old new out out_after) (sym puts.0)
    ([], stays.0, refl, stays.1, puts.1)
call_line call (Err unanswered.NoMemory) result old new out out_after made stays puts =
    subst (λ (r : Result Bool Ending). DoesLine r (CallLine call) old new out out_after) (sym puts.0)
    ([], stays, inr refl, puts.1)

-- A settle line.

-- what was seen before the call's step
stays_before : (mid new : List Entry) (part : List Step) (s : Step) → Came mid new part → part ≡ s ∷ [] →
    Stays mid s.before
stays_before mid new part s c is =
    let n = next_own mid c.rest s [] (c.steps ∙ is) in
    record { rest = n.gap; history = n.before_is; steps = n.none }

record Behind (n : ℕ) (old mid new : List Entry) (part : List Step) (s : Settled n old mid) : Type 0 where
  pub came : Came old new (s.some.turns ++ part)
  pub keeps : KeepsSettled n (s.some.turns ++ part)
  pub text : part_out part ≡ part_out (s.some.turns ++ part)
  pub refusal : part_refused part ≡ part_refused (s.some.turns ++ part)

behind : (n : ℕ) (old mid new : List Entry) (part : List Step) (s : Settled n old mid) → Came mid new part →
    (before : List Entry) → part ≡ step_at before (own_call (Settle n)) ∷ [] → Behind n old mid new part s
behind n old mid new part s c before is =
    let turns = s.some.turns in
    let quiet = quiet_turns turns s.some.are_turns in
    record {
      came = came_then old mid new turns part s.some.came c;
      keeps = record {
        turns = turns;
        before = before;
        steps = ap (λ (l : List Step). turns ++ l) is;
        are_turns = s.some.are_turns;
        most = s.some.few;
        idle = λ less. record {
          world = replay mid;
          sees = saw mid before (stays_before mid new part (step_at before (own_call (Settle n))) c is);
          idle = s.idle less;
        };
      };
      text = sym (out_append turns part ∙ ap (λ (l : List ℕ). l ++ part_out part) quiet.says);
      refusal = sym (refused_append turns part ∙ ap (λ (b : Bool). b || part_refused part) quiet.goes);
    }

-- the call came to nothing
settle_none : (n : ℕ) (old mid new : List Entry) (part : List Step) (s : Settled n old mid) → Came mid new part →
    part ≡ [] → Came old new s.some.turns
settle_none n old mid new part s c none =
    came_stays old mid new s.some.turns s.some.came (subst (Came mid new) none c)

-- duties, and then the call
pub settle_line : (r : Result Bool Ending) (n : ℕ) (old mid new : List Entry) (out out_after : Option (List ℕ)) →
    Settled n old mid → DoesLine r (CallLine (Settle n)) mid new out out_after →
    DoesLine r (SettleLine n) old new out out_after
settle_line (Ok refused) n old mid new out out_after s does =
    let b = behind n old mid new does.0 s does.1.came does.1.keeps.0 does.1.keeps.1 in (
      s.some.turns ++ does.0,
      record { came = b.came; keeps = b.keeps },
      subst (Appends out out_after) b.text does.2,
      does.3 ∙ b.refusal,
    )
settle_line (Err OutFault) n old mid new out out_after s does =
    let b = behind n old mid new does.0 s does.1.came does.1.keeps.0 does.1.keeps.1 in (
      s.some.turns ++ does.0,
      record { came = b.came; keeps = b.keeps },
      subst (AppendsPrefix out out_after) b.text does.2,
    )
settle_line (Err NoMemory) n old mid new out out_after s does = elim does.2 [
  | inl whole ↦ (
      let b = behind n old mid new does.0 s does.1 whole.0 whole.1 in
      (s.some.turns ++ does.0, b.came, inl b.keeps, does.3)
      )
  | inr none ↦ (
    s.some.turns,
    settle_none n old mid new does.0 s does.1 none,
    inr (s.some.are_turns, s.some.few),
    does.3,
  )
]
settle_line (Err Full) n old mid new out out_after s does = (
  s.some.turns,
  settle_none n old mid new does.0 s does.1 does.2,
  (s.some.are_turns, s.some.few),
  does.3,
  does.4,
)
settle_line (Err Done) n old mid new out out_after s does = absurd does
settle_line (Err Refused) n old mid new out out_after s does = absurd does
settle_line (Err ReadFault) n old mid new out out_after s does = absurd does
settle_line (Err JournalFault) n old mid new out out_after s does = absurd does
settle_line (Err (NoMemoryAt number fault)) n old mid new out out_after s does = absurd does
settle_line (Err (BadLine number fault)) n old mid new out out_after s does = absurd does

-- it ends within its duties
pub settle_stops : (cause : Unanswered) (n : ℕ) (old new : List Entry) (out : Option (List ℕ)) →
    StopsTurns cause n old new → DoesLine (Err (ending_by cause)) (SettleLine n) old new out out
settle_stops unanswered.Full n old new out h =
    (h.some.turns, h.some.came, (h.some.are_turns, h.some.few), h.full, refl)
settle_stops unanswered.NoMemory n old new out h = (h.turns, h.came, inr (h.are_turns, h.few), refl)

-- A wait line.

pub wait_line : (ms : ℕ) (old new : List Entry) (out : Option (List ℕ)) → Appends out out [] → Waited ms old new →
    DoesLine (Ok false) (Wait ms) old new out out
wait_line ms old new out same w =
    let begun = w.keeps.begun in
    let quiet = quiet_ticks begun.stretches ms begun.last w.part begun.ticks begun.are_turns in (
      w.part,
      record { came = w.came; keeps = w.keeps },
      subst (Appends out out) (sym quiet.says) same,
      sym quiet.goes,
    )

pub wait_stops : (cause : Unanswered) (ms : ℕ) (old new : List Entry) (out : Option (List ℕ)) →
    StopsWait cause ms old new → DoesLine (Err (ending_by cause)) (Wait ms) old new out out
wait_stops unanswered.Full ms old new out w = (w.part, w.came, w.keeps, w.full, refl)
wait_stops unanswered.NoMemory ms old new out w = (w.part, w.came, inr w.keeps, refl)

-- a blank line
pub blank_line : (old : List Entry) (out : Option (List ℕ)) → Appends out out [] →
    DoesLine (Ok false) Blank old old out out
blank_line old out same = ([], record { came = came_none old; keeps = refl }, same, refl)

-- Where caller 0 is alone, what it knows of its entries makes the history the serial one.
use Rattle.std.proofs.Common.{◌≡◌, ℕ, ◌-◌, List, [], ◌∷◌, ◌++◌, true, ◌==◌, ◌⊎◌, inl, inr, refl, Option, Some, None, sym, ◌∙◌, ap, subst}
use Rattle.std.specs.List.{list_all}
use Rattle.swarm_model.proofs.Base.Histories.{replay-snoc}
use Rattle.swarm_model.proofs.Following.Alone.{AreAlone, AreOwn, alone_join, both, is_own, joined, one_call, own_all, own_join}
use Rattle.swarm_model.proofs.Following.AloneLaws.{lines_are, part_serial, stops_serial}
use Rattle.swarm_model.proofs.Following.First.{first_of_named}
use Rattle.swarm_model.proofs.Following.Idle.{callers_append}
use Rattle.swarm_model.specs.History.{replay, step_world}
use Rattle.swarm_model.specs.Kept.{AreTurns, IsTurn, KeepsLine, KeepsLines, KeepsPart, KeepsTicks, KeepsUndone, KeptAloneLaw, KeptStopLaw, Stretch, before_next}
use Rattle.swarm_model.specs.Laws.Steps.{EachStep}
use Rattle.swarm_model.specs.OneCaller.{IsNamed}
use Rattle.swarm_model.specs.Own.{Step, own, own_from, step_at}
use Rattle.swarm_model.specs.Script.{Asked, Asks, Nothing, Settles, Waits, own_call}
use Rattle.swarm_model.specs.Settle.{settle_answer}
use Rattle.swarm_objects.proofs.RowLemmas.{Has-append_cases}
use Rattle.swarm_objects.specs.Kinds.{duty_named}
use Rattle.swarm_objects.specs.Rows.{Has}
use Rattle.swarm_objects.specs.World.{World, empty_world}
use Rattle.swarm_objects.specs.declared.calls.Call.{Call}
use Rattle.swarm_objects.specs.declared.calls.Call.TheVariants as call
use Rattle.swarm_objects.specs.declared.calls.Entry.{Entry}
use Rattle.swarm_objects.specs.declared.duties.Duty.{Duty}
use Rattle.swarm_model.proofs.Following.Kept.{choose_yes, halt, kept_lines, seen_alone, tick_at}
use Rattle.swarm_model.proofs.Following.KeptLast.{undone_lines}

-- Each step is a call or a turn.

abbrev IsStep : Step → Type 0
IsStep s = IsTurn s ⊎ ((c : Call) × (s.entry ≡ own_call c))

abbrev AreSteps : List Step → Type 0
AreSteps steps = (s : Step) → Has steps s → IsStep s

steps_join : (xs ys : List Step) → AreSteps xs → AreSteps ys → AreSteps (xs ++ ys)
steps_join xs ys first rest s h = elim (Has-append_cases xs ys s h) [ inl k ↦ first s k | inr k ↦ rest s k ]

turn_steps : (xs : List Step) → AreTurns xs → AreSteps xs
turn_steps xs are s h = inl (are s h)

call_step : (before : List Entry) (c : Call) → AreSteps (step_at before (own_call c) ∷ [])
call_step before c s (inl e) = inr (c, ap (λ (t : Step). t.entry) (sym e))
call_step before c s (inr h) = absurd h

no_steps : AreSteps []
no_steps s h = absurd h

steps_are : (xs ys : List Step) → xs ≡ ys → AreSteps ys → AreSteps xs
steps_are xs ys is are = subst AreSteps (sym is) are

ticks_steps : (left : ℕ) (stretches : List Stretch) (last part : List Step) → AreTurns last →
    KeepsTicks left stretches last part → AreSteps part
ticks_steps left [] last part are keeps = steps_are part last keeps (turn_steps last are)
ticks_steps left (s ∷ stretches) last part are keeps =
    steps_are part (s.turns ++ tick_at s ∷ keeps.0) keeps.1
    (steps_join s.turns (tick_at s ∷ keeps.0) (turn_steps s.turns keeps.2.are_turns)
    (steps_join (tick_at s ∷ []) keeps.0 (call_step s.before (call.Tick s.ms))
    (ticks_steps (left - s.ms) stretches last keeps.0 are keeps.3)))

line_steps : (line : Asked) (part : List Step) (next : List Entry) → KeepsLine line part next → AreSteps part
line_steps Nothing part next keeps = steps_are part [] keeps no_steps
line_steps (Asks c) part next keeps = steps_are part (step_at keeps.0 (own_call c) ∷ []) keeps.1 (call_step keeps.0 c)
line_steps (Settles budget) part next keeps =
    let last = step_at keeps.before (own_call (call.Settle budget)) ∷ [] in
    steps_are part (keeps.turns ++ last) keeps.steps
    (steps_join keeps.turns last (turn_steps keeps.turns keeps.are_turns) (call_step keeps.before (call.Settle budget)))
line_steps (Waits ms) part next keeps =
    ticks_steps ms keeps.begun.stretches keeps.begun.last part keeps.begun.are_turns keeps.begun.ticks

part_steps : (next : Option Asked) (part : List Step) → KeepsPart next part → AreSteps part
part_steps None part keeps = steps_are part [] keeps no_steps
part_steps (Some Nothing) part keeps = steps_are part [] keeps no_steps
part_steps (Some (Asks c)) part keeps = steps_are part [] keeps no_steps
part_steps (Some (Settles budget)) part keeps = turn_steps part keeps.0
part_steps (Some (Waits ms)) part keeps = ticks_steps ms keeps.stretches keeps.last part keeps.are_turns keeps.ticks

lines_steps : (lines : List Asked) (next : Option Asked) (part : List Step) (now : List Entry) →
    KeepsLines lines next part now → AreSteps part
lines_steps [] next part now keeps = part_steps next part keeps
lines_steps (line ∷ lines) next part now keeps =
    steps_are part (keeps.0 ++ keeps.1) keeps.2
    (steps_join keeps.0 keeps.1 (line_steps line keeps.0 (before_next keeps.1 now) keeps.3)
    (lines_steps lines next keeps.1 now keeps.4))

-- Alone, each turn is the duty that the settle test names.

some_is : (a b : Duty) → Some a ≡ Some b → a ≡ b
some_is a b e = cc

named_turn : (before : List Entry) (e : Entry) → AreOwn before → IsTurn (step_at before e) →
    IsNamed (replay before) e.what (step_world (replay before) e)
named_turn before e own t =
    let now = seen_alone before t.world own t.sees in
    let busy : duty_named (settle_answer (replay before)) ≡ Some t.named =
    subst (λ (w : World). duty_named (settle_answer w) ≡ Some t.named) now t.busy in
    let first = sym (first_of_named (replay before) t.named busy) ∙ t.first in
    subst (λ (x : Entry). IsNamed (replay before) x.what (step_world (replay before) x)) (sym t.entry)
    (busy ∙ ap Some (some_is t.named t.duty first))

named_call : (w : World) (e : Entry) (c : Call) → e ≡ own_call c → IsNamed w e.what (step_world w e)
named_call w e c is = subst (λ (x : Entry). IsNamed w x.what (step_world w x)) (sym is) tt

named_step : (before : List Entry) (e : Entry) → AreOwn before → IsStep (step_at before e) →
    IsNamed (replay before) e.what (step_world (replay before) e)
named_step before e own_before (inl turn) = named_turn before e own_before turn
named_step before e own_before (inr c) = named_call (replay before) e c.0 c.1

named_steps : (before es : List Entry) → AreOwn before → AreOwn es → AreSteps (own_from 0 before es) →
    EachStep IsNamed (replay before) es
named_steps before [] own_before own are = tt
named_steps before (e ∷ es) own_before own are =
    let parts = both (is_own e) (list_all is_own es) own in
    let rest_own = own_from 0 (before ++ e ∷ []) es in
    let all = subst AreSteps (choose_yes (e.by == 0) (step_at before e ∷ rest_own) rest_own parts.0) are in
    let one : AreOwn (before ++ e ∷ []) = own_join before (e ∷ []) own_before (joined (is_own e) true parts.0 refl) in (
      named_step before e own_before (all (step_at before e) (inl refl)),
      subst (λ (w : World). EachStep IsNamed w es) (replay-snoc empty_world before e)
          (named_steps (before ++ e ∷ []) es one parts.1 (λ s h. all s (inr h))),
    )

-- Alone, the history is the serial one.

all_alone : (start : List Entry) → AreOwn start → AreSteps (own 0 start) → AreAlone empty_world (start ++ halt)
all_alone start firsts steps =
    alone_join empty_world start halt (record { own = firsts; named = named_steps [] start refl firsts steps })
    (one_call (replay start) call.Halt)

pub kept-alone-law : KeptAloneLaw
kept-alone-law lines next start legal callers keeps =
    let firsts = own_all start (callers_append 0 start halt callers).0 in
    let made = kept_lines 0 lines next start (record { legal = legal; callers = callers }) keeps in
    part_serial lines next start
    (lines_are lines next empty_world (start ++ halt)
    (all_alone start firsts (lines_steps lines next (own 0 start) start keeps)) made.are (made.alone firsts))

undone_steps : (now : List Entry) (next : Option Asked) (part : List Step) → KeepsUndone now next part → AreSteps part
undone_steps now None part keeps = absurd keeps
undone_steps now (Some Nothing) part keeps = absurd keeps
undone_steps now (Some (Asks c)) part keeps = part_steps (Some (Asks c)) part keeps
undone_steps now (Some (Settles budget)) part keeps = part_steps (Some (Settles budget)) part keeps
undone_steps now (Some (Waits ms)) part keeps = part_steps (Some (Waits ms)) part keeps.begun

pub kept-stop-law : KeptStopLaw
kept-stop-law lines next earlier later start legal callers e keeps undone =
    let firsts = own_all start (callers_append 0 start halt callers).0 in
    let u = undone_lines 0 lines next earlier later start (record { legal = legal; callers = callers }) e keeps undone in
    stops_serial lines next start firsts
    (all_alone start firsts
    (steps_are (own 0 start) (earlier ++ later) e
    (steps_join earlier later (lines_steps lines None earlier (before_next later start) keeps)
    (undone_steps start next later undone)))) u.are (u.alone firsts) u.undone

-- A further entry of a history, the number of entries, and what ends it.
use Rattle.std.proofs.Common.{◌≡◌, ℕ, ◌+◌, ◌<◌, List, [], ◌∷◌, ◌++◌, Bool, true, false, not, refl, Ok, Err, ap, nat_lt, nat_le, length, cond, ◌∙◌, arith, Option, Some, None}
use Rattle.std.specs.Prelude.{◌&&◌}
use Rattle.std.proofs.lemmas.Bool.Decides.{nat_tests}
use Rattle.swarm_model.specs.Calls.{answer, answered, call_outcome, is_admitted, is_full, outcome, refusal_of, unless_refused}
use Rattle.swarm_model.specs.History.{IsLegalFrom, has_room_for_duty, may_follow, replay, replay_from, replies_from, step, step_reply, step_world}
use Rattle.swarm_model.specs.Outcome.{Answered}
use Rattle.swarm_objects.proofs.Tests.{both_are}
use Rattle.swarm_objects.specs.CallWords.{is_halt}
use Rattle.swarm_objects.specs.Duties.{is_due}
use Rattle.swarm_objects.specs.World.{World, empty_world}
use Rattle.swarm_objects.specs.declared.calls.Call.{Call}
use Rattle.swarm_objects.specs.declared.calls.Call.TheVariants as call
use Rattle.swarm_objects.specs.declared.calls.Entry.{Entry}
use Rattle.swarm_objects.specs.declared.calls.What.{What}
use Rattle.swarm_objects.specs.declared.calls.What.TheVariants as what
use Rattle.swarm_objects.specs.declared.duties.Duty.{Duty}
use Rattle.swarm_objects.specs.declared.replies.Refusal.{Refusal}

-- A further entry.

pub replay-snoc : (w : World) (h : List Entry) (e : Entry) → replay_from w (h ++ e ∷ []) ≡ step_world (replay_from w h) e
replay-snoc w [] e = refl
replay-snoc w (f ∷ h) e = replay-snoc (step_world w f) h e

pub replay-append : (w : World) (h g : List Entry) → replay_from w (h ++ g) ≡ replay_from (replay_from w h) g
replay-append w [] g = refl
replay-append w (e ∷ h) g = replay-append (step_world w e) h g

pub replies-snoc : (w : World) (h : List Entry) (e : Entry) →
    replies_from w (h ++ e ∷ []) ≡ replies_from w h ++ step_reply (replay_from w h) e ∷ []
replies-snoc w [] e = refl
replies-snoc w (f ∷ h) e = ap (λ rs. step_reply w f ∷ rs) (replies-snoc (step_world w f) h e)

pub IsLegalFrom-snoc : (w : World) (h : List Entry) (e : Entry) → IsLegalFrom w h →
    may_follow (replay_from w h) e.what ≡ true → IsLegalFrom w (h ++ e ∷ [])
IsLegalFrom-snoc w [] e legal may = (may, tt)
IsLegalFrom-snoc w (f ∷ h) e legal may = (legal.0, IsLegalFrom-snoc (step_world w f) h e legal.1 may)

-- the beginning of a legal history is legal, and so is what follows it
pub IsLegalFrom-append : (w : World) (h g : List Entry) → IsLegalFrom w (h ++ g) →
    IsLegalFrom w h × IsLegalFrom (replay_from w h) g
IsLegalFrom-append w [] g legal = (tt, legal)
IsLegalFrom-append w (e ∷ h) g legal =
    let rest = IsLegalFrom-append (step_world w e) h g legal.1 in
    ((legal.0, rest.0), rest.1)

pub IsLegalFrom-join : (w : World) (h g : List Entry) → IsLegalFrom w h → IsLegalFrom (replay_from w h) g →
    IsLegalFrom w (h ++ g)
IsLegalFrom-join w [] g first rest = rest
IsLegalFrom-join w (e ∷ h) g first rest = (first.0, IsLegalFrom-join (step_world w e) h g first.1 rest)

-- what each step that may follow keeps, a legal history keeps
pub replay-keeps : (P : World → Type 0) →
    ((w : World) (e : What) → P w → may_follow w e ≡ true → P (step w e).after) →
    (w : World) (h : List Entry) → P w → IsLegalFrom w h → P (replay_from w h)
replay-keeps P keeps w [] holds legal = holds
replay-keeps P keeps w (e ∷ h) holds legal =
    replay-keeps P keeps (step_world w e) h (keeps w e.what holds legal.0) legal.1

-- An entry counts as one.

entries-answered : (w : World) (given : Answered) → (answered w given).after.entries ≡ w.entries + 1
entries-answered w (Ok done) = refl
entries-answered w (Err r) = refl

pub entries-call : (w : World) (c : Call) → (call_outcome w c).after.entries ≡ w.entries + 1
entries-call w c = entries-answered w (answer (w.entries + 1) w c)

pub entries-step : (w : World) (e : What) → (step w e).after.entries ≡ w.entries + 1
entries-step w (what.Call c) = entries-call w c
entries-step w (what.Duty d) = refl

pub entries-replay_from : (w : World) (h : List Entry) → (replay_from w h).entries ≡ w.entries + length h
entries-replay_from w [] = omega arith
entries-replay_from w (e ∷ h) = omega (arith, entries-replay_from (step_world w e) h, entries-step w e.what)

pub entries-replay : (h : List Entry) → (replay h).entries ≡ length h
entries-replay h = omega (arith, entries-replay_from empty_world h)

-- What may follow.

room_left : (halted halt : Bool) (n : ℕ) → (not halted && not (not halt && nat_le 300000 n)) ≡ true →
    (halted ≡ false) × (halt ≡ false → n < 300000)
room_left true halt n e = absurd cc
room_left false true n e = (refl, λ h. absurd cc)
room_left false false n e = (refl, λ h. grind (arith, nat_tests))

-- what is admitted finds the world not halted and, where it isn't Halt, not full
pub room_admitted : (w : World) (c : Call) → is_admitted w c ≡ true →
    (w.halted ≡ false) × (is_halt c ≡ false → w.entries < 300000)
room_admitted w c e = room_left w.halted (is_halt c) w.entries e

-- a duty that may follow finds the world not halted and not full, and is one of its loop's
pub room_duty : (w : World) (d : Duty) → may_follow w (what.Duty d) ≡ true →
    (w.halted ≡ false) × (w.entries < 300000) × (is_due w d ≡ true)
room_duty w d e =
    let parts = both_are (has_room_for_duty w) (is_due w d) e in
    let room = both_are (not w.halted) (nat_lt w.entries 300000) parts.0 in
    (runs w.halted room.0, grind (arith, nat_tests, room.1), parts.1)
  where
    runs : (b : Bool) → not b ≡ true → b ≡ false
    runs true e = absurd cc
    runs false e = refl

duty_has_room : (halted room due : Bool) → halted ≡ false → room ≡ true → due ≡ true → ((not halted && room) && due) ≡ true
duty_has_room true room due h r d = absurd cc
duty_has_room false true due h r d = d
duty_has_room false false due h r d = absurd cc

pub duty_admitted : (w : World) (d : Duty) → w.halted ≡ false → w.entries < 300000 → is_due w d ≡ true →
    may_follow w (what.Duty d) ≡ true
duty_admitted w d running few due =
    duty_has_room w.halted (nat_lt w.entries 300000) (is_due w d) running (grind (arith, nat_tests)) due

admits : (halt : Bool) (n : ℕ) → n < 300000 → not (not halt && nat_le 300000 n) ≡ true
admits true n few = refl
admits false n few = grind (arith, nat_tests)

pub admitted : (w : World) (c : Call) → w.halted ≡ false → w.entries < 300000 → is_admitted w c ≡ true
admitted w c running few =
    ap (λ (b : Bool). not b && not (is_full w c)) running ∙ admits (is_halt c) w.entries few

pub admitted-Halt : (w : World) → w.halted ≡ false → is_admitted w call.Halt ≡ true
admitted-Halt w running = ap (λ (b : Bool). not b && true) running

refused_not : (x y : Refusal) (halted full : Bool) → (not halted && not full) ≡ true →
    ◌≡◌ {A = Option Refusal} (cond halted (Some x) (cond full (Some y) None)) None
refused_not x y true full e = absurd cc
refused_not x y false true e = absurd cc
refused_not x y false false e = refl

pub refusal-admitted : (w : World) (c : Call) → is_admitted w c ≡ true → refusal_of w c ≡ None
refusal-admitted w c e = refused_not _ _ w.halted (is_full w c) e

-- a call that is admitted is answered as an entry
pub outcome-admitted : (w : World) (c : Call) → is_admitted w c ≡ true → outcome w c ≡ call_outcome w c
outcome-admitted w c e = ap (λ r. unless_refused r w (call_outcome w c)) (refusal-admitted w c e)

admitted_so : (x y : Refusal) (halted full : Bool) →
    ◌≡◌ {A = Option Refusal} (cond halted (Some x) (cond full (Some y) None)) None → (not halted && not full) ≡ true
admitted_so x y true full e = absurd cc
admitted_so x y false true e = absurd cc
admitted_so x y false false e = refl

-- a call that nothing refuses becomes an entry
pub admitted-unrefused : (w : World) (c : Call) → refusal_of w c ≡ None → is_admitted w c ≡ true
admitted-unrefused w c e = admitted_so _ _ w.halted (is_full w c) e

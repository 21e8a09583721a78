-- Histories: lists of entries, from the empty world on.
use Rattle.std.specs.Prelude.{◌+◌, Bool, nat_lt, not, ◌&&◌, List, [], ◌∷◌, true, ⊤, ◌≡◌, false}
use Rattle.swarm_model.specs.Calls.{entered, call_outcome, is_admitted}
use Rattle.swarm_model.specs.Outcome.{Outcome}
use Rattle.swarm_objects.specs.Duties.{effect_by, is_due}
use Rattle.swarm_objects.specs.Limits.{most_entries}
use Rattle.swarm_objects.specs.World.{World, empty_world}
use Rattle.swarm_objects.specs.declared.calls.Entry.{Entry}
use Rattle.swarm_objects.specs.declared.calls.What.{What}
use Rattle.swarm_objects.specs.declared.calls.What.TheVariants as what
use Rattle.swarm_objects.specs.declared.duties.Duty.{Duty}
use Rattle.swarm_objects.specs.declared.replies.Reply.{Reply}
use Rattle.swarm_objects.specs.declared.replies.Reply.TheVariants as reply

abbrev pub effect : World → Duty → World
effect w d = entered w (effect_by (w.entries + 1) w d)

-- a duty's reply, and the world after it
abbrev pub duty_outcome : World → Duty → Outcome
duty_outcome w d = record { reply = reply.Did; after = effect w d }

-- an entry's reply, and the world after it
abbrev pub step : World → What → Outcome
step w (what.Call c) = call_outcome w c
step w (what.Duty d) = duty_outcome w d

abbrev pub step_reply : World → Entry → Reply
step_reply w e = (step w e.what).reply

abbrev pub step_world : World → Entry → World
step_world w e = (step w e.what).after

-- the history has room for a duty
abbrev pub has_room_for_duty : World → Bool
has_room_for_duty w = not w.halted && nat_lt w.entries most_entries

-- an entry may come next: any call for which there is room, and a duty that is one of its role's
abbrev pub may_follow : World → What → Bool
may_follow w (what.Call c) = is_admitted w c
may_follow w (what.Duty d) = has_room_for_duty w && is_due w d

-- the world after these entries
abbrev pub replay_from : World → List Entry → World
replay_from w [] = w
replay_from w (e ∷ es) = replay_from (step_world w e) es

-- each entry may follow the earlier ones
abbrev pub IsLegalFrom : World → List Entry → Type 0
IsLegalFrom w [] = ⊤
IsLegalFrom w (e ∷ es) = (may_follow w e.what ≡ true) × IsLegalFrom (step_world w e) es

-- the same as a test
abbrev pub is_legal_from : World → List Entry → Bool
is_legal_from w [] = true
is_legal_from w (e ∷ es) = elim (may_follow w e.what) [ true ↦ is_legal_from (step_world w e) es | false ↦ false ]

-- the replies, in order
abbrev pub replies_from : World → List Entry → List Reply
replies_from w [] = []
replies_from w (e ∷ es) = step_reply w e ∷ replies_from (step_world w e) es

abbrev pub replay : List Entry → World
replay = replay_from empty_world

abbrev pub IsLegal : List Entry → Type 0
IsLegal = IsLegalFrom empty_world

abbrev pub is_legal : List Entry → Bool
is_legal = is_legal_from empty_world

abbrev pub replies : List Entry → List Reply
replies = replies_from empty_world

-- Messages that an agent may apply, and one that is stale; inboxes that follow what was sent, and some that don't.
use Rattle.std.proofs.Common.{None, Option, Some, [], ap, refl, sym, ℕ, ◌≡◌}
use Rattle.std.specs.Prelude.{false, true}
use Rattle.swarm_settle.specs.Fresh.{IsFresh}
use Rattle.swarm_objects.specs.Agents.Messages.{is_stale}
use Rattle.swarm_objects.specs.Agents.Messages.{complete_message, difference_message}
use Rattle.swarm_objects.specs.declared.messages.NodeSent.{NodeSent}

-- a whole message may come at any time, the changes of the third message only behind the second
whole : is_stale 7 (complete_message []) ≡ false
whole = refl

next_changes : is_stale 2 (difference_message 2 []) ≡ false
next_changes = refl

later_changes : is_stale 1 (difference_message 2 []) ≡ true
later_changes = refl

-- three messages were sent to node 1
abbrev sent : Option NodeSent
sent = Some (record { node = 1; count = 3; tasks = [] })

abbrev count_of : Option NodeSent → ℕ
count_of None = 0
count_of (Some s) = s.count

third_is_last : (s : NodeSent) → sent ≡ Some s → s.count ≡ 3
third_is_last s e = ap count_of (sym e)

all_applied : IsFresh sent None 3
all_applied = third_is_last

third_waits : IsFresh sent (Some (difference_message 2 [])) 2
third_waits = (refl, third_is_last)

-- behind the first message the third one is stale
third_is_stale : IsFresh sent (Some (difference_message 2 [])) 1 → ⊥
third_is_stale is = absurd (let wrong : true ≡ false = is.0 in cc)

-- Duties of the agents' loop that write rows.
use Rattle.std.proofs.Common.{◌≡◌, ◌+◌, ◌∙◌, ℕ, List, ap, subst}
use Rattle.std.specs.Prelude.{map}
use Rattle.swarm_model.specs.Changed.{changes_between}
use Rattle.swarm_model.specs.History.{replay, step}
use Rattle.swarm_objects.specs.Duties.{effect_by}
use Rattle.swarm_objects.specs.World.{World}
use Rattle.swarm_objects.specs.declared.calls.Entry.{Entry}
use Rattle.swarm_objects.specs.declared.calls.What.TheVariants as what
use Rattle.swarm_objects.specs.declared.duties.Duty.{Duty}
use Rattle.swarm_watch.specs.Calls.{hears}
use Rattle.swarm_watch.specs.Worlds.{NotesLaw}
use Rattle.swarm_world.proofs.Entering.{number-is}
use Rattle.swarm_world.proofs.OnNodes.{stepped_by}
use Rattle.swarm_world.specs.Inside.Parts.{HasParts, IsAt, StandsFor}
use Rattle.swarm_world.specs.declared.parts.Parts.{Parts}

-- the parts are those of the world that the duty makes as the entry with this number, and the watchers heard of it
pub stepped_as : (notes : NotesLaw) (version : ℕ) (h : List Entry) (d : Duty) (v : World) (p q : Parts) →
    IsAt version p h → v ≡ effect_by version (replay h) d → HasParts q v →
    q.watches.watchers ≡ map (hears (changes_between version (replay h).tables v.tables)) p.watches.watchers →
    StandsFor q (step (replay h) (what.Duty d)).after
stepped_as notes version h d v p q is made has heard =
    let w = replay h in
    let number = number-is version p h is in
    let came : v ≡ effect_by (w.entries + 1) w d = made ∙ ap (λ k. effect_by k w d) number in
    stepped_by notes h d p q is.stands (subst (HasParts q) came has)
    (heard
    ∙ ap (λ k. map (hears (changes_between k w.tables v.tables)) p.watches.watchers) number
    ∙ ap (λ (x : World). map (hears (changes_between (w.entries + 1) w.tables x.tables)) p.watches.watchers) came)

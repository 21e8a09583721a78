-- Closed examples: what the lines of a short history tell of a row that comes and goes.
use Rattle.std.proofs.Common.{◌≡◌, ℕ, List, [], ◌∷◌, codes, refl}
use Rattle.serde_json.specs.Data.{Data, string, object, no_members, member}
use Rattle.events_text.specs.Lines.{changes_data, what_text}
use Rattle.swarm_model.specs.History.{replay}
use Rattle.swarm_objects.specs.World.{empty_world}
use Rattle.swarm_objects.specs.declared.calls.Call.TheVariants as call
use Rattle.swarm_objects.specs.declared.calls.Entry.{Entry}
use Rattle.swarm_objects.specs.declared.calls.Op.{Op}
use Rattle.swarm_objects.specs.declared.calls.Op.TheVariants as op
use Rattle.swarm_objects.specs.declared.calls.What.TheVariants as what
use Rattle.swarm_print.specs.Details.{count}

abbrev change : Op → Entry
change o = record { by = 0; what = what.Call (call.Txn (o ∷ [])) }

-- 10.0.1.0/29
abbrev made : Entry
made = change (op.CreateNetwork (codes "lan") 167772416 29)

abbrev gone : Entry
gone = change (op.RemoveNetwork (codes "lan"))

abbrev lan : List ℕ → Data
lan happened = object
    (member (codes "id") (count 1)
    (member (codes "kind") (string (codes "network"))
    (member (codes "name") (string (codes "lan"))
    (member (codes "verb") (string happened)
    no_members))))

-- a row that came is told as it is
comes : changes_data empty_world (replay (made ∷ [])) ≡ lan (codes "create") ∷ []
comes = refl

-- and one that went as it was
goes : changes_data (replay (made ∷ [])) (replay (made ∷ gone ∷ [])) ≡ lan (codes "delete") ∷ []
goes = refl

-- a history that changed nothing tells nothing
rests : changes_data (replay (made ∷ [])) (replay (made ∷ [])) ≡ []
rests = refl

-- the text of an entry has no caller before it
says : what_text gone ≡ codes "network remove lan"
says = refl

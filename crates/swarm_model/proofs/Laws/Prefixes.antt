-- What holds after every legal history holds of each of its worlds.
use Rattle.std.proofs.Common.{List, [], subst, sym, ◌++◌, ◌∷◌}
use Rattle.swarm_model.proofs.Base.Histories.{IsLegalFrom-snoc, replay-snoc}
use Rattle.swarm_model.proofs.Laws.GivesOutReplay.{IsOrderedBeside-replay, IsSound-replay}
use Rattle.swarm_model.proofs.Laws.Small.{IsSmall-replay}
use Rattle.swarm_model.specs.History.{IsLegal, IsLegalFrom, replay}
use Rattle.swarm_model.specs.Laws.Steps.{EachWorld}
use Rattle.swarm_model.specs.Laws.Worlds.{OrderLaw, SizeLaw, SoundLaw}
use Rattle.swarm_objects.specs.Bounds.{IsSmall}
use Rattle.swarm_objects.specs.Sound.{IsOrderedBeside, IsSound}
use Rattle.swarm_objects.specs.World.{World, empty_world}
use Rattle.swarm_objects.specs.declared.calls.Entry.{Entry}

each-after : (Q : World → Type 0) → ((h : List Entry) → IsLegal h → Q (replay h)) → (g h : List Entry) → IsLegal g →
    IsLegalFrom (replay g) h → EachWorld Q (replay g) h
each-after Q all g [] legal rest = all g legal
each-after Q all g (e ∷ h) legal rest = (
  all g legal,
  subst (λ w. EachWorld Q w h) (replay-snoc empty_world g e)
      (each-after Q all (g ++ e ∷ []) h (IsLegalFrom-snoc empty_world g e legal rest.0)
      (subst (λ w. IsLegalFrom w h) (sym (replay-snoc empty_world g e)) rest.1)),
)

pub each-prefix : (Q : World → Type 0) → ((h : List Entry) → IsLegal h → Q (replay h)) → (h : List Entry) → IsLegal h →
    EachWorld Q empty_world h
each-prefix Q all h legal = each-after Q all [] h tt legal

pub always-sound : SoundLaw
always-sound h legal = each-prefix (λ w. IsSound w.tables) IsSound-replay h legal

pub always-ordered : OrderLaw
always-ordered h legal = each-prefix IsOrderedBeside IsOrderedBeside-replay h legal

pub always-small : SizeLaw
always-small h legal = each-prefix IsSmall IsSmall-replay h legal

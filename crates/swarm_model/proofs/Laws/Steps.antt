-- Laws of each step and of each world, from what one step does.
use Rattle.std.proofs.Common.{◌≡◌, List, [], ◌∷◌, true}
use Rattle.swarm_model.specs.History.{IsLegalFrom, may_follow, step, step_world}
use Rattle.swarm_model.specs.Laws.Steps.{EachStep, EachWorld}
use Rattle.swarm_objects.specs.World.{World}
use Rattle.swarm_objects.specs.declared.calls.Entry.{Entry}
use Rattle.swarm_objects.specs.declared.calls.What.{What}

-- what holds of each step at all
pub each-step : (S : World → What → World → Type 0) → ((w : World) (e : What) → S w e (step w e).after) → (w : World)
    (h : List Entry) → EachStep S w h
each-step S one w [] = tt
each-step S one w (e ∷ h) = (one w e.what, each-step S one (step_world w e) h)

-- what holds of each step that may follow, where a fact holds that such steps keep
pub each-step-kept : (P : World → Type 0) (S : World → What → World → Type 0) →
    ((w : World) (e : What) → P w → may_follow w e ≡ true → S w e (step w e).after × P (step w e).after) →
    (w : World) (h : List Entry) → P w → IsLegalFrom w h → EachStep S w h
each-step-kept P S one w [] holds legal = tt
each-step-kept P S one w (e ∷ h) holds legal =
    let both = one w e.what holds legal.0 in
    (both.0, each-step-kept P S one (step_world w e) h both.1 legal.1)

-- what such steps keep holds of each world
pub each-world : (P Q : World → Type 0) → ((w : World) → P w → Q w) →
    ((w : World) (e : What) → P w → may_follow w e ≡ true → P (step w e).after) → (w : World) (h : List Entry) → P w →
    IsLegalFrom w h → EachWorld Q w h
each-world P Q from one w [] holds legal = from w holds
each-world P Q from one w (e ∷ h) holds legal =
    (from w holds, each-world P Q from one (step_world w e) h (one w e.what holds legal.0) legal.1)

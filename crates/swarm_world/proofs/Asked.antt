-- Whether a message is due for a node is asked only where one may be.
use Rattle.std.proofs.Common.{◌≡◌, ◌∙◌, ℕ, Bool, true, false, inl, inr, refl, sym}
use Rattle.swarm_objects.specs.Loops.Agents.{is_mode_on}
use Rattle.swarm_objects.specs.Nodes.Sessions.{is_session_live}
use Rattle.swarm_objects.specs.World.{World}
use Rattle.swarm_objects.specs.declared.agents.NodeAgent.{NodeAgent}
use Rattle.swarm_spans.specs.Spans.{beyond, is_in}
use Rattle.swarm_spans.specs.declared.span.Span.{Span}
use Rattle.swarm_world.proofs.AgentsShown.{wants-both}
use Rattle.swarm_world.specs.Inside.Looks.{IsAsked, MayBeTold, is_told, wants_message}

-- a node that isn't in the span is told nothing
pub out_told : (w : World) (node : ℕ) (span : Span) → MayBeTold w node true span → false ≡ is_in span node →
    false ≡ is_told w node
out_told w node span may out = go (is_told w node) refl
  where
    go : (b : Bool) → is_told w node ≡ b → false ≡ is_told w node
    go true is = absurd (let both : false ≡ true = out ∙ may refl is in cc)
    go false is = sym is

pub stays_asked : (w : World) (node : ℕ) (span : Span) → IsAsked w node span span
stays_asked w node span = inl refl

pub left_asked : (w : World) (node : ℕ) (span next : Span) → false ≡ is_told w node → next ≡ beyond span node →
    IsAsked w node span next
left_asked w node span next none is = inr (sym none, is)

pub ruleset told_steps = (out_told, stays_asked, left_asked)

-- of an agent that is on
pub may_be_told : (w : World) (a : NodeAgent) (live : Bool) (span : Span) → true ≡ is_mode_on a.mode →
    live ≡ is_session_live w.tables a.node → (wants_message w a ≡ true → is_in span a.node ≡ true) →
    MayBeTold w a.node live span
may_be_told w a live span on is may = λ lives told.
    may (wants-both w a (sym on) (sym is ∙ lives) told)

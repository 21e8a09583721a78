-- The settle test, and a settle line as a call.
use Rattle.std.proofs.Common.{None, Ok, Option, Some, ap, sym, ◌∷◌, ◌≡◌, List, ℕ}
use Rattle.swarm_model.proofs.Watching.Changes.{changes-none}
use Rattle.swarm_model.specs.Changed.{changes_between}
use Rattle.swarm_model.specs.History.{replay}
use Rattle.swarm_model.specs.Settle.{idle_answer, settle_answer}
use Rattle.swarm_objects.specs.Duties.{duties, first_duty}
use Rattle.swarm_objects.specs.Kinds.{duty_named, roles}
use Rattle.swarm_objects.specs.Rows.{first_of}
use Rattle.swarm_objects.specs.World.{World}
use Rattle.swarm_objects.specs.declared.calls.Call.TheVariants as call
use Rattle.swarm_objects.specs.declared.calls.Entry.{Entry}
use Rattle.swarm_objects.specs.declared.duties.Duty.{Duty}
use Rattle.swarm_objects.specs.declared.duties.Settle.TheVariants as settle
use Rattle.swarm_objects.specs.declared.duties.Settle.{Settle}
use Rattle.swarm_objects.specs.declared.loops.Role.{Role}
use Rattle.swarm_objects.specs.declared.replies.Reply.TheVariants as reply
use Rattle.swarm_settle.specs.Standing.{StandFor}
use Rattle.swarm_world.proofs.Answering.{unheard}
use Rattle.swarm_world.proofs.Recorded.{tables_are}
use Rattle.swarm_world.specs.Inside.Parts.{IsAnswered, StandsFor}
use Rattle.swarm_world.specs.Inside.Records.{tables_of}
use Rattle.swarm_world.specs.declared.parts.Parts.{Parts}

-- The first duty of the loops, loop by loop.

abbrev or_first : Option Duty → World → List Role → Option Duty
or_first found w rs = elim found [ Some d ↦ Some d | None ↦ first_duty w rs ]

-- the loop has one
pub found-first : (w : World) (r : Role) (rs : List Role) (d : Duty) → first_of (duties r w) ≡ Some d →
    first_duty w (r ∷ rs) ≡ Some d
found-first w r rs d e = ap (λ o. or_first o w rs) e

-- it has none
pub passed-first : (w : World) (r : Role) (rs : List Role) → first_of (duties r w) ≡ None →
    first_duty w (r ∷ rs) ≡ first_duty w rs
passed-first w r rs e = ap (λ o. or_first o w rs) e

-- The answer.

abbrev answer_of : Option Duty → World → Settle
answer_of found w = elim found [ Some d ↦ settle.Busy d | None ↦ idle_answer w ]

pub busy-answer : (w : World) (d : Duty) → first_duty w roles ≡ Some d → settle_answer w ≡ settle.Busy d
busy-answer w d e = ap (λ o. answer_of o w) e

pub idle-is : (w : World) → first_duty w roles ≡ None → settle_answer w ≡ idle_answer w
idle-is w e = ap (λ o. answer_of o w) e

-- where there is a first duty of all loops the test names it
pub named-first : (w : World) (d : Duty) → first_duty w roles ≡ Some d → duty_named (settle_answer w) ≡ Some d
named-first w d e = ap duty_named (busy-answer w d e)

-- the rows, the sessions and the agents are the world's
pub standing : (p : Parts) (w : World) → StandsFor p w → StandFor (tables_of p.records) p.records.sessions p.agents w
standing p w stands = record { tables = sym (tables_are p.records w stands.has.records); agents = stands.has.agents }

-- A settle line.

pub settling : (version : ℕ) (h : List Entry) (budget : ℕ) (p : Parts) (told : Settle) → StandsFor p (replay h) →
    told ≡ settle_answer (replay h) → IsAnswered version h (call.Settle budget) p (reply.Settle budget told) p
settling version h budget p told stands is =
    let w = replay h in
    record {
      world = w;
      answer_is = ap (λ (s : Settle). Ok (reply.Settle budget s, w)) (sym is);
      has = stands.has;
      heard =
          unheard (changes_between version w.tables w.tables) w p.watches stands.watches (changes-none version w.tables);
    }

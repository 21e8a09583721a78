use Rattle.std.proofs.Common.{ap, false, refl, subst, sym, ◌∙◌, ◌≡◌}
use Rattle.swarm_objects.specs.Kinds.{role_of}
use Rattle.swarm_objects.specs.Effects.{is_agents}
use Rattle.swarm_world.proofs.AgentsTaken.{rows_taken}
use Rattle.swarm_world.proofs.Entering.{are_usable, took}
use Rattle.swarm_world.proofs.Recorded.{usable_rows}
use Rattle.swarm_world.proofs.RowsTouched.{commit_marked, commit_foreseen, same_spans}
use Rattle.swarm_world.specs.Inside.Records.{tables_of}
use Rattle.swarm_world.specs.Inside.Spanned.{CoversAgents}
use Rattle.swarm_world.specs.Inside.Touches.{AreTouched}
use Rattle.swarm_world.specs.declared.parts.Parts.{Parts}
use Rattle.swarm_world.proofs.parts.Parts.take_by_rows.Goals as goal

pub changes_of-requires-clause-usable : goal.changes_of-requires-clause-usable
changes_of-requires-clause-usable c =
    usable_rows c.args.self.now.records (are_usable c.args.self.now c.requires.at)

pub commit-committed-requires-clause-usable : goal.commit-committed-requires-clause-usable
commit-committed-requires-clause-usable c = are_usable c.args.self.now c.requires.at

pub returns-clause-enters : goal.returns-clause-enters
returns-clause-enters c = λ h is.
    let other : is_agents (role_of c.args.duty) ≡ false = ap is_agents c.requires.own ∙ c.requires.rows in
    took c.entries_are_noted.ensures c.args.version c.args.self.now c.commit-committed.new.records c.commit-committed.new.watches
    c.commit-committed.result h c.args.duty c.in-Ok.changes is other c.in-Ok.ensures c.commit-committed.ensures

pub touch-foreseen-requires-clause-usable : goal.touch-foreseen-requires-clause-usable
touch-foreseen-requires-clause-usable c = usable_rows c.args.self.now.records (are_usable c.args.self.now c.requires.at)

pub returns-clause-marks : goal.returns-clause-marks
returns-clause-marks c = λ usable.
    let p = c.args.self.now in
    c.remember.ensures.marks (tables_of c.commit-committed.new.records)
    (same_spans c.touch-foreseen.new.self _ (tables_of c.commit-committed.new.records) refl refl refl refl
    (commit_marked c.args.version c.as_slice.result.now c.in-Ok.changes p c.requires.at c.commit-committed.new.records
    c.commit-committed.new.watches c.commit-committed.result c.touch-foreseen.new.self c.as_slice.ensures c.commit-committed.ensures c.touch-foreseen.ensures.stays
    c.touch-foreseen.ensures.goes_on usable))
    (λ done. commit_foreseen c.args.version c.as_slice.result.now c.in-Ok.changes p c.requires.at c.commit-committed.new.records
    c.commit-committed.new.watches c.commit-committed.result c.touch-foreseen.result c.as_slice.ensures c.commit-committed.ensures c.touch-foreseen.ensures.foreseen
    (sym c.is_ok.ensures.value ∙ done))

pub returns-clause-agents : goal.returns-clause-agents
returns-clause-agents c = λ h is due covers.
    let q : Parts =
    record c.args.self.now { records = c.commit-committed.new.records; watches = c.commit-committed.new.watches } in
    subst (CoversAgents q) (sym c.remember.ensures.agents) (
    let other : is_agents (role_of c.args.duty) ≡ false = ap is_agents c.requires.own ∙ c.requires.rows in
    rows_taken c.agents_stay_covered.ensures c.args.version h c.args.duty c.as_slice-2.result.now c.in-Ok.changes
    c.commit-committed.result c.args.self.now _ c.args.marks.now.agents c.touch_agents.new.spans is other due c.in-Ok.ensures
    c.as_slice-2.ensures
    (subst (λ s. AreTouched (tables_of c.args.self.now.records) s c.touch_agents.new.spans c.as_slice-2.result.now)
    c.touch-foreseen.ensures.agents c.touch_agents.ensures)
    (took c.entries_are_noted.ensures c.args.version c.args.self.now c.commit-committed.new.records c.commit-committed.new.watches
    c.commit-committed.result h c.args.duty c.in-Ok.changes is other c.in-Ok.ensures c.commit-committed.ensures)
    covers)

use Rattle.std.proofs.Common.{ap, refl, ◌∙◌}
use Rattle.swarm_model.specs.History.{replay}
use Rattle.swarm_objects.specs.World.{Tables}
use Rattle.swarm_store.specs.Stored.{Stored}
use Rattle.swarm_world.proofs.Beginning.{beat_near, begun_parts, can_still, clock_near, never_full, next_near, not_made, still_records}
use Rattle.swarm_world.proofs.Entering.{usable-replay}
use Rattle.swarm_world.proofs.Transacting.{still}
use Rattle.swarm_world.proofs.parts.Parts.begin.Goals as goal

pub commit-requires-clause-usable : goal.commit-requires-clause-usable
commit-requires-clause-usable c =
    let is = c.requires.at in
    record {
      world = replay is.history;
      has =
          still_records c.args.self.now.records c.reserve.new.self (replay is.history) c.reserve.ensures.rows
          is.stands.has.records;
      usable = usable-replay is.history is.legal;
    }

pub commit-requires-clause-can : goal.commit-requires-clause-can
commit-requires-clause-can c =
    can_still c.args.self.now.records c.reserve.new.self c.args.changes c.reserve.ensures.rows c.requires.can

pub take_id-session-requires : goal.take_id-session-requires
take_id-session-requires c =
    let is = c.requires.at in
    let r = c.args.self.now.records in
    let w = replay is.history in
    let did =
    c.in-Ok-commit.ensures w (still_records r c.reserve.new.self w c.reserve.ensures.rows is.stands.has.records) in
    next_near r c.commit.new.records w c.args.changes is.stands.has.records did.0 c.requires.next

pub begin-requires-clause-now : goal.begin-requires-clause-now
begin-requires-clause-now c =
    let is = c.requires.at in
    let r = c.args.self.now.records in
    let w = replay is.history in
    let did =
    c.in-Ok-commit.ensures w (still_records r c.reserve.new.self w c.reserve.ensures.rows is.stands.has.records) in
    clock_near is.history c.commit.new.records c.args.changes is.legal did.0 c.now-now.result
    (c.now-now.ensures ∙ ap (λ (s : Stored). s.tables.clock) c.take_id-session.ensures.taken)

pub begin-requires-clause-heartbeat : goal.begin-requires-clause-heartbeat
begin-requires-clause-heartbeat c =
    let is = c.requires.at in
    let r = c.args.self.now.records in
    let w = replay is.history in
    let did =
    c.in-Ok-commit.ensures w (still_records r c.reserve.new.self w c.reserve.ensures.rows is.stands.has.records) in
    beat_near is.history c.commit.new.records c.args.changes is.legal did.0 c.settings-heartbeat.result.heartbeat
    (ap (λ s. s.heartbeat) c.settings-heartbeat.ensures
    ∙ ap (λ (s : Stored). s.tables.settings.heartbeat) c.take_id-session.ensures.taken)

pub unreachable-requires : goal.unreachable-requires
unreachable-requires c =
    let is = c.requires.at in
    let r = c.args.self.now.records in
    let w = replay is.history in
    let did =
    c.in-Ok-commit.ensures w (still_records r c.reserve.new.self w c.reserve.ensures.rows is.stands.has.records) in
    never_full c.reserve.new.self c.commit.new.records.sessions c.begin.result c.in_default-begin.field-0
    c.in-Ok.ensures.ok did.2 c.begin.ensures.succeeds c.in_default-begin.is

pub returns-in_default : goal.returns-in_default
returns-in_default c = λ h stands.
    still c.args.self.now _ (replay h) stands refl c.reserve.ensures.rows refl refl refl refl

pub returns-in_default-commit : goal.returns-in_default-commit
returns-in_default-commit c = λ h stands.
    let p = c.args.self.now in
    let did = c.in_default-commit.ensures in
    not_made p c.commit.new.records c.commit.new.watches (replay h) stands
    (did.0 (replay h) (still_records p.records c.reserve.new.self (replay h) c.reserve.ensures.rows stands.has.records))
    did.1

pub returns : goal.returns
returns c = λ h stands.
    let p = c.args.self.now in
    let r = c.commit.new.records in
    let w = replay h in
    let did =
    c.in-Ok-commit.ensures w (still_records p.records c.reserve.new.self w c.reserve.ensures.rows stands.has.records) in
    let taken = c.take_id-session.ensures.taken in (
      c.take_id-session.ensures.id ∙ ap (λ (t : Tables). t.next_id) did.0.store,
      begun_parts p _ r w c.args.node c.take_id-session.result c.now-now.result c.settings-heartbeat.result.heartbeat
          c.args.changes stands.has did.0 c.take_id-session.ensures.id
          (c.now-now.ensures ∙ ap (λ (s : Stored). s.tables.clock) taken)
          (ap (λ s. s.heartbeat) c.settings-heartbeat.ensures ∙ ap (λ (s : Stored). s.tables.settings.heartbeat) taken)
          (ap (λ (s : Stored). s.tables) taken) c.in-Ok-begin.ensures.ok c.remove.ensures refl refl,
      did.1,
    )

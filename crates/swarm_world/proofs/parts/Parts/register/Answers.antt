use Rattle.std.proofs.Common.{refl}
use Rattle.swarm_model.specs.History.{replay}
use Rattle.swarm_world.proofs.Entering.{are_usable}
use Rattle.swarm_world.proofs.Recorded.{usable_rows}
use Rattle.swarm_world.proofs.RegisterMarked.{not_registered, registered_marked}
use Rattle.swarm_world.proofs.Registering.{next_still, registered_by}
use Rattle.swarm_world.specs.Inside.Records.{tables_of}
use Rattle.swarm_world.proofs.parts.Parts.register.Goals as goal

pub set_ready-requires : goal.set_ready-requires
set_ready-requires c = usable_rows c.args.self.now.records (are_usable c.args.self.now c.requires.at)

pub begin-requires-clause-can : goal.begin-requires-clause-can
begin-requires-clause-can c = c.in-Ok.ensures.can

pub begin-requires-clause-next : goal.begin-requires-clause-next
begin-requires-clause-next c =
    let r = c.args.self.now.records in
    next_still c.args.version c.args.node (tables_of r) c.in-Ok.ready c.in-Ok.ensures
    (usable_rows r (are_usable c.args.self.now c.requires.at)).next_id

pub returns-in_default-begin-clause-enters : goal.returns-in_default-begin-clause-enters
returns-in_default-begin-clause-enters c = λ h is. c.in_default-begin.ensures h is.stands

pub returns-clause-enters : goal.returns-clause-enters
returns-clause-enters c = λ h is.
    let did = c.in-Ok-begin.ensures h is.stands in
    registered_by c.entries_are_noted.ensures c.args.version h c.args.node c.args.self.now c.begin.new.self _
    c.in-Ok.ready is c.in-Ok.ensures did.1 did.2 c.register.ensures refl refl refl refl

pub touch-requires-clause-usable : goal.touch-requires-clause-usable
touch-requires-clause-usable c = usable_rows c.args.self.now.records (are_usable c.args.self.now c.requires.at)

pub returns-in_default-begin-clause-marks : goal.returns-in_default-begin-clause-marks
returns-in_default-begin-clause-marks c = λ usable.
    let is = c.requires.at in
    not_registered c.args.node c.args.self.now c.begin.new.self (replay is.history) c.touch.new.self
    c.touch_session.new.self (usable_rows c.args.self.now.records (are_usable c.args.self.now is)) is.stands.has
    (c.in_default-begin.ensures is.history is.stands).has c.touch.ensures.stays c.touch_session.ensures.goes_on
    c.touch_session.ensures.services c.touch_session.ensures.timed c.touch_session.ensures.known

pub returns-clause-marks : goal.returns-clause-marks
returns-clause-marks c = λ usable.
    let is = c.requires.at in
    registered_marked c.args.version c.args.node c.args.self.now c.begin.new.self (replay is.history) c.in-Ok.ready
    c.as_slice.result.now c.touch.new.self c.touch_session.new.self c.as_slice.ensures
    (usable_rows c.args.self.now.records (are_usable c.args.self.now is)) is.stands.has c.in-Ok.ensures
    (c.in-Ok-begin.ensures is.history is.stands).1 c.touch.ensures.goes_on c.touch_session.ensures.goes_on
    c.touch_session.ensures.services c.touch_session.ensures.timed c.touch_session.ensures.known usable

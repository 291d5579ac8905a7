use Rattle.gl_machine_tests.proofs.Worked.{given_item, given_live}
use Rattle.gl_machine_tests.proofs.refs.give_number.Goals as goal

pub returns-then-room-clause-item : goal.returns-then-room-clause-item
returns-then-room-clause-item c = given_item c.args.refs.now c.give.new.self c.args.item _ c.requires c.give.ensures

pub returns-then-room-clause-live : goal.returns-then-room-clause-live
returns-then-room-clause-live c = given_live c.args.refs.now c.give.new.self c.args.item _ c.give.ensures

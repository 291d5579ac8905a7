use Rattle.gl_machine_tests.proofs.Worked.{alone_unread}
use Rattle.gl_machine_tests.proofs.refs.ends.Goals as goal

pub free-requires-clause-unread : goal.free-requires-clause-unread
free-requires-clause-unread g c = alone_unread c.in_ok-refs.refs c.constant.new.self c.in_ok-constant.constant _ c.in_ok-refs.ensures.rows.0 c.in_ok-constant.ensures.ok.gives

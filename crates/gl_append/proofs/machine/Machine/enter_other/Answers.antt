use Rattle.std.proofs.lemmas.Result.{on_ok_weaker}
use Rattle.gl_append.proofs.ListEnds.{other_entered}
use Rattle.gl_append.proofs.machine.Machine.enter_other.Goals as goal

pub returns : goal.returns
returns c = on_ok_weaker c.begin.result (other_entered c.args.self.now c.begin.new.self c.args.listing c.args.spot c.in_ok-path.path c.new.result c.new.ensures c.in_ok-path.ensures) c.begin.ensures

use Rattle.std.proofs.lemmas.Result.{on_ok_weaker}
use Rattle.gl_append.proofs.BlockEnds.{returned}
use Rattle.gl_append.proofs.machine.Machine.return_with.Goals as goal

pub returns : goal.returns
returns c = on_ok_weaker c.add_code.result (returned c.args.self.now c.go_back.new.self c.add_code.new.self c.args.back c.args.code c.go_back.ensures) c.add_code.ensures

use Rattle.std.proofs.Common.{rules, ◌≡◌, ◌++◌, take}
use Rattle.gl_outside.specs.MemSink.{taken_of}
use Rattle.gl_outside.proofs.Front.{front_of_take}
use Rattle.gl_outside.proofs.memory.MemSinkSink.put.Goals as goal

-- src/memory.rt:193:5
pub returns-in_ok-append-in-Some-clause-front : goal.returns-in_ok-append-in-Some-clause-front
returns-in_ok-append-in-Some-clause-front c _ =
    let taken : taken_of c.append.new.self ≡ taken_of c.args.self.now ++ take c.min.result c.args.piece.now = search rules in
    front_of_take (taken_of c.args.self.now) (taken_of c.append.new.self) c.args.piece.now c.min.result taken

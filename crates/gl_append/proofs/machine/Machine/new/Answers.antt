use Rattle.std.proofs.Common.{None, ap}
use Rattle.gl_machine.specs.Mach.{going}
use Rattle.gl_append.specs.declared.machine.Machine.{Machine}
use Rattle.gl_append.proofs.RunBegins.{first_registers}
use Rattle.gl_append.proofs.machine.Machine.new.Goals as goal

pub returns : goal.returns
returns c env store n st =
    let a : Machine = record { alloc = c.args.alloc; stack = c.new.result; made = c.new-2.result; pc = c.args.pc; getter = None; sight = c.args.sight; pending = c.new-3.result; here = record { path = c.args.path; index = 0; codes = c.new-4.result }; making = c.idle.result; left = c.args.left; frames = c.new-5.result; calls = c.new-6.result } in
    ap going (first_registers n st a c.new.ensures.items c.new-2.ensures c.new-3.ensures c.new-4.ensures.items (c.idle.ensures n) c.new-5.ensures.items c.new-6.ensures.items)

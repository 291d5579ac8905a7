use Rattle.gl_append.specs.MachineView.{seen_pushed}
use Rattle.gl_append.proofs.Stacks.{popped_from}
use Rattle.gl_append.proofs.stack.pop_pushed.Goals as goal

pub returns-in-Some : goal.returns-in-Some
returns-in-Some c = popped_from seen_pushed c.args.stack.now.items c.pop.new.self.items c.in-Some.pushed c.in-Some.ensures.items

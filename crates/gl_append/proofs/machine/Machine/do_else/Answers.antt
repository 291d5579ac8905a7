use Rattle.std.proofs.Common.{refl, ◌∙◌}
use Rattle.gl_vm.specs.View.{state_of}
use Rattle.gl_append.specs.MachineView.{mach_by, mach_of}
use Rattle.gl_append.proofs.Outermost.{over, passed_over}
use Rattle.gl_append.proofs.machine.Machine.do_else.Goals as goal

pub returns-then-is_outermost : goal.returns-then-is_outermost
returns-then-is_outermost c n vm = (refl, λ st. over (mach_by n st c.args.self.now) c.args.behind _ (c.is_outermost.ensures n st ∙ c.if-is_outermost.true))

pub returns : goal.returns
returns c n vm u a = record { state = state_of n vm u; follows = record { state = refl; agrees = a }; goes = passed_over (mach_of n u vm c.args.self.now) c.args.behind _ (c.is_outermost.ensures n (state_of n vm u) ∙ c.if-is_outermost.false) }

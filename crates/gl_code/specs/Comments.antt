-- The comment of a branch or an item in which no node was rendered.
use Rattle.std.specs.Prelude.{◌≡◌, Option}
use Rattle.gl_arena.specs.Id.{Id}
use Rattle.gl_plain.specs.State.{State}
use Rattle.gl_machine.specs.Code.{Codes as PlainCodes}
use Rattle.gl_machine.specs.RenewCode.{commented}
use Rattle.gl_vm.specs.View.{Tables}
use Rattle.gl_vm.specs.Steps.{Follows}
use Rattle.gl_vm.specs.declared.vm.Vm.{Vm}
use Rattle.gl_code.specs.CodeView.{stamp_of}

-- What was rendered with a state has this comment, where it has no node, and this is kept now.
pub record Commented (n : Tables) (r : PlainCodes × State) (vm : Vm) (comment : Option Id) : Type 0 where
  pub state : State
  pub follows : Follows n state vm
  pub is : commented r ≡ record { comment = stamp_of comment; codes = r.0; state = state }

use Rattle.std.proofs.Common.{◌≡◌, drop}
use Rattle.gl_vm.specs.View.{Tables}
use Rattle.gl_code.proofs.NodesIn.{have}
use Rattle.gl_code.proofs.code.+nodes.Given as goal

abbrev pub invariant-Codes::has_node-loop-code : goal.invariant-Codes::has_node-loop-code
invariant-Codes::has_node-loop-code l = (n : Tables) → have n (drop l.code-index l.code-items) ≡ have n l.code-items

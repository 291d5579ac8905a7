use Rattle.std.proofs.Common.{◌≡◌, ◌++◌, length, take, drop}
use Rattle.gl_ast.specs.Settling.{settle_from, settled}
use Rattle.gl_space.proofs.pass.settle.Given as goal

abbrev pub invariant-loop-at : goal.invariant-loop-at
invariant-loop-at l = record {
  settled : take l.at l.list.items ++ settle_from l.text l.tag l.front (drop l.at l.list.items) ≡ settled l.fn.text l.fn.tokens;
  whole : length l.list.items ≡ l.at-end;
}

use Rattle.std.proofs.Common.{◌≡◌, ◌++◌, ◌-◌, take}
use Rattle.gl_exprs.proofs.words.push_first.Given as goal

abbrev pub invariant-loop : goal.invariant-loop
invariant-loop l = l.out ++ take (l.count - l.counter) l.scan ≡ l.fn.out ++ take l.fn.count l.fn.scan

use Rattle.std.proofs.Common.{◌≡◌, drop}
use Rattle.std.specs.Prelude.{◌||◌}
use Rattle.gl_gone.specs.Logs.{stands_in, is_numbered}
use Rattle.gl_gone.specs.declared.endings.Ending.{Ending}
use Rattle.gl_gone.proofs.numbers.Numbers.of.Given as goal

-- what was put in, or stands in what is left, stands in all
abbrev pub invariant-loop-ending : goal.invariant-loop-ending
invariant-loop-ending l = (x : Ending) → (is_numbered l.numbers x || stands_in (drop l.ending-index l.list) x) ≡ stands_in l.list x

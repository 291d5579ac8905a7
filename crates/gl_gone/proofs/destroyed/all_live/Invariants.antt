use Rattle.std.proofs.Common.{◌≡◌, drop}
use Rattle.std.specs.List.{list_all}
use Rattle.gl_gone.specs.View.{is_live}
use Rattle.gl_gone.proofs.destroyed.all_live.Given as goal

-- what is left decides
abbrev pub invariant-loop-ending : goal.invariant-loop-ending
invariant-loop-ending l = list_all (is_live l.vm) (drop l.ending-index l.list) ≡ list_all (is_live l.vm) l.list

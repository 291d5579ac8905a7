use Rattle.std.specs.Prelude.{◌≡◌, ◌++◌, take, flat_map}
use Rattle.gl_meaning.specs.View.{manifest_view}
use Rattle.gl_gone.specs.Logs.{gone_text}
use Rattle.gl_gone.proofs.destroyed.push_all.Given as goal

abbrev pub invariant-loop-ending : goal.invariant-loop-ending
invariant-loop-ending l = l.out ≡ l.initial.out ++ flat_map (gone_text l.numbers (manifest_view l.manifest)) (take l.ending-index l.list)

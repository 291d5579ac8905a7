use Rattle.std.specs.Prelude.{◌≡◌, ◌++◌, take}
use Rattle.gl_gen.specs.Rows.{after_commas}
use Rattle.gl_gen.proofs.rows.push_after_commas.Given as goal

abbrev pub invariant-loop-text : goal.invariant-loop-text
invariant-loop-text l = l.out ≡ l.initial.out ++ after_commas (take l.text-index l.texts)

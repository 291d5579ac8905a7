use Rattle.std.proofs.Common.{◌≡◌, ◌++◌, drop}
use Rattle.gl_wirec.proofs.Found.{seen}
use Rattle.gl_wirec.proofs.names.Names.to_texts.Given as goal

abbrev pub invariant-loop-name : goal.invariant-loop-name
invariant-loop-name l = l.texts ++ seen (drop l.name-index l.name-items) ≡ seen l.name-items

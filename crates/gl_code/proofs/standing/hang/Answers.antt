use Rattle.std.proofs.lemmas.Result.{on_ok_weaker}
use Rattle.gl_machine.specs.Code.{lives_of}
use Rattle.gl_machine.specs.Shape.{nest_in}
use Rattle.gl_code.specs.CodeView.{seen_codes}
use Rattle.gl_code.proofs.Hanging.{hangs_at_top}
use Rattle.gl_code.proofs.standing.hang.Goals as goal

pub returns-clause-whole : goal.returns-clause-whole
returns-clause-whole c = λ n. on_ok_weaker c.hang_codes.result
    (hangs_at_top c.args.tree.now c.hang_codes.new.tree c.args.parent (nest_in (lives_of (seen_codes n c.args.codes.now))) c.flat.ensures c.hang_codes.ensures.sound) (c.hang_codes.ensures.hangs n)

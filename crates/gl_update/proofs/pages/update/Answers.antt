use Rattle.std.proofs.Common.{[], arith}
use Rattle.gl_seats.specs.Parts.{code_nest}
use Rattle.gl_seats.proofs.Replacing.{stood_whole, whole_stood}
use Rattle.gl_update.proofs.pages.update.Goals as goal

pub returns-in-Ok-clause-nodes : goal.returns-in-Ok-clause-nodes
returns-in-Ok-clause-nodes g c = λ n stands.
    let old = c.args.page.now in
    let new = c.renew_page.new.page in
    whole_stood new.vm.tree (code_nest n new.code) c.flat-in-Ok.ensures (c.in-Ok.ensures.nodes.replaces n [] [] (stood_whole old.vm.tree (code_nest n old.code) c.flat.ensures stands)).stood

pub returns-in-Ok-clause-moves : goal.returns-in-Ok-clause-moves
returns-in-Ok-clause-moves g c = let moves = c.in-Ok.ensures.nodes.moves in omega (arith, moves)

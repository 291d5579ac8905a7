use Rattle.std.proofs.Common.{arith, ◌≡◌, ◌++◌, take, drop}
use Rattle.std.proofs.lemmas.Grind.{common_steps}
use Rattle.gl_outside.proofs.Written.{appends_more, parts_next}
use Rattle.gl_outside.proofs.real.write_whole.Goals as goal

pub loop-rest-preserved : goal.loop-rest-preserved
loop-rest-preserved g c =
    let done = c.loop-rest.invariant.0 in
    let rest = c.loop-rest.rest.now in
    let next = take c.in-Ok.count rest in
    let whole : c.args.piece.now ≡ (done ++ next) ++ drop c.in-Ok.count rest =
    parts_next c.args.piece.now done rest c.in-Ok.count c.loop-rest.invariant.1 in (
      done ++ next,
      grind (arith, common_steps, whole),
      appends_more (g.W.Write.contents c.args.stream.now) (g.W.Write.contents c.loop-rest.stream)
          (g.W.Write.contents c.write.new.self) done next c.loop-rest.invariant.2 c.in-Ok.ensures.bytes,
    )

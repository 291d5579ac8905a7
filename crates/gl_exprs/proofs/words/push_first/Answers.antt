use Rattle.std.proofs.Common.{◌≡◌, ◌+◌, ◌-◌, suc, arith}
use Rattle.gl_exprs.proofs.TokenPieces.{first_more, first_none}
use Rattle.gl_exprs.proofs.words.push_first.Goals as goal
use Rattle.gl_exprs.proofs.words.push_first.Goals.{in-Some+in_ok-push_char, in_default}

pub loop-preserved : goal.loop-preserved
loop-preserved c =
    let k = c.args.count - (c.loop.counter + 1) in
    let more : c.args.count - c.loop.counter ≡ suc k = omega arith in
    elim c.match-next.branch [
      | in-Some+in_ok-push_char w ↦ rw (w.out-is, w.in_ok-push_char.ensures.ok) (first_more _ k w.in-Some.c c.next.new.self c.loop.out c.loop.scan _ more w.in-Some.ensures c.loop.invariant)
      | in_default w ↦ rw w.out-is (first_none _ k c.next.new.self c.loop.out c.loop.scan _ w.in_default.ensures.0 w.in_default.ensures.1 c.loop.invariant)
    ]

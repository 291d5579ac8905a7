use Rattle.std.proofs.Common.{sym, ◌∙◌, arith}
use Rattle.gl_space.proofs.Lines.{trim_split}
use Rattle.gl_space.proofs.trim.without_run.Goals as goal

pub returns-then-not-strips : goal.returns-then-not-strips
returns-then-not-strips c =
    let rest = c.loop-rest.rest.now in
    let e = trim_split c.args.edge rest (omega arith) in
    sym (rw (← c.strips.ensures, c.if-not-strips.true) at e) ∙ c.loop-rest.invariant

pub loop-rest-preserved : goal.loop-rest-preserved
loop-rest-preserved c =
    let rest = c.loop-rest.rest.now in
    let e = trim_split c.args.edge rest (omega arith) in
    sym (rw (← c.strips.ensures, c.if-not-strips.false) at e) ∙ c.loop-rest.invariant

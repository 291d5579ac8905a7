use Rattle.std.proofs.Common.{sym, ◌∙◌, arith}
use Rattle.gl_space.proofs.Lines.{line_split, line_empty}
use Rattle.gl_space.proofs.line.opens_line.Goals as goal

pub returns-then-not-is_blank : goal.returns-then-not-is_blank
returns-then-not-is_blank c =
    let rest = c.loop-rest.rest.now in
    let e = line_split rest (omega arith) in
    sym (rw (← c.is_blank.ensures, c.if-not-is_blank.true) at e) ∙ c.loop-rest.invariant

pub loop-rest-preserved : goal.loop-rest-preserved
loop-rest-preserved c =
    let rest = c.loop-rest.rest.now in
    let e = line_split rest (omega arith) in
    sym (rw (← c.is_blank.ensures, c.if-not-is_blank.false) at e) ∙ c.loop-rest.invariant

pub returns : goal.returns
returns c =
    let rest = c.loop-rest.rest.now in
    sym (line_empty rest (omega arith)) ∙ c.loop-rest.invariant

use Rattle.std.proofs.Common.{◌∙◌, rules, arith}
use Rattle.std.specs.Str.{IsUtf8}
use Rattle.std.proofs.lemmas.Str.Pattern.{split_parts}
use Rattle.gl_value.proofs.Paths.{split-end, split-next, dot-utf8}
use Rattle.gl_value.proofs.value.Value.follow.Goals as goal

pub loop-name-preserved : goal.loop-name-preserved
loop-name-preserved c =
    let l = c.loop-name in
    let u : IsUtf8 c.in-Some.name.now = search rules in
    let v : IsUtf8 c.in-Some.after.now = search rules in
    let at = c.in-Some.ensures.cases in
    let parts = rw c.in-Some.is at (split_parts 46 l.rest.now c.split_once.result c.split_once.ensures.cases (omega arith)) in
    let step = split-next l.rest.now c.in-Some.name.now c.in-Some.after.now parts.0 u (dot-utf8 c.in-Some.after.now v) (rw at.3 at.2.0) in
    (v, rw c.find-found.ensures (rw step at l.invariant.1))

pub returns : goal.returns
returns c =
    let l = c.loop-name in
    c.find.ensures ∙ (rw (split-end l.rest.now l.invariant.0 c.in_default.ensures.cases) at l.invariant.1)

use Rattle.std.proofs.Common.{ap, ◌∙◌, arith}
use Rattle.std.specs.List.{prefix_len}
use Rattle.gl_ast.specs.Scans.{after_all}
use Rattle.gl_exprs.specs.Referring.{in_reference, run}
use Rattle.gl_exprs.proofs.Scanned.{run-value, run-rest, run-boundary}
use Rattle.gl_exprs.proofs.scan.Scan.run.Goals as goal

pub split_at-requires : goal.split_at-requires
split_at-requires c =
    let text = c.self.inside.rest.now in
    let count = c.run_len-count.ensures.value ∙ ap (prefix_len in_reference) c.as_bytes.ensures.value in
    run-boundary text c.run_len-count.result c.self.invariant count (omega arith)

pub returns-clause-value : goal.returns-clause-value
returns-clause-value c =
    let text = c.self.inside.rest.now in
    let count = c.run_len-count.ensures.value ∙ ap (prefix_len in_reference) c.as_bytes.ensures.value in
    run-value text c.split_at.result.0.now c.run_len-count.result c.self.invariant count c.split_at.ensures.front ∙ ap run c.self.view_is

pub returns-clause-rest : goal.returns-clause-rest
returns-clause-rest c =
    let text = c.self.inside.rest.now in
    let count = c.run_len-count.ensures.value ∙ ap (prefix_len in_reference) c.as_bytes.ensures.value in
    run-rest text c.split_at.result.1.now c.run_len-count.result c.self.invariant count c.split_at.ensures.back ∙ ap (after_all in_reference) c.self.view_is

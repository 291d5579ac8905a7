use Rattle.std.proofs.Common.{◌∙◌, sym, ap}
use Rattle.std.specs.Str.{chars}
use Rattle.std.specs.Prelude.{◌==◌}
use Rattle.gl_ast.specs.Scans.{after_all}
use Rattle.gl_ast.specs.TokenText.{leads}
use Rattle.gl_exprs.specs.Referring.{in_reference, run}
use Rattle.gl_exprs.proofs.References.{reference_some, reference_none, reference_no_mark, mark_taken}
use Rattle.gl_exprs.proofs.decode.reference_in.Goals as goal

pub returns-in-Some : goal.returns-in-Some
returns-in-Some c =
    let name = c.run-name.ensures.value ∙ ap run c.copy-ahead.ensures in
    let rest = c.run-name.ensures.rest ∙ ap (after_all in_reference) c.copy-ahead.ensures in
    let mark = sym c.ends.ensures ∙ c.if-ends.true in
    reference_some c.args.scan.now (chars c.run-name.result.now) c.run-name.new.self c.next.new.self c.in-Some.c name rest mark (mark_taken c.run-name.new.self c.next.new.self c.next.result mark c.next.ensures) c.in-Some.ensures

pub returns-in-None : goal.returns-in-None
returns-in-None c =
    let name = c.run-name.ensures.value ∙ ap run c.copy-ahead.ensures in
    let rest = c.run-name.ensures.rest ∙ ap (after_all in_reference) c.copy-ahead.ensures in
    reference_none c.args.scan.now (chars c.run-name.result.now) c.run-name.new.self name rest (sym c.ends.ensures ∙ c.if-ends.true) c.in-None.ensures

pub returns-else-ends : goal.returns-else-ends
returns-else-ends c =
    let rest = c.run-name.ensures.rest ∙ ap (after_all in_reference) c.copy-ahead.ensures in
    let mark = sym c.ends.ensures ∙ c.if-ends.false in
    reference_no_mark c.args.scan.now (ap (leads (λ c. c == 59)) (sym rest) ∙ mark)

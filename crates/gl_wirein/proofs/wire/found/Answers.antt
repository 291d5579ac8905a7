use Rattle.std.proofs.Common.{◌≡◌, true, false, rules, sym, ap, ◌∙◌}
use Rattle.std.proofs.lemmas.Result.{err_from_is_err_and}
use Rattle.serde_json.specs.View.{view}
use Rattle.gl_base.specs.Texts.{bytes_of}
use Rattle.gl_ast.specs.Template.{body_of}
use Rattle.gl_ast.specs.declared.template.Template.{Template}
use Rattle.gl_wire.specs.View.{wire_view}
use Rattle.gl_wirein.specs.Versions.{is_json_in, is_json_of}
use Rattle.gl_wirein.proofs.Loops.{fails_on}
use Rattle.gl_wirein.proofs.Wires.{no_tree, no_spelling, found_here, found_nowhere}
use Rattle.gl_wirein.proofs.wire.found.Goals as goal

pub returns-in_err-body : goal.returns-in_err-body
returns-in_err-body c =
    let p = err_from_is_err_and c.from_residual.result c.from_residual.ensures.1 in
    rw (p.1, p.2) (fails_on c.in_err-body.field-0.0 _ _ (no_tree (view c.args.json.now)) c.in_err-body.ensures)

pub returns-in_err-template : goal.returns-in_err-template
returns-in_err-template c =
    let p = err_from_is_err_and c.from_residual-in_err-template.result c.from_residual-in_err-template.ensures.1 in
    rw (p.1, p.2)
    (no_spelling (λ (t : Template). body_of t.body) (view c.args.json.now) (body_of c.in_ok-body.body) c.as_bytes.result.now c.in_err-template.field-0.0 c.in_ok-body.ensures
    (c.as_bytes.ensures.value ∙ c.as_str.ensures.bytes ∙ ap bytes_of c.in_ok-text.ensures) c.in_err-template.ensures.tree)

pub returns-then-not-fits : goal.returns-then-not-fits
returns-then-not-fits c =
    let d = view c.args.json.now in
    let differs : is_json_of (wire_view c.in_ok-wire.wire) d ≡ false = ap (λ x. is_json_in x (wire_view c.in_ok-wire.wire) d) (sym c.version.ensures) ∙ search rules in
    found_nowhere d (body_of c.in_ok-body.body) (body_of c.in_ok-template.template.body) (wire_view c.in_ok-wire.wire) c.as_bytes.result.now c.in_ok-body.ensures
    (c.as_bytes.ensures.value ∙ c.as_str.ensures.bytes ∙ ap bytes_of c.in_ok-text.ensures) c.in_ok-template.ensures.tree c.in_ok-wire.ensures differs

pub returns : goal.returns
returns c =
    let d = view c.args.json.now in
    let says : is_json_of (wire_view c.in_ok-wire.wire) d ≡ true = ap (λ x. is_json_in x (wire_view c.in_ok-wire.wire) d) (sym c.version.ensures) ∙ search rules in
    found_here d (body_of c.in_ok-body.body) (body_of c.in_ok-template.template.body) (wire_view c.in_ok-wire.wire) c.as_bytes.result.now c.in_ok-body.ensures
    (c.as_bytes.ensures.value ∙ c.as_str.ensures.bytes ∙ ap bytes_of c.in_ok-text.ensures) c.in_ok-template.ensures.tree c.in_ok-wire.ensures says

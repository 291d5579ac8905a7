use Rattle.std.proofs.Common.{ap, ◌∙◌}
use Rattle.gl_refs.specs.Refs.{forms_of}
use Rattle.gl_refs.specs.State.{is_cell}
use Rattle.gl_machine_tests.proofs.Worked.{stays_then, cell_there}
use Rattle.gl_machine_tests.proofs.refs.make.Goals as goal

pub returns-clause-a : goal.returns-clause-a
returns-clause-a c =
    let a = c.in_ok-a.a in
    let cell = c.in_ok-a.ensures.cell in
    let first = forms_of c.cell.new.refs in
    let second = forms_of c.cell-2.new.refs in
    let third = forms_of c.item.new.refs in
    let fourth = forms_of c.compute.new.refs in
    let last = forms_of c.joined.new.refs in
    ap is_cell
    (stays_then first fourth last (stays_then first third fourth (stays_then first second third c.in_ok-b.ensures.stays c.in_ok-c.ensures.stays) c.in_ok-part.ensures.stays) c.in_ok-top.ensures.stays a (cell_there (first a) cell))
    ∙ cell

pub returns-clause-b : goal.returns-clause-b
returns-clause-b c =
    let b = c.in_ok-b.b in
    let cell = c.in_ok-b.ensures.cell in
    let second = forms_of c.cell-2.new.refs in
    let third = forms_of c.item.new.refs in
    let fourth = forms_of c.compute.new.refs in
    let last = forms_of c.joined.new.refs in
    ap is_cell
    (stays_then second fourth last (stays_then second third fourth c.in_ok-c.ensures.stays c.in_ok-part.ensures.stays) c.in_ok-top.ensures.stays b (cell_there (second b) cell))
    ∙ cell

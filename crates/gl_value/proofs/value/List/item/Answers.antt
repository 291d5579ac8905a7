use Rattle.std.proofs.Common.{◌∙◌, sym, ap, arith}
use Rattle.gl_value.specs.Found.{or_undefined}
use Rattle.gl_value.specs.Value.{item_at, values_of}
use Rattle.gl_value.proofs.Properties.{item_at-some, item_at-none}
use Rattle.gl_value.proofs.value.List.item.Goals as goal

pub returns-in-Some : goal.returns-in-Some
returns-in-Some c =
    let found = c.in-Some.ensures in
    ap or_undefined c.get.ensures ∙ sym (item_at-some c.in-Some.at c.in-Some.at 0 c.args.self.now found.0 (omega arith)) ∙ ap (λ k. item_at k 0 (values_of c.args.self.now)) (sym found.1)

pub returns-in-None : goal.returns-in-None
returns-in-None c = sym (item_at-none _ 0 c.args.self.now c.in-None.ensures)

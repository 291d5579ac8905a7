use Rattle.std.proofs.Common.{◌≡◌, true, false, List, ◌==◌, length, ◌∙◌, sym, ap}
use Rattle.gl_append.specs.declared.machine.Frame.{Frame}
use Rattle.gl_append.proofs.Outermost.{some_left}
use Rattle.gl_append.proofs.machine.Machine.is_outermost.Goals as goal

pub returns-else-is_empty : goal.returns-else-is_empty
returns-else-is_empty c n st =
    some_left n c.args.self.now.here c.args.self.now.frames.items c.args.self.now.calls.items
    (λ e d. let no : false ≡ true = sym c.if-is_empty.false ∙ (c.is_empty.ensures ∙ ap (λ (xs : List Frame). length xs == 0) (c.as_slice.ensures.value ∙ e)) in absurd (cc)) ∙ sym c.if-is_empty.false

use Rattle.std.proofs.Common.{IsSome, option_map, sym, ap, subst, ◌∙◌}
use Rattle.gl_refs.specs.State.{Row, is_cell}
use Rattle.gl_machine_tests.proofs.refs.reaches_far.Goals as goal

pub set_number-requires : goal.set_number-requires
set_number-requires g c =
    let a = c.in_ok-first.first in
    let here = ap (option_map (λ (r : Row). r.form)) c.in_ok-first.ensures.ok.gives.gives.given in
    ap is_cell (ap (λ l. l a) c.number.ensures ∙ (c.in_ok-last.ensures.stays ∙ here))

pub number-requires-2 : goal.number-requires-2
number-requires-2 g c =
    let k = c.in_ok-last.last in
    c.set_number.ensures.live k (subst IsSome (sym (ap (λ l. l k) c.number.ensures)) c.in_ok-last.ensures.live)

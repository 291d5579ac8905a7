use Rattle.std.proofs.Common.{IsSome, option_map, refl, sym, ap, subst, ◌∙◌}
use Rattle.gl_refs.specs.State.{Row, is_cell}
use Rattle.gl_machine_tests.proofs.refs.follows.Goals as goal

pub set_number-requires : goal.set_number-requires
set_number-requires g c =
    let a = c.in_ok-a.a in
    let here = ap (option_map (λ (r : Row). r.form)) c.in_ok-a.ensures.ok.gives.gives.given in
    let live = subst IsSome (sym here) refl in
    let first = c.in_ok-b.ensures.stays a live in
    let second = c.in_ok-c.ensures.stays a (subst IsSome (sym first) live) in
    ap is_cell (ap (λ l. l a) (c.begin.ensures ∙ c.number.ensures) ∙ (second ∙ (first ∙ here)))

pub number-requires-2 : goal.number-requires-2
number-requires-2 g c =
    let k = c.in_ok-c.c in
    subst IsSome (sym (ap (λ l. l k) c.is_valid.ensures)) (c.set_number.ensures.live k (subst IsSome (sym (ap (λ l. l k) (c.begin.ensures ∙ c.number.ensures))) c.in_ok-c.ensures.live))

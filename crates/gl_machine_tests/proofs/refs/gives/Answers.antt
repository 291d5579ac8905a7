use Rattle.std.proofs.Common.{option_map, ap, ◌∙◌}
use Rattle.gl_refs.specs.State.{Row, is_item}
use Rattle.gl_machine_tests.proofs.refs.gives.Goals as goal

pub give_number-requires : goal.give_number-requires
give_number-requires g c =
    let item = c.in_ok-item.item in
    ap (λ l. is_item (l item)) c.begin.ensures ∙ ap (λ o. is_item (option_map (λ (r : Row). r.form) o)) c.in_ok-item.ensures.ok.gives.gives.given

pub give_number-requires-2 : goal.give_number-requires-2
give_number-requires-2 g c = ap (λ l. is_item (l c.in_ok-item.item)) c.is_valid.ensures ∙ c.give_number.ensures.item

pub evaluated-requires : goal.evaluated-requires
evaluated-requires g c = ap (λ l. is_item (l c.in_ok-item.item)) c.is_valid-2.ensures ∙ c.give_number-2.ensures.item

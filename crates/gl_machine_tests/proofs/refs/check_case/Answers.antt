use Rattle.std.proofs.Common.{IsSome, sym, ap, subst, ◌∙◌}
use Rattle.gl_refs.specs.State.{is_cell, is_item}
use Rattle.gl_machine_tests.proofs.refs.check_case.Goals as goal

pub make_change-requires-clause-a : goal.make_change-requires-clause-a
make_change-requires-clause-a g c = let m = c.in_ok-m.m in ap is_cell (ap (λ l. l m.a) (c.begin.ensures ∙ c.check_text.ensures)) ∙ c.in_ok-m.ensures.a

pub make_change-requires-clause-b : goal.make_change-requires-clause-b
make_change-requires-clause-b g c = let m = c.in_ok-m.m in ap is_cell (ap (λ l. l m.b) (c.begin.ensures ∙ c.check_text.ensures)) ∙ c.in_ok-m.ensures.b

pub make_change-requires-clause-c : goal.make_change-requires-clause-c
make_change-requires-clause-c g c = let m = c.in_ok-m.m in ap is_item (ap (λ l. l m.c) (c.begin.ensures ∙ c.check_text.ensures)) ∙ c.in_ok-m.ensures.c

pub check_text-requires-2 : goal.check_text-requires-2
check_text-requires-2 g c =
    let m = c.in_ok-m.m in
    subst IsSome (sym (ap (λ l. l m.top) c.is_valid-valid.ensures))
    (c.make_change.ensures.live m.top (subst IsSome (sym (ap (λ l. l m.top) (c.begin.ensures ∙ c.check_text.ensures))) c.in_ok-m.ensures.top))

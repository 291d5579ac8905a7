use Rattle.std.proofs.Common.{◌≡◌, ◌∙◌, ap}
use Rattle.gl_vm.specs.View.{is_all}
use Rattle.gl_machine_tests.proofs.vm.renews.Goals as goal

pub evaluate-requires-clause-position : goal.evaluate-requires-clause-position
evaluate-requires-clause-position g c = ap (λ l. is_all (l c.in_ok-m.m.spot)) c.is_stale.ensures.forms ∙ c.in_ok-m.ensures.spot

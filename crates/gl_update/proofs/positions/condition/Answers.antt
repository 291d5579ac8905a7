use Rattle.std.proofs.Common.{◌∙◌, ap, sym, not}
use Rattle.std.specs.Prelude.{if◌then◌else◌}
use Rattle.gl_value.specs.View.{view}
use Rattle.gl_value.proofs.Owners.{rules_leave_owners}
use Rattle.gl_meaning.specs.Eval.{takes_first}
use Rattle.gl_vm.specs.Labels.{owner_path}
use Rattle.gl_update.proofs.positions.condition.Goals as goal

pub returns-clause-shows : goal.returns-clause-shows
returns-clause-shows c = λ n u.
    ap (λ v. takes_first c.args.unless v) (c.in_ok-value.ensures n u) ∙ (ap (λ b. if c.args.unless then not b else b) (rules_leave_owners owner_path (view c.in_ok-value.value)).0 ∙ sym c.takes.ensures)

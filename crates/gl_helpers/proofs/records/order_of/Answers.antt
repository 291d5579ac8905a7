use Rattle.std.proofs.Common.{◌∙◌, sym, ap}
use Rattle.std.specs.Str.{chars}
use Rattle.gl_helpers.proofs.Orders.{equal_bytes}
use Rattle.gl_helpers.proofs.records.order_of.Goals as goal

pub returns-clause-same : goal.returns-clause-same
returns-clause-same c = λ e.
    sym c.as_str.ensures.value ∙ ap chars (equal_bytes c.as_str.result.now c.as_str-2.result.now (sym c.cmp.ensures ∙ e)) ∙ c.as_str-2.ensures.value

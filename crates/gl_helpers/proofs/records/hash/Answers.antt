use Rattle.std.proofs.Common.{◌∙◌, [], sym, append-nil}
use Rattle.gl_value.specs.View.{seen_entries}
use Rattle.gl_helpers.proofs.Lends.{lent_keeps}
use Rattle.gl_helpers.proofs.Puts.{values_put_all}
use Rattle.gl_helpers.proofs.records.hash.Goals as goal

pub returns-clause-keeps : goal.returns-clause-keeps
returns-clause-keeps c = λ named.
    let whole = rw (c.in-None.ensures.steps.0, append-nil) at c.loop-name.invariant.2 in
    let values = rw (← c.in_ok-items.ensures) at (values_put_all [] (seen_entries c.args.named.now) tt named) in
    rw (c.in_ok-build.ensures, whole ∙ sym c.in_ok-items.ensures) (lent_keeps c.in_ok-items.items.entries c.into_iter-name-iterator.ensures.into_iter_gives.5 values)

use Rattle.std.proofs.Common.{ℕ, refl, sym, ap, ◌∙◌, Some}
use Rattle.serde_json.specs.View as seen
use Rattle.gl_value.proofs.Fitting.{told_fit, told_unfit}
use Rattle.gl_value.proofs.json.json_fault.Goals as goal

pub returns-then-fits : goal.returns-then-fits
returns-then-fits c =
    let value = told_fit {O = ℕ} (seen.view c.args.json.now) (sym c.fits.ensures ∙ c.if-fits.true) in
    rw value refl

pub returns-else-fits : goal.returns-else-fits
returns-else-fits c = ap Some c.fault.ensures ∙ sym (told_unfit ℕ (seen.view c.args.json.now) (sym c.fits.ensures ∙ c.if-fits.false))

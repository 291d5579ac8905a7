use Rattle.std.proofs.Common.{◌≡◌, ℕ, None, Ok, sym, ap, ◌∙◌, arith}
use Rattle.std.proofs.lemmas.Option.{none-some}
use Rattle.serde_json.specs.View as seen
use Rattle.gl_value.specs.Json.{first_bad}
use Rattle.gl_value.specs.Value.{depth}
use Rattle.gl_value.proofs.Fitting.{fit, told_fit}
use Rattle.gl_value.proofs.Reading.{depth-value_of}
use Rattle.gl_value.proofs.value.Value.from_json.Goals as goal

pub returns-in-Ok-clause-value : goal.returns-in-Ok-clause-value
returns-in-Ok-clause-value c = told_fit {O = ℕ} (seen.view c.args.json.now) c.in-Ok.ensures.fit ∙ ap Ok (sym c.in-Ok.ensures.value)

pub returns-in-Ok-clause-proper : goal.returns-in-Ok-clause-proper
returns-in-Ok-clause-proper c =
    let same = ap depth c.in-Ok.ensures.value ∙ depth-value_of (seen.view c.args.json.now) in
    let sound = fit 100 (seen.view c.args.json.now) c.in-Ok.ensures.fit in
    (omega (arith, same, sound.1), c.in-Ok.ensures.keeps)

pub returns-in-Ok-clause-not_whole : goal.returns-in-Ok-clause-not_whole
returns-in-Ok-clause-not_whole c =
    let none : first_bad (seen.view c.args.json.now) ≡ None = (fit 100 (seen.view c.args.json.now) c.in-Ok.ensures.fit).0 in
    (λ e. cc, λ h. absurd (none-some _ (sym none ∙ h)))

pub returns-in-Ok-clause-too_large : goal.returns-in-Ok-clause-too_large
returns-in-Ok-clause-too_large c =
    let none : first_bad (seen.view c.args.json.now) ≡ None = (fit 100 (seen.view c.args.json.now) c.in-Ok.ensures.fit).0 in
    (λ e. cc, λ h. absurd (none-some _ (sym none ∙ h)))

pub returns-in-Ok-clause-too_deep : goal.returns-in-Ok-clause-too_deep
returns-in-Ok-clause-too_deep c =
    let sound = fit 100 (seen.view c.args.json.now) c.in-Ok.ensures.fit in
    (λ e. cc, λ h. absurd (omega (arith, sound.1, h.1)))

use Rattle.std.proofs.Common.{◌≡◌, Some, None, ◌∙◌, ap}
use Rattle.std.proofs.lemmas.Result.{IfOk-weaker}
use Rattle.gl_base.specs.Names.{at_place}
use Rattle.gl_value.specs.Value.{undefined}
use Rattle.gl_value.specs.View.{view}
use Rattle.gl_code.proofs.Laying.{place_of}
use Rattle.gl_code.proofs.instances.value_at.Goals as goal

pub returns-in-Some : goal.returns-in-Some
returns-in-Some c =
    IfOk-weaker c.copy.result (λ v. v ≡ c.in-Some.value.now) (λ v. view v ≡ at_place undefined c.args.place c.args.values.now)
    (λ v e. ap view e ∙ place_of c.args.values.now c.args.place (Some (view c.in-Some.value.now)) c.in-Some.ensures) c.copy.ensures

pub returns-in-None : goal.returns-in-None
returns-in-None c = place_of c.args.values.now c.args.place None c.in-None.ensures

use Rattle.std.proofs.Common.{◌-◌, ◌∷◌, [], arith}
use Rattle.std.proofs.lemmas.Result.{IfOk-weaker}
use Rattle.gl_asks.specs.Asked.{Asked}
use Rattle.gl_asks.proofs.Asked.{asked_one}
use Rattle.gl_asks.proofs.asking.ask.Goals as goal

pub returns-clause-asked : goal.returns-clause-asked
returns-clause-asked c =
    let k = c.args.left.now in
    IfOk-weaker c.is_stale.result _ (Asked c.args.vm.now k (k - 1) (λ n. c.args.id.1 ∷ []))
    (λ b told. asked_one c.args.vm.now k (k - 1) c.args.id.1 b (let ne = c.if-left-eq0.false in omega (arith, ne)) told) c.is_stale.ensures.exact

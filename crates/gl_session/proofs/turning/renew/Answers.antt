use Rattle.std.proofs.Common.{subst}
use Rattle.gl_plain.specs.Naming.{by_number}
use Rattle.gl_machine.specs.Code.{Code as PlainCode}
use Rattle.gl_guards.specs.Along.{along_root_code_as}
use Rattle.gl_guards.specs.AlongAsks.{along_asks_root}
use Rattle.gl_code.specs.CodeView.{seen_code}
use Rattle.gl_code.specs.Renewing.{Renews, RenewFails}
use Rattle.gl_update.specs.Questions.{Asks}
use Rattle.gl_session.proofs.turning.renew.Goals as goal

pub returns-in-Ok-clause-ok : goal.returns-in-Ok-clause-ok
returns-in-Ok-clause-ok c =
    subst (λ cs. Renews c.args.app.now cs (λ n run. along_root_code_as by_number c.args.app.now.manifest.limit run (seen_code n c.args.page.now.code)) c.args.page.now.vm (λ n. seen_code n c.update.new.page.code) c.update.new.page.vm)
    c.new-cells.ensures c.in-Ok.ensures.ok

pub returns-clause-fails : goal.returns-clause-fails
returns-clause-fails c =
    subst (λ cs. RenewFails {A = PlainCode} c.args.app.now cs (λ n run. along_root_code_as by_number c.args.app.now.manifest.limit run (seen_code n c.args.page.now.code)) c.args.page.now.vm c.in-Err.fault)
    c.new-cells.ensures c.in-Err.ensures.fails

pub returns-in-Ok-clause-asked : goal.returns-in-Ok-clause-asked
returns-in-Ok-clause-asked c =
    subst (λ cs. Asks c.args.app.now cs (λ n run. along_asks_root by_number c.args.app.now.manifest.limit run (seen_code n c.args.page.now.code)) c.args.page.now.vm 0 c.in-Ok.moved.asked)
    c.new-cells.ensures c.in-Ok.ensures.asked

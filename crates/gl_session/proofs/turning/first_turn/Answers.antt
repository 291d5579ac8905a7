use Rattle.std.proofs.Common.{subst}
use Rattle.gl_meaning.specs.View.{manifest_view}
use Rattle.gl_append.specs.Page.{AppendFails}
use Rattle.gl_session.proofs.Rules.{names_rise}
use Rattle.gl_session.proofs.Turns.{first_fault}
use Rattle.gl_session.proofs.turning.first_turn.Goals as goal

pub returns-in-Ok-clause-ok : goal.returns-in-Ok-clause-ok
returns-in-Ok-clause-ok c = λ templates lowered. c.in_ok-first_made-in-Ok.ensures.ok templates (names_rise (manifest_view c.args.app.now.manifest) c.keeps.ensures.rules) lowered

pub returns-clause-fails : goal.returns-clause-fails
returns-clause-fails c = λ templates lowered. first_fault c.args.app.now templates (names_rise (manifest_view c.args.app.now.manifest) c.keeps.ensures.rules) lowered c.in-Err.fault
    (subst (λ cs. AppendFails c.args.app.now cs c.in-Err.fault) c.new-cells.ensures c.in-Err.ensures.fails)

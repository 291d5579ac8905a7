use Rattle.std.proofs.Common.{◌++◌, sym, ap, ◌∙◌, subst}
use Rattle.gl_vm.specs.Steps.{empty}
use Rattle.gl_vm.specs.View.{Calm}
use Rattle.gl_meaning.specs.Session as session
use Rattle.std.specs.Prelude.{None}
use Rattle.gl_session.specs.Standing.{Goes}
use Rattle.gl_session.specs.Telling.{log_text}
use Rattle.gl_session.specs.declared.turn.Turn.{Turn}
use Rattle.gl_session.proofs.Turns.{first_goes}
use Rattle.gl_session.proofs.turning.first_made.Goals as goal

pub returns-clause-ok : goal.returns-clause-ok
returns-clause-ok c = λ templates rises lowered.
    let a = c.args.app.now in
    let page = c.args.page in
    let made : Turn = record { text = c.push_committed.new.out; work = c.work_of-work.result } in
    subst (λ v. Goes a templates session.first_state None (record page { vm = v }) made) (sym c.push_committed.ensures.vm)
    (first_goes a templates page rises lowered c.requires.appended c.requires.nodes c.flat.ensures c.sound.ensures empty made
    (c.in_ok-push_committed.ensures.text ∙ ap (λ t. t ++ log_text a page.vm) c.in_ok-text.ensures)
    (record { evaluated = c.work_of-work.ensures.evaluated; made = c.work_of-work.ensures.made; moved = c.work_of-work.ensures.moved }))

pub returns-clause-calm : goal.returns-clause-calm
returns-clause-calm c = subst (λ v. Calm v) (sym c.push_committed.ensures.vm) (record { unread = c.requires.calm.unread; led = c.requires.calm.led })

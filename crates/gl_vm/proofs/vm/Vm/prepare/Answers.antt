use Rattle.gl_vm.proofs.Settled.{read_step, state-same}
use Rattle.gl_vm.proofs.Calms.{calm_same, live_of}
use Rattle.gl_vm.proofs.Placed.{owns_same}
use Rattle.gl_vm.proofs.Leading.{led_evaluated}
use Rattle.gl_vm.proofs.vm.Vm.prepare.Goals as goal

pub refresh-done-requires : goal.refresh-done-requires
refresh-done-requires c = live_of _ c.requires.readable

pub returns-clause-step : goal.returns-clause-step
returns-clause-step c =
    let old = c.args.self.now in
    let new = c.refresh-done.new.self in
    let h = c.refresh-done.ensures.reads in
    let r = h.reads in
    record {
      same = state-same old new c.args.id r c.sound.ensures.stamped c.sound-2.ensures.stamped c.requires.calm.unread c.sound.ensures.sound c.requires.readable h.evaluated;
      step = read_step old new c.args.id r c.sound.ensures.stamped c.sound-2.ensures.stamped c.requires.calm.unread c.sound.ensures.sound c.requires.readable h.evaluated;
      made = r.made;
      owns = λ i own. owns_same old.refs new c.sound.ensures.stamped c.sound-2.ensures.stamped r.made r.settles.forms i own;
    }

pub returns-clause-calm : goal.returns-clause-calm
returns-clause-calm c =
    let r = c.refresh-done.ensures.reads.reads in
    record { unread = calm_same c.args.self.now.refs c.refresh-done.new.self r.settles.forms c.requires.calm.unread; led = led_evaluated c.args.self.now.refs c.refresh-done.new.self c.args.id r c.sound-2.ensures.sound c.requires.calm.led }

pub returns-clause-kept : goal.returns-clause-kept
returns-clause-kept c = c.refresh-done.ensures.reads.kept

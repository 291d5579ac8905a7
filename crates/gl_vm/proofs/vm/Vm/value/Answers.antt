use Rattle.std.proofs.Common.{refl, sym, ap, ◌∙◌}
use Rattle.gl_arena.proofs.Stamps.{on_if}
use Rattle.gl_meaning.specs.Scope.{Pair}
use Rattle.gl_vm.specs.Labels.{labelled}
use Rattle.gl_vm.specs.View.{state_of}
use Rattle.gl_vm.proofs.Values.{means}
use Rattle.gl_vm.proofs.vm.Vm.value.Goals as goal

pub returns : goal.returns
returns c =
    on_if c.look.result
    (λ v e n touched. ap (λ (p : Pair). p.value) (means c.args.self.now.refs c.sound.ensures.stamped c.sound.ensures.sound (state_of n c.args.self.now touched).look (λ k. refl) c.args.id c.requires) ∙ ap labelled (sym e))
    c.look.ensures

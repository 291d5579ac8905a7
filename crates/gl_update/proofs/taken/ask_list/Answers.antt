use Rattle.std.proofs.Common.{◌≡◌, subst}
use Rattle.gl_plain.specs.Renew.{is_stale}
use Rattle.gl_vm.specs.View.{state_of}
use Rattle.gl_update.specs.declared.taken.Listed.{Listed}
use Rattle.gl_update.proofs.taken.ask_list.Goals as goal

pub returns-clause-exact : goal.returns-clause-exact
returns-clause-exact c = λ n u agrees. subst (λ (x : Listed). is_stale (state_of n c.args.vm.now u) x.spot.id.1 ≡ c.in_ok-stale.stale) c.deref.ensures (c.in_ok-stale.ensures.exact n u agrees)

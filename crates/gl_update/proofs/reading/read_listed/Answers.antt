use Rattle.std.proofs.Common.{◌≡◌, Bool, sym, subst}
use Rattle.std.proofs.lemmas.Result.{IfOk-weaker}
use Rattle.gl_meaning.specs.Scope.{Source}
use Rattle.gl_value.specs.View.{view}
use Rattle.gl_plain.specs.Binding.{first_value}
use Rattle.gl_plain.specs.Renew as r
use Rattle.gl_plain.specs.Renew.{spot_pairs}
use Rattle.gl_vm.specs.Labels.{labelled}
use Rattle.gl_vm.specs.View.{Tables, state_of}
use Rattle.gl_vm.specs.Steps.{Does}
use Rattle.gl_update.specs.Read.{Gives}
use Rattle.gl_update.specs.declared.taken.Listed.{Listed}
use Rattle.gl_update.proofs.Results.{on_ok_always}
use Rattle.gl_update.proofs.reading.read_listed.Goals as goal

pub returns-clause-step : goal.returns-clause-step
returns-clause-step c =
    on_ok_always c.same_or_other.result (subst (λ (l : Listed). Does (λ n. r.reread l.spot.id.1) c.args.vm.now c.value_now.new.vm) c.deref.ensures c.in_ok-value.ensures.step)

pub returns-clause-gives : goal.returns-clause-gives
returns-clause-gives c =
    IfOk-weaker c.same_or_other.result (Gives (labelled (view c.in_ok-value.value)) c.args.list) (λ x. (n : Tables) (u : Source → Bool) → Gives (first_value (spot_pairs (state_of n c.value_now.new.vm u) c.args.list.value.spot.id.1)) c.args.list x)
    (λ x h n u. subst (λ v. Gives v c.args.list x) (sym (subst (λ (l : Listed). first_value (spot_pairs (state_of n c.value_now.new.vm u) l.spot.id.1) ≡ labelled (view c.in_ok-value.value)) c.deref.ensures (c.in_ok-value.ensures.value n u))) h)
    c.same_or_other.ensures.gives

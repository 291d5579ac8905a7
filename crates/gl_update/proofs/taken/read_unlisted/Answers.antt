use Rattle.std.proofs.Common.{◌∙◌, ap, subst, []}
use Rattle.gl_meaning.specs.Render.{entries, values_listed}
use Rattle.gl_plain.specs.Binding.{first_value}
use Rattle.gl_plain.specs.Renew as r
use Rattle.gl_plain.specs.Renew.{spot_pairs}
use Rattle.gl_vm.specs.View.{state_of}
use Rattle.gl_vm.specs.Steps.{Does}
use Rattle.gl_update.specs.declared.taken.Unlisted.{Unlisted}
use Rattle.gl_update.proofs.taken.read_unlisted.Goals as goal

pub returns-clause-step : goal.returns-clause-step
returns-clause-step c = subst (λ (l : Unlisted). Does (λ n. r.reread l.spot.id.1) c.args.vm.now c.read_list.new.vm) c.deref-2.ensures c.in_ok-ready.ensures.step

pub returns-clause-entries : goal.returns-clause-entries
returns-clause-entries c = λ n u.
    let vs = values_listed (first_value (spot_pairs (state_of n c.read_list.new.vm u) c.deref-2.result.now.spot.id.1)) in
    c.in_ok-ready.ensures.entries n u
    ∙ (ap (λ t. entries t 0 [] vs) c.as_text.ensures
    ∙ (ap (λ (l : Unlisted). entries l.listing.key 0 [] vs) c.deref.ensures
    ∙ ap (λ (l : Unlisted). entries c.args.list.value.listing.key 0 [] (values_listed (first_value (spot_pairs (state_of n c.read_list.new.vm u) l.spot.id.1)))) c.deref-2.ensures))

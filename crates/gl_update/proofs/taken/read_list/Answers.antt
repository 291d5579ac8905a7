use Rattle.std.proofs.Common.{◌≡◌, ◌∙◌, ap, sym, [], Bool}
use Rattle.std.proofs.lemmas.Result.{IfOk-weaker}
use Rattle.gl_meaning.specs.Render.{entries, values_listed}
use Rattle.gl_meaning.specs.Scope.{Source}
use Rattle.gl_plain.specs.Binding.{first_value}
use Rattle.gl_plain.specs.Renew.{spot_pairs}
use Rattle.gl_vm.specs.View.{Tables, state_of}
use Rattle.gl_code.specs.Entries.{seen_left}
use Rattle.gl_update.proofs.taken.read_list.Goals as goal

pub returns-clause-entries : goal.returns-clause-entries
returns-clause-entries c = IfOk-weaker c.boxed_ready.result (λ x. x.value.entries ≡ c.in_ok-read.read.1)
    (λ x. (n : Tables) (u : Source → Bool) → seen_left x.value.entries.items ≡ entries c.args.key.now 0 [] (values_listed (first_value (spot_pairs (state_of n c.value_now.new.vm u) c.args.id.1))))
    (λ x e n u. ap (λ v. seen_left v.items) e ∙ (c.in_ok-read.ensures.entries ∙ ap (λ w. entries c.args.key.now 0 [] (values_listed w)) (sym (c.in_ok-value.ensures.value n u))))
    c.boxed_ready.ensures.entries

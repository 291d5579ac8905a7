use Rattle.std.proofs.Common.{sym, ap, ◌∙◌}
use Rattle.gl_value.specs.Owners.{with_owners}
use Rattle.gl_meaning.specs.Scope.{Pair}
use Rattle.gl_plain.specs.State.{any_of, pair_of}
use Rattle.gl_naming.proofs.Bound.{any_map}
use Rattle.gl_vm.specs.View.{state_of}
use Rattle.gl_means.proofs.Expressions.{one_means}
use Rattle.gl_means.proofs.laws.keeps.Goals as goal

pub returns : goal.returns
returns c f g once n touched app τ ms e k =
    let now = (state_of n c.args.vm.now touched).look in
    let is = one_means f g once now app τ ms e c.args.id.1 k in
    record {
      value = ap (with_owners f) (sym (c.keeps_meaning.ensures.value n touched)) ∙ ap (λ (p : Pair). p.value) is;
      sources = λ test. sym (c.keeps_meaning.ensures.sources n touched (λ y. test (g y))) ∙ (sym (any_map g (pair_of now c.args.id.1).sources test) ∙ ap (λ (p : Pair). any_of p.sources test) is);
    }

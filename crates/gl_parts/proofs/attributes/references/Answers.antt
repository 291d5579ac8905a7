use Rattle.std.proofs.Common.{◌≡◌, ◌+◌, drop, refl, ◌∙◌, sym, ap, ap₂}
use Rattle.std.proofs.lemmas.List.{drop_all}
use Rattle.gl_plain.specs.Tags.{given_refs}
use Rattle.gl_vm.specs.View.{stamps, state_of}
use Rattle.gl_code.specs.View.{refs_made}
use Rattle.gl_parts.specs.Parts.{seen_attribute, seen_attributes, bound_after}
use Rattle.gl_code.proofs.ListLaws.{item_next}
use Rattle.gl_parts.proofs.Leading.{leads_still, walk_goes, walk_ends}
use Rattle.gl_parts.proofs.AttrLaws.{bound_end}
use Rattle.gl_parts.proofs.attributes.references.Goals as goal

pub loop-attribute-init : goal.loop-attribute-init
loop-attribute-init c = record {
  leads = leads_still (λ n x y. given_refs (seen_attributes c.args.taken.now) x ≡ bound_after (stamps c.new.result) (refs_made c.new-2.result) (given_refs (seen_attributes c.args.taken.now) y)) c.args.vm.now
      (λ n t. ap₂ (λ is ms. bound_after (stamps is) (refs_made ms) (given_refs (seen_attributes c.args.taken.now) (state_of n c.args.vm.now t))) (sym c.new.ensures) (sym c.new-2.ensures));
  calm = λ a. a;
  tree = refl;
}

pub loop-attribute-preserved : goal.loop-attribute-preserved
loop-attribute-preserved c =
    let k = c.loop-attribute.attribute-index in
    let at = item_next c.args.taken.now c.loop-attribute.attribute-index c.attribute-item.result c.loop-attribute-test.true c.attribute-item.is in
    record {
      leads = walk_goes (λ n x. given_refs (seen_attributes c.args.taken.now) x)
          (λ n ws y. bound_after (stamps c.loop-attribute.all.ids) (refs_made c.loop-attribute.all.made) (given_refs ws y))
          (λ n ws y. bound_after (stamps c.add.new.self.ids) (refs_made c.add.new.self.made) (given_refs ws y))
          (λ n. seen_attributes (drop k c.args.taken.now)) (λ n. seen_attributes (drop (k + 1) c.args.taken.now)) (λ n. seen_attribute c.attribute-item.result)
          c.args.vm.now c.loop-attribute.vm c.add.new.vm (λ n. ap seen_attributes at) c.loop-attribute.invariant.leads c.in_ok-add.ensures.step;
      calm = λ a. c.add.ensures.calm (c.loop-attribute.invariant.calm a);
      tree = c.add.ensures.tree ∙ c.loop-attribute.invariant.tree;
    }

pub returns-clause-step : goal.returns-clause-step
returns-clause-step c =
    walk_ends (λ n x. given_refs (seen_attributes c.args.taken.now) x)
    (λ n ws y. bound_after (stamps c.loop-attribute.all.ids) (refs_made c.loop-attribute.all.made) (given_refs ws y))
    (λ y. record { ids = stamps c.loop-attribute.all.ids; made = refs_made c.loop-attribute.all.made; state = y })
    (λ n. seen_attributes (drop c.loop-attribute.attribute-index c.args.taken.now)) c.args.vm.now c.loop-attribute.vm
    (λ n. ap seen_attributes (drop_all c.loop-attribute.attribute-index c.args.taken.now c.loop-attribute-test.false)) (λ n y. bound_end (stamps c.loop-attribute.all.ids) (refs_made c.loop-attribute.all.made) y) c.loop-attribute.invariant.leads

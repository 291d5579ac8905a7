use Rattle.std.proofs.Common.{◌≡◌, ◌+◌, map, drop, refl, ◌∙◌, ap, ap₂, sym, subst}
use Rattle.std.proofs.lemmas.List.{drop_all}
use Rattle.gl_plain.specs.Tags.{give_attrs}
use Rattle.gl_vm.specs.View.{state_of}
use Rattle.gl_code.specs.CodeView.{seen_attr_spot}
use Rattle.gl_parts.specs.Parts.{Leads, seen_attributes, given_after}
use Rattle.gl_code.proofs.ListLaws.{item_next}
use Rattle.gl_parts.proofs.Leading.{leads_still, walk_goes, walk_ends}
use Rattle.gl_parts.proofs.AttrLaws.{attr_goes, given_end}
use Rattle.gl_parts.proofs.attributes.give_all.Goals as goal

pub loop-name-init : goal.loop-name-init
loop-name-init c =
    let ws = seen_attributes c.args.attributes.now in
    let names = c.as_slice-name-items.result.now in
    record {
      leads = leads_still (λ n x y. give_attrs ws names x ≡ given_after c.new.result.items (map seen_attr_spot c.new-2.result.items) (give_attrs ws names y)) c.args.vm.now
          (λ n t. ap₂ (λ xs ss. given_after xs (map seen_attr_spot ss) (give_attrs ws names (state_of n c.args.vm.now t))) (sym c.new.ensures.items) (sym c.new-2.ensures.items));
      calm = c.requires.calm;
      tree = refl;
    }

pub loop-name-preserved : goal.loop-name-preserved
loop-name-preserved c =
    let ws = seen_attributes c.args.attributes.now in
    let names = c.as_slice-name-items.result.now in
    let k = c.loop-name.name-index in
    let x = c.loop-name.all in
    let y = c.give.new.self in
    record {
      leads = walk_goes (λ n. give_attrs ws names)
          (λ n ks z. given_after x.attrs.items (map seen_attr_spot x.spots.items) (give_attrs ws ks z)) (λ n ks z. given_after y.attrs.items (map seen_attr_spot y.spots.items) (give_attrs ws ks z))
          (λ n. drop k names) (λ n. drop (k + 1) names) (λ n. c.name-item.result) c.args.vm.now c.loop-name.vm c.give.new.vm
          (λ n. item_next names k c.name-item.result c.loop-name-test.true c.name-item.is) c.loop-name.invariant.leads
          (attr_goes ws c.name-item.result (seen_attributes c.as_slice.result.now) (given_after x.attrs.items (map seen_attr_spot x.spots.items)) (given_after y.attrs.items (map seen_attr_spot y.spots.items)) c.loop-name.vm c.give.new.vm
          (ap seen_attributes c.as_slice.ensures.value ∙ c.in_ok-taken.ensures) c.in_ok-give.ensures.step);
      calm = c.give.ensures.calm;
      tree = c.give.ensures.tree ∙ c.loop-name.invariant.tree;
    }

pub returns-clause-step : goal.returns-clause-step
returns-clause-step c =
    let ws = seen_attributes c.args.attributes.now in
    let names = c.as_slice-name-items.result.now in
    let x = c.loop-name.all in
    rw (c.shrink_to_fit.ensures.items, c.shrink_to_fit-2.ensures.items)
    (subst (λ ks. Leads (λ n z y. give_attrs ws ks z ≡ record { attrs = x.attrs.items; spots = map seen_attr_spot x.spots.items; state = y }) c.args.vm.now c.loop-name.vm) (c.as_slice-name-items.ensures ∙ c.in_ok-names.ensures)
    (walk_ends (λ n. give_attrs ws names) (λ n ks z. given_after x.attrs.items (map seen_attr_spot x.spots.items) (give_attrs ws ks z)) (λ y. record { attrs = x.attrs.items; spots = map seen_attr_spot x.spots.items; state = y })
    (λ n. drop c.loop-name.name-index names) c.args.vm.now c.loop-name.vm (λ n. drop_all c.loop-name.name-index names c.loop-name-test.false) (λ n y. given_end x.attrs.items (map seen_attr_spot x.spots.items) y) c.loop-name.invariant.leads))

use Rattle.std.proofs.Common.{◌≡◌, ◌+◌, map, length, drop, refl, ◌∙◌, ap, sym}
use Rattle.std.proofs.lemmas.List.{drop_all}
use Rattle.gl_plain.specs.Tags.{install_parts}
use Rattle.gl_vm.specs.View.{state_of}
use Rattle.gl_code.specs.CodeView.{seen_mod_spot}
use Rattle.gl_parts.specs.Parts.{seen_part, seen_parts, grown_after}
use Rattle.gl_code.proofs.ListLaws.{item_next}
use Rattle.gl_parts.proofs.Leading.{leads_still, walk_goes, walk_ends}
use Rattle.gl_parts.proofs.ModLaws.{grown_end}
use Rattle.gl_parts.proofs.modifiers.install_all.Goals as goal

pub loop-part-init : goal.loop-part-init
loop-part-init c = record {
  leads = leads_still (λ n x y. install_parts c.args.node.1 0 (seen_parts n c.args.parts.now) x ≡ grown_after (map seen_mod_spot c.new-spots.result.items) (install_parts c.args.node.1 (length c.new-spots.result.items) (seen_parts n c.args.parts.now) y)) c.args.vm.now
      (λ n t. ap (λ ss. grown_after (map seen_mod_spot ss) (install_parts c.args.node.1 (length ss) (seen_parts n c.args.parts.now) (state_of n c.args.vm.now t))) (sym c.new-spots.ensures.items));
  calm = c.requires.calm;
  tree = refl;
}

pub loop-part-preserved : goal.loop-part-preserved
loop-part-preserved c =
    let k = c.loop-part.part-index in
    let parts = c.args.parts.now in
    let x = c.loop-part.spots.items in
    let y = c.install_part.new.spots.items in
    record {
      leads = walk_goes (λ n. install_parts c.args.node.1 0 (seen_parts n parts))
          (λ n ws z. grown_after (map seen_mod_spot x) (install_parts c.args.node.1 (length x) ws z)) (λ n ws z. grown_after (map seen_mod_spot y) (install_parts c.args.node.1 (length y) ws z))
          (λ n. seen_parts n (drop k parts)) (λ n. seen_parts n (drop (k + 1) parts)) (λ n. seen_part n c.part-item.result) c.args.vm.now c.loop-part.vm c.install_part.new.vm
          (λ n. ap (seen_parts n) (item_next parts k c.part-item.result c.loop-part-test.true c.part-item.is)) c.loop-part.invariant.leads c.in_ok-install_part.ensures.step;
      calm = c.install_part.ensures.calm;
      tree = c.install_part.ensures.tree ∙ c.loop-part.invariant.tree;
    }

pub returns-clause-step : goal.returns-clause-step
returns-clause-step c =
    let x = c.loop-part.spots.items in
    rw c.shrink_to_fit.ensures.items
    (walk_ends (λ n. install_parts c.args.node.1 0 (seen_parts n c.args.parts.now)) (λ n ws z. grown_after (map seen_mod_spot x) (install_parts c.args.node.1 (length x) ws z)) (λ y. record { spots = map seen_mod_spot x; state = y })
    (λ n. seen_parts n (drop c.loop-part.part-index c.args.parts.now)) c.args.vm.now c.loop-part.vm (λ n. ap (seen_parts n) (drop_all c.loop-part.part-index c.args.parts.now c.loop-part-test.false)) (λ n y. grown_end (map seen_mod_spot x) y)
    c.loop-part.invariant.leads)

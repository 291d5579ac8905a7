use Rattle.std.proofs.Common.{◌≡◌, ◌<◌, ◌++◌, ◌∷◌, [], IfSome, Ok, option_to_list, ap, subst, ◌∙◌}
use Rattle.gl_nodes.specs.Forest.{times}
use Rattle.gl_nodes.specs.Tree.{node_at}
use Rattle.gl_print.specs.Walk.{left}
use Rattle.gl_print.proofs.OwnLines.{own_begins, own_goes, own_ends}
use Rattle.gl_print.proofs.Printings.{none_is}
use Rattle.gl_print.proofs.owning.print_own.Goals as goal

pub loop-walk-init : goal.loop-walk-init
loop-walk-init c =
    let f = c.args.tree.now.forest in
    let w = c.start-walk.result in
    record {
      sound = c.start-walk.ensures.sound;
      here = c.start-walk.ensures.at;
      above = c.start-walk.ensures.above;
      prints = own_begins (node_at c.args.tree.now) f c.new-out.result (left f w.at w.above.items) c.new-out.ensures c.start-walk.ensures.all;
    }

pub print_one-requires : goal.print_one-requires
print_one-requires c =
    c.loop-walk.invariant.sound.live c.in-Some.stop.1 (subst (λ o. IfSome o (λ s. 0 < times s.1 c.args.tree.now.forest)) c.in-Some.is (c.in_ok-stop.ensures {u = tt}).stands)

pub loop-walk-preserved : goal.loop-walk-preserved
loop-walk-preserved c =
    let f = c.args.tree.now.forest in
    let old = c.loop-walk.walk in
    let new = c.step.new.walk in
    let step = c.in_ok-stop.ensures {u = tt} in
    let is : left f old.at old.above.items ≡ c.in-Some.stop ∷ left f new.at new.above.items =
    step.left ∙ ap (λ o. option_to_list o ++ left f new.at new.above.items) c.in-Some.is in
    record {
      sound = c.loop-walk.invariant.sound;
      here = step.at;
      above = step.above;
      prints = own_goes (node_at c.args.tree.now) f c.loop-walk.out c.print_one.new.out (left f old.at old.above.items) c.in-Some.stop (left f new.at new.above.items) is c.loop-walk.invariant.prints c.in_ok-print_one.ensures;
    }

pub returns : goal.returns
returns c =
    let f = c.args.tree.now.forest in
    let old = c.loop-walk.walk in
    let new = c.step.new.walk in
    let step = c.in_ok-stop.ensures {u = tt} in
    let end = none_is c.in_ok-stop.field-0 c.in_default.not-Some in
    let none : left f old.at old.above.items ≡ [] = step.left ∙ (ap (λ o. option_to_list o ++ left f new.at new.above.items) end ∙ step.end (ap Ok end)) in
    record { text = own_ends (node_at c.args.tree.now) f c.loop-walk.out (left f old.at old.above.items) none c.loop-walk.invariant.prints }

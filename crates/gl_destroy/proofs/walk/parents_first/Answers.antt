use Rattle.std.proofs.Common.{◌≡◌, ◌<◌, ◌++◌, ◌-◌, take, append-nil, [], ◌∷◌, option_map, sym, ap, subst, ◌∙◌}
use Rattle.std.proofs.lemmas.List.{map-append}
use Rattle.gl_destroy.specs.Forest.{children_first}
use Rattle.gl_destroy.specs.Links.{IsLeft, living, size, read, tree_in}
use Rattle.gl_destroy.specs.View.{look_in, seen_pairs, seen_what, seen_entry, seen_pair}
use Rattle.gl_destroy.proofs.Links.{none_left, left_lives, step_left, step_smaller, map-reverse}
use Rattle.gl_destroy.proofs.Looks.{live_look}
use Rattle.gl_destroy.proofs.walk.parents_first.Goals as goal

pub get-entry-requires : goal.get-entry-requires
get-entry-requires c =
    let l = look_in c.args.entries.now in
    let made = c.args.entries.now.made in
    let order = seen_pairs c.loop-at.order.items in
    let whole = children_first (tree_in l made c.args.id) in
    live_look c.args.entries.now c.in-Some.at
    (left_lives l made c.pop.new.self.items c.in-Some.at order whole (subst (λ is. IsLeft l made is order whole) c.in-Some.ensures.items c.loop-at.invariant))

pub loop-at-smaller : goal.loop-at-smaller
loop-at-smaller c =
    let l = look_in c.args.entries.now in
    let made = c.args.entries.now.made in
    let order = seen_pairs c.loop-at.order.items in
    let whole = children_first (tree_in l made c.args.id) in
    let is = c.pop.new.self.items in
    let e = c.get-entry.result.now in
    let left = subst (λ ids. IsLeft l made ids order whole) c.in-Some.ensures.items c.loop-at.invariant in
    let stack = c.in_ok-push_living.ensures ∙ ap (λ ids. is ++ living l ids) c.as_slice.ensures.value in
    subst (λ s. size (read l made s) < size (read l made c.loop-at.stack.items)) (sym stack)
    (subst (λ s. size (read l made (is ++ living l e.children.list.items)) < size (read l made s)) (sym c.in-Some.ensures.items)
    (step_smaller l made is c.in-Some.at (seen_what e.what) e.children.list.items order whole left (ap (option_map seen_entry) c.get-entry.ensures)))

pub loop-at-preserved : goal.loop-at-preserved
loop-at-preserved c =
    let l = look_in c.args.entries.now in
    let made = c.args.entries.now.made in
    let order = seen_pairs c.loop-at.order.items in
    let whole = children_first (tree_in l made c.args.id) in
    let is = c.pop.new.self.items in
    let e = c.get-entry.result.now in
    let left = subst (λ ids. IsLeft l made ids order whole) c.in-Some.ensures.items c.loop-at.invariant in
    let stack = c.in_ok-push_living.ensures ∙ ap (λ ids. is ++ living l ids) c.as_slice.ensures.value in
    let told = ap seen_pairs c.in_ok-push-2.ensures.items ∙ map-append seen_pair c.loop-at.order.items ((c.in-Some.at, e.what) ∷ []) in
    subst (λ s. IsLeft l made s (seen_pairs c.push-in-Some.new.self.items) whole) (sym stack)
    (subst (λ es. IsLeft l made (is ++ living l e.children.list.items) es whole) (sym told)
    (step_left l made is c.in-Some.at (seen_what e.what) e.children.list.items order whole left (ap (option_map seen_entry) c.get-entry.ensures)))

pub returns : goal.returns
returns c =
    let l = look_in c.args.entries.now in
    let made = c.args.entries.now.made in
    let order = seen_pairs c.loop-at.order.items in
    let whole = children_first (tree_in l made c.args.id) in
    let stack = c.loop-at.stack.items in
    let left : c.pop.new.self.items ≡ [] = c.in_default.ensures.rest ∙ ap (λ n. take (n - 1) stack) c.in_default.ensures.cases.0 in
    let none : stack ≡ [] = c.in_default.ensures.items ∙ (append-nil c.pop.new.self.items ∙ left) in
    map-reverse seen_pair c.loop-at.order.items ∙ none_left l made order whole (subst (λ ids. IsLeft l made ids order whole) none c.loop-at.invariant)

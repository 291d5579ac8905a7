-- Nodes as rows of the state.
use Rattle.std.proofs.Common.{◌≡◌, suc, ◌+◌, Bool, true, false, Option, Some, option_map, [], ◌∷◌, refl, sym, ap, subst, ◌∙◌, arith}
use Rattle.std.specs.Prelude.{if◌then◌else◌}
use Rattle.std.specs.Str.{bytes_eq}
use Rattle.gl_base.specs.Texts.{Text}
use Rattle.gl_arena.specs.Id.{Id}
use Rattle.gl_arena.specs.Arena.{amended, IsStamped}
use Rattle.gl_arena.proofs.Stamps.{by_stamp-live}
use Rattle.gl_nodes.specs.Node as n
use Rattle.gl_nodes.specs.Tree.{Tree, node_at, Makes, Changes}
use Rattle.gl_nodes.specs.Flat.{node_by, MakesFlat, ChangesFlat}
use Rattle.gl_plain.specs.Ids.{node}
use Rattle.gl_plain.specs.State.{Content, element_content, content, put_thing}
use Rattle.gl_plain.specs.Grow.{made_node}
use Rattle.gl_plain.specs.Renew as r
use Rattle.gl_vm.specs.Kept.{Kept, state_by}
use Rattle.gl_vm.specs.View.{seen_node, kept_of}
use Rattle.gl_vm.specs.Steps.{Does, Follows, Numbers, Rooted, put_attr, times_named}
use Rattle.gl_vm.specs.declared.vm.Vm.{Vm}
use Rattle.gl_vm.proofs.States.{amended_is, with_node, node_made, node_put}

pub node_step : (vm : Vm) (t : Tree) (i : Id) (x : n.Node) → MakesFlat vm.tree t i x → Does (λ n. made_node (seen_node x)) vm (record vm { tree = t })
node_step vm t i x m n touched a = record {
  state = ap (λ (k : Kept). state_by k touched) kept-is ∙ node_made (kept_of n vm) touched (seen_node x);
  agrees = a;
}
  where
    nodes-are : (λ k. option_map seen_node (node_by t k)) ≡ amended (λ k. option_map seen_node (node_by vm.tree k)) vm.tree.nodes.made (Some (seen_node x))
    nodes-are =
        amended_is (λ k. option_map seen_node (node_by vm.tree k)) vm.tree.nodes.made (Some (seen_node x)) (λ k. option_map seen_node (node_by t k))
        (ap (λ j. option_map seen_node (node_by t j)) (sym m.stamp) ∙ ap (option_map seen_node) m.here)
        (λ q ne. ap (option_map seen_node) (m.others q (λ e. ne (e ∙ m.stamp))))

    count-is : t.nodes.made ≡ suc vm.tree.nodes.made
    count-is = let c = m.stamps in omega (arith, c)

    kept-is : kept_of n (record vm { tree = t }) ≡ with_node (seen_node x) (kept_of n vm)
    kept-is = λ z. record (kept_of n vm) { node = nodes-are z; nodes = count-is z }

pub node_numbers : (old t : Tree) (i : Id) (x : n.Node) → MakesFlat old t i x → Numbers old.nodes t.nodes i
node_numbers old t i x m = record { stamp = m.stamp; own = m.is_own; olds = m.own }

pub change_step : (vm : Vm) (t : Tree) (i : Id) (x : n.Node) → ChangesFlat vm.tree t i.1 (Some x) → t.nodes.made ≡ vm.tree.nodes.made → Does (λ n. put_thing (node i.1) (content (seen_node x))) vm (record vm { tree = t })
change_step vm t i x m made n touched a = record {
  state = ap (λ (k : Kept). state_by k touched) kept-is ∙ node_put (kept_of n vm) touched i.1 (seen_node x);
  agrees = a;
}
  where
    nodes-are : (λ k. option_map seen_node (node_by t k)) ≡ amended (λ k. option_map seen_node (node_by vm.tree k)) i.1 (Some (seen_node x))
    nodes-are =
        amended_is (λ k. option_map seen_node (node_by vm.tree k)) i.1 (Some (seen_node x)) (λ k. option_map seen_node (node_by t k))
        (ap (option_map seen_node) m.here) (λ q ne. ap (option_map seen_node) (m.others q ne))

    kept-is : kept_of n (record vm { tree = t }) ≡ record (kept_of n vm) { node = amended (λ k. option_map seen_node (node_by vm.tree k)) i.1 (Some (seen_node x)) }
    kept-is = λ z. record (kept_of n vm) { node = nodes-are z; nodes = made z }

pub told_step : (vm : Vm) (t : Tree) (i : Id) (was : n.Node) (f : n.Node → n.Node) → node_at vm.tree i ≡ Some was → t.nodes.made ≡ vm.tree.nodes.made → ChangesFlat vm.tree t i.1 (option_map f (node_at vm.tree i))
    → Does (λ n. put_thing (node i.1) (content (seen_node (f was)))) vm (record vm { tree = t })
told_step vm t i was f e made m = change_step vm t i (f was) (subst (λ (o : Option n.Node). ChangesFlat vm.tree t i.1 (option_map f o)) e m) made

-- an attribute that stands once
if_same : {A : Type 0} (b : Bool) (x y : A) → b ≡ false → (if b then x else y) ≡ y
if_same false x y e = refl
if_same true x y e = let no : true ≡ false = e in absurd (cc)

none-with : (name : Text) (value : Option Text) (xs : n.Attrs) → times_named name xs ≡ 0 → r.with_attr name value xs ≡ xs
none-with name value [] e = refl
none-with name value (a ∷ xs) e = by_test (bytes_eq name a.0) a xs e (none-with name value xs) where
  by_test : (b : Bool) (a : Text × Option Text) (xs : n.Attrs) → (if b then 1 else 0) + times_named name xs ≡ 0 → (times_named name xs ≡ 0 → r.with_attr name value xs ≡ xs)
      → (if b then (a.0, value) else a) ∷ r.with_attr name value xs ≡ a ∷ xs
  by_test false a xs e h = ap (λ r. a ∷ r) (h (omega (arith, e)))
  by_test true a xs e h = absurd (omega (arith, e))

once-with : (name : Text) (value : Option Text) (xs : n.Attrs) → times_named name xs ≡ 1 → n.with_attr name value xs ≡ r.with_attr name value xs
once-with name value [] e = let no : 0 ≡ 1 = e in absurd (omega (arith, no))
once-with name value (a ∷ xs) e = by_test (bytes_eq name a.0) a xs e (once-with name value xs) where
  by_test : (b : Bool) (a : Text × Option Text) (xs : n.Attrs) → (if b then 1 else 0) + times_named name xs ≡ 1 → (times_named name xs ≡ 1 → n.with_attr name value xs ≡ r.with_attr name value xs)
      → (if b then (a.0, value) ∷ xs else a ∷ n.with_attr name value xs) ≡ (if b then (a.0, value) else a) ∷ r.with_attr name value xs
  by_test false a xs e h = ap (λ r. a ∷ r) (h (omega (arith, e)))
  by_test true a xs e h = ap (λ r. (a.0, value) ∷ r) (sym (none-with name value xs (omega (arith, e))))

pub attr_step : (vm : Vm) (t : Tree) (i : Id) (tag : Text) (attrs : n.Attrs) (name : Text) (value : Option Text) → IsStamped vm.tree.nodes → node_at vm.tree i ≡ Some (n.element tag attrs) → times_named name attrs ≡ 1
    → t.nodes.made ≡ vm.tree.nodes.made → ChangesFlat vm.tree t i.1 (option_map (n.attributed name value) (node_at vm.tree i)) → Does (λ n. put_attr i.1 name value) vm (record vm { tree = t })
attr_step vm t i tag attrs name value stamped e once made m k touched a = let s = told_step vm t i (n.element tag attrs) (n.attributed name value) e made m k touched a in
    let look : option_map seen_node (node_by vm.tree i.1) ≡ Some (element_content tag attrs) = ap (option_map seen_node) (by_stamp-live vm.tree.nodes i (n.element tag attrs) stamped e) in
    subst (λ (x : Content). Follows k (put_thing (node i.1) (content x) (state_by (kept_of k vm) touched)) (record vm { tree = t }))
    (ap (element_content tag) (once-with name value attrs once) ∙ ap (λ o. r.changed_attr name value (option_map content o)) (sym look)) s

-- a node that is made stands nowhere, and one that changes stays where it is
pub made_roots : (old t : Tree) (i : Id) (x : n.Node) → Makes old t i x → Rooted old t
made_roots old t i x m = record { forest = m.forest; moves = m.moves }

pub changed_roots : (old t : Tree) (i : Id) (x : Option n.Node) → Changes old t i x → Rooted old t
changed_roots old t i x m = record { forest = m.forest; moves = m.moves }

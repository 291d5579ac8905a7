use Rattle.std.proofs.Common.{ℕ, sym, ap, subst, ◌∙◌}
use Rattle.gl_destroy.specs.Forest.{Forest, Destroyables, IsParent}
use Rattle.gl_destroy.specs.Links.{forest_in, IsWhole}
use Rattle.gl_destroy.specs.View.{look_in}
use Rattle.gl_destroy.proofs.Links.{stands_live}
use Rattle.gl_destroy.proofs.Thinning.{forest-thin, whole_thinned, whole_trees}
use Rattle.gl_destroy.proofs.forest.Destroyables.thin.Goals as goal

pub invariant_of-self : goal.invariant_of-self
invariant_of-self c =
    let s = c.self.inside in
    whole_trees (look_in s.entries) s.entries.made s.trees.list.items c.thin_trees.new.trees.list.items c.thin_trees.ensures.trees (c.thin_trees.ensures.given s.entries.made c.self.invariant.forest.given) c.self.invariant

pub thin_children-requires : goal.thin_children-requires
thin_children-requires c =
    let s = c.self.inside in
    let f = forest_in (look_in s.entries) s.entries.made s.trees.list.items in
    stands_live (look_in s.entries) c.in-Some.parent f c.self.invariant.forest.linked
    (subst (IsParent f) c.in-Some.is (subst (λ t. IsParent t.forest c.args.parent.now) (sym c.self.view_is) c.requires))

pub invariant_of-self-in-Some : goal.invariant_of-self-in-Some
invariant_of-self-in-Some c =
    let s = c.self.inside in
    subst (λ n. IsWhole (look_in c.thin_children.new.entries) n s.trees.list.items (forest_in (look_in c.thin_children.new.entries) n s.trees.list.items)) (sym c.thin_children.ensures.made)
    (whole_thinned (look_in s.entries) (look_in c.thin_children.new.entries) c.thin_children.ensures.lists s.entries.made s.trees.list.items c.self.invariant)

pub returns-in-Some : goal.returns-in-Some
returns-in-Some c =
    let s = c.self.inside in
    let n = look_in c.thin_children.new.entries in
    let made = c.thin_children.ensures.made in
    let seen : ℕ → Forest → Destroyables = λ m f. record { forest = f; made = m } in
    ap (λ m. seen m (forest_in n m s.trees.list.items)) made
    ∙ (ap (seen s.entries.made) (forest-thin (look_in s.entries) n c.thin_children.ensures.lists s.entries.made s.trees.list.items) ∙ c.self.view_is)

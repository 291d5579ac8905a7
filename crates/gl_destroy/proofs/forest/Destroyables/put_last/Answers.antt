use Rattle.std.proofs.Common.{◌+◌, sym, ap, subst, ◌∙◌}
use Rattle.gl_destroy.specs.Forest.{times, put_last, IsParent}
use Rattle.gl_destroy.specs.Links.{forest_in}
use Rattle.gl_destroy.specs.View.{look_in, seen_what}
use Rattle.gl_destroy.proofs.Links.{shown, whole}
use Rattle.gl_destroy.proofs.Calls.{parent_listed, added, added_stands, undone, undone_stands, still_live, off}
use Rattle.gl_destroy.proofs.forest.Destroyables.put_last.Goals as goal

pub hang-requires : goal.hang-requires
hang-requires c =
    let s = c.self.inside in
    parent_listed s.entries c.insert_entry.new.entries s.trees.list.items (forest_in (look_in s.entries) s.entries.made s.trees.list.items) c.args.parent c.in_ok-id.id (seen_what c.args.what) c.self.invariant.forest c.in_ok-id.ensures.ok
    (subst (λ t. IsParent t.forest c.args.parent) (sym c.self.view_is) c.requires)

pub invariant_of-self-in-Ok : goal.invariant_of-self-in-Ok
invariant_of-self-in-Ok c =
    let s = c.self.inside in
    let f = forest_in (look_in s.entries) s.entries.made s.trees.list.items in
    let parent = subst (λ t. IsParent t.forest c.args.parent) (sym c.self.view_is) c.requires in
    whole (look_in c.hang.new.entries) c.hang.new.entries.made c.hang.new.trees.list.items _
    (added s.entries c.insert_entry.new.entries s.trees.list.items f c.args.parent c.in_ok-id.id (seen_what c.args.what) c.self.invariant.forest c.in_ok-id.ensures.ok
    c.hang.new.entries c.hang.new.trees.list.items c.in-Ok.ensures.ok c.hang.ensures.made c.in-Ok.ensures.trees
    parent)
    (added_stands s.entries c.insert_entry.new.entries s.trees.list.items f c.args.parent c.in_ok-id.id (seen_what c.args.what) c.self.invariant.forest c.in_ok-id.ensures.ok
    c.hang.new.entries c.self.invariant.stands c.in-Ok.ensures.ok parent)

pub remove-requires : goal.remove-requires
remove-requires c =
    let s = c.self.inside in
    still_live s.entries c.insert_entry.new.entries s.trees.list.items (forest_in (look_in s.entries) s.entries.made s.trees.list.items) c.args.parent c.in_ok-id.id (seen_what c.args.what) c.self.invariant.forest c.in_ok-id.ensures.ok
    c.hang.new.entries c.in-Err.ensures.err

pub invariant_of-self-in-Err : goal.invariant_of-self-in-Err
invariant_of-self-in-Err c =
    let s = c.self.inside in
    let f = forest_in (look_in s.entries) s.entries.made s.trees.list.items in
    whole (look_in c.remove.new.self) c.remove.new.self.made c.hang.new.trees.list.items _
    (undone s.entries c.insert_entry.new.entries s.trees.list.items f c.args.parent c.in_ok-id.id (seen_what c.args.what) c.self.invariant.forest c.in_ok-id.ensures.ok
    c.hang.new.entries c.remove.new.self c.hang.new.trees.list.items c.in-Err.ensures.err c.hang.ensures.made c.remove.ensures.ends c.in-Err.ensures.kept)
    (undone_stands s.entries c.insert_entry.new.entries s.trees.list.items f c.args.parent c.in_ok-id.id (seen_what c.args.what) c.self.invariant.forest c.in_ok-id.ensures.ok
    c.hang.new.entries c.remove.new.self c.self.invariant.stands c.in-Err.ensures.err c.remove.ensures.ends)

pub returns-in-Ok-clause-ok : goal.returns-in-Ok-clause-ok
returns-in-Ok-clause-ok c =
    let s = c.self.inside in
    let is = c.self.view_is in
    let f = forest_in (look_in s.entries) s.entries.made s.trees.list.items in
    let e = c.in_ok-id.ensures.ok in
    record {
      stamp = e.gives.stamp ∙ ap (λ t. t.made) is;
      count = c.hang.ensures.made ∙ (e.gives.count ∙ ap (λ t. t.made + 1) is);
      vacant = ap (λ t. times c.in_ok-id.id t.forest) (sym is) ∙ off s.entries c.insert_entry.new.entries s.trees.list.items f c.args.parent c.in_ok-id.id (seen_what c.args.what) c.self.invariant.forest e;
      forest =
          shown (look_in c.hang.new.entries) c.hang.new.entries.made c.hang.new.trees.list.items _
          (added s.entries c.insert_entry.new.entries s.trees.list.items f c.args.parent c.in_ok-id.id (seen_what c.args.what) c.self.invariant.forest e
          c.hang.new.entries c.hang.new.trees.list.items c.in-Ok.ensures.ok c.hang.ensures.made c.in-Ok.ensures.trees
          (subst (λ t. IsParent t.forest c.args.parent) (sym is) c.requires))
          ∙ ap (λ t. put_last c.args.parent c.in_ok-id.id (seen_what c.args.what) t.forest) is;
    }

pub returns-in-Err-clause-err : goal.returns-in-Err-clause-err
returns-in-Err-clause-err c =
    let s = c.self.inside in
    shown (look_in c.remove.new.self) c.remove.new.self.made c.hang.new.trees.list.items _
    (undone s.entries c.insert_entry.new.entries s.trees.list.items (forest_in (look_in s.entries) s.entries.made s.trees.list.items) c.args.parent c.in_ok-id.id (seen_what c.args.what) c.self.invariant.forest c.in_ok-id.ensures.ok
    c.hang.new.entries c.remove.new.self c.hang.new.trees.list.items c.in-Err.ensures.err c.hang.ensures.made c.remove.ensures.ends c.in-Err.ensures.kept)
    ∙ ap (λ t. t.forest) c.self.view_is

use Rattle.std.proofs.Common.{List, length, ap, subst, ◌∙◌}
use Rattle.gl_arena.specs.Id.{Id, same_id}
use Rattle.std.specs.List.{dedup}
use Rattle.std.specs.List.Sorted.{IsPermutation}
use Rattle.gl_tags.proofs.Leads.{gathered, refilled}
use Rattle.gl_tags.proofs.entries.settle.Goals as goal

pub returns : goal.returns
returns c =
    let xs = c.args.leads.now.items in
    let ws = c.sort_unstable.new.self in
    let n = c.sort_unstable.ensures.len ∙ ap (λ (ys : List Id). length ys) c.as_mut_slice.ensures.value in
    gathered xs ws c.dedup.new.self.items (subst (λ ys. IsPermutation {X = Id} ys ws) c.as_mut_slice.ensures.value c.sort_unstable.ensures.permutation)
    (c.dedup.ensures.items ∙ ap (dedup same_id) (refilled ws xs n))

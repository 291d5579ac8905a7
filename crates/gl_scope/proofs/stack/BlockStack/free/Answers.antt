use Rattle.std.proofs.Common.{subst}
use Rattle.gl_arena.specs.Arena.{Ends}
use Rattle.gl_arena.proofs.Mapped.{ends-mapped}
use Rattle.gl_arena.proofs.Stamps.{ends-stamped}
use Rattle.gl_scope.specs.View.{seen_block, seen_blocks}
use Rattle.gl_scope.proofs.stack.BlockStack.free.Goals as goal

pub invariant_of-self : goal.invariant_of-self
invariant_of-self c =
    let old = c.self.inside.blocks in
    let new = c.remove.new.self in
    ends-stamped (seen_blocks old) (seen_blocks new) c.args.id c.self.invariant (ends-mapped seen_block old new c.args.id c.remove.ensures.ends)

pub returns : goal.returns
returns c =
    let new = c.remove.new.self in
    subst (λ a. Ends a (seen_blocks new) c.args.id) c.self.view_is (ends-mapped seen_block c.self.inside.blocks new c.args.id c.remove.ensures.ends)

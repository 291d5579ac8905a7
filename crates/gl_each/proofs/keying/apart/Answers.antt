use Rattle.std.proofs.Common.{◌∙◌, [], subst}
use Rattle.gl_each.specs.Counted.{AreNew}
use Rattle.gl_each.specs.View.{seen_keys}
use Rattle.gl_each.proofs.HashesApart.{hashes-apart}
use Rattle.gl_each.proofs.keying.apart.Goals as goal

pub returns-then-branch-clause-distinct : goal.returns-then-branch-clause-distinct
returns-then-branch-clause-distinct c =
    rw c.from_vec.ensures (hashes-apart (seen_keys c.args.keys.items) (subst (AreNew []) (c.as_slice-2.ensures.value ∙ (rw c.as_slice.ensures.value at c.in_ok-hashes.ensures)) (c.in_ok-differ.ensures c.if-branch.true)))

use Rattle.std.proofs.Common.{◌∙◌, [], subst}
use Rattle.gl_each.specs.Counted.{key_values, AreNew}
use Rattle.gl_each.specs.View.{seen_keys}
use Rattle.gl_each.proofs.Keyings.{none_before}
use Rattle.gl_each.proofs.keying.numbered.Goals as goal

pub returns-then-branch : goal.returns-then-branch
returns-then-branch c = c.requires.first ∙ none_before (key_values (seen_keys c.args.made.keys.items)) (subst (AreNew []) (c.as_slice.ensures.value ∙ c.requires.hashes) (c.in_ok-differ.ensures c.if-branch.true))

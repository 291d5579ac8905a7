use Rattle.std.proofs.Common.{◌∙◌}
use Rattle.gl_update.proofs.PlainKeys.{plain-codes}
use Rattle.gl_update.proofs.old_items.keys_of_items.Goals as goal

pub returns-in-Some-clause-keys : goal.returns-in-Some-clause-keys
returns-in-Some-clause-keys c = (rw c.in-Some.is at c.in_ok-found.ensures.keys) ∙ (c.in_ok-plain_keys.ensures ∙ plain-codes c.args.items.now)

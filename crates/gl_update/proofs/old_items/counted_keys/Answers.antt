use Rattle.std.proofs.Common.{refl, sym, ◌∙◌}
use Rattle.gl_vm.specs.Labels.{owner_path}
use Rattle.gl_update.proofs.OldKeys.{plain_keys}
use Rattle.gl_update.proofs.old_items.counted_keys.Goals as goal

pub returns-then-are_keys_of-clause-keys : goal.returns-then-are_keys_of-clause-keys
returns-then-are_keys_of-clause-keys c = plain_keys c.in_ok-found.found _ c.args.items.now (c.in_ok-found.ensures.value owner_path) (sym c.as_slice-2.ensures ∙ c.if-are_keys_of.ensures refl)

use Rattle.std.proofs.Common.{◌≡◌, [], ◌∙◌, ap₂, rules, sym}
use Rattle.gl_value.specs.Value.{values_of}
use Rattle.gl_value.specs.Owners.{values_with}
use Rattle.gl_meaning.specs.Render.{entries}
use Rattle.gl_each.specs.Key.{entry_keys}
use Rattle.gl_vm.specs.Labels.{owner_path}
use Rattle.gl_update.specs.Read.{entries_now}
use Rattle.gl_update.proofs.OldKeys.{plain_keys}
use Rattle.gl_update.proofs.reading.keys_stay.Goals as goal

pub returns-clause-keys : goal.returns-clause-keys
returns-clause-keys c = λ yes.
    let es = entries_now c.args.key.now c.args.values.now in
    let found : c.in_ok-found.found ≡ entry_keys es = c.in_ok-found.ensures.value owner_path ∙ ap₂ (λ t vs. entry_keys (entries t 0 [] (values_with owner_path (values_of vs)))) c.as_str.ensures.value c.as_slice.ensures in
    sym found ∙ plain_keys c.in_ok-found.found es c.args.items.now found (search rules)

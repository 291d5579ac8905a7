use Rattle.std.proofs.Common.{[], ◌∙◌, ap₂}
use Rattle.gl_value.specs.Value.{values_of}
use Rattle.gl_value.specs.Owners.{values_with}
use Rattle.gl_meaning.specs.Render.{entries}
use Rattle.gl_each.specs.Key.{entry_keys}
use Rattle.gl_vm.specs.Labels.{owner_path}
use Rattle.gl_code.proofs.EntryLists.{entries_made}
use Rattle.gl_code.proofs.entries.of_list.Goals as goal

pub returns-clause-entries : goal.returns-clause-entries
returns-clause-entries c =
    let keys = c.in_ok-found.ensures.value owner_path ∙ ap₂ (λ t vs. entry_keys (entries t 0 [] (values_with owner_path (values_of vs)))) c.as_str.ensures.value c.as_slice.ensures in
    entries_made c.args.key.now c.args.list c.in_ok-copies.copies.items c.in_ok-into_vec.field-0.items c.in_ok-entries.entries.items c.reverse.new.self.items
    (c.in_ok-copies.ensures ∙ (c.as_slice-2.ensures ∙ keys)) c.in_ok-into_vec.ensures c.in_ok-entries.ensures c.reverse.ensures.items

pub returns-clause-keys : goal.returns-clause-keys
returns-clause-keys c = c.in_ok-found.ensures.value owner_path ∙ ap₂ (λ t vs. entry_keys (entries t 0 [] (values_with owner_path (values_of vs)))) c.as_str.ensures.value c.as_slice.ensures

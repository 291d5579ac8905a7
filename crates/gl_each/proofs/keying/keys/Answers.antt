use Rattle.std.proofs.Common.{◌∙◌, ℕ, [], sym, subst}
use Rattle.std.specs.Str.{chars}
use Rattle.gl_value.specs.Value.{values_of}
use Rattle.gl_value.specs.Owners.{values_with}
use Rattle.gl_value.specs.View.{seen_items}
use Rattle.gl_meaning.specs.Path.{Path}
use Rattle.gl_meaning.specs.Laws.{NoRepeat}
use Rattle.gl_each.specs.Counted.{item_keys, key_values, KeysAreProper}
use Rattle.gl_each.specs.View.{seen_keys}
use Rattle.gl_each.proofs.Keyings.{keyed, keys_apart, keyed-proper, values_made, are_first}
use Rattle.gl_each.proofs.keying.keys.Goals as goal

pub numbered-requires-clause-first : goal.numbered-requires-clause-first
numbered-requires-clause-first c = are_first (seen_keys c.in_ok-made.made.keys.items) (item_keys (chars c.args.key.now) 0 (seen_items c.args.items.now)) c.in_ok-made.ensures.keys

pub returns-clause-value : goal.returns-clause-value
returns-clause-value c paths =
    let made = values_made (seen_keys c.in_ok-made.made.keys.items) (item_keys (chars c.args.key.now) 0 (seen_items c.args.items.now)) c.in_ok-made.ensures.keys in
    c.from_vec.ensures ∙ keyed paths (chars c.args.key.now) (seen_items c.args.items.now) (key_values (seen_keys c.in_ok-made.made.keys.items)) (seen_keys c.in_ok-numbered.field-0.items) made c.in_ok-numbered.ensures

pub returns-clause-distinct : goal.returns-clause-distinct
returns-clause-distinct c =
    let paths : ℕ → Path = λ _. [] in
    subst NoRepeat (sym (returns-clause-value c paths)) (keys_apart (chars c.args.key.now) (values_with paths (values_of (seen_items c.args.items.now))))

pub returns-clause-proper : goal.returns-clause-proper
returns-clause-proper c h =
    let made = values_made (seen_keys c.in_ok-made.made.keys.items) (item_keys (chars c.args.key.now) 0 (seen_items c.args.items.now)) c.in_ok-made.ensures.keys in
    subst KeysAreProper (sym c.from_vec.ensures) (keyed-proper (chars c.args.key.now) (seen_items c.args.items.now) (key_values (seen_keys c.in_ok-made.made.keys.items)) (seen_keys c.in_ok-numbered.field-0.items) made c.in_ok-numbered.ensures h)

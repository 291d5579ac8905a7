use Rattle.std.proofs.Common.{◌∙◌, ◌≡◌, take}
use Rattle.gl_value.specs.View.{view}
use Rattle.gl_each.specs.Key.{same_key}
use Rattle.gl_each.specs.Counted.{times, key_values}
use Rattle.gl_each.specs.View.{seen_keys}
use Rattle.indexmap.specs.IndexMap.{get}
use Rattle.gl_each.proofs.Keyings.{counts_more, held_more}
use Rattle.gl_each.proofs.keying.occurrences.Goals as goal

pub loop-key-preserved : goal.loop-key-preserved
loop-key-preserved c =
    let x = c.key-item.result in
    let found : c.in_ok-count_one.field-0 ≡ times (view x.value) (key_values (seen_keys (take c.loop-key.key-index c.args.keys.now))) = c.in_ok-count_one.ensures.before ∙ c.loop-key.invariant.held (view x.value) in
    record {
      counted = counts_more c.args.keys.now c.loop-key.key-index x c.loop-key.list.items c.push.new.self.items c.in_ok-count_one.field-0 c.loop-key-test.true c.key-item.is found c.loop-key.invariant.counted c.in_ok-push.ensures.items;
      held = held_more c.args.keys.now c.loop-key.key-index x c.in_ok-count_one.field-0 (get same_key c.loop-key.seen) (get same_key c.count_one.new.counted) c.loop-key-test.true c.key-item.is c.in_ok-count_one.ensures.after c.loop-key.invariant.held found;
    }

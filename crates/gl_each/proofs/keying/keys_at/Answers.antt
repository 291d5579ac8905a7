use Rattle.std.specs.Str.{chars}
use Rattle.gl_each.proofs.Keyings.{first_more, hashes_more}
use Rattle.gl_each.proofs.keying.keys_at.Goals as goal

pub loop-index-preserved : goal.loop-index-preserved
loop-index-preserved c = record {
  made = first_more (chars c.args.key.now) c.args.items.now c.loop-index.index c.index-items-index.result c.loop-index.list.items c.push-in-loop-index.new.self.items c.in_ok-value.value c.loop-index-test.true c.index-items-index.is c.in_ok-value.ensures c.loop-index.invariant.made c.in_ok-push-2.ensures.items;
  hashed = hashes_more c.loop-index.list.items c.push-in-loop-index.new.self.items c.loop-index.hashes.items c.push.new.self.items c.in_ok-value.value c.hash_of.result c.in_ok-push-2.ensures.items c.loop-index.invariant.hashed c.hash_of.ensures c.in_ok-push.ensures.items;
}

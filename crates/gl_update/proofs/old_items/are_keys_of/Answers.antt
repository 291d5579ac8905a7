use Rattle.std.proofs.Common.{◌<◌, ◌≤◌, sym, ◌∙◌, subst}
use Rattle.gl_update.proofs.OldKeys.{keys_next, keys_end}
use Rattle.gl_update.proofs.old_items.are_keys_of.Goals as goal

pub loop-place-preserved : goal.loop-place-preserved
loop-place-preserved c e =
    c.loop-place.invariant
    (keys_next c.args.keys.now c.args.items.now c.loop-place.place c.index-keys-place.result c.index-items-place.result c.loop-place-test.true (subst (λ m. c.loop-place.place < m) c.if-keys-items.false c.loop-place-test.true)
    c.index-keys-place.is c.index-items-place.is (sym c.is_key_of.ensures ∙ c.if-not-is_key_of.false) e)

pub returns : goal.returns
returns c t =
    c.loop-place.invariant
    (keys_end c.args.keys.now c.args.items.now c.loop-place.place c.loop-place-test.false (subst (λ m. m ≤ c.loop-place.place) c.if-keys-items.false c.loop-place-test.false))

use Rattle.std.proofs.Common.{◌+◌, ◌++◌, ◌∷◌, [], drop, ap, ◌∙◌}
use Rattle.gl_machine.specs.Gone.{gone_modifier}
use Rattle.gl_gone.specs.View.{all_seen}
use Rattle.gl_gone.proofs.CodeGoes.{mods_go, mod_more, mod_last, left_step, left_end}
use Rattle.gl_gone.proofs.listing.list_mods.Goals as goal

pub loop-spot-preserved : goal.loop-spot-preserved
loop-spot-preserved c = record {
  seen = λ n. let xs = c.args.mods.now in let i = c.loop-spot.spot-index in let was = all_seen n c.loop-spot.list.items in
      left_step was (all_seen n c.push_ending.new.list.items) (gone_modifier c.spot-item.result.id.1 ∷ []) (mods_go (drop (i + 1) xs)) (all_seen n c.args.list.now.items ++ mods_go xs) (mods_go (drop i xs))
      (c.in_ok-push_ending.ensures.seen n ∙ ap (λ g. was ++ g ∷ []) (c.in_ok-ending.ensures.seen n)) (mod_more xs i c.spot-item.result c.loop-spot-test.true c.spot-item.is) (c.loop-spot.invariant.seen n);
  kept = λ h. c.in_ok-push_ending.ensures.kept c.in_ok-ending.ensures.kept (c.loop-spot.invariant.kept h);
}

pub returns-clause-seen : goal.returns-clause-seen
returns-clause-seen c = λ n. let xs = c.args.mods.now in let i = c.loop-spot.spot-index in
    left_end (all_seen n c.loop-spot.list.items) (all_seen n c.args.list.now.items ++ mods_go xs) (mods_go (drop i xs)) (mod_last xs i c.loop-spot-test.false) (c.loop-spot.invariant.seen n)

use Rattle.std.specs.Str.{chars}
use Rattle.gl_mods.specs.View.{seen_installed}
use Rattle.gl_actions.proofs.HeardIn.{spots_on}
use Rattle.gl_actions.proofs.hearing.hear_spots.Goals as goal

pub loop-spot-preserved : goal.loop-spot-preserved
loop-spot-preserved c = spots_on c.args.heard.now.vm.now.mods (chars c.args.heard.now.event.now) c.args.spots.now c.loop-spot.spot-index c.spot-item.result (seen_installed c.get.result.now) c.loop-spot.acts c.args.acts.now c.hear.new.acts
    c.loop-spot-test.true c.spot-item.is c.sound.ensures.stamps c.get.ensures c.in_ok-hear.ensures c.loop-spot.invariant

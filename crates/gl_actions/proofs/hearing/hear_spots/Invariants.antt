use Rattle.std.proofs.Common.{◌≡◌, ◌++◌, map, drop}
use Rattle.std.specs.Str.{chars}
use Rattle.gl_code.specs.CodeView.{seen_mod_spot}
use Rattle.gl_actions.specs.Heard.{called_of}
use Rattle.gl_actions.proofs.hearing.hear_spots.Given as goal

-- what is left decides
abbrev pub invariant-loop-spot : goal.invariant-loop-spot
invariant-loop-spot l = l.acts ++ called_of l.heard.vm.now.mods (chars l.heard.event.now) (map seen_mod_spot (drop l.spot-index l.spots)) ≡ l.fn.acts ++ called_of l.heard.vm.now.mods (chars l.heard.event.now) (map seen_mod_spot l.spots)

use Rattle.std.proofs.Common.{◌≡◌, length}
use denote.Text.{Utf8}
use denote.Shadow.{shadow}
use Rattle.std.specs.Str.{chars}
use Rattle.gl_value.specs.Value.{properties, split}
use Rattle.gl_value.specs.View.{view}
use Rattle.gl_value.specs.Found.{seen_found}
use Rattle.gl_value.proofs.value.Value.follow.Given as goal

-- the names that are left lead on from what was found
abbrev pub invariant-loop-name : goal.invariant-loop-name
invariant-loop-name l = shadow (Utf8 l.rest) × (properties (split 46 (chars l.rest)) (seen_found l.found) ≡ properties (split 46 (chars l.fn.path)) (view l.fn.self))

abbrev pub decreases-loop-name : goal.decreases-loop-name
decreases-loop-name l = length l.rest

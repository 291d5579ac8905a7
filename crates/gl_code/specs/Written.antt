-- Blocks that were passed, with what their writer sees.
use Rattle.std.specs.Prelude.{ℕ, Option, None, option_map}
use Rattle.gl_base.specs.Texts.{Text}
use Rattle.gl_base.specs.Names.{named}
use Rattle.gl_machine.specs.Sight.{Sight, Passing, not_passed, passing}
use Rattle.gl_vm.specs.View.{Tables}
use Rattle.gl_code.specs.View.{seen_sight}
use Rattle.gl_code.specs.declared.written.Written.{Written}

-- the first block of a name among those that were passed: the address of its first word, and what its writer sees
abbrev pub block_of : Text → Passing → Option (ℕ × Sight)
block_of x not_passed = None
block_of x (passing k parts slots s) = option_map (λ start. (start, s)) (named x slots)

abbrev pub seen_written : Tables → Written → ℕ × Sight
seen_written n w = (w.start, seen_sight n w.sight)

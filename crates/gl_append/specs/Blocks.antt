-- Blocks that are passed and yielded.
use Rattle.std.specs.Prelude.{ℕ, suc, List, [], ◌∷◌, ◌++◌, length, None}
use Rattle.gl_base.specs.Texts.{Text}
use Rattle.gl_meaning.specs.Path.{Path}
use Rattle.gl_machine.specs.Code.{Code}
use Rattle.gl_machine.specs.Mach.{Mach, mach, fresh, added, in_block}
use Rattle.gl_machine.specs.Sight.{Sight, locals_in}

-- what was rendered is added to the present body, and what was made for it is its own
abbrev pub code_added : Code → Mach → Mach
code_added k m = mach m.state m.stack [] m.pc (record m.rest { here = added k m.rest.here })

-- the words of a block are gone to, at a path, with these references for its parameters
abbrev pub block_entered : Path → Text → List ℕ → Sight → ℕ → Mach → Mach
block_entered p x rs s start m =
    mach m.state m.stack [] start (record m.rest {
      getter = None;
      sight = s;
      pending = rs;
      here = fresh p;
      frames = m.rest.frames
          ++ record { here = m.rest.here; kind = in_block (record { getter = m.rest.getter; pc = suc m.pc; sight = m.rest.sight; pending = m.rest.pending }) x m.made (length (locals_in s)) } ∷ [];
    })

-- What the code's trail stands for.
use Rattle.std.specs.Prelude.{◌++◌}
use Rattle.gl_meaning.specs.Path.{Path}
use Rattle.gl_meaning.specs.View.{path_view}
use Rattle.gl_update.specs.declared.trail.Trail.{Trail}

-- the steps from there are further in than those of the path: the innermost one is the first, as in the meaning
abbrev pub trail_view : Trail → Path
trail_view t = path_view t.path ++ path_view t.base.now

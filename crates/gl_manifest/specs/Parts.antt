-- What parts of a manifest stand for while it is read.
use Rattle.std.specs.Prelude.{List}
use Rattle.gl_base.specs.Texts.{Text}
use Rattle.gl_manifest.specs.declared.spelled.ArgumentPath.{ArgumentPath}

abbrev pub seen_path : ArgumentPath → Text × List Text
seen_path p = (p.name, p.rest)

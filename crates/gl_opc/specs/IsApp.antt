-- What a loaded application keeps.
use Rattle.std.specs.Prelude.{List}
use Rattle.gl_ast.specs.Grammar.{IsTemplate}
use Rattle.gl_ast.specs.Template.{Body}
use Rattle.gl_meaning.specs.Known.{Known, HasNoCycle}
use Rattle.gl_meaning.specs.Manifest.{Manifest, app_of}
use Rattle.gl_meaning.specs.ManifestRules.{Each}
use Rattle.gl_program.specs.ClassProgram.{ClassProgram}
use Rattle.gl_opc.specs.Programs.{LowersApp}

-- The programs are those of templates that some bytes spell; with these templates every name of the application is known, and
-- no getter reaches itself.
abbrev pub IsAppWith : Manifest → List Body → List ClassProgram → Type 0
IsAppWith m templates programs =
    Each IsTemplate templates × LowersApp m templates programs × Known (app_of m templates) × HasNoCycle (app_of m templates)

abbrev pub IsAppOf : Manifest → List ClassProgram → Type 0
IsAppOf m programs = ∥ ((templates : List Body) × IsAppWith m templates programs) ∥₁

-- What the code found, in the terms of the definitions.
use Rattle.gl_ast.specs.Modes as d
use Rattle.gl_lex.specs.declared.found.Found.{Found}

abbrev pub found_of : Found → d.Found
found_of f = (f.kind, f.rest.now, f.next)

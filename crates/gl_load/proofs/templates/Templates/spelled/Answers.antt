use Rattle.std.proofs.Common.{List, subst}
use Rattle.gl_ast.specs.Grammar.{IsTemplate}
use Rattle.gl_ast.specs.Template.{Body}
use Rattle.gl_meaning.specs.ManifestRules.{Each}
use Rattle.gl_load.proofs.templates.Templates.spelled.Goals as goal

pub returns : goal.returns
returns c = let P : List Body → Type 0 = λ bs. ∥ Each IsTemplate bs ∥₁ in subst P c.self.view_is c.self.invariant

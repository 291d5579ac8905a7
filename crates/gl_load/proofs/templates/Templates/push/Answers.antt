use Rattle.std.proofs.Common.{◌≡◌, ◌∷◌, [], ◌++◌, List, sym, subst, rules}
use Rattle.std.proofs.Math.Logic.{∥∥₁_map}
use Rattle.gl_ast.specs.Grammar.{IsTemplate}
use Rattle.gl_ast.specs.declared.template.Template.{Template}
use Rattle.gl_meaning.specs.ManifestRules.{Each}
use Rattle.gl_load.specs.Trees.{seen_templates}
use Rattle.gl_load.proofs.Trees.{each_more}
use Rattle.gl_load.proofs.templates.Templates.push.Goals as goal

pub invariant_of-self-2 : goal.invariant_of-self-2
invariant_of-self-2 c =
    let pushed : c.push.new.self.items ≡ c.self.inside.list.items ++ c.args.item ∷ [] = search rules in
    let P : List Template → Type 0 = λ ts. ∥ Each IsTemplate (seen_templates ts) ∥₁ in
    subst P (sym pushed) (∥∥₁_map c.self.invariant (λ h. each_more c.self.inside.list.items c.args.item h))

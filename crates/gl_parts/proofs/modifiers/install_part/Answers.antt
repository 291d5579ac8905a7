use Rattle.std.proofs.Common.{◌∷◌, ◌∙◌, ap}
use Rattle.gl_plain.specs.Tags.{modifiers_waiting}
use Rattle.gl_parts.specs.Parts.{seen_part}
use Rattle.gl_parts.proofs.ModLaws.{part_installed, part_passed}
use Rattle.gl_parts.proofs.modifiers.install_part.Goals as goal

pub returns-in_ok-push-in-Modifier-clause-step : goal.returns-in_ok-push-in-Modifier-clause-step
returns-in_ok-push-in-Modifier-clause-step c =
    part_installed c.args.node.1 c.len-at.result c.in-Modifier.name c.in-Modifier.args c.in-Modifier.named c.args.part.now c.args.spots.now.items c.push.new.self.items c.in_ok-spot-in-Modifier.spot c.args.vm.now c.install.new.vm
    c.in-Modifier.is (c.len-at.ensures ∙ c.args.spots.now.ok.0) c.in_ok-push-in-Modifier.ensures.items c.in_ok-spot-in-Modifier.ensures.step

pub returns-in-Fixed-clause-step : goal.returns-in-Fixed-clause-step
returns-in-Fixed-clause-step c = part_passed c.args.node.1 c.args.part.now c.args.spots.now.items c.args.vm.now (λ n ws. ap (λ p. modifiers_waiting (seen_part n p ∷ ws)) c.in-Fixed.is)

pub returns-in-Live-clause-step : goal.returns-in-Live-clause-step
returns-in-Live-clause-step c = part_passed c.args.node.1 c.args.part.now c.args.spots.now.items c.args.vm.now (λ n ws. ap (λ p. modifiers_waiting (seen_part n p ∷ ws)) c.in-Live.is)

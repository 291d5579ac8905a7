use Rattle.std.proofs.Common.{refl, ◌∙◌, ap}
use Rattle.gl_code.proofs.Preparing.{prepares_none, prepares_then}
use Rattle.gl_parts.proofs.preparing.prepare.Goals as goal

pub loop-id-init : goal.loop-id-init
loop-id-init c = record { step = prepares_none c.args.vm.now; calm = c.requires.calm; tree = refl }

pub loop-id-preserved : goal.loop-id-preserved
loop-id-preserved c = record { step = prepares_then c.args.vm.now c.loop-id.vm c.prepare.new.self c.loop-id.invariant.step c.in_ok-prepare.ensures.step; calm = c.in_ok-prepare.ensures.calm; tree = ap (λ v. v.tree) c.prepare.ensures.rest ∙ c.loop-id.invariant.tree }

use Rattle.std.proofs.Common.{◌∙◌, ap}
use Rattle.gl_code.specs.View.{shared}
use Rattle.gl_code.proofs.Links.{linked}
use Rattle.gl_code.proofs.sight.Sight.with_passed.Goals as goal

pub returns : goal.returns
returns c n =
    linked n c.args.self.now c.in_ok-new.field-0 c.insert.new.self.items c.in_ok-chain.chain.items c.args.block c.args.parts c.args.slots c.in_ok-level.level c.in_ok-insert.ensures.items c.in_ok-new.ensures.ok (c.in_ok-level.ensures n)
    (c.in_ok-chain.ensures ∙ ap shared c.as_slice.ensures.value)

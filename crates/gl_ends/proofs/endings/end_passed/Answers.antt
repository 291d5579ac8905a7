use Rattle.std.proofs.Common.{ℕ, ◌+◌, refl, arith}
use Rattle.std.proofs.lemmas.Result.{on_ok_weaker}
use Rattle.gl_plain.specs.Ids.{Id as Name, instance_id, block_id, hit, occurs}
use Rattle.gl_code.specs.View.{refs_made}
use Rattle.gl_ends.proofs.Joins.{ends_then}
use Rattle.gl_ends.proofs.endings.end_passed.Goals as goal

pub returns-clause-ends : goal.returns-clause-ends
returns-clause-ends c n =
    let owned : Name → ℕ = λ q. hit q (instance_id c.args.owner.now.id.1) + occurs q (refs_made c.args.owner.now.cells) in
    let made : Name → ℕ = λ q. occurs q (refs_made c.args.made.now) in
    let passed : Name → ℕ = λ q. hit q (block_id c.args.block.1) in
    on_ok_weaker c.end_references.result
    (ends_then n c.args.vm.now c.end_block.new.vm c.end_references.new.vm (λ q. passed q + owned q) made (λ q. owned q + (passed q + made q)) (λ q. omega arith)
    (λ h. c.end_block.ensures.led (c.end_owner.ensures.led h))
    (ends_then n c.args.vm.now c.end_owner.new.vm c.end_block.new.vm owned passed (λ q. passed q + owned q) (λ q. refl) c.end_owner.ensures.led (c.in_ok-end_owner.ensures.ends n) (c.in_ok-end_block.ensures.ends n)))
    (c.end_references.ensures.ends n)

pub returns-clause-led : goal.returns-clause-led
returns-clause-led c = λ h. c.end_references.ensures.led (c.end_block.ensures.led (c.end_owner.ensures.led h))

pub returns-in_err-end_block-clause-led : goal.returns-in_err-end_block-clause-led
returns-in_err-end_block-clause-led c = λ h. c.end_block.ensures.led (c.end_owner.ensures.led h)

use Rattle.std.proofs.Common.{◌∙◌, ap, drop}
use Rattle.std.proofs.lemmas.Result.{on_ok_weaker}
use Rattle.gl_machine.specs.RenewCode.{refs_in}
use Rattle.gl_code.specs.View.{seen_locals}
use Rattle.gl_append.proofs.BlockEnds.{block_ended}
use Rattle.gl_append.proofs.machine.Machine.do_end_block.Goals as goal

pub returns-in_ok-params-in-Block : goal.returns-in_ok-params-in-Block
returns-in_ok-params-in-Block c =
    on_ok_weaker c.return_with.result
    (block_ended c.args.self.now c.end-body.new.self c.return_with.new.self c.args.frame c.in-Block.back c.in-Block.name c.in-Block.made c.in_ok-params-in-Block.params c.in-Block.locals c.end-body.result c.yielded-code.result
    c.in-Block.is (c.is_calling.ensures c.if-is_calling.false) (c.in_ok-params-in-Block.ensures ∙ ap (λ ls. refs_in (drop c.in-Block.locals (seen_locals ls))) c.as_slice-seen.ensures) c.yielded-code.ensures c.end-body.ensures) c.return_with.ensures

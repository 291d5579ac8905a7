use Rattle.std.proofs.Common.{suc, ◌∙◌, ap}
use Rattle.std.proofs.lemmas.Result.{on_ok_weaker}
use Rattle.gl_machine.specs.Step as s
use Rattle.gl_code.specs.View.{seen_sight}
use Rattle.gl_code.specs.Entries.{seen_left}
use Rattle.gl_append.proofs.ItemSteps.{one_done}
use Rattle.gl_append.proofs.machine.Machine.item_done.Goals as goal

pub returns : goal.returns
returns c =
    on_ok_weaker c.wait_at.result
    (one_done c.args.self.now c.wait_at.new.self c.args.iteration c.push.new.self c.args.item c.in_ok-sight.sight c.in_ok-pc.pc c.in_ok-push.ensures.items (λ n. c.in_ok-sight.ensures n ∙ ap (seen_sight n) c.as_ref.ensures)
    (c.in_ok-pc.ensures ∙ ap (λ es. s.next_item (seen_left es) c.args.iteration.start (suc c.args.self.now.pc)) c.as_slice.ensures.value)) c.wait_at.ensures

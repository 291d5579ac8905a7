use Rattle.std.proofs.Common.{◌≡◌, ◌∙◌, sym, rules, length}
use Rattle.std.specs.Vec.{vec_len}
use Rattle.std.proofs.lemmas.Result.{on_ok_weaker}
use Rattle.gl_code.proofs.EntryCounts.{none_counted}
use Rattle.gl_append.proofs.ListEnds.{list_ended}
use Rattle.gl_append.proofs.machine.Machine.end_items.Goals as goal

pub returns : goal.returns
returns c =
    let l : vec_len c.args.iteration.left ≡ length c.args.iteration.left.items = search rules in
    on_ok_weaker c.show.result
    (list_ended c.args.self.now c.show.new.self c.args.iteration c.listed-code.result (none_counted c.args.iteration.left.items (vec_len c.args.iteration.left) l (sym c.is_empty.ensures ∙ c.if-not-is_empty.false)) (λ n. rw c.shrink_to_fit.ensures.items at (c.listed-code.ensures n))) c.show.ensures

use Rattle.std.proofs.Common.{◌≡◌, ◌∙◌, sym, rules, length}
use Rattle.std.specs.Vec.{vec_len}
use Rattle.std.proofs.lemmas.Result.{on_ok_weaker}
use Rattle.gl_code.proofs.EntryCounts.{none_counted, some_counted}
use Rattle.gl_append.proofs.ListEnds.{list_waits, list_other}
use Rattle.gl_append.proofs.machine.Machine.enter_list.Goals as goal

pub returns-then-is_empty : goal.returns-then-is_empty
returns-then-is_empty c =
    let l : vec_len c.args.left ≡ length c.args.left.items = search rules in
    on_ok_weaker c.enter_other.result
    (list_other c.args.self.now c.enter_other.new.self c.args.listing c.args.id c.replace-made.result c.replace-made.new.dest c.args.start c.args.left.items c.replace-made.ensures.value
    (none_counted c.args.left.items (vec_len c.args.left) l (sym c.is_empty.ensures ∙ c.if-is_empty.true))) c.enter_other.ensures

pub returns-else-is_empty : goal.returns-else-is_empty
returns-else-is_empty c =
    let l : vec_len c.args.left ≡ length c.args.left.items = search rules in
    on_ok_weaker c.wait_at.result
    (list_waits c.args.self.now c.wait_at.new.self c.args.listing c.args.id c.replace-made.result c.replace-made.new.dest c.args.start c.args.left c.new-done.result c.replace-made.ensures.value c.new-done.ensures.items
    (some_counted c.args.left.items (vec_len c.args.left) l (sym c.is_empty.ensures ∙ c.if-is_empty.false))) c.wait_at.ensures

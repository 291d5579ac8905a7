use Rattle.std.proofs.Common.{◌≡◌, ◌+◌, [], ◌∷◌, ◌++◌, drop, ap, ◌∙◌, arith}
use Rattle.std.proofs.lemmas.Grind.{common_steps}
use Rattle.std.proofs.lemmas.Result.{on_ok_weaker}
use Rattle.std.specs.Prelude.{codes}
use Rattle.gl_wire.specs.Json.{array_of, row, text_json, places_json, parts_json, named_json, component_rows, body_rows, slots_rows, else_rows, end_row}
use Rattle.gl_wire.specs.View.{stmt_view, seen_slots}
use Rattle.gl_wire.specs.Wire.{body_of, slots_of, named_of, comment_stmt}
use Rattle.gl_wire.specs.declared.version.Version.TheVariants.{Second}
use Rattle.gl_wire.proofs.Elses.{else_body, component_blocks}
use Rattle.gl_wire.proofs.RowTexts.{rows_join, last_written, block_written}
use Rattle.gl_wire.proofs.writing.+statement.Goals as goal

pub write_ended-returns : goal.write_ended-returns
write_ended-returns t c = rw (rows_join (body_rows Second (body_of c.args.body.now)) end_row) (grind (arith, common_steps))

pub write_bodies-returns : goal.write_bodies-returns
write_bodies-returns t c =
    let others = else_rows Second (body_of c.args.otherwise.now) in
    rw (rows_join (body_rows Second (body_of c.args.body.now)) (others ++ end_row), rows_join others end_row) (grind (arith, common_steps))

pub write_else-returns : goal.write_else-returns
write_else-returns t c =
    let e : else_rows Second (body_of c.args.otherwise.now) ≡ row (codes "else") [] ∷ body_rows Second (body_of c.args.otherwise.now) = else_body Second c.args.otherwise.now (λ none. let h = c.is_empty.ensures.1 none in let k = c.if-is_empty.false in cc) in
    rw e (grind (arith, common_steps))

pub write_component-returns : goal.write_component-returns
write_component-returns t c =
    let class = text_json c.args.class.now in
    let parts = parts_json c.args.parts.now in
    let args = array_of (named_json (named_of c.args.args.now)) in
    let inner = slots_rows Second (slots_of c.args.slots.now) in
    let e : component_rows Second (class ∷ parts ∷ args ∷ []) (slots_of c.args.slots.now) inner ≡ row (codes "comp") (class ∷ parts ∷ args ∷ []) ∷ (inner ++ end_row) = component_blocks class parts args inner c.args.slots.now (λ none. let h = c.is_empty.ensures.1 none in let k = c.if-is_empty.false in cc) in
    on_ok_weaker c.write_word.result
    (λ last. rw e (last_written _ _ _ _ c.args.later (row (codes "comp") (class ∷ parts ∷ args ∷ [])) (row (codes "end") []) inner c.in_ok-write_component_row.ensures c.in_ok-write_slots.ensures last))
    c.write_word.ensures

pub write_stmt-returns-in-Comment : goal.write_stmt-returns-in-Comment
write_stmt-returns-in-Comment t c =
    let e : stmt_view c.args.stmt.now ≡ comment_stmt c.in-Comment.content = ap stmt_view c.in-Comment.is in
    rw e (grind (arith, common_steps, c.write_text_row-in-Comment.ensures))

pub write_stmts-loop-stmt-preserved : goal.write_stmts-loop-stmt-preserved
write_stmts-loop-stmt-preserved t c = grind (arith, common_steps, rows_join)

pub write_slots-loop-slot-preserved : goal.write_slots-loop-slot-preserved
write_slots-loop-slot-preserved t c =
    let slots = c.as_slice-slot-items.result.now in
    let slot = c.slot-item.result in
    let left = drop (c.loop-slot.slot-index + 1) slots in
    let e : drop c.loop-slot.slot-index slots ≡ slot ∷ left = grind (arith, common_steps) in
    let before = rw e at c.loop-slot.invariant.written in
    record {
      written = block_written _ _ _ _ (row (codes "slot") (text_json slot.name ∷ places_json slot.params ∷ [])) (row (codes "end") []) (body_rows Second (body_of slot.body)) (slots_rows Second (slots_of (seen_slots left))) c.in_ok-write_slot_row.ensures c.in_ok-write_stmts.ensures c.in_ok-write_word.ensures ∙ before;
      shallow = grind (arith, common_steps);
    }

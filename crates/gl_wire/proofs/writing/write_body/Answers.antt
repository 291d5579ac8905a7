use Rattle.std.proofs.Common.{◌++◌, [], ◌∷◌, List, ap, true, reverse, sym, ◌∙◌}
use Rattle.std.proofs.lemmas.List.{reverse-append}
use Rattle.std.specs.Prelude.{string_bytes}
use Rattle.gl_wire.specs.Json.{stmt_rows, body_rows}
use Rattle.gl_wire.specs.View.{stmt_view, seen_stmts}
use Rattle.gl_wire.specs.Wire.{body_of}
use Rattle.gl_wire.specs.Written.{rows_text}
use Rattle.gl_wire.specs.declared.stmt.WireStmt.{WireStmt}
use Rattle.gl_wire.specs.declared.version.Version.TheVariants.{Second}
use Rattle.gl_wire.proofs.RowTexts.{has_row, rows_more}
use Rattle.gl_wire.proofs.writing.write_body.Goals as goal

pub loop-stmt-preserved : goal.loop-stmt-preserved
loop-stmt-preserved c =
    let left = λ (ss : List WireStmt). string_bytes c.loop-stmt.text ++ rows_text c.loop-stmt.later (body_rows Second (body_of (seen_stmts ss))) in
    let rest = c.pop.new.self.items in
    let item = ap reverse c.in-Some.ensures.items ∙ reverse-append rest (c.in-Some.stmt ∷ []) in
    let s = stmt_view c.in-Some.stmt in
    let more = rows_more _ _ _ true (stmt_rows Second s) (body_rows Second (body_of (seen_stmts (reverse rest)))) c.in_ok-write_and_drop.ensures (sym (has_row c.loop-stmt.later s)) in
    more ∙ (sym (ap left item) ∙ c.loop-stmt.invariant)

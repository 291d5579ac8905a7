use Rattle.std.proofs.Common.{◌+◌, ◌++◌, ◌∷◌, [], drop, map, sym, ap, ◌∙◌}
use Rattle.gl_refs.specs.Forms.{reads}
use Rattle.gl_refs.specs.State.{held_tag, held_value}
use Rattle.gl_refs.specs.View.{rows_of, seen_kind}
use Rattle.gl_refs.proofs.Seen.{nothing_left, one_more}
use Rattle.gl_refs.proofs.evaluation.tags_of.Goals as goal

pub returns-in_default : goal.returns-in_default
returns-in_default c =
    let rows = rows_of c.args.rows.now in
    nothing_left (held_tag c.args.tags.now rows) (reads (held_value rows) (seen_kind c.args.kind.now)) c.loop-at.at c.loop-at.ids.items c.loop-at.invariant (sym c.part_at.ensures ∙ c.in_default.is)

pub loop-at-preserved : goal.loop-at-preserved
loop-at-preserved c =
    let rows = rows_of c.args.rows.now in
    let f = held_tag c.args.tags.now rows in
    let xs = reads (held_value rows) (seen_kind c.args.kind.now) in
    let k = c.loop-at.at in
    ap (λ ys. ys ++ map f (drop (k + 1) xs)) (c.in_ok-push.ensures.ok ∙ ap (λ q. c.loop-at.ids.items ++ q ∷ []) c.held_tag.ensures)
    ∙ one_more f xs k c.loop-at.ids.items c.loop-at.invariant c.in-Some.part (sym c.part_at.ensures ∙ c.in-Some.is)

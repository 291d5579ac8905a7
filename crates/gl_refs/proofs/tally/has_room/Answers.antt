use Rattle.std.proofs.Common.{arith, sym, subst, take, add-one, ◌∙◌}
use Rattle.gl_refs.specs.Forms.{Each, parts}
use Rattle.gl_refs.specs.View.{rows_in, seen_kind}
use Rattle.gl_refs.specs.Counting.{Fits}
use Rattle.gl_refs.proofs.Counting.{fits_one, past_end}
use Rattle.gl_refs.proofs.Waits.{each_next, each_all}
use Rattle.gl_refs.proofs.tally.has_room.Goals as goal

pub returns-in_default : goal.returns-in_default
returns-in_default c h =
    let xs = parts (seen_kind c.args.kind.now) in
    each_all (Fits (rows_in c.args.rows.now) xs) xs c.loop-at.at (sym c.name_at.ensures ∙ c.in_default.is) c.loop-at.invariant

pub loop-at-preserved : goal.loop-at-preserved
loop-at-preserved c =
    let xs = parts (seen_kind c.args.kind.now) in
    let P = Fits (rows_in c.args.rows.now) xs in
    let k = c.loop-at.at in
    let fits = c.fits_more.ensures c.if-not-fits_more.false in
    subst (λ n. Each P (take n xs)) (sym (add-one k))
    (each_next P xs k c.in-Some.part (sym c.name_at.ensures ∙ c.in-Some.is)
    (fits_one c.args.rows.now xs c.in-Some.part fits.0 c.part_count-count.result c.requires fits.1 c.part_count-count.ensures fits.2) c.loop-at.invariant)

pub returns : goal.returns
returns c h =
    let xs = parts (seen_kind c.args.kind.now) in
    let low = c.loop-at-test.false in
    let high = c.loop-at.auto.at-end in
    let all = c.part_count-count.ensures in
    each_all (Fits (rows_in c.args.rows.now) xs) xs c.loop-at.at (past_end xs c.loop-at.at (omega (arith, low, high, all))) c.loop-at.invariant

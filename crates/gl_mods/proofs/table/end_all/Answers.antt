use Rattle.std.proofs.Common.{◌+◌, drop, subst}
use Rattle.std.proofs.lemmas.List.{drop_all}
use Rattle.gl_mods.proofs.Endings.{Ending, next_item, ending_live, ending_goes, ending_done}
use Rattle.gl_mods.proofs.table.end_all.Goals as goal

pub remove-requires : goal.remove-requires
remove-requires c =
    let old = c.args.table.now in
    let now = c.loop-id.table in
    let es = c.args.ids.now in
    let k = c.loop-id.id-index in
    let here = next_item es k c.id-item.result c.loop-id-test.true c.id-item.is in
    ending_live old now es (drop (k + 1) es) c.id-item.result (subst (Ending old now es) here c.loop-id.invariant)

pub loop-id-preserved : goal.loop-id-preserved
loop-id-preserved c =
    let old = c.args.table.now in
    let now = c.loop-id.table in
    let es = c.args.ids.now in
    let k = c.loop-id.id-index in
    let here = next_item es k c.id-item.result c.loop-id-test.true c.id-item.is in
    ending_goes old now c.remove.new.self es (drop (k + 1) es) c.id-item.result (subst (Ending old now es) here c.loop-id.invariant) c.remove.ensures.ends

pub returns-clause-ended : goal.returns-clause-ended
returns-clause-ended c =
    let old = c.args.table.now in
    let now = c.loop-id.table in
    let es = c.args.ids.now in
    ending_done old now es (subst (Ending old now es) (drop_all c.loop-id.id-index es c.loop-id-test.false) c.loop-id.invariant)

use Rattle.std.proofs.Common.{◌+◌, drop, subst}
use Rattle.std.proofs.lemmas.List.{drop_all}
use Rattle.gl_destroy.proofs.Looks.{Ending, next_item, ending_live, ending_goes, ending_done}
use Rattle.gl_destroy.proofs.walk.end_all.Goals as goal

pub remove-requires : goal.remove-requires
remove-requires c =
    let old = c.args.entries.now in
    let now = c.loop-entry.entries in
    let es = c.args.order.now in
    let k = c.loop-entry.entry-index in
    let here = next_item es k c.entry-item.result c.loop-entry-test.true c.entry-item.is in
    ending_live old now es (drop (k + 1) es) c.entry-item.result (subst (Ending old now es) here c.loop-entry.invariant)

pub loop-entry-preserved : goal.loop-entry-preserved
loop-entry-preserved c =
    let old = c.args.entries.now in
    let now = c.loop-entry.entries in
    let es = c.args.order.now in
    let k = c.loop-entry.entry-index in
    let here = next_item es k c.entry-item.result c.loop-entry-test.true c.entry-item.is in
    ending_goes old now c.remove.new.self es (drop (k + 1) es) c.entry-item.result (subst (Ending old now es) here c.loop-entry.invariant) c.remove.ensures.ends

pub returns-clause-ended : goal.returns-clause-ended
returns-clause-ended c =
    let old = c.args.entries.now in
    let now = c.loop-entry.entries in
    let es = c.args.order.now in
    ending_done old now es (subst (Ending old now es) (drop_all c.loop-entry.entry-index es c.loop-entry-test.false) c.loop-entry.invariant)

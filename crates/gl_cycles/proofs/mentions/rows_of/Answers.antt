use Rattle.std.proofs.Common.{◌<◌, ◌∙◌, arith, refl, length}
use Rattle.std.proofs.lemmas.List.{length-set}
use Rattle.gl_cycles.proofs.Rows.{zeros, set_done, set_empty, rows_all}
use Rattle.gl_cycles.proofs.mentions.rows_of.Goals as goal

pub loop-place-init : goal.loop-place-init
loop-place-init c = record { long = refl; done = λ k below. absurd (omega (arith, below)); empty = λ k from. zeros 32 k }

pub loop-place-preserved : goal.loop-place-preserved
loop-place-preserved c =
    let inv = c.loop-place.invariant in
    let rows = c.loop-place.rows in
    let i = c.loop-place.place in
    let g = c.index-getters-place.result in
    let m = c.mark_expr.result in
    let inside : i < length rows = omega (arith, inv.long, c.requires) in
    record {
      long = length-set rows i m ∙ inv.long;
      done = set_done c.args.getters.now rows i g m inside inv.done inv.empty c.loop-place-test.true c.index-getters-place.is c.mark_expr.ensures;
      empty = set_empty c.args.getters.now rows i g m inside inv.done inv.empty c.loop-place-test.true c.index-getters-place.is c.mark_expr.ensures;
    }

pub returns : goal.returns
returns c = let inv = c.loop-place.invariant in rows_all c.args.getters.now c.loop-place.rows c.loop-place.place c.loop-place-test.false inv.done inv.empty

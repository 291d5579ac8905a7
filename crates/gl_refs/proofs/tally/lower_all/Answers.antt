use Rattle.std.proofs.Common.{arith, [], drop, suc, sym, subst, ◌∙◌, add-one}
use Rattle.gl_refs.specs.Forms.{parts}
use Rattle.gl_refs.specs.View.{seen_kind}
use Rattle.gl_refs.specs.Counting.{Counts}
use Rattle.gl_refs.proofs.Counting.{lower_room, past_end}
use Rattle.gl_refs.proofs.Seen.{drop_some, drop_none}
use Rattle.gl_refs.proofs.tally.lower_all.Goals as goal

pub lower-requires : goal.lower-requires
lower-requires c row is =
    let xs = parts (seen_kind c.args.kind.now) in
    let k = c.loop-at.at in
    let x = c.in-Some.part in
    let e = sym c.name_at.ensures ∙ c.in-Some.is in
    lower_room c.loop-at.rows (drop (suc k) xs) x row (subst (λ ys. Counts c.loop-at.rows [] ys) (drop_some xs k x e) c.loop-at.invariant.counts) is

pub loop-at-preserved : goal.loop-at-preserved
loop-at-preserved c =
    let xs = parts (seen_kind c.args.kind.now) in
    let k = c.loop-at.at in
    let x = c.in-Some.part in
    let e = sym c.name_at.ensures ∙ c.in-Some.is in
    record {
      seen = c.lower.ensures.seen ∙ c.loop-at.invariant.seen;
      counts = subst (λ n. Counts c.lower.new.rows [] (drop n xs)) (sym (add-one k)) (c.lower.ensures.counts (drop (suc k) xs) (subst (λ ys. Counts c.loop-at.rows [] ys) (drop_some xs k x e) c.loop-at.invariant.counts));
    }

pub returns-in_default-clause-counts : goal.returns-in_default-clause-counts
returns-in_default-clause-counts c =
    let xs = parts (seen_kind c.args.kind.now) in
    subst (λ ys. Counts c.loop-at.rows [] ys) (drop_none xs c.loop-at.at (sym c.name_at.ensures ∙ c.in_default.is)) c.loop-at.invariant.counts

pub returns-clause-counts : goal.returns-clause-counts
returns-clause-counts c =
    let xs = parts (seen_kind c.args.kind.now) in
    let low = c.loop-at-test.false in
    let high = c.loop-at.auto.at-end in
    let all = c.part_count-at-end.ensures in
    subst (λ ys. Counts c.loop-at.rows [] ys) (drop_none xs c.loop-at.at (past_end xs c.loop-at.at (omega (arith, low, high, all)))) c.loop-at.invariant.counts

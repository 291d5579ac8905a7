use Rattle.std.proofs.Common.{◌≡◌, [], ◌∙◌, ◌++◌, refl, sym, ap, inl, inr, take, drop, ◌+◌}
use Rattle.std.proofs.lemmas.List.{drop_all}
use Rattle.gl_base.proofs.Lists.{drop_item}
use Rattle.gl_value.specs.View.{seen_pair, seen_pairs}
use Rattle.std.specs.declared.cmp.Ordering.TheVariants.{Less}
use Rattle.gl_helpers.specs.Records.{text_order}
use Rattle.gl_helpers.proofs.Puts.{put_ahead, put_next, keeps_put, pairs_more, whole_rest}
use Rattle.gl_helpers.proofs.records.around.Goals as goal

pub returns-in-Equal-clause-keeps : goal.returns-in-Equal-clause-keeps
returns-in-Equal-clause-keeps c = λ x h v.
    let l = c.loop-at in
    let here = drop_item c.args.pairs.now l.at c.index-pairs-at.result c.loop-at-test.true c.index-pairs-at.is in
    keeps_put c.args.key.now x (seen_pairs c.args.pairs.now) (l.invariant.orders (rw here (inr (inl (rw (← c.index-pairs-at.is) at (c.in-Equal.ensures.same refl)))))) h v

pub returns-in-Greater-clause-put : goal.returns-in-Greater-clause-put
returns-in-Greater-clause-put c = λ x.
    let l = c.loop-at in
    let here = drop_item c.args.pairs.now l.at c.index-pairs-at.result c.loop-at-test.true c.index-pairs-at.is in
    let ahead = put_ahead c.args.key.now x (seen_pair c.index-pairs-at.result) (seen_pairs (drop (l.at + 1) c.args.pairs.now)) (rw (← c.index-pairs-at.is) at (sym c.in-Greater.ensures.order)) in
    rw (whole_rest c.args.pairs.now l.at, here) (sym (l.invariant.put x) ∙ rw here (ap (λ ps. seen_pairs (take l.at c.args.pairs.now) ++ ps) ahead))

pub returns-in-Greater-clause-keeps : goal.returns-in-Greater-clause-keeps
returns-in-Greater-clause-keeps c = λ x h v.
    let l = c.loop-at in
    let here = drop_item c.args.pairs.now l.at c.index-pairs-at.result c.loop-at-test.true c.index-pairs-at.is in
    keeps_put c.args.key.now x (seen_pairs c.args.pairs.now) (l.invariant.orders (rw here (inr (inr (rw (← c.index-pairs-at.is) at (sym c.in-Greater.ensures.order)))))) h v

pub loop-at-preserved : goal.loop-at-preserved
loop-at-preserved c =
    let l = c.loop-at in
    let p = c.index-pairs-at.result in
    let here = drop_item c.args.pairs.now l.at p c.loop-at-test.true c.index-pairs-at.is in
    let less : text_order p.key c.args.key.now ≡ Less = rw (← c.index-pairs-at.is) at (sym c.in-Less.ensures.order) in
    record {
      put = λ x. put_next c.args.key.now x (seen_pair p) (seen_pairs (take l.at c.args.pairs.now)) _ (seen_pairs (drop (l.at + 1) c.args.pairs.now)) _ less (pairs_more c.args.pairs.now l.at p c.loop-at-test.true c.index-pairs-at.is) (rw here at (l.invariant.put x));
      orders = λ o. l.invariant.orders (rw here (inl (less, o)));
    }

pub returns-clause-keeps : goal.returns-clause-keeps
returns-clause-keeps c = λ x h v.
    let l = c.loop-at in
    let done : drop l.at c.args.pairs.now ≡ [] = drop_all l.at c.args.pairs.now c.loop-at-test.false in
    keeps_put c.args.key.now x (seen_pairs c.args.pairs.now) (l.invariant.orders (rw done tt)) h v

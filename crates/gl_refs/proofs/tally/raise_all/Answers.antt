use Rattle.std.proofs.Common.{IsSome, arith, drop, suc, refl, sym, subst, ◌∙◌, add-one}
use Rattle.gl_refs.specs.Forms.{parts}
use Rattle.gl_refs.specs.State.{forms}
use Rattle.gl_refs.specs.View.{rows_in, rows_of, seen_kind}
use Rattle.gl_refs.specs.Counting.{Counts, Fits}
use Rattle.gl_refs.proofs.Counting.{counts_both, raise_room, each_at, past_end}
use Rattle.gl_refs.proofs.Seen.{rows_same, live_named, drop_some, drop_none}
use Rattle.gl_refs.proofs.tally.raise_all.Goals as goal

pub loop-at-init : goal.loop-at-init
loop-at-init c = record { seen = refl; counts = counts_both c.args.rows.now (parts (seen_kind c.args.kind.now)) c.requires.counts }

pub raise-requires-clause-live : goal.raise-requires-clause-live
raise-requires-clause-live c =
    let old = c.args.rows.now in
    let x = c.in-Some.part in
    let live = each_at (λ q. IsSome (forms (rows_of old) q)) (parts (seen_kind c.args.kind.now)) c.loop-at.at x c.requires.live (sym c.name_at.ensures ∙ c.in-Some.is) in
    live_named c.loop-at.rows x (rows_same (λ rows. IsSome (forms rows x)) old c.loop-at.rows c.loop-at.invariant.seen live)

pub raise-requires-clause-room : goal.raise-requires-clause-room
raise-requires-clause-room c row is =
    let xs = parts (seen_kind c.args.kind.now) in
    let k = c.loop-at.at in
    let x = c.in-Some.part in
    let e = sym c.name_at.ensures ∙ c.in-Some.is in
    raise_room c.loop-at.rows xs (drop (suc k) xs) x row (subst (λ ys. Counts c.loop-at.rows ys xs) (drop_some xs k x e) c.loop-at.invariant.counts)
    (subst (λ a. Fits a xs x) (sym c.loop-at.invariant.seen) (each_at (Fits (rows_in c.args.rows.now) xs) xs k x c.requires.room e)) is

pub loop-at-preserved : goal.loop-at-preserved
loop-at-preserved c =
    let xs = parts (seen_kind c.args.kind.now) in
    let k = c.loop-at.at in
    let x = c.in-Some.part in
    let e = sym c.name_at.ensures ∙ c.in-Some.is in
    record {
      seen = c.raise.ensures.seen ∙ c.loop-at.invariant.seen;
      counts = subst (λ n. Counts c.raise.new.rows (drop n xs) xs) (sym (add-one k)) (c.raise.ensures.counts (drop (suc k) xs) xs (subst (λ ys. Counts c.loop-at.rows ys xs) (drop_some xs k x e) c.loop-at.invariant.counts));
    }

pub returns-in_default-clause-counts : goal.returns-in_default-clause-counts
returns-in_default-clause-counts c =
    let xs = parts (seen_kind c.args.kind.now) in
    subst (λ ys. Counts c.loop-at.rows ys xs) (drop_none xs c.loop-at.at (sym c.name_at.ensures ∙ c.in_default.is)) c.loop-at.invariant.counts

pub returns-clause-counts : goal.returns-clause-counts
returns-clause-counts c =
    let xs = parts (seen_kind c.args.kind.now) in
    let low = c.loop-at-test.false in
    let high = c.loop-at.auto.at-end in
    let all = c.part_count-at-end.ensures in
    subst (λ ys. Counts c.loop-at.rows ys xs) (drop_none xs c.loop-at.at (past_end xs c.loop-at.at (omega (arith, low, high, all)))) c.loop-at.invariant.counts

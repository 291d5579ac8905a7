use Rattle.std.proofs.Common.{None, Option, IsSome, refl, subst}
use Rattle.gl_arena.specs.Arena.{Gives}
use Rattle.gl_arena.proofs.Mapped.{gives-mapped}
use Rattle.gl_refs.specs.Forms.{Each, parts, AreLower}
use Rattle.gl_refs.specs.State.{Last, forms}
use Rattle.gl_refs.specs.View.{rows_in, seen_row, seen_kind}
use Rattle.gl_refs.proofs.Seen.{rows_same}
use Rattle.gl_refs.proofs.Counting.{counts_gives}
use Rattle.gl_refs.proofs.tally.put_in.Goals as goal

pub returns-in-Ok-clause-ok : goal.returns-in-Ok-clause-ok
returns-in-Ok-clause-ok c =
    subst (λ a. Gives a (rows_in c.insert.new.self) c.in-Ok.id (record { form = seen_kind c.args.kind; last = None })) c.raise_all.ensures.seen
    (subst (λ (o : Option Last). Gives (rows_in c.raise_all.new.rows) (rows_in c.insert.new.self) c.in-Ok.id (record { form = seen_kind c.args.kind; last = o })) c.requires.last
    (gives-mapped seen_row c.raise_all.new.rows c.insert.new.self c.in-Ok.id (record { kind = c.args.kind; readers = 0 }) c.in-Ok.ensures.ok))

pub returns-in-Ok-clause-counts : goal.returns-in-Ok-clause-counts
returns-in-Ok-clause-counts c =
    let old = c.args.rows.now in
    let rows = c.raise_all.new.rows in
    let e = c.raise_all.ensures.seen in
    counts_gives rows c.insert.new.self c.in-Ok.id (record { kind = c.args.kind; readers = 0 }) c.stamps.ensures
    (rows_same (λ x. AreLower (forms x)) old rows e c.requires.lower)
    (rows_same (λ x. Each (λ q. IsSome (forms x q)) (parts (seen_kind c.args.kind))) old rows e c.requires.parts) refl c.in-Ok.ensures.ok c.raise_all.ensures.counts

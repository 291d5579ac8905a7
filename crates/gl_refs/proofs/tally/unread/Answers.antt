use Rattle.std.proofs.Common.{refl}
use Rattle.std.specs.Prelude.{◌==◌}
use Rattle.gl_refs.proofs.Seen.{row_is}
use Rattle.gl_refs.proofs.Counting.{unread_told}
use Rattle.gl_refs.proofs.tally.unread.Goals as goal

pub returns-in-Some : goal.returns-in-Some
returns-in-Some c =
    unread_told c.args.rows.now c.args.id c.in-Some.row.now (c.in-Some.row.now.readers == 0) c.stamps.ensures c.requires
    (row_is (λ v. v.now) c.args.rows.now c.args.id c.find.result c.in-Some.row c.find.ensures.id c.in-Some.is) refl

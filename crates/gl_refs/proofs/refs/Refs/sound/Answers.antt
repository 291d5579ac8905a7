use Rattle.std.proofs.Common.{subst}
use Rattle.gl_arena.specs.Arena.{IsStamped}
use Rattle.gl_arena.proofs.Mapped.{are_stamped-mapped}
use Rattle.gl_refs.specs.State.{IsSound}
use Rattle.gl_refs.specs.Refs.{Refs, rows_of}
use Rattle.gl_refs.specs.View.{seen_row}
use Rattle.gl_refs.proofs.Seen.{to_seen}
use Rattle.gl_refs.proofs.refs.Refs.sound.Goals as goal

pub returns-clause-sound : goal.returns-clause-sound
returns-clause-sound c =
    let s = c.self.inside in
    subst (λ (r : Refs). IsSound r.tags (rows_of r)) c.self.view_is (to_seen (IsSound s.tags) s.rows c.self.invariant.0)

pub returns-clause-stamped : goal.returns-clause-stamped
returns-clause-stamped c =
    let s = c.self.inside in
    subst (λ (r : Refs). IsStamped r.rows) c.self.view_is (are_stamped-mapped seen_row s.rows c.stamps.ensures)

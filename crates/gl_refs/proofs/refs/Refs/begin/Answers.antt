use Rattle.std.proofs.Common.{◌+◌, sym, subst, arith}
use Rattle.gl_tags.specs.Tags as t
use Rattle.gl_refs.specs.State.{IsSound}
use Rattle.gl_refs.specs.View.{rows_of}
use Rattle.gl_refs.specs.Watch.{Watched}
use Rattle.gl_refs.proofs.Seen.{advanced_sound}
use Rattle.gl_refs.proofs.Watching.{watched_begins}
use Rattle.gl_refs.proofs.refs.Refs.begin.Goals as goal

pub invariant_of-self : goal.invariant_of-self
invariant_of-self c =
    let s = c.self.inside in
    let e = c.advance.ensures in
    (subst (λ x. IsSound x (rows_of s.rows)) (sym e) (advanced_sound s.tags (s.tags.clock + 1) (rows_of s.rows) c.self.invariant.0 (subst t.IsSound e c.constant.ensures.sound)), (c.self.invariant.1.0, subst (λ x. Watched x (rows_of s.rows) c.begin.new.self) (sym e) (watched_begins s.tags (rows_of s.rows) c.self.invariant.0 (s.tags.clock + 1) (omega arith) s.watch c.begin.new.self c.begin.ensures c.self.invariant.1.1)))

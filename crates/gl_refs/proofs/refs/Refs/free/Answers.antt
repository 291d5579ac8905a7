use Rattle.std.proofs.Common.{sym, subst}
use Rattle.gl_refs.specs.Forms.{IsUnread}
use Rattle.gl_refs.specs.State.{forms}
use Rattle.gl_refs.specs.Refs.{Refs, forms_of}
use Rattle.gl_refs.proofs.Seen.{of_seen}
use Rattle.gl_refs.proofs.refs.Refs.free.Goals as goal

pub end-requires-clause-unread : goal.end-requires-clause-unread
end-requires-clause-unread c =
    let s = c.self.inside in
    of_seen (λ x. IsUnread (forms x) c.args.id) s.rows (subst (λ (r : Refs). IsUnread (forms_of r) c.args.id) (sym c.self.view_is) c.requires.unread)

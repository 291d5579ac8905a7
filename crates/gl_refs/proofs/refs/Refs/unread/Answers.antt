use Rattle.std.proofs.Common.{◌↔◌, IsSome, IsTrue, subst}
use Rattle.gl_refs.specs.Forms.{IsUnread}
use Rattle.gl_refs.specs.State.{forms}
use Rattle.gl_refs.specs.Refs.{Refs, forms_of}
use Rattle.gl_refs.proofs.Seen.{to_seen}
use Rattle.gl_refs.proofs.refs.Refs.unread.Goals as goal

pub returns : goal.returns
returns c =
    let s = c.self.inside in
    subst (λ (r : Refs). IsTrue c.unread.result ↔ (IsSome (forms_of r c.args.id) × IsUnread (forms_of r) c.args.id)) c.self.view_is
    (to_seen (λ x. IsTrue c.unread.result ↔ (IsSome (forms x c.args.id) × IsUnread (forms x) c.args.id)) s.rows c.unread.ensures)

use Rattle.std.proofs.Common.{◌≡◌, IfOk, subst}
use Rattle.gl_value.specs.View.{view}
use Rattle.gl_refs.specs.Forms.{meaning}
use Rattle.gl_refs.specs.State.{forms}
use Rattle.gl_refs.specs.Refs.{Refs, meaning_of}
use Rattle.gl_refs.proofs.Seen.{to_seen}
use Rattle.gl_refs.proofs.refs.Refs.look.Goals as goal

pub returns : goal.returns
returns c =
    let s = c.self.inside in
    subst (λ (r : Refs). IfOk c.look.result (λ v. view v ≡ (meaning_of r c.args.id).value)) c.self.view_is
    (to_seen (λ x. IfOk c.look.result (λ v. view v ≡ (meaning (forms x) c.args.id).value)) s.rows c.look.ensures)

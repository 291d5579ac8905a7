use Rattle.std.proofs.Common.{◌≡◌, ◌<◌, Bool, true, false, not, refl, sym, ap, subst, ◌∙◌}
use Rattle.std.specs.Prelude.{◌-◌}
use Rattle.gl_refs.specs.State.{is_position, IsValid}
use Rattle.gl_refs.specs.Refs.{Refs, rows_of}
use Rattle.gl_refs.specs.View as code
use Rattle.gl_refs.specs.Watch.{is_hot}
use Rattle.gl_refs.proofs.Seen.{to_seen}
use Rattle.gl_refs.proofs.Watching.{quiet_valid}
use Rattle.gl_refs.proofs.refs.Refs.quiet.Goals as goal

not_yes : (b : Bool) → not b ≡ true → b ≡ false
not_yes false e = refl
not_yes true e = absurd (let n : false ≡ true = e in cc)

pub returns : goal.returns
returns c quiet i same =
    let s = c.self.inside in
    let cold = ap (is_hot s.watch) (same ∙ sym c.number.ensures) ∙ not_yes (is_hot s.watch c.number.result) (sym c.quiet.ensures ∙ quiet) in
    subst (λ (r : Refs). is_position (rows_of r i) ≡ true → (0 < r.tags.clock) × IsValid r.tags (r.tags.clock - 1) (rows_of r i)) c.self.view_is
    (to_seen (λ x. is_position (x i) ≡ true → (0 < s.tags.clock) × IsValid s.tags (s.tags.clock - 1) (x i)) s.rows (λ h. quiet_valid s.tags (code.rows_of s.rows) s.watch i c.self.invariant.0 c.self.invariant.1.1 cold h))

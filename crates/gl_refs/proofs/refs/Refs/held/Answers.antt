use Rattle.std.proofs.Common.{sym, ap, subst, unwrap_or, option_map, ◌∙◌}
use Rattle.gl_value.specs.Value.{undefined}
use Rattle.gl_value.specs.View.{view}
use Rattle.gl_refs.specs.Forms.{meaning}
use Rattle.gl_refs.specs.State.{forms, IsKept}
use Rattle.gl_refs.specs.Refs.{Refs, rows_of, meaning_of}
use Rattle.gl_refs.specs.View as code
use Rattle.gl_refs.proofs.Waits.{held_now}
use Rattle.gl_refs.proofs.Seen.{rows-seen, of_seen}
use Rattle.gl_refs.proofs.refs.Refs.held.Goals as goal

pub returns-in-Some : goal.returns-in-Some
returns-in-Some c =
    let s = c.self.inside in
    let rows = code.rows_of s.rows in
    let kept = of_seen (λ x. IsKept s.tags x c.args.id) s.rows (subst (λ (r : Refs). IsKept r.tags (rows_of r) c.args.id) (sym c.self.view_is) c.requires) in
    ap (λ o. unwrap_or (option_map (λ x. view x.now) o) undefined) (sym c.in-Some.is) ∙ (c.held.ensures ∙ (held_now s.tags rows c.args.id c.self.invariant.0 kept
    ∙ (ap (λ x. (meaning (forms x) c.args.id).value) (sym (rows-seen s.rows)) ∙ ap (λ (r : Refs). (meaning_of r c.args.id).value) c.self.view_is)))

pub returns-in-None : goal.returns-in-None
returns-in-None c =
    let s = c.self.inside in
    let rows = code.rows_of s.rows in
    let kept = of_seen (λ x. IsKept s.tags x c.args.id) s.rows (subst (λ (r : Refs). IsKept r.tags (rows_of r) c.args.id) (sym c.self.view_is) c.requires) in
    c.undefined.ensures ∙ (ap (λ o. unwrap_or (option_map (λ x. view x.now) o) undefined) (sym c.in-None.is) ∙ (c.held.ensures ∙ (held_now s.tags rows c.args.id c.self.invariant.0 kept
    ∙ (ap (λ x. (meaning (forms x) c.args.id).value) (sym (rows-seen s.rows)) ∙ ap (λ (r : Refs). (meaning_of r c.args.id).value) c.self.view_is))))

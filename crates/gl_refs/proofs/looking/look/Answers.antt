use Rattle.std.proofs.Common.{◌≡◌, Result, Ok, Err, IfOk, option_map, unwrap_or, sym, ap, ◌∙◌}
use Rattle.gl_value.specs.Value.{undefined}
use Rattle.gl_value.specs.View.{view}
use Rattle.gl_refs.specs.Forms.{meaning}
use Rattle.gl_refs.specs.State.{forms}
use Rattle.gl_refs.specs.View.{rows_of}
use Rattle.gl_refs.proofs.Waits.{held_now}
use Rattle.gl_refs.proofs.looking.look.Goals as goal

copied : {A B E : Type 0} (f : A → B) (q : Result A E) (x : A) (w : B) → f x ≡ w → IfOk q (λ v. v ≡ x) → IfOk q (λ v. f v ≡ w)
copied f (Ok v) x w e h = ap f h ∙ e
copied f (Err y) x w e h = tt

pub returns-in-Some : goal.returns-in-Some
returns-in-Some c =
    let rows = rows_of c.args.rows.now in
    let now = held_now c.args.tags.now rows c.args.id c.requires (c.is_latest.ensures c.if-is_latest.true) in
    let is = ap (λ o. unwrap_or (option_map (λ x. view x.now) o) undefined) (sym c.in-Some.is) ∙ (c.held.ensures ∙ now) in
    copied (λ v. view v) c.copy.result c.in-Some.value.now (meaning (forms rows) c.args.id).value is c.copy.ensures

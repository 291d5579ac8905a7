use Rattle.std.proofs.Common.{List, [], ◌∷◌, ◌++◌, refl, ap, ◌∙◌}
use Rattle.std.specs.Prelude.{reverse}
use Rattle.gl_value.specs.Value.{plain}
use Rattle.gl_value.specs.View.{view}
use Rattle.gl_actions.specs.Sets.{Set}
use Rattle.gl_actions.specs.World.{sets_in}
use Rattle.gl_actions.proofs.OwnSets.{set_own}
use Rattle.gl_actions.proofs.RootSets.{root_set}
use Rattle.gl_actions.proofs.root.set_root.Goals as goal

pub returns-clause-sets : goal.returns-clause-sets
returns-clause-sets c = λ w reads.
    let f = c.in_ok-frame.frame in
    let fits = c.in_ok-frame.ensures.fits w reads in
    ap (sets_in w) c.in_ok-push.ensures.ok
    ∙ (root_set w f fits (ap reverse (c.if-not-is_empty.ensures.0 refl)) c.in_ok-sets.sets c.in_ok-place.place c.args.field.now (view c.in_ok-to.to) (view c.args.value.now) (c.in_ok-place.ensures.name w fits)
    c.in_ok-to.ensures.value
    ∙ ap (λ ss. sets_in w ss ++ record { instance = []; field = c.args.field.now; value = plain (view c.args.value.now) } ∷ []) c.in_ok-sets.ensures)

pub returns-clause-own : goal.returns-clause-own
returns-clause-own c =
    let f = c.in_ok-frame.frame in
    set_own c.args.app.now c.args.page.now f c.in_ok-frame.ensures.own c.args.sofar.now _ c.in_ok-place.place (view c.in_ok-to.to) (view c.args.value.now) c.in_ok-place.ensures.below c.in_ok-to.ensures.value
    (c.in_ok-push.ensures.ok ∙ ap (λ (ss : List Set). ss ++ record { owner = f.owner.now.id; field = c.in_ok-place.place; to = view c.in_ok-to.to } ∷ []) c.in_ok-sets.ensures)

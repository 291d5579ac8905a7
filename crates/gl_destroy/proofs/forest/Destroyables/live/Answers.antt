use Rattle.std.proofs.Common.{◌<◌, sym, subst, ◌∙◌}
use Rattle.gl_destroy.specs.Forest.{times}
use Rattle.gl_destroy.specs.Links.{forest_in}
use Rattle.gl_destroy.specs.View.{look_in}
use Rattle.gl_destroy.proofs.Links.{stands_live}
use Rattle.gl_destroy.proofs.Looks.{live_look, look_live}
use Rattle.gl_destroy.proofs.forest.Destroyables.live.Goals as goal

pub returns : goal.returns
returns c =
    let s = c.self.inside in
    let f = forest_in (look_in s.entries) s.entries.made s.trees.list.items in (
      λ h. subst (λ t. 0 < times c.args.id t.forest) c.self.view_is (c.self.invariant.stands c.args.id (look_live s.entries c.args.id (sym c.live.ensures ∙ h))),
      λ lt. c.live.ensures ∙ live_look s.entries c.args.id (stands_live (look_in s.entries) c.args.id f c.self.invariant.forest.linked (subst (λ t. 0 < times c.args.id t.forest) (sym c.self.view_is) lt)),
    )

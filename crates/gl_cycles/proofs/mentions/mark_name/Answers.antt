use Rattle.std.proofs.Common.{◌≡◌, ◌∙◌, sym, refl, Some, None}
use Rattle.gl_ast.specs.View.{seen_pairs}
use Rattle.gl_cycles.specs.Marks.{place}
use Rattle.gl_cycles.proofs.Places.{position-place}
use Rattle.gl_cycles.proofs.mentions.mark_name.Goals as goal

pub returns-in-Some : goal.returns-in-Some
returns-in-Some c =
    let at : place c.args.name.now (seen_pairs c.args.getters.now) ≡ Some c.in-Some.place = sym (position-place c.args.name.now c.args.getters.now) ∙ sym c.in-Some.ensures in
    rw at c.with_mark.ensures

pub returns-in-None : goal.returns-in-None
returns-in-None c =
    let at : place c.args.name.now (seen_pairs c.args.getters.now) ≡ None = sym (position-place c.args.name.now c.args.getters.now) ∙ sym c.in-None.ensures in
    rw at refl

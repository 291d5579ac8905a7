use Rattle.std.proofs.Common.{sym, ◌∙◌, ap}
use Rattle.gl_space.specs.Turn.{put_at}
use Rattle.gl_space.proofs.Turns.{put_set}
use Rattle.gl_space.proofs.pass.put_at.Goals as goal

pub returns-in-Some : goal.returns-in-Some
returns-in-Some c =
    let items = c.args.list.now.items in
    put_set c.args.place items c.index_mut.result.now c.in-Some.text c.requires c.index_mut.ensures.value ∙ ap (λ o. put_at c.args.place o items) (sym c.in-Some.is)

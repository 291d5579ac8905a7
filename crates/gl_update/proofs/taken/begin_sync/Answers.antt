use Rattle.std.proofs.Common.{◌∙◌, ap, subst, sym}
use Rattle.std.proofs.lemmas.Result.{IfOk-weaker}
use Rattle.gl_nodes.specs.Flat.{stamp_of}
use Rattle.gl_seats.specs.Parts.{items_nest}
use Rattle.gl_seats.specs.Seats.{IsBefore}
use Rattle.gl_update.specs.declared.taken.Begun.{Begun}
use Rattle.gl_update.specs.declared.taken.Listed.{Listed}
use Rattle.gl_update.proofs.taken.begin_sync.Goals as goal

pub returns-clause-before : goal.returns-clause-before
returns-clause-before c = IfOk-weaker c.boxed_sync.result _ _
    (λ b e n. subst (λ (x : Begun). IsBefore (items_nest n c.args.list.value.items.items) (stamp_of x.seat.next)) (sym e)
    (subst (λ xs. IsBefore (items_nest n xs) (stamp_of c.in_ok-seat.seat.next)) (c.as_slice.ensures.value ∙ ap (λ (l : Listed). l.items.items) c.into_inner-listing.ensures) (c.in_ok-seat.ensures.before n)))
    c.boxed_sync.ensures

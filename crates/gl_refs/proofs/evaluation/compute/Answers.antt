use Rattle.std.proofs.Common.{◌≡◌, true, IfSome, Some, Option, option_map, sym, ap, subst, ◌∙◌}
use Rattle.gl_arena.specs.Id.{Id}
use Rattle.gl_value.specs.View.{view}
use Rattle.gl_tags.specs.Tags as t
use Rattle.gl_refs.specs.State.{Last, Row, Rows, forms, is_all, all_formed, held_value, Gathers, Swaps}
use Rattle.gl_refs.specs.View.{rows_of, seen_row, TakesLast}
use Rattle.gl_refs.specs.declared.evaluation.Found.{Found}
use Rattle.gl_refs.proofs.Rows.{some_is, takes_value}
use Rattle.gl_refs.proofs.Computing.{step, gathers_old}
use Rattle.gl_refs.specs.Forms.{Each}
use Rattle.gl_refs.specs.Watch.{covers, is_hot}
use Rattle.gl_refs.proofs.Watching.{watched_step}
use Rattle.gl_refs.proofs.evaluation.compute.Goals as goal

gathered : (tags : t.Tags) (rows : Rows) (i : Id) (o : Option Found) (f : Found) → o ≡ Some f → IfSome o (λ f. Gathers tags rows i (view f.value) f.tags.items f.old) → Gathers tags rows i (view f.value) f.tags.items f.old
gathered tags rows i o f e h = subst (λ o. IfSome o (λ f. Gathers tags rows i (view f.value) f.tags.items f.old)) e h

placed : (tags : t.Tags) (rows : Rows) (i : Id) (o : Option Found) (f : Found) → o ≡ Some f → IfSome o (λ f. f.position ≡ is_all (forms rows i)) → f.position ≡ is_all (forms rows i)
placed tags rows i o f e h = subst (λ o. IfSome o (λ f. f.position ≡ is_all (forms rows i))) e h

pub swap_tag-requires : goal.swap_tag-requires
swap_tag-requires c k e =
    let tags = c.args.tags.now in
    let rows = rows_of c.args.rows.now in
    let f = c.in-Some.found in
    gathers_old tags rows c.args.id (view f.value) f.tags.items f.old c.requires.sound (gathered tags rows c.args.id c.in_ok-gather.field-0 f c.in-Some.is c.in_ok-gather.ensures.gathers) k e

pub returns-in_ok-tag-in-Some-clause-settles : goal.returns-in_ok-tag-in-Some-clause-settles
returns-in_ok-tag-in-Some-clause-settles c =
    let tags = c.args.tags.now in
    let rows = rows_of c.args.rows.now in
    let f = c.in-Some.found in
    let g = gathered tags rows c.args.id c.in_ok-gather.field-0 f c.in-Some.is c.in_ok-gather.ensures.gathers in
    let u = c.in_ok-tag-in-Some.tag in
    let s = subst (λ xs. Swaps tags c.swap_tag.new.tags f.old u xs) c.as_slice.ensures c.in_ok-tag-in-Some.ensures.ok in
    let last : Last = record { value = view f.value; order = c.count.result; tag = u } in
    let is : last ≡ record { value = view f.value; order = c.swap_tag.new.tags.count; tag = u } = λ t. record { value = view f.value; order = c.count.ensures t; tag = u } in
    step tags c.swap_tag.new.tags rows (rows_of c.put_last.new.rows) c.args.id (view f.value) f.tags.items f.old u last c.requires.sound c.requires.ready g s is c.put_last.ensures.puts

pub put_last-requires-clause-takes : goal.put_last-requires-clause-takes
put_last-requires-clause-takes c row is =
    let tags = c.args.tags.now in
    let rows = rows_of c.args.rows.now in
    let f = c.in-Some.found in
    let g = gathered tags rows c.args.id c.in_ok-gather.field-0 f c.in-Some.is c.in_ok-gather.ensures.gathers in
    subst (λ (q : Row). TakesLast q.form (view f.value)) (sym (some_is (seen_row row) g.row (sym (ap (option_map seen_row) is) ∙ g.is)))
    (takes_value (held_value rows) g.row.form (view f.value) g.bound g.value_is)

pub returns-in_ok-tag-in-Some-clause-watched : goal.returns-in_ok-tag-in-Some-clause-watched
returns-in_ok-tag-in-Some-clause-watched c was =
    let tags = c.args.tags.now in
    let rows = rows_of c.args.rows.now in
    let f = c.in-Some.found in
    let g = gathered tags rows c.args.id c.in_ok-gather.field-0 f c.in-Some.is c.in_ok-gather.ensures.gathers in
    let u = c.in_ok-tag-in-Some.tag in
    let s = subst (λ xs. Swaps tags c.swap_tag.new.tags f.old u xs) c.as_slice.ensures c.in_ok-tag-in-Some.ensures.ok in
    let last : Last = record { value = view f.value; order = c.count.result; tag = u } in
    let is : last ≡ record { value = view f.value; order = c.swap_tag.new.tags.count; tag = u } = λ t. record { value = view f.value; order = c.count.ensures t; tag = u } in
    let w = c.note.new.self in
    let position : all_formed g.row.form ≡ true → f.position ≡ true = λ e. placed tags rows c.args.id c.in_ok-gather.field-0 f c.in-Some.is c.in_ok-gather.ensures.position ∙ (ap (λ o. is_all (option_map (λ (r : Row). r.form) o)) g.is ∙ e) in
    watched_step tags c.swap_tag.new.tags rows (rows_of c.put_last.new.rows) c.args.id (view f.value) f.tags.items f.old u last c.requires.sound c.requires.ready g s is c.put_last.ensures.puts
    c.args.watch.now w (record { covers = c.note.ensures.wider; hot = c.note.ensures.hotter })
    (λ e. (subst (λ n. Each (λ d. covers w d.0 n ≡ true) s.leads) c.number.ensures (subst (λ xs. Each (λ d. covers w d.0 c.number.result ≡ true) xs) (c.leads.ensures s.leads s.given) (c.note.ensures.covers (position e))), subst (λ n. is_hot w n ≡ true) c.number.ensures (c.note.ensures.hot (position e))))
    was

use Rattle.std.proofs.Common.{sym, ◌∙◌, ap}
use Rattle.std.specs.Str.{bytes_eq}
use Rattle.gl_exprs.proofs.TokenPieces.{name_more, end_name_of-front}
use Rattle.gl_exprs.proofs.words.is_end_of.Goals as goal

pub loop-c-init : goal.loop-c-init
loop-c-init c =
    let rest = c.skip_two.ensures in
    rw (rest, c.new-rest.ensures, c.copy-want.ensures) (ap (λ x. bytes_eq x c.args.name.now) (sym (end_name_of-front c.args.tag.now)))

pub loop-c-preserved : goal.loop-c-preserved
loop-c-preserved c =
    name_more c.in-Some.c c.in-Some-next.d c.next.new.self c.next-in-Some.new.self c.loop-c.rest c.loop-c.want _ c.in-Some.ensures c.in-Some-next.ensures c.if-d-c.true (sym c.ends_tag_name.ensures ∙ c.if-ends_tag_name.false) c.loop-c.invariant

use Rattle.std.proofs.Common.{sym, ap, ◌∙◌, ◌++◌}
use Rattle.gl_gen.proofs.Arrays.{three_pieces}
use Rattle.gl_gen.proofs.Written.{event_at-odd}
use Rattle.gl_gen.proofs.script.push_event.Goals as goal

pub returns : goal.returns
returns c =
    three_pieces _ _ _ _ _ _ _ c.in_ok-push_ascii.ensures.ok c.in_ok-push_array.ensures c.in_ok-push_ascii-2.ensures.ok
    ∙ ap (λ o. c.args.out.now ++ o) (sym (event_at-odd c.args.texts.now c.args.event c.args.place c.if-event-eq0.false))

use Rattle.std.proofs.Common.{sym, ◌∙◌}
use Rattle.gl_exprs.proofs.TokenPieces.{string_kept, string_passed}
use Rattle.gl_exprs.proofs.words.push_unescaped.Goals as goal

pub loop-c-preserved-in-Continue-1 : goal.loop-c-preserved-in-Continue-1
loop-c-preserved-in-Continue-1 c =
    rw c.in_ok-push_char.ensures.ok (string_kept c.args.quote c.in-Some.c c.next.new.self c.loop-c.out c.loop-c.scan _ c.in-Some.ensures (sym c.is_kept.ensures ∙ c.if-is_kept.true) c.loop-c.invariant)

pub loop-c-preserved : goal.loop-c-preserved
loop-c-preserved c =
    string_passed c.args.quote c.in-Some.c c.next.new.self c.loop-c.out c.loop-c.scan _ c.in-Some.ensures (sym c.is_kept.ensures ∙ c.if-is_kept.false) c.loop-c.invariant

use Rattle.std.proofs.Common.{rules, sym}
use Rattle.gl_lex.proofs.Cleared.{long_inner, long_none, clear_from}
use Rattle.gl_lex.proofs.marks.after_long_comment.Goals as goal

pub returns-then-inner-clear-clause-value : goal.returns-then-inner-clear-clause-value
returns-then-inner-clear-clause-value c =
    let bytes = c.args.bytes.now in
    let inner = c.in_ok-inner.inner.now in
    let e = sym c.in_ok-inner.ensures in
    let l = long_inner bytes inner e in
    sym (long_none bytes inner e (c.requires l.0 inner l.1 (search rules)))

pub returns-in-None-clause-clear : goal.returns-in-None-clause-clear
returns-in-None-clause-clear c =
    let bytes = c.args.bytes.now in
    let inner = c.in_ok-inner.inner.now in
    let l = long_inner bytes inner (sym c.in_ok-inner.ensures) in
    clear_from bytes inner l.0 l.1 (sym c.in-None.ensures)

use Rattle.gl_ast.specs.TokenReading.{template_tokens}
use Rattle.gl_ast.specs.declared.mode.Mode.TheVariants as m
use Rattle.gl_lex.proofs.Stopping.{told_stop, told_within}
use Rattle.gl_lex.proofs.Told.{told, told_spans, told_whole}
use Rattle.gl_lex.proofs.lexer.tokens.Goals as goal

pub returns-clause-value : goal.returns-clause-value
unfolding template_tokens
returns-clause-value c = told_whole m.Content c.args.text.now c.whole.result (c.in_ok-front.front.tokens, c.in_ok-front.front.stop) c.in_ok-front.ensures c.whole.ensures

pub returns-clause-reading : goal.returns-clause-reading
returns-clause-reading c =
    told m.Content c.args.text.now c.whole.result (told_whole m.Content c.args.text.now c.whole.result (c.in_ok-front.front.tokens, c.in_ok-front.front.stop) c.in_ok-front.ensures c.whole.ensures)

pub returns-clause-spans : goal.returns-clause-spans
returns-clause-spans c =
    told_spans m.Content c.args.text.now c.whole.result c.utf8.text (told_whole m.Content c.args.text.now c.whole.result (c.in_ok-front.front.tokens, c.in_ok-front.front.stop) c.in_ok-front.ensures c.whole.ensures)

pub returns-clause-place : goal.returns-clause-place
returns-clause-place c = told_stop m.Content c.args.text.now c.whole.result (c.in_ok-front.front.tokens, c.in_ok-front.front.stop) c.in_ok-front.ensures c.whole.ensures

pub returns-clause-within : goal.returns-clause-within
returns-clause-within c =
    told_within m.Content c.args.text.now c.whole.result (told_stop m.Content c.args.text.now c.whole.result (c.in_ok-front.front.tokens, c.in_ok-front.front.stop) c.in_ok-front.ensures c.whole.ensures)

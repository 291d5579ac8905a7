use Rattle.std.proofs.Common.{length}
use Rattle.std.proofs.lemmas.Str.{is_utf8-from_IsUtf8}
use Rattle.gl_ast.specs.Grammar.{SpellsExpr}
use Rattle.gl_ast.specs.View.{expr_view}
use Rattle.gl_parse.specs.FaultPlace.{expression_place}
use Rattle.gl_parse.specs.Place.{IsExpressionPlace}
use Rattle.gl_parse.specs.ReadStmt.{expression_of}
use Rattle.gl_parse.proofs.Fronts.{expression_within, named_within}
use Rattle.gl_parse.proofs.Places.{expression_place_is}
use Rattle.gl_parse.proofs.SpellsRead.{read_spells_expr, spells_read_expr}
use Rattle.gl_parse.proofs.Telling.{told_read, told_answer}
use Rattle.gl_parse.proofs.spelled.expression.Goals as goal

pub returns-clause-answer : goal.returns-clause-answer
returns-clause-answer c =
    let text = c.args.text.now in
    let is = told_read expr_view (SpellsExpr text) (expression_of text) (spells_read_expr text) (λ tree. read_spells_expr text tree (is_utf8-from_IsUtf8 text c.utf8.text)) c.text_expression.result c.text_expression.ensures.tree in
    told_answer expr_view (SpellsExpr text) (IsExpressionPlace text) (expression_place text) (expression_place_is text) c.text_expression.result is c.text_expression.ensures.place

pub returns-clause-tree : goal.returns-clause-tree
returns-clause-tree c =
    let text = c.args.text.now in
    told_read expr_view (SpellsExpr text) (expression_of text) (spells_read_expr text) (λ tree. read_spells_expr text tree (is_utf8-from_IsUtf8 text c.utf8.text)) c.text_expression.result c.text_expression.ensures.tree

pub returns-clause-within : goal.returns-clause-within
returns-clause-within c =
    let text = c.args.text.now in
    named_within c.text_expression.result (expression_place text) (length text) (expression_within text) c.text_expression.ensures.place

use Rattle.std.proofs.Common.{Err, length}
use Rattle.gl_ast.specs.Grammar.{Spells}
use Rattle.gl_ast.specs.Template.{Body, body_of}
use Rattle.gl_ast.specs.declared.template.Template.{Template}
use Rattle.gl_parse.specs.FaultPlace.{template_place}
use Rattle.gl_parse.specs.ReadStmt.{template_of}
use Rattle.gl_parse.specs.Place.{IsTemplatePlace}
use Rattle.gl_parse.proofs.Fronts.{template_within, named_within}
use Rattle.gl_parse.proofs.Places.{template_place_is}
use Rattle.gl_parse.proofs.SpellsRead.{read_spells, spells_read}
use Rattle.gl_parse.proofs.Telling.{told_fault, told_answer}
use Rattle.gl_parse.proofs.spelled.template.Goals as goal

pub new-requires : goal.new-requires
new-requires c = ∣ (c.args.bytes.now, read_spells c.args.bytes.now (body_of c.in-Ok.body) c.in-Ok.ensures.tree) ∣₁

pub returns-in-Ok-clause-answer : goal.returns-in-Ok-clause-answer
returns-in-Ok-clause-answer c = rw c.new.ensures (read_spells c.args.bytes.now (body_of c.in-Ok.body) c.in-Ok.ensures.tree)

pub returns-in-Err-clause-answer : goal.returns-in-Err-clause-answer
returns-in-Err-clause-answer c =
    let bytes = c.args.bytes.now in
    let view : Template → Body = λ t. body_of t.body in
    let none = told_fault view (Spells bytes) (template_of bytes) (spells_read bytes) c.in-Err.fault c.in-Err.ensures.tree in
    told_answer view (Spells bytes) (IsTemplatePlace bytes) (template_place bytes) (template_place_is bytes) (Err c.in-Err.fault) none c.in-Err.ensures.place

pub returns-in-Ok-clause-tree : goal.returns-in-Ok-clause-tree
returns-in-Ok-clause-tree c = rw c.new.ensures (read_spells c.args.bytes.now (body_of c.in-Ok.body) c.in-Ok.ensures.tree)

pub returns-in-Err-clause-tree : goal.returns-in-Err-clause-tree
returns-in-Err-clause-tree c =
    let bytes = c.args.bytes.now in
    let view : Template → Body = λ t. body_of t.body in
    told_fault view (Spells bytes) (template_of bytes) (spells_read bytes) c.in-Err.fault c.in-Err.ensures.tree

pub returns-in-Err-clause-within : goal.returns-in-Err-clause-within
returns-in-Err-clause-within c =
    let bytes = c.args.bytes.now in
    named_within {X = Unit {0}} (Err c.in-Err.fault) (template_place bytes) (length bytes) (template_within bytes) c.in-Err.ensures.place

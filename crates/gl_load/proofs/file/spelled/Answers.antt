use Rattle.std.proofs.Common.{◌≡◌, None, refl, rules}
use Rattle.gl_ast.specs.Grammar.{Spells}
use Rattle.gl_ast.specs.Template.{body_of}
use Rattle.gl_parse.specs.FaultPlace.{template_place}
use Rattle.gl_parse.specs.ReadStmt.{template_of}
use Rattle.gl_parse.proofs.SpellsRead.{spells_read}
use Rattle.gl_load.proofs.Spelled.{nothing_read}
use Rattle.gl_load.proofs.file.spelled.Goals as goal

pub returns-in-Ok-clause-told : goal.returns-in-Ok-clause-told
returns-in-Ok-clause-told c =
    let spells : Spells c.args.bytes.now (body_of c.in-Ok.template.body) = search rules in
    let is = spells_read c.args.bytes.now (body_of c.in-Ok.template.body) spells in
    rw is refl

pub returns-in-Err-NotInGrammar-clause-told : goal.returns-in-Err-NotInGrammar-clause-told
returns-in-Err-NotInGrammar-clause-told c =
    let none : template_of c.args.bytes.now ≡ None = nothing_read c.args.bytes.now (search rules) in
    let place : c.in-Err-NotInGrammar.offset ≡ template_place c.args.bytes.now = search rules in
    rw (none, place) refl

use Rattle.std.proofs.Common.{◌≡◌, [], ap, subst}
use Rattle.std.specs.Prelude.{IfOk, IfErr}
use Rattle.gl_meaning.specs.Known.{first_of}
use Rattle.gl_meaning.specs.View.{manifest_view, class_view}
use Rattle.gl_wire.specs.View.{wire_view}
use Rattle.gl_wire.specs.Wire.{body_of}
use Rattle.gl_program.specs.View.{program_view}
use Rattle.gl_opc.specs.Coding.{template_code}
use Rattle.gl_opc.specs.IsProgram.{IsProgramOf}
use Rattle.gl_opc.specs.Links.{IsFirst}
use Rattle.gl_opc.specs.Piece.{start}
use Rattle.gl_opc.specs.WireFaults.{body_faults}
use Rattle.gl_opc.proofs.Lowering.{lowers_all, known_all, first_all}
use Rattle.gl_opc.proofs.linking.link.Goals as goal

pub returns-clause-lowers : goal.returns-clause-lowers
returns-clause-lowers c =
    let m = manifest_view c.args.manifest.now in
    let k = class_view c.args.class.now in
    let r = c.body_program.result in
    let body = ap body_of c.body.ensures in
    lowers_all m k (wire_view c.args.wire.now) r
    (subst (λ b. IfOk r (λ p. IsProgramOf (program_view p) (template_code m k c.args.wire.now.symbols b start))) body
    (subst (λ ns. IfOk r (λ p. IsProgramOf (program_view p) (template_code m k ns (body_of c.body.result.now) start))) c.symbols.ensures c.body_program.ensures.made))
    (subst (λ b. IfOk r (λ p. body_faults m k 0 b ≡ [])) body c.body_program.ensures.known)

pub returns-clause-unknown : goal.returns-clause-unknown
returns-clause-unknown c =
    let m = manifest_view c.args.manifest.now in
    let k = class_view c.args.class.now in
    let r = c.body_program.result in
    first_all m k (wire_view c.args.wire.now) r (subst (λ b. IfErr r (λ e. IsFirst e (first_of (body_faults m k 0 b)))) (ap body_of c.body.ensures) c.body_program.ensures.unknown)

pub returns-clause-known : goal.returns-clause-known
returns-clause-known c = known_all (manifest_view c.args.manifest.now) (class_view c.args.class.now) (wire_view c.args.wire.now) c.body_program.result (returns-clause-lowers c)

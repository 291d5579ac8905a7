use Rattle.std.proofs.Common.{◌≡◌, ◌∙◌, subst}
use Rattle.std.specs.Prelude.{IfOk}
use Rattle.gl_opc.proofs.Lookups.{number_seen, seen_rising, classes_rise}
use Rattle.gl_opc.proofs.lookup.class_number.Goals as goal
use Rattle.gl_meaning.specs.View.{class_view, manifest_view}

pub place-requires : goal.place-requires
place-requires c = λ rise. seen_rising (λ x. x.name) class_view c.as_slice.result.now _ c.as_slice.ensures (classes_rise (manifest_view c.args.context.now.manifest.now) (class_view c.args.context.now.class.now) (c.args.context.now.ordered rise))

pub returns : goal.returns
returns c = subst (λ p. IfOk c.number.result (λ n. n ≡ p)) (c.place.ensures ∙ number_seen c.args.name.now (λ x. x.name) class_view c.as_slice.result.now _ c.as_slice.ensures) c.number.ensures

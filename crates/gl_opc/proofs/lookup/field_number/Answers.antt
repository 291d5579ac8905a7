use Rattle.std.proofs.Common.{◌≡◌, ◌∙◌, ap, map, subst}
use Rattle.std.specs.Prelude.{IfOk}
use Rattle.gl_value.specs.Plain.{plain_pair}
use Rattle.gl_value.specs.View.{seen_entry}
use Rattle.gl_opc.proofs.Lookups.{number_seen, seen_rising, fields_rise, map-map}
use Rattle.gl_opc.proofs.lookup.field_number.Goals as goal
use Rattle.gl_meaning.specs.View.{class_view, manifest_view}

pub place-requires : goal.place-requires
place-requires c =
    let fields = map-map (λ f. plain_pair f) seen_entry c.as_slice.result.now ∙ ap (λ fs. map (λ f. plain_pair f) fs) c.as_slice.ensures in
    λ rise. seen_rising (λ x. x.0) (λ e. plain_pair (seen_entry e)) c.as_slice.result.now _ fields (fields_rise (manifest_view c.args.context.now.manifest.now) (class_view c.args.context.now.class.now) (c.args.context.now.ordered rise))

pub returns : goal.returns
returns c =
    let fields = map-map (λ f. plain_pair f) seen_entry c.as_slice.result.now ∙ ap (λ fs. map (λ f. plain_pair f) fs) c.as_slice.ensures in
    subst (λ p. IfOk c.number.result (λ n. n ≡ p)) (c.place.ensures ∙ number_seen c.args.name.now (λ x. x.0) (λ e. plain_pair (seen_entry e)) c.as_slice.result.now _ fields) c.number.ensures

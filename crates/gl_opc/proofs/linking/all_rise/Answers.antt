use Rattle.std.proofs.Common.{◌∙◌, ap, map}
use Rattle.gl_value.specs.Plain.{plain_pair}
use Rattle.gl_value.specs.View.{seen_entry}
use Rattle.gl_ast.specs.View.{named_view}
use Rattle.gl_meaning.specs.View.{manifest_view, class_view, action_view}
use Rattle.gl_opc.proofs.Lookups.{all_rises, rising_seen, map-map}
use Rattle.gl_opc.proofs.linking.all_rise.Goals as goal

pub returns : goal.returns
returns c =
    let entries = map-map (λ f. plain_pair f) seen_entry c.as_slice-2.result.now ∙ ap (λ fs. map (λ f. plain_pair f) fs) c.as_slice-2.ensures in
    all_rises (manifest_view c.args.manifest.now) (class_view c.args.class.now) c.both.ensures c.both-members.ensures c.both-others.ensures
    (c.rise-classes.ensures ∙ rising_seen (λ x. x.name) class_view c.as_slice.result.now _ c.as_slice.ensures)
    (c.rise-fields.ensures ∙ rising_seen (λ x. x.0) (λ e. plain_pair (seen_entry e)) c.as_slice-2.result.now _ entries)
    (c.rise-getters.ensures ∙ rising_seen (λ x. x.0) named_view c.as_slice-3.result.now _ c.as_slice-3.ensures)
    (c.rise-actions.ensures ∙ rising_seen (λ x. x.0) action_view c.as_slice-4.result.now _ c.as_slice-4.ensures)

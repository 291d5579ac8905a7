use Rattle.std.proofs.Common.{◌≡◌, List, [], ◌∷◌, ◌++◌, map, ◌∙◌, ap, ap₂, sym, subst}
use Rattle.std.proofs.lemmas.List.{length-map}
use Rattle.gl_arena.specs.Id.{Id}
use Rattle.gl_base.specs.Texts.{Text}
use Rattle.gl_plain.specs.Ids.{ref}
use Rattle.gl_plain.specs.State.{State, pair_of}
use Rattle.gl_plain.specs.Binding.{place}
use Rattle.gl_plain.specs.Tags.{install}
use Rattle.gl_vm.specs.Labels.{all_labelled, names_labelled}
use Rattle.gl_vm.specs.View.{stamps, name_stamps, state_of}
use Rattle.gl_code.specs.View.{refs_made}
use Rattle.gl_parts.specs.Parts.{Leads}
use Rattle.gl_code.proofs.Calming.{mods_calm}
use Rattle.gl_parts.proofs.ModLaws.{mod_installed}
use Rattle.gl_code.proofs.Preparing.{prepared_does, prepared_numbers}
use Rattle.gl_parts.proofs.Leading.{placed_in}
use Rattle.gl_parts.proofs.modifiers.install.Goals as goal

pub returns-clause-step : goal.returns-clause-step
returns-clause-step c =
    let rs = stamps c.args.args.now in
    let ns = name_stamps c.args.named.now in
    let kept = c.in_ok-prepare.ensures.step in
    subst
    (λ ms. Leads
    (λ n x y. install c.args.node.1 c.args.at (record { name = n.modifier c.args.name; ids = rs; names = ns }) (place (record { ids = rs ++ map (λ y. y.1) ns; made = []; state = x }))
    ≡ (record { id = c.in_ok-id.id.1; positional = c.len.result; names = c.in_ok-names.names; spot = record { ref = c.in_ok-spot.spot.1; made = refs_made ms ++ ref c.in_ok-spot.spot.1 ∷ [] } }, y)) c.args.vm.now c.install.new.self) (sym c.new.ensures)
    (mod_installed c.args.node.1 c.args.at c.args.name c.len.result rs ns (stamps c.in_ok-ids.ids) c.in_ok-names.names (all_labelled c.in_ok-values.values) (names_labelled c.in_ok-named_values.named_values) c.in_ok-id.id c.in_ok-spot.spot
    c.args.vm.now c.position.new.vm c.install.new.self
    (c.in_ok-ids.ensures ∙ ap₂ (λ xs (ys : List (Text × Id)). stamps xs ++ map (λ y. y.1) (name_stamps ys)) c.as_slice.ensures c.as_slice-2.ensures)
    (c.in_ok-names.ensures ∙ ap (λ (ys : List (Text × Id)). map (λ y. y.0) (name_stamps ys)) c.as_slice-4.ensures)
    (c.len.ensures ∙ sym (length-map c.args.args.now (λ i. i.1)))
    (λ n u. c.in_ok-values.ensures n u ∙ (ap (λ is. map (λ r. (pair_of (state_of n c.prepare.new.vm u).look r).value) (stamps is)) c.as_slice-5.ensures ∙ ap (λ (st : State). map (λ r. (pair_of st.look r).value) rs) (kept.same n u)))
    (λ n u. c.in_ok-named_values.ensures n u ∙ (ap (λ (ys : List (Text × Id)). map (λ y. (y.0, (pair_of (state_of n c.prepare.new.vm u).look y.1).value)) (name_stamps ys)) c.as_slice-6.ensures ∙ ap (λ (st : State). map (λ y. (y.0, (pair_of st.look y.1).value)) ns) (kept.same n u)))
    (prepared_does (λ n. placed_in (stamps c.in_ok-ids.ids)) c.args.vm.now c.prepare.new.vm c.position.new.vm kept c.in_ok-spot.ensures.step) (prepared_numbers c.args.vm.now c.prepare.new.vm c.position.new.vm c.in_ok-spot.spot kept c.in_ok-spot.ensures.id) c.in_ok-id.ensures.step c.in_ok-id.ensures.id)

pub returns-clause-calm : goal.returns-clause-calm
returns-clause-calm c = mods_calm c.position.new.vm c.install.new.self c.in_ok-id.ensures.rest c.in_ok-spot.ensures.calm

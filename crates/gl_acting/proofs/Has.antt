-- What a machine that follows a session has of an instance.
use Rattle.std.proofs.Common.{◌≡◌, ℕ, List, [], ◌∷◌, map, true, false, true≢false, Bool, Option, Some, None, refl, sym, ap, ap₂, ◌∙◌, subst}
use Rattle.std.specs.Prelude.{filter_map, unwrap_or, if◌then◌else◌}
use Rattle.std.proofs.lemmas.Bool.{eq-eqb}
use Rattle.gl_base.specs.Texts.{Text}
use Rattle.gl_value.specs.Owners.{with_owners}
use Rattle.gl_meaning.specs.Path.{Path, V, at_path}
use Rattle.gl_meaning.specs.Scope.{Source, Scope, arguments_of}
use Rattle.gl_meaning.specs.Known.{Among}
use Rattle.gl_meaning.specs.Laws.{In, NoRepeat}
use Rattle.gl_meaning.specs.Actions.{no_scope}
use Rattle.gl_meaning.specs.Changes.{pieces, instance_path, scope_in, instances, scopes}
use Rattle.gl_meaning.specs.Render.{Piece, element_node, text_node, comment_node, component, branch, item_region, position, too_deep, draw}
use Rattle.gl_meaning.proofs.Once.{instances_once}
use Rattle.gl_meaning.proofs.Pieces.{listed}
use Rattle.gl_plain.specs.Ids.{Id, ref, instance_id}
use Rattle.gl_plain.specs.State.{any_of, source_form, Names, names_by, Inst, cell_ref, row, content, instance_row, block_row, modifier_row, Thing, thing_pair, pairs_below, pair_of}
use Rattle.gl_plain.specs.Drawn.{drawn_scope}
use Rattle.gl_plain.specs.Machine.{StandsFor}
use Rattle.gl_plain.proofs.Roots.{standing_shows}
use Rattle.gl_naming.specs.Laws.{IsOneToOne}
use Rattle.gl_naming.specs.Renamed.{there_with, state_with}
use Rattle.gl_naming.specs.Ties.{owner_key, owners_in}
use Rattle.gl_naming.proofs.Pairs.{means_renamed}
use Rattle.gl_naming.proofs.Swaps.{takes_at}
use Rattle.gl_turns.proofs.Found.{at_found, among_mapped}
use Rattle.gl_acting.specs.Laws.{InstanceHas}
use Rattle.gl_acting.proofs.Tied.{tied}
use Rattle.gl_acting.proofs.Stood.{root_stood}

-- the paths of scopes are those of instances
scope_paths : (xs : List Piece) → map (λ (z : Path × Scope). z.0) (filter_map scope_in xs) ≡ filter_map instance_path xs
scope_paths [] = refl
scope_paths (element_node p t a m f ∷ xs) = scope_paths xs
scope_paths (text_node p t ∷ xs) = scope_paths xs
scope_paths (comment_node p t ∷ xs) = scope_paths xs
scope_paths (component p s f ∷ xs) = ap (λ ps. p ∷ ps) (scope_paths xs)
scope_paths (branch p f ∷ xs) = scope_paths xs
scope_paths (item_region p v i f ∷ xs) = scope_paths xs
scope_paths (position p ps ∷ xs) = scope_paths xs
scope_paths (too_deep p ∷ xs) = scope_paths xs

-- With other names an instance is kept alike.
abbrev is_instance : Option Thing → Bool
is_instance (Some (instance_row i)) = true
is_instance _ = false

other_thing : {A : Type 0} (o : Option Thing) (j : Inst) → is_instance o ≡ false → o ≡ Some (instance_row j) → A
other_thing o j e f = absurd (true≢false (sym (ap is_instance f) ∙ e))

same_instance : (f : Path → Path) (g : Source → Source) (o : Option Thing) (j : Inst) → there_with f g o ≡ Some (instance_row j) → o ≡ Some (instance_row j)
same_instance f g None j e = other_thing None j refl e
same_instance f g (Some (instance_row i)) j e = e
same_instance f g (Some (content c)) j e = other_thing (Some (content c)) j refl e
same_instance f g (Some block_row) j e = other_thing (Some block_row) j refl e
same_instance f g (Some (modifier_row x)) j e = other_thing (there_with f g (Some (modifier_row x))) j refl e
same_instance f g (Some (row x)) j e = other_thing (there_with f g (Some (row x))) j refl e

-- the value of a reference that holds a source's value
row_value : (look : Id → Option Thing) (r : ℕ) (y : Source) (v : V) → look (ref r) ≡ Some (row (record { form = source_form y v; last = any_of [] })) → (pair_of look r).value ≡ v
row_value look r y v e =
    ap (λ b. (if b then thing_pair (pairs_below look r) (look (ref r)) else pairs_below look r r).value) (eq-eqb r r refl) ∙ ap (λ o. (thing_pair (pairs_below look r) o).value) e

module _ (f : Path → Path) (g : Source → Source) (once : IsOneToOne f) (look : Id → Option Thing) where
  value_named : (r : ℕ) → with_owners f (pair_of look r).value ≡ (pair_of (λ q. there_with f g (look q)) r).value
  value_named r = ap (λ p. p.value) (sym (means_renamed f g once look r))

  values_named : (ns : Names) → map {B = Text × V} (λ n. (n.0, with_owners f (pair_of look n.1).value)) ns ≡ map {B = Text × V} (λ n. (n.0, n.1.value)) (names_by (pair_of (λ q. there_with f g (look q))) ns)
  values_named [] = refl
  values_named (n ∷ ns) = ap₂ (λ v ys. (n.0, v) ∷ ys) (value_named n.1) (values_named ns)

pub instance_has : InstanceHas
instance_has app s st l f k i args e =
    let owner = f.named.owner in
    let source = f.named.source in
    let st1 = state_with owner source (λ x. false) st in
    let stands : StandsFor app s.store s.store st1 l = f.named.stands (λ x. false) in
    let tie = tied k (i, args) [] l e in
    let here = root_stood app s.store st1.look s.store k (i, args) app.limit l stands.stands e in
    let drawn : draw app s.store ≡ s.rendering = sym (standing_shows app s.store st1 l stands) ∙ f.rendering in
    let scoped = drawn_scope st1.look i args here.passes in
    let shown = subst (In (component i.path scoped here.body)) f.rendering here.shown in
    let rendered : Among i.path (instances s.rendering) = listed instance_path i.path (component i.path scoped here.body) refl s.rendering shown in
    let once : NoRepeat (map (λ (z : Path × Scope). z.0) (scopes s.rendering)) = subst NoRepeat (sym (scope_paths (pieces s.rendering))) (subst (λ w. NoRepeat (instances w)) drawn (instances_once app s.store)) in
    let at : at_path i.path (scopes s.rendering) ≡ Some scoped = at_found i.path scoped (scopes s.rendering) once (listed scope_in (i.path, scoped) (component i.path scoped here.body) refl s.rendering shown) in
    record {
      id = tie.0;
      among = among_mapped (λ (x : ℕ × Path). x.0) (i.id, i.path) (owners_in l) tie.1;
      named = takes_at owner_key owner (owners_in l) f.named.owners (i.id, i.path) tie.1;
      rendered = rendered;
      kept = same_instance owner source (st.look (instance_id i.id)) i here.kept;
      cells = λ x c. value_named owner source f.named.once st.look (cell_ref i x) ∙ row_value st1.look (cell_ref i x) _ _ (here.cells x c);
      arguments = values_named owner source f.named.once st.look args ∙ ap (λ o. map {B = Text × V} (λ n. (n.0, n.1.value)) (arguments_of (unwrap_or o no_scope))) (sym at);
    }

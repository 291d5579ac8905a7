-- What listens at a number of a page that hears as the rendering.
use Rattle.std.proofs.Common.{◌≡◌, ℕ, List, [], ◌∷◌, ◌++◌, map, filter_map, flat_map, refl, sym, ap, subst, ◌∙◌}
use Rattle.gl_base.specs.Texts.{Text}
use Rattle.gl_value.specs.Value.{Value, plain}
use Rattle.gl_meaning.specs.Manifest.{Manifest}
use Rattle.gl_meaning.specs.Parts.{Modifier}
use Rattle.gl_meaning.specs.Path.{Path}
use Rattle.gl_meaning.specs.Changes.{pieces, modifiers_on, Numbers}
use Rattle.gl_meaning.specs.Actions.{at_node, listener, paths_numbered, run_all}
use Rattle.gl_meaning.proofs.Pieces.{filter_map_append}
use Rattle.gl_mods.specs.Mods as m
use Rattle.gl_opc.specs.declared.app.App.{App}
use Rattle.gl_code.specs.Tables.{tables_of}
use Rattle.gl_code.specs.declared.page.Page.{Page}
use Rattle.gl_actions.specs.Sets as s
use Rattle.gl_actions.specs.World.{World, app_in, tables_in, value_in, sets_in}
use Rattle.gl_meaning.specs.View.{manifest_view}
use Rattle.gl_actions.specs.Reads.{Reads, mods_at, modifiers_at, OnlyOn}
use Rattle.gl_actions.specs.Fired.{called_at, Answers}
use Rattle.gl_actions.specs.declared.event.Fired.{Fired}
use Rattle.gl_actions.specs.declared.event.Fired.TheVariants.{Ran, NoListener}
use Rattle.gl_actions.proofs.Running.{listeners_are}
use Rattle.gl_events.specs.Hears.{Hears, listeners_at}

heard_at : (event : Text) (g : Path → List Modifier) (ps : List Path) → filter_map (listener event) (flat_map g ps) ≡ flat_map (λ p. filter_map (listener event) (g p)) ps
heard_at event g [] = refl
heard_at event g (p ∷ ps) = filter_map_append (listener event) (g p) (flat_map g ps) ∙ ap (λ r. filter_map (listener event) (g p) ++ r) (heard_at event g ps)

no_values : {A B : Type 0} (f : A → B) (xs : List A) → map f xs ≡ [] → xs ≡ []
no_values f [] e = refl
no_values f (x ∷ xs) e = absurd (let n : f x ∷ map f xs ≡ [] = e in cc)

module _ (a : App) (page : Page) (w : World) (numbers : Numbers) (reads : Reads a page w) (hears : Hears w page numbers) (only : OnlyOn (manifest_view a.manifest)) (q : ℕ) where
  calls_are : (event : Text) → map (value_in w) (called_at a page q event) ≡ listeners_at w numbers q event
  calls_are event =
      ap (λ (x : Manifest). map (value_in w) (m.listeners event (mods_at (tables_of x) page q))) (sym reads.manifest)
      ∙ (listeners_are w event (mods_at (tables_in w) page q) (modifiers_at w.forest (paths_numbered q numbers.of)) (hears q (subst OnlyOn (sym reads.manifest) only))
      ∙ heard_at event (λ p. flat_map modifiers_on (at_node p (pieces w.forest))) (paths_numbered q numbers.of))

  module _ (sofar : List s.Set) (event name : Text) (same : event ≡ name) (payload : Value ℕ) (f : Fired) (answers : Answers a page sofar q event payload f) where
    pub none_there : f ≡ NoListener → listeners_at w numbers q name ≡ []
    none_there is =
        let h : Answers a page sofar q event payload NoListener = subst (λ x. Answers a page sofar q event payload x) is answers in
        ap (listeners_at w numbers q) (sym same) ∙ h.1 w (paths_numbered q numbers.of) reads (hears q)

    pub some_there : (sets : List s.Set) → f ≡ Ran sets → listeners_at w numbers q name ≡ [] → ⊥
    some_there sets is none =
        let h : Answers a page sofar q event payload (Ran sets) = subst (λ x. Answers a page sofar q event payload x) is answers in
        h.0 (no_values (value_in w) (called_at a page q event) (calls_are event ∙ (ap (listeners_at w numbers q) same ∙ none)))

    pub ran_there : (sets : List s.Set) → f ≡ Ran sets
        → sets_in w sets ≡ run_all (app_in w) w.store w.forest (listeners_at w numbers q name) (plain payload) (sets_in w sofar)
    ran_there sets is =
        let h : Answers a page sofar q event payload (Ran sets) = subst (λ x. Answers a page sofar q event payload x) is answers in
        h.1 w (paths_numbered q numbers.of) reads (hears q) ∙ ap (λ n. run_all (app_in w) w.store w.forest (listeners_at w numbers q n) (plain payload) (sets_in w sofar)) same

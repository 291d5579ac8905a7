-- What an event answers.
use Rattle.std.proofs.Common.{◌≡◌, ℕ, List, [], ◌∷◌, ◌++◌, map, refl, sym, ap, subst, ◌∙◌}
use Rattle.std.specs.Prelude.{flat_map, filter_map}
use Rattle.gl_base.specs.Texts.{Text}
use Rattle.gl_value.specs.Value.{Value, plain}
use Rattle.gl_meaning.specs.Path.{Path}
use Rattle.gl_meaning.specs.Render.{Forest}
use Rattle.gl_meaning.specs.Changes.{pieces, modifiers_on, Sets}
use Rattle.gl_meaning.specs.Actions.{at_node, listener, listeners, run_all}
use Rattle.gl_meaning.specs.View.{manifest_view}
use Rattle.gl_meaning.proofs.Pieces.{filter_map_append}
use Rattle.gl_opc.specs.declared.app.App.{App}
use Rattle.gl_code.specs.Tables.{tables_of}
use Rattle.gl_code.specs.declared.page.Page.{Page}
use Rattle.gl_actions.specs.World.{World, app_in, value_in}
use Rattle.gl_actions.specs.Reads.{Reads, OnlyOn, Listens, mods_at, modifiers_at, kept_modifier, shown_modifier}
use Rattle.gl_actions.specs.Own.{names_in}
use Rattle.gl_actions.specs.Fired.{called_at}
use Rattle.gl_actions.specs.Steps.{runs_all}
use Rattle.gl_actions.proofs.Running.{listeners_are, fired_is}

flat_listens : (f : Forest) (event : Text) (ps : List Path) → flat_map (λ p. listeners f p event) ps ≡ filter_map (listener event) (modifiers_at f ps)
flat_listens f event [] = refl
flat_listens f event (p ∷ ps) =
    ap (λ a. listeners f p event ++ a) (flat_listens f event ps) ∙ sym (filter_map_append (listener event) (flat_map modifiers_on (at_node p (pieces f))) (modifiers_at f ps))

module _ (a : App) (page : Page) (w : World) (k : ℕ) (event : Text) (ps : List Path) (reads : Reads a page w) (listens : Listens w page k ps) (only : OnlyOn (manifest_view a.manifest)) where
  same : map (kept_modifier w) (mods_at (names_in a) page k) ≡ map shown_modifier (modifiers_at w.forest ps)
  same = ap (λ m. map (kept_modifier w) (mods_at (tables_of m) page k)) (sym reads.manifest) ∙ listens (subst OnlyOn (sym reads.manifest) only)

  pub nothing_heard : called_at a page k event ≡ [] → flat_map (λ p. listeners w.forest p event) ps ≡ []
  nothing_heard none = flat_listens w.forest event ps ∙ (sym (listeners_are w event (mods_at (names_in a) page k) (modifiers_at w.forest ps) same) ∙ ap (map (value_in w)) none)

  pub all_run : (payload plainly : Value ℕ) (sofar more : Sets) → plainly ≡ plain payload → more ≡ runs_all w (map (value_in w) (called_at a page k event)) (value_in w plainly) sofar
      → more ≡ run_all (app_in w) w.store w.forest (flat_map (λ p. listeners w.forest p event) ps) (plain payload) sofar
  all_run payload plainly sofar more e so =
      fired_is w event (mods_at (names_in a) page k) (modifiers_at w.forest ps) payload plainly sofar more same e so
      ∙ ap (λ vs. run_all (app_in w) w.store w.forest vs (plain payload) sofar) (sym (flat_listens w.forest event ps))

-- What a modifier is by its row.
use Rattle.std.proofs.Common.{◌≡◌, ◌==◌, ℕ, zero, suc, List, [], ◌∷◌, map, Bool, true, false, true≢false, Option, Some, None, option_map, unwrap_or, slice_get, refl, sym, ap, ap₂, ◌∙◌, arith}
use Rattle.std.specs.Prelude.{codes, ◌||◌}
use Rattle.std.specs.Str.{bytes_eq}
use Rattle.std.specs.List.{list_any}
use Rattle.std.proofs.lemmas.Bool.{ne_eqb}
use Rattle.gl_base.specs.Texts.{Text}
use Rattle.gl_value.specs.Owners.{with_owners}
use Rattle.gl_value.specs.Value.{Value}
use Rattle.gl_ast.specs.Template.{Body}
use Rattle.gl_meaning.specs.Path.{V}
use Rattle.gl_meaning.specs.Session as session
use Rattle.gl_meaning.specs.Actions.{paths_numbered}
use Rattle.gl_meaning.proofs.Equal.{text_itself}
use Rattle.gl_mods.specs.Mods as m
use Rattle.gl_arena.specs.Arena.{by_stamp}
use Rattle.gl_opc.specs.declared.app.App.{App}
use Rattle.gl_plain.specs.State.{modifier_row}
use Rattle.gl_plain.specs.Live.{ModSpot}
use Rattle.gl_acting.specs.Laws.{told_row}
use Rattle.gl_acting.specs.Heard as u
use Rattle.gl_acting.proofs.Mods.{mods_are}
use Rattle.gl_vm.specs.Labels.{all_labelled}
use Rattle.gl_vm.specs.View.{seen_modifier}
use Rattle.gl_actions.specs.World.{World, tables_in, value_in}
use Rattle.gl_code.specs.Tables.{env_of}
use Rattle.gl_code.specs.declared.page.Page.{Page}
use Rattle.gl_actions.specs.Heard.{or_silent, mods_of}
use Rattle.gl_actions.specs.Own.{shown_in}
use Rattle.gl_actions.specs.Reads.{kept_modifier}
use Rattle.gl_actions.proofs.Renamed.{labelled_in}
use Rattle.gl_standing.specs.Standing.{StandsIn}
use Rattle.gl_fires.specs.Worlds.{world_of}
use Rattle.gl_fires.specs.Laws.{Hears}
use Rattle.gl_fires.proofs.Alike.{spots_alike}
use Rattle.gl_fires.proofs.Standing.{now}

abbrev on : Text
on = codes "on"

first_false : (a b : Bool) → (a || b) ≡ false → a ≡ false
first_false false b e = refl
first_false true b e = e

second_false : (a b : Bool) → (a || b) ≡ false → b ≡ false
second_false false b e = e
second_false true b e = absurd (true≢false e)

other_name : (ms : List Text) → list_any (λ t. bytes_eq t on) ms ≡ false → (j : ℕ) → bytes_eq (unwrap_or (slice_get ms j) []) on ≡ false
other_name [] e j = refl
other_name (t ∷ ts) e zero = first_false (bytes_eq t on) (list_any (λ u. bytes_eq u on) ts) e
other_name (t ∷ ts) e (suc j) = other_name ts (second_false (bytes_eq t on) (list_any (λ u. bytes_eq u on) ts) e) j

on_named : (ms : List Text) → list_any (λ t. bytes_eq t on) ms ≡ false → (k : ℕ) → (k == m.on_number) ≡ bytes_eq (unwrap_or (slice_get (on ∷ ms) k) []) on
on_named ms e zero = sym (text_itself on)
on_named ms e (suc j) = ne_eqb (suc j) 0 (λ f. omega (arith, f)) ∙ sym (other_name ms e j)

module _ (w : World) (only : list_any (λ t. bytes_eq t on) w.manifest.modifiers ≡ false) where
  args_named : (vs : List (Value ℕ)) → map (value_in w) vs ≡ map (with_owners w.names) (all_labelled vs)
  args_named [] = refl
  args_named (v ∷ vs) = ap₂ (λ x xs. x ∷ xs) (sym (labelled_in w v)) (args_named vs)

  pub kept_row : (o : Option m.Installed) → kept_modifier w (or_silent o) ≡ told_row w.names (option_map modifier_row (option_map (seen_modifier (tables_in w)) o))
  kept_row None = refl
  kept_row (Some i) = ap₂ (λ (b : Bool) (vs : List V). (b, vs)) (on_named w.manifest.modifiers only i.name) (args_named i.args)

  -- so with each of some modifiers
  pub kept_rows : (mods : m.Mods) (zs : List ModSpot)
      → map (kept_modifier w) (mods_of mods zs) ≡ map (λ z. told_row w.names (option_map modifier_row (option_map (seen_modifier (tables_in w)) (by_stamp mods.table z.id)))) zs
  kept_rows mods [] = refl
  kept_rows mods (z ∷ zs) = ap₂ (λ x xs. x ∷ xs) (kept_row (by_stamp mods.table z.id)) (kept_rows mods zs)

pub hears : Hears
hears a templates page s x k only =
    ap (λ zs. map (kept_modifier (world_of a templates page s x)) (mods_of page.vm.mods zs)) (sym (spots_alike k (shown_in a page)))
    ∙ (kept_rows (world_of a templates page s x) only page.vm.mods (u.spots_in k (shown_in a page)) ∙ mods_are (env_of a templates).app s (now a templates page s x) (shown_in a page) x.follows k)

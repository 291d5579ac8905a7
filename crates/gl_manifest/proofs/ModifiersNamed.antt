-- In a manifest that is read the modifiers have names that they may have.
use Rattle.std.proofs.Common.{◌≡◌, ◌+◌, ℕ, List, [], ◌∷◌, Bool, true, false, Option, Some, None, Ok, refl, sym, ap, ◌∙◌, subst}
use Rattle.std.specs.Prelude.{⊤, ◌&&◌, not, codes, nat_le, IsTrue}
use Rattle.std.specs.Str.{bytes_eq, chars}
use Rattle.std.proofs.lemmas.Slice.Eq.{bytes_eq-Decides}
use Rattle.serde_json.specs.Data as json
use Rattle.gl_base.specs.Texts.{Text}
use Rattle.gl_ast.proofs.Forward.{both}
use Rattle.gl_meaning.specs.JsonText.{items_in, item_count}
use Rattle.gl_meaning.specs.ManifestIs.{ItemsAre, IsText}
use Rattle.gl_meaning.specs.ManifestLimits as most
use Rattle.gl_meaning.specs.ManifestNames.{ModifierName}
use Rattle.gl_meaning.specs.ManifestRules.{Each}
use Rattle.gl_meaning.specs.ManifestShape.{modifier_check}
use Rattle.gl_meaning.specs.NameTests.{is_free_name}
use Rattle.gl_meaning.specs.Walk.{check_items, array_check}
use Rattle.gl_meaning.proofs.Forms.{under_sound, if_sound}
use Rattle.gl_manifest.proofs.Names.{free_chars}

-- a text that passes the test isn't one that fails it
differs : (s t : List ℕ) → not (bytes_eq s t) ≡ true → s ≡ t → ⊥
differs s t e same =
    let equal : bytes_eq s t ≡ true = (bytes_eq-Decides s t).1 same in
    let r : ⊥ = cc in r

name_is : (s : List ℕ) (t : Text) → (is_free_name s && not (bytes_eq s (codes "on"))) ≡ true → t ≡ chars s → ModifierName t
name_is s t fits is =
    let parts = both (is_free_name s) (not (bytes_eq s (codes "on"))) fits in
    let same : t ≡ s = is ∙ free_chars s parts.0 in
    record {
      free = subst (λ x. IsTrue (is_free_name x)) (sym same) parts.0;
      other = λ e. differs s (codes "on") parts.1 (sym same ∙ e);
    }

modifier_is : (d : json.Data) (t : Text) → modifier_check d ≡ Ok tt → IsText d t → ModifierName t
unfolding modifier_check
modifier_is (json.string s) t sound is = name_is s t (if_sound (is_free_name s && not (bytes_eq s (codes "on"))) (Ok tt) sound).0 is
modifier_is json.null t sound is = absurd is
modifier_is (json.boolean b) t sound is = absurd is
modifier_is (json.number n) t sound is = absurd is
modifier_is (json.array ds) t sound is = absurd is
modifier_is (json.object ms) t sound is = absurd is

items_named : (n : ℕ) (ds : json.Items) (xs : List Text) → check_items (λ n e. modifier_check e) n ds ≡ Ok tt → ItemsAre IsText ds xs → Each ModifierName xs
items_named n json.no_items [] sound are = tt
items_named n json.no_items (x ∷ xs) sound are = absurd are
items_named n (json.item d ds) [] sound are = absurd are
items_named n (json.item d ds) (x ∷ xs) sound are =
    let s = under_sound _ (modifier_check d) (check_items (λ n e. modifier_check e) (n + 1) ds) sound in
    (modifier_is d x s.0 are.0, items_named (n + 1) ds xs s.1 are.1)

-- the modifiers that are given, where they have passed
pub modifiers_named : (o : Option json.Data) (xs : List Text) → ((d : json.Data) → o ≡ Some d → array_check (nat_le (item_count d) most.modifiers) (λ n e. modifier_check e) d ≡ Ok tt) → ItemsAre IsText (items_in o) xs → Each ModifierName xs
modifiers_named None [] passed are = tt
modifiers_named None (x ∷ xs) passed are = absurd are
modifiers_named (Some (json.array ds)) xs passed are =
    let sound = if_sound _ (check_items (λ n e. modifier_check e) 0 ds) (passed (json.array ds) refl) in
    items_named 0 ds xs sound.1 are
modifiers_named (Some json.null) xs passed are = let e = passed json.null refl in let r : ⊥ = cc in absurd r
modifiers_named (Some (json.boolean b)) xs passed are = let e = passed (json.boolean b) refl in let r : ⊥ = cc in absurd r
modifiers_named (Some (json.number k)) xs passed are = let e = passed (json.number k) refl in let r : ⊥ = cc in absurd r
modifiers_named (Some (json.string s)) xs passed are = let e = passed (json.string s) refl in let r : ⊥ = cc in absurd r
modifiers_named (Some (json.object ms)) xs passed are = let e = passed (json.object ms) refl in let r : ⊥ = cc in absurd r

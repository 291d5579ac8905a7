-- Lists as code and definitions see them.
use Rattle.std.proofs.Common.{◌≡◌, ℕ, suc, List, [], ◌∷◌, ◌++◌, length, flat_map, refl, sym, ◌∙◌, ap}
use Rattle.gl_base.specs.Texts.{Text}
use Rattle.gl_value.specs.Value.{Value as PlainValue}
use Rattle.gl_value.specs.View.{view, seen_items, seen_entries}
use Rattle.gl_value.specs.declared.value.Value.{Value}
use Rattle.gl_meaning.specs.App.{Event, events_of}
use Rattle.gl_meaning.specs.Print.{events_count}
use Rattle.std.specs.Prelude.{decimal}

pub counted : (es : List Event) → events_count (events_of es) ≡ length es
counted [] = refl
counted (e ∷ es) = ap suc (counted es)

pub items_flat : (f : PlainValue ℕ → Text) (vs : List Value) → flat_map (λ v. f (view v)) vs ≡ flat_map f (seen_items vs)
items_flat f [] = refl
items_flat f (v ∷ vs) = ap (λ t. f (view v) ++ t) (items_flat f vs)

pub entries_flat : (f : Text × PlainValue ℕ → Text) (vs : List (Text × Value)) → flat_map (λ n. f (n.0, view n.1)) vs ≡ flat_map f (seen_entries vs)
entries_flat f [] = refl
entries_flat f (v ∷ vs) = ap (λ t. f (v.0, view v.1) ++ t) (entries_flat f vs)

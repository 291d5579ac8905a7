-- The number of the class that is rendered, by its place in the list.
use Rattle.std.proofs.Common.{◌≡◌, ℕ, List, Bool, true, false, cond, not, map, refl, sym, ap, ◌∙◌}
use Rattle.std.specs.Prelude.{position}
use Rattle.std.specs.List.{position_or_len}
use Rattle.std.specs.Str.{bytes_eq}
use Rattle.std.proofs.lemmas.List.{length-map}
use Rattle.std.proofs.lemmas.List.Recursion.{is_position_or_len}
use Rattle.gl_base.specs.Texts.{Text}
use Rattle.gl_meaning.specs.Manifest.{ClassEntry}
use Rattle.gl_meaning.specs.View.{class_view}
use Rattle.gl_meaning.specs.declared.manifest.Class.{Class}
use Rattle.gl_opc.specs.Numbers.{number_in}

turned_round : (b : Bool) (n : ℕ) → cond (not b) n 0 ≡ cond b 0 n
turned_round true n = refl
turned_round false n = refl

position_or_len-map : {X Y : Type 0} (p : Y → Bool) (f : X → Y) (xs : List X) → position_or_len p (map f xs) ≡ position_or_len (λ x. p (f x)) xs
position_or_len-map p f xs = is_position_or_len (λ ys. position_or_len p (map f ys)) (λ x. p (f x)) refl (λ x ys. turned_round (p (f x)) _) xs

position-map : {X Y : Type 0} (p : Y → Bool) (f : X → Y) (xs : List X) → position p (map f xs) ≡ position (λ x. p (f x)) xs
position-map p f xs = rw (position_or_len-map p f xs, length-map xs f) refl

pub number_seen : (n : Text) (xs : List Class) (ys : List ClassEntry) → map class_view xs ≡ ys → position (λ x. bytes_eq n x.name) xs ≡ number_in (map (λ c. c.name) ys) n
number_seen n xs ys e =
    sym (position-map (λ (y : ClassEntry). bytes_eq n y.name) class_view xs) ∙ (sym (position-map (λ t. bytes_eq n t) (λ (c : ClassEntry). c.name) (map class_view xs)) ∙ ap (λ zs. number_in (map (λ c. c.name) zs) n) e)

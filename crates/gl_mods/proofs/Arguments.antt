-- The arguments of a modifier.
use Rattle.std.proofs.Common.{◌≡◌, ℕ, zero, suc, List, [], ◌∷◌, Option, Result, Ok, Err, IfOk, refl, sym, ap, ◌∙◌, get_or}
use Rattle.std.specs.Prelude.{unwrap_or}
use Rattle.std.specs.List.{slice_get}
use Rattle.std.specs.Str.{bytes_eq}
use Rattle.std.proofs.lemmas.Bool.Decides.{same_from_decides}
use Rattle.std.proofs.lemmas.Slice.Eq.{bytes_eq-Decides}
use Rattle.std.proofs.lemmas.Option.{unwrap_or-slice_get}
use Rattle.gl_base.specs.Names.{at_place}
use Rattle.gl_value.specs.Value as v
use Rattle.gl_value.specs.View.{view}
use Rattle.gl_value.specs.declared.value.Value.{Value}
use Rattle.gl_mods.specs.Mods.{Installed, argument}

at_place-get : {A : Type 0} (d : A) (i : ℕ) (xs : List A) → at_place d i xs ≡ get_or xs i d
at_place-get d i [] = refl
at_place-get d zero (x ∷ xs) = refl
at_place-get d (suc i) (x ∷ xs) = at_place-get d i xs

pub argument-is : (i : ℕ) (m : Installed) (o : Option (v.Value ℕ)) → o ≡ slice_get m.args i → argument i m ≡ unwrap_or o v.undefined
argument-is i m o e = at_place-get v.undefined i m.args ∙ (sym (unwrap_or-slice_get m.args i v.undefined) ∙ ap (λ o. unwrap_or o v.undefined) (sym e))

pub copied : {E : Type 0} (r : Result Value E) (x : Value) (y : v.Value ℕ) → IfOk r (λ v. v ≡ x) → view x ≡ y → IfOk r (λ v. view v ≡ y)
copied (Ok v) x y h e = ap view h ∙ e
copied (Err z) x y h e = h

pub bytes_eq-sym : (xs ys : List ℕ) → bytes_eq xs ys ≡ bytes_eq ys xs
bytes_eq-sym xs ys =
    let there = bytes_eq-Decides ys xs in
    same_from_decides (bytes_eq xs ys) (bytes_eq ys xs) (bytes_eq-Decides xs ys) (λ h. sym (there.0 h), λ e. there.1 (sym e))

pub if_same : {A E : Type 0} (r : Result A E) (x y : A) → IfOk r (λ a. a ≡ x) → x ≡ y → IfOk r (λ a. a ≡ y)
if_same (Ok v) x y h e = h ∙ e
if_same (Err z) x y h e = h

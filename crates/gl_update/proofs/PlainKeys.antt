-- The keys of items, and their plain forms.
use Rattle.std.proofs.Common.{◌≡◌, ℕ, List, [], ◌∷◌, map, refl, sym, ap, ap₂}
use Rattle.gl_value.specs.Value as v
use Rattle.gl_value.specs.Value.{Value, Values, Members, plain, plain_values, plain_members}
use Rattle.gl_code.specs.declared.code.ItemCode.{ItemCode}
use Rattle.gl_value.specs.View.{view}
use Rattle.gl_update.specs.OldItems.{plain_key, code_key}

-- a plain form is its own, whatever owners it is said over
mutual
  plain-twice : (x : Value ℕ) → plain {P = ℕ} (plain {P = ⊥} x) ≡ plain {P = ℕ} x
  plain-twice v.undefined = refl
  plain-twice v.null = refl
  plain-twice (v.boolean b) = refl
  plain-twice (v.integer z) = refl
  plain-twice (v.text s) = refl
  plain-twice (v.list xs) = ap v.list (plain-twice_values xs)
  plain-twice (v.pairs ms) = ap v.pairs (plain-twice_members ms)
  plain-twice (v.action o n xs) = refl

  plain-twice_values : (xs : Values ℕ) → plain_values {P = ℕ} (plain_values {P = ⊥} xs) ≡ plain_values {P = ℕ} xs
  plain-twice_values v.no_values = refl
  plain-twice_values (v.value x xs) = ap₂ (λ y ys. v.value y ys) (plain-twice x) (plain-twice_values xs)

  plain-twice_members : (ms : Members ℕ) → plain_members {P = ℕ} (plain_members {P = ⊥} ms) ≡ plain_members {P = ℕ} ms
  plain-twice_members v.no_members = refl
  plain-twice_members (v.member k x ms) = ap₂ (λ y ys. v.member k y ys) (plain-twice x) (plain-twice_members ms)

pub plain-codes : (xs : List ItemCode) → map plain_key xs ≡ map code_key xs
plain-codes [] = refl
plain-codes (x ∷ xs) = ap₂ (λ y ys. (y, x.spot.occurrence) ∷ ys) (sym (plain-twice (view x.spot.key))) (plain-codes xs)

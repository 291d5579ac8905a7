-- What an application keeps is known without choice: each of its rules is an equation.
use Rattle.std.proofs.Common.{List, [], ◌∷◌, true}
use Rattle.std.proofs.Math.Bool.{Bool-set}
use Rattle.std.proofs.Math.Logic.{∥∥₁_elim, ∥∥₁_map}
use Rattle.std.specs.Prelude.{map, IsTrue}
use Rattle.gl_base.specs.Texts.{Text, text_less}
use Rattle.gl_meaning.specs.Manifest.{ClassEntry, Manifest}
use Rattle.gl_meaning.specs.ManifestNames.{KeepsRules}
use Rattle.gl_meaning.specs.ManifestRules.{Each}
use Rattle.gl_meaning.specs.Order.{Rise, names_of, ClassRises, NamesRise}

less_is : (x y : Text) → ∥ IsTrue (text_less x y) ∥₁ → IsTrue (text_less x y)
less_is x y h = ∥∥₁_elim h (Bool-set (text_less x y) true) (λ z. z)

all_less : (x : Text) (ts : List Text) → ∥ Each (λ u. IsTrue (text_less x u)) ts ∥₁ → Each (λ u. IsTrue (text_less x u)) ts
all_less x [] h = tt
all_less x (u ∷ ts) h = (less_is x u (∥∥₁_map h (λ z. z.0)), all_less x ts (∥∥₁_map h (λ z. z.1)))

rise : (ts : List Text) → ∥ Rise ts ∥₁ → Rise ts
rise [] h = tt
rise (t ∷ ts) h = (all_less t ts (∥∥₁_map h (λ z. z.0)), rise ts (∥∥₁_map h (λ z. z.1)))

class_rises : (c : ClassEntry) → ∥ ClassRises c ∥₁ → ClassRises c
class_rises c h = record {
  fields = rise (names_of c.fields) (∥∥₁_map h (λ z. z.fields));
  getters = rise (names_of c.getters) (∥∥₁_map h (λ z. z.getters));
  actions = rise (names_of c.actions) (∥∥₁_map h (λ z. z.actions));
}

each_rises : (cs : List ClassEntry) → ∥ Each ClassRises cs ∥₁ → Each ClassRises cs
each_rises [] h = tt
each_rises (c ∷ cs) h = (class_rises c (∥∥₁_map h (λ z. z.0)), each_rises cs (∥∥₁_map h (λ z. z.1)))

pub names_rise : (m : Manifest) → ∥ KeepsRules m ∥₁ → NamesRise m
names_rise m h = record {
  classes = rise (map (λ c. c.name) m.classes) (∥∥₁_map h (λ z. z.order.classes));
  each = each_rises m.classes (∥∥₁_map h (λ z. z.order.each));
}

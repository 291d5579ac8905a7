-- The numbers of a list.
use Rattle.std.proofs.Common.{◌≡◌, ℕ, ◌+◌, ◌<◌, ◌≤◌, Bool, true, false, cond, List, [], ◌∷◌, drop, length, get_or, ◌++◌, refl, sym, ap, ◌∙◌, arith}
use Rattle.std.specs.Prelude.{filter, flat_map, not, ◌||◌, nat_eq}
use Rattle.std.specs.HashSet.{HashSet, contains, Updates}
use Rattle.std.proofs.lemmas.Grind.{common_steps}
use Rattle.std.proofs.lemmas.List.{drop_all}
use Rattle.gl_base.proofs.Lists.{drop_item}
use Rattle.gl_meaning.specs.Manifest.{Manifest}
use Rattle.gl_plain.specs.Ids.{id_eq, instance_id, modifier_id}
use Rattle.gl_gone.specs.Lines.{ending_line}
use Rattle.gl_gone.specs.Logs.{id_of, stands_in, is_numbered, gone_text, destroyed_text}
use Rattle.gl_gone.specs.declared.endings.Ending.{Ending}
use Rattle.gl_gone.specs.declared.endings.Ending.TheVariants as ending
use Rattle.gl_gone.specs.declared.numbers.Numbers.{Numbers}

number_put : {S : Type 0} (s t : HashSet ℕ S) (k : ℕ) → Updates nat_eq s t k true → (q : ℕ) → contains nat_eq t q ≡ (nat_eq q k || contains nat_eq s q)
number_put s t k u q = u.0 q ∙ by (nat_eq k q) (nat_eq q k) (contains nat_eq s q) (eq_flip k q) where
  eq_flip : (x y : ℕ) → nat_eq x y ≡ nat_eq y x
  eq_flip x y = grind (arith, common_steps)

  by : (a b c : Bool) → a ≡ b → cond a true c ≡ (b || c)
  by true true c e = refl
  by false false c e = refl
  by true false c e = absurd cc
  by false true c e = absurd cc

pub modifier_put : (s t : Numbers) (k : ℕ) → Updates nat_eq s.modifiers t.modifiers k true → t.instances ≡ s.instances → (x : Ending) → is_numbered t x ≡ (id_eq (id_of x) (modifier_id k) || is_numbered s x)
modifier_put s t k u e (ending.Modifier i node name) = number_put s.modifiers t.modifiers k u i.1
modifier_put s t k u e (ending.Instance o) = ap (λ z. contains nat_eq z o.value.id.1) e

pub instance_put : (s t : Numbers) (k : ℕ) → Updates nat_eq s.instances t.instances k true → t.modifiers ≡ s.modifiers → (x : Ending) → is_numbered t x ≡ (id_eq (id_of x) (instance_id k) || is_numbered s x)
instance_put s t k u e (ending.Modifier i node name) = ap (λ z. contains nat_eq z i.1) e
instance_put s t k u e (ending.Instance o) = number_put s.instances t.instances k u o.value.id.1

pub none_put : (s : Numbers) → s.modifiers.keys ≡ [] → s.instances.keys ≡ [] → (xs : List Ending) (x : Ending) → (is_numbered s x || stands_in xs x) ≡ stands_in xs x
none_put s d e xs (ending.Modifier i node name) = ap (λ ks. Rattle.std.specs.List.list_any (nat_eq i.1) ks || stands_in xs (ending.Modifier i node name)) d
none_put s d e xs (ending.Instance o) = ap (λ ks. Rattle.std.specs.List.list_any (nat_eq o.value.id.1) ks || stands_in xs (ending.Instance o)) e

-- one more
pub put_more : (s t : Numbers) (xs : List Ending) (i : ℕ) (y : Ending) → i < length xs → y ≡ get_or xs i y → ((x : Ending) → is_numbered t x ≡ (id_eq (id_of x) (id_of y) || is_numbered s x))
    → (x : Ending) → (is_numbered s x || stands_in (drop i xs) x) ≡ stands_in xs x → (is_numbered t x || stands_in (drop (i + 1) xs) x) ≡ stands_in xs x
put_more s t xs i y lt is p x h =
    ap (λ b. b || stands_in (drop (i + 1) xs) x) (p x)
    ∙ (turn (id_eq (id_of x) (id_of y)) (is_numbered s x) (stands_in (drop (i + 1) xs) x)
    ∙ (ap (λ ys. is_numbered s x || stands_in ys x) (sym (drop_item xs i y lt is)) ∙ h))
  where
    turn : (a b c : Bool) → ((a || b) || c) ≡ (b || (a || c))
    turn true true c = refl
    turn true false c = refl
    turn false true c = refl
    turn false false c = refl

pub put_all : (s : Numbers) (xs : List Ending) (i : ℕ) → length xs ≤ i → (x : Ending) → (is_numbered s x || stands_in (drop i xs) x) ≡ stands_in xs x → is_numbered s x ≡ stands_in xs x
put_all s xs i le x h = by (is_numbered s x) ∙ (ap (λ ys. is_numbered s x || stands_in ys x) (sym (drop_all i xs le)) ∙ h) where
  by : (b : Bool) → b ≡ (b || false)
  by true = refl
  by false = refl

-- The lines of what has none of the numbers are those of what doesn't stand there.
pub text_is : (s : Numbers) (m : Manifest) (after xs : List Ending) → ((x : Ending) → is_numbered s x ≡ stands_in after x) → flat_map (gone_text s m) xs ≡ destroyed_text m xs after
text_is s m after [] h = refl
text_is s m after (x ∷ xs) h = by (is_numbered s x) (stands_in after x) (h x) (text_is s m after xs h) where
  by : (a b : Bool) → a ≡ b → flat_map (gone_text s m) xs ≡ destroyed_text m xs after
      → (cond a [] (ending_line m x)) ++ flat_map (gone_text s m) xs ≡ flat_map (ending_line m) (cond (not b) (x ∷ filter (λ y. not (stands_in after y)) xs) (filter (λ y. not (stands_in after y)) xs))
  by true true e g = g
  by false false e g = ap (λ t. ending_line m x ++ t) g
  by true false e g = absurd cc
  by false true e g = absurd cc

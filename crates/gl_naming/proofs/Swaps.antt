-- A function that is one-to-one and takes some numbered keys to given values: each is swapped into its place.
use Rattle.std.proofs.Common.{◌≡◌, ℕ, List, [], ◌∷◌, ◌++◌, Bool, true, false, true≢false, refl, sym, ap, ◌∙◌, inl, inr, subst, ◌⊎◌}
use Rattle.std.proofs.lemmas.List.{map-append}
use Rattle.gl_meaning.proofs.Pieces.{among_either, among_left, among_right}
use Rattle.std.specs.Prelude.{if◌then◌else◌}
use Rattle.std.specs.Bool.{Decides}
use Rattle.gl_meaning.specs.Known.{Among}
use Rattle.gl_meaning.specs.Laws.{NoRepeat}
pub use Rattle.gl_naming.specs.Ties.{numbers, values, Takes}

abbrev pub Once : {A B : Type 0} → (A → B) → Type 0
Once {A} f = (x y : A) → f x ≡ f y → x ≡ y

pub takes_left : {A : Type 0} (key : ℕ → A) (h : A → A) (xs ys : List (ℕ × A)) → Takes key h (xs ++ ys) → Takes key h xs
takes_left key h [] ys t = tt
takes_left key h (x ∷ xs) ys t = (t.0, takes_left key h xs ys t.1)

pub takes_right : {A : Type 0} (key : ℕ → A) (h : A → A) (xs ys : List (ℕ × A)) → Takes key h (xs ++ ys) → Takes key h ys
takes_right key h [] ys t = t
takes_right key h (x ∷ xs) ys t = takes_right key h xs ys t.1

module _ {A : Type 0} (eq : A → A → Bool) (law : (x y : A) → Decides (eq x y) (x ≡ y)) where
  abbrev pub swap : A → A → A → A
  swap a b x = if eq x a then b else (if eq x b then a else x)

  -- whether two are equal, with the reason
  differ : (x y : A) → eq x y ≡ false → x ≡ y → ⊥
  differ x y e d = true≢false (sym ((law x y).1 d) ∙ e)

  swap_first : (a b x : A) → x ≡ a → swap a b x ≡ b
  swap_first a b x e = ap (λ u. if u then b else (if eq x b then a else x)) ((law x a).1 e)

  swap_other : (a b x : A) → eq x a ≡ false → eq x b ≡ false → swap a b x ≡ x
  swap_other a b x e g = ap (λ u. if u then b else (if eq x b then a else x)) e ∙ ap (λ u. if u then a else x) g

  apart_false : (x y : A) → (x ≡ y → ⊥) → eq x y ≡ false
  apart_false x y ne = by (eq x y) refl where
    by : (u : Bool) → eq x y ≡ u → u ≡ false
    by true e = absurd (ne ((law x y).0 e))
    by false e = refl

  pub swap_keeps : (a b x : A) → (x ≡ a → ⊥) → (x ≡ b → ⊥) → swap a b x ≡ x
  swap_keeps a b x ne no_b = swap_other a b x (apart_false x a ne) (apart_false x b no_b)

  -- the second goes to the first, also where both are one
  swap_second : (a b x : A) → x ≡ b → swap a b x ≡ a
  swap_second a b x e = by (eq x a) refl where
    by : (u : Bool) → eq x a ≡ u → swap a b x ≡ a
    by true g = swap_first a b x ((law x a).0 g) ∙ (sym e ∙ (law x a).0 g)
    by false g = ap (λ u. if u then b else (if eq x b then a else x)) g ∙ ap (λ u. if u then a else x) ((law x b).1 e)

  -- to swap twice changes nothing
  swap_twice : (a b x : A) → swap a b (swap a b x) ≡ x
  swap_twice a b x = by (eq x a) (eq x b) refl refl where
    by : (u v : Bool) → eq x a ≡ u → eq x b ≡ v → swap a b (swap a b x) ≡ x
    by true v e g = let i = (law x a).0 e in ap (swap a b) (swap_first a b x i) ∙ (swap_second a b b refl ∙ sym i)
    by false true e g = let i = (law x b).0 g in ap (swap a b) (swap_second a b x i) ∙ (swap_first a b a refl ∙ sym i)
    by false false e g = ap (swap a b) (swap_other a b x e g) ∙ swap_other a b x e g

  swap_once : (a b : A) → Once (swap a b)
  swap_once a b x y e = sym (swap_twice a b x) ∙ (ap (swap a b) e ∙ swap_twice a b y)

  module _ (key : ℕ → A) (f : A → A) where
    -- f, but that the keys go to their values
    abbrev pub renamed : List (ℕ × A) → A → A
    renamed [] x = f x
    renamed (p ∷ ps) x = swap (renamed ps (key p.0)) p.1 (renamed ps x)

    module _ (once : Once f) where
      pub renamed_once : (ps : List (ℕ × A)) → Once (renamed ps)
      renamed_once [] x y e = once x y e
      renamed_once (p ∷ ps) x y e = renamed_once ps x y (swap_once (renamed ps (key p.0)) p.1 (renamed ps x) (renamed ps y) e)

      -- what a further swap leaves
      still_takes : Once key → (ps : List (ℕ × A)) (p : ℕ × A) (qs : List (ℕ × A)) → (Among p.0 (numbers qs) → ⊥) → (Among p.1 (values qs) → ⊥)
          → Takes key (renamed ps) qs → Takes key (renamed (p ∷ ps)) qs
      still_takes apart ps p [] n v t = tt
      still_takes apart ps p (q ∷ qs) n v t = (
        swap_keeps (renamed ps (key p.0)) p.1 (renamed ps (key q.0)) (λ e. n (inl (sym (apart q.0 p.0 (renamed_once ps (key q.0) (key p.0) e))))) (λ e. v (inl (sym e ∙ t.0))) ∙ t.0,
        still_takes apart ps p qs (λ m. n (inr m)) (λ m. v (inr m)) t.1,
      )

      -- where keys and values differ, each key goes to its value
      pub renamed_takes : Once key → (ps : List (ℕ × A)) → NoRepeat (numbers ps) → NoRepeat (values ps) → Takes key (renamed ps) ps
      renamed_takes apart [] n v = tt
      renamed_takes apart (p ∷ ps) n v =
          (swap_first (renamed ps (key p.0)) p.1 (renamed ps (key p.0)) refl, still_takes apart ps p ps n.0 v.0 (renamed_takes apart ps n.1 v.1))

  -- Names that come of the swaps alone can be undone.
  module _ (key : ℕ → A) where
    abbrev pub moved : List (ℕ × A) → A → A
    moved ps x = renamed key (λ y. y) ps x

    abbrev pub moved_back : List (ℕ × A) → A → A
    moved_back [] x = x
    moved_back (p ∷ ps) x = moved_back ps (swap (moved ps (key p.0)) p.1 x)

    pub moved_undone : (ps : List (ℕ × A)) (x : A) → moved_back ps (moved ps x) ≡ x
    moved_undone [] x = refl
    moved_undone (p ∷ ps) x = ap (moved_back ps) (swap_twice (moved ps (key p.0)) p.1 (moved ps x)) ∙ moved_undone ps x

    pub back_undone : (ps : List (ℕ × A)) (x : A) → moved ps (moved_back ps x) ≡ x
    back_undone [] x = refl
    back_undone (p ∷ ps) x = ap (swap (moved ps (key p.0)) p.1) (back_undone ps (swap (moved ps (key p.0)) p.1 x)) ∙ swap_twice (moved ps (key p.0)) p.1 x

    -- what has other numbers and other values is left
    pub moved_leaves : Once key → (ps qs : List (ℕ × A)) → ((n : ℕ) → Among n (numbers ps) → Among n (numbers qs) → ⊥) → ((v : A) → Among v (values ps) → Among v (values qs) → ⊥)
        → Takes key (λ y. y) qs → Takes key (moved ps) qs
    moved_leaves apart [] qs n v t = t
    moved_leaves apart (p ∷ ps) qs n v t =
        still_takes key (λ y. y) (λ x y e. e) apart ps p qs (n p.0 (inl refl)) (v p.1 (inl refl)) (moved_leaves apart ps qs (λ i a. n i (inr a)) (λ i a. v i (inr a)) t)

-- one of the keys is taken to its value
pub takes_at : {A : Type 0} (key : ℕ → A) (h : A → A) (xs : List (ℕ × A)) → Takes key h xs → (x : ℕ × A) → Among x xs → h (key x.0) ≡ x.1
takes_at key h [] t x m = absurd m
takes_at key h (y ∷ xs) t x (inl e) = ap (λ (z : ℕ × _). h (key z.0)) e ∙ (t.0 ∙ sym (ap (λ (z : ℕ × _). z.1) e))
takes_at key h (y ∷ xs) t x (inr m) = takes_at key h xs t.1 x m

pub takes_all : {A : Type 0} (key : ℕ → A) (h : A → A) (xs : List (ℕ × A)) → ((x : ℕ × A) → Among x xs → h (key x.0) ≡ x.1) → Takes key h xs
takes_all key h [] f = tt
takes_all key h (x ∷ xs) f = (f x (inl refl), takes_all key h xs (λ y m. f y (inr m)))

-- values of two lists

pub value_either : {A : Type 0} (v : A) (xs ys : List (ℕ × A)) → Among v (values (xs ++ ys)) → Among v (values xs) ⊎ Among v (values ys)
value_either v xs ys m = among_either v (values xs) (values ys) (subst (Among v) (map-append (λ x. x.1) xs ys) m)

pub value_left : {A : Type 0} (v : A) (xs ys : List (ℕ × A)) → Among v (values xs) → Among v (values (xs ++ ys))
value_left v xs ys m = subst (Among v) (sym (map-append (λ x. x.1) xs ys)) (among_left v (values xs) (values ys) m)

pub value_right : {A : Type 0} (v : A) (xs ys : List (ℕ × A)) → Among v (values ys) → Among v (values (xs ++ ys))
value_right v xs ys m = subst (Among v) (sym (map-append (λ x. x.1) xs ys)) (among_right v (values xs) (values ys) m)

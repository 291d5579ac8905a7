-- Nests side by side, of a list of parts: loops that put them into the tree, and the first and the last of their nodes.
use Rattle.std.proofs.Common.{◌≡◌, ℕ, ◌+◌, ◌<◌, ◌≤◌, List, [], ◌∷◌, ◌++◌, Option, Some, None, true, false, is_some, map, drop, length, get_or, refl, sym, ap, subst, ◌∙◌, arith}
use Rattle.std.proofs.lemmas.List.{drop_all}
use Rattle.gl_base.proofs.Lists.{drop_item}
use Rattle.gl_arena.specs.Id.{Id}
use Rattle.gl_nodes.specs.Forest.{Forest}
use Rattle.gl_nodes.specs.Flat.{head_of, stamp_of}
use Rattle.gl_machine.specs.Shape.{Nest, end, tree, joined}
use Rattle.gl_code.specs.Hung.{tops}
use Rattle.gl_seats.specs.Seats.{last_of, SeatsBefore, Unseats, UnseatsEach}
use Rattle.gl_seats.specs.Midway.{all}
use Rattle.gl_seats.proofs.Nests.{tops-joined, joined_end, joined_assoc}
use Rattle.gl_seats.proofs.Replacing.{seats_nothing, seats_joined, unseats_nothing, unseats_joined}

module _ {T : Type 0} (one : T → Nest ℕ) where
  abbrev pub row : List T → Nest ℕ
  row [] = end
  row (x ∷ xs) = joined (one x) (row xs)

  pub row_last : (xs : List T) (x : T) → row (xs ++ x ∷ []) ≡ joined (row xs) (one x)
  row_last [] x = joined_end (one x)
  row_last (y ∷ ys) x = ap (joined (one y)) (row_last ys x) ∙ sym (joined_assoc (one y) (row ys) (one x))

  pub row_all : (xs : List T) → all (map one xs) ≡ row xs
  row_all [] = refl
  row_all (x ∷ xs) = ap (joined (one x)) (row_all xs)

  -- one more is put before the next one, and none
  pub seats_go : (f g h : Forest) (p next : Option ℕ) (xs : List T) (i : ℕ) (x : T) → i < length xs → x ≡ get_or xs i x → SeatsBefore f g p next (one x) → SeatsBefore g h p next (row (drop (i + 1) xs)) → SeatsBefore f h p next (row (drop i xs))
  seats_go f g h p next xs i x lt is a b = subst (λ ys. SeatsBefore f h p next (row ys)) (sym (drop_item xs i x lt is)) (seats_joined f g h p next (one x) (row (drop (i + 1) xs)) a b)

  pub seats_end : (f : Forest) (p next : Option ℕ) (xs : List T) (i : ℕ) → length xs ≤ i → SeatsBefore f f p next (row (drop i xs))
  seats_end f p next xs i le = subst (λ ys. SeatsBefore f f p next (row ys)) (sym (drop_all i xs le)) (seats_nothing f p next)

  -- one more is gone, and none
  pub unseats_go : (f g h : Forest) (xs : List T) (i : ℕ) (x : T) → i < length xs → x ≡ get_or xs i x → Unseats f g (one x) → Unseats g h (row (drop (i + 1) xs)) → Unseats f h (row (drop i xs))
  unseats_go f g h xs i x lt is a b = subst (λ ys. Unseats f h (row ys)) (sym (drop_item xs i x lt is)) (unseats_joined f g h (one x) (row (drop (i + 1) xs)) a b)

  pub unseats_end : (f : Forest) (xs : List T) (i : ℕ) → length xs ≤ i → Unseats f f (row (drop i xs))
  unseats_end f xs i le = subst (λ ys. Unseats f f (row ys)) (sym (drop_all i xs le)) (unseats_nothing f)

  pub each_go : (f g h : Forest) (xs : List T) (i : ℕ) (x : T) → i < length xs → x ≡ get_or xs i x → Unseats f g (one x) → UnseatsEach g h (map one (drop (i + 1) xs)) → UnseatsEach f h (map one (drop i xs))
  each_go f g h xs i x lt is a b = subst (λ ys. UnseatsEach f h (map one ys)) (sym (drop_item xs i x lt is)) (g, a, b)

  pub each_end : (f : Forest) (xs : List T) (i : ℕ) → length xs ≤ i → UnseatsEach f f (map one (drop i xs))
  each_end f xs i le = subst (λ ys. UnseatsEach f f (map one ys)) (sym (drop_all i xs le)) refl

-- The first of two nests is that of the one before, or else that of the one behind.

no_head : (o : Option Id) (x : Nest ℕ) → is_some o ≡ false → stamp_of o ≡ head_of (tops x) → x ≡ end
no_head o end off e = refl
no_head None (tree s k r) off e = absurd (let no : None ≡ Some s = e in cc)
no_head (Some i) (tree s k r) off e = absurd (let no : true ≡ false = off in cc)

pub first_here : (o : Option Id) (x y : Nest ℕ) → is_some o ≡ true → stamp_of o ≡ head_of (tops x) → stamp_of o ≡ head_of (tops (joined x y))
first_here None x y on e = absurd (let no : false ≡ true = on in cc)
first_here (Some i) end y on e = absurd (let no : Some i.1 ≡ None = e in cc)
first_here (Some i) (tree s k r) y on e = e

pub first_later : (o : Option Id) (x y : Nest ℕ) → is_some o ≡ false → stamp_of o ≡ head_of (tops x) → head_of (tops (joined x y)) ≡ head_of (tops y)
first_later o x y off e = ap (λ z. head_of (tops (joined z y))) (no_head o x off e)

-- The last of two nests is that of the one behind, or else that of the one before.

last-some : (x : ℕ) (xs : List ℕ) → is_some (last_of (x ∷ xs)) ≡ true
last-some x [] = refl
last-some x (y ∷ ys) = last-some y ys

last-both : (xs : List ℕ) (y : ℕ) (ys : List ℕ) → last_of (xs ++ y ∷ ys) ≡ last_of (y ∷ ys)
last-both [] y ys = refl
last-both (x ∷ []) y ys = refl
last-both (x ∷ (z ∷ zs)) y ys = last-both (z ∷ zs) y ys

no_last : (o : Option Id) (x : Nest ℕ) → is_some o ≡ false → stamp_of o ≡ last_of (tops x) → x ≡ end
no_last o end off e = refl
no_last None (tree s k r) off e = absurd (let no : false ≡ true = ap is_some e ∙ last-some s (tops r) in cc)
no_last (Some i) (tree s k r) off e = absurd (let no : true ≡ false = off in cc)

pub last_here : (o : Option Id) (x y : Nest ℕ) → is_some o ≡ true → stamp_of o ≡ last_of (tops y) → stamp_of o ≡ last_of (tops (joined x y))
last_here None x y on e = absurd (let no : false ≡ true = on in cc)
last_here (Some i) x end on e = absurd (let no : Some i.1 ≡ None = e in cc)
last_here (Some i) x (tree s k r) on e = e ∙ sym (ap last_of (tops-joined x (tree s k r)) ∙ last-both (tops x) s (tops r))

pub last_before : (o : Option Id) (x y : Nest ℕ) → is_some o ≡ false → stamp_of o ≡ last_of (tops y) → last_of (tops (joined x y)) ≡ last_of (tops x)
last_before o x y off e = ap (λ z. last_of (tops (joined x z))) (no_last o y off e) ∙ ap (λ z. last_of (tops z)) (joined_end x)

-- A walk from the front: the first of what is left is the first of all.
module _ {T : Type 0} (one : T → Nest ℕ) where
  pub head_go : (xs : List T) (i : ℕ) (x : T) (o : Option Id) → i < length xs → x ≡ get_or xs i x → is_some o ≡ false → stamp_of o ≡ head_of (tops (one x)) → head_of (tops (row one (drop (i + 1) xs))) ≡ head_of (tops (row one (drop i xs)))
  head_go xs i x o lt is off e = sym (first_later o (one x) (row one (drop (i + 1) xs)) off e) ∙ sym (ap (λ ys. head_of (tops (row one ys))) (drop_item xs i x lt is))

  pub head_here : (xs : List T) (i : ℕ) (x : T) (o : Option Id) → i < length xs → x ≡ get_or xs i x → is_some o ≡ true → stamp_of o ≡ head_of (tops (one x)) → stamp_of o ≡ head_of (tops (row one (drop i xs)))
  head_here xs i x o lt is on e = first_here o (one x) (row one (drop (i + 1) xs)) on e ∙ sym (ap (λ ys. head_of (tops (row one ys))) (drop_item xs i x lt is))

  pub head_end : (xs : List T) (i : ℕ) → length xs ≤ i → None ≡ head_of (tops (row one (drop i xs)))
  head_end xs i le = sym (ap (λ ys. head_of (tops (row one ys))) (drop_all i xs le))

  -- And from the back: the last of what is left is the last of all.
  pub last_go : (left rest : List T) (x : T) (o : Option Id) → left ≡ rest ++ x ∷ [] → is_some o ≡ false → stamp_of o ≡ last_of (tops (one x)) → last_of (tops (row one rest)) ≡ last_of (tops (row one left))
  last_go left rest x o is off e = sym (last_before o (row one rest) (one x) off e) ∙ sym (ap (λ z. last_of (tops z)) (ap (row one) is ∙ row_last one rest x))

  pub last_at : (left rest : List T) (x : T) (o : Option Id) → left ≡ rest ++ x ∷ [] → is_some o ≡ true → stamp_of o ≡ last_of (tops (one x)) → stamp_of o ≡ last_of (tops (row one left))
  last_at left rest x o is on e = last_here o (row one rest) (one x) on e ∙ sym (ap (λ z. last_of (tops z)) (ap (row one) is ∙ row_last one rest x))

  pub last_end : (left : List T) → length left ≡ 0 → None ≡ last_of (tops (row one left))
  last_end [] e = refl
  last_end (x ∷ xs) e = absurd (omega (arith, e))
